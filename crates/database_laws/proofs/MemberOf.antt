-- What MEMBER OF tells, by chains of memberships.
use Rattle.std.proofs.Common.{◌≡◌, ◌↔◌, Bool, true, false, Ok, refl, ap}
use Rattle.sql_types.specs.declared.value.Value.TheVariants.{Bool as Boolean}
use Rattle.abstract_database.specs.Lists.{TheName}
use Rattle.abstract_database.specs.Database.{Database}
use Rattle.abstract_database.specs.Roles.{IsIn, is_in}
use Rattle.abstract_database.specs.Statements.{UserPair}
use Rattle.abstract_database.proofs.ChainLemmas.{found_role, role_found}
use Rattle.expressions.specs.Outcome.{Outcome}

abbrev told : Bool → Outcome
told b = Ok (Boolean b)

true_of : (b : Bool) → told b ≡ told true → b ≡ true
true_of true e = refl
true_of false e = cc

false_of : (b : Bool) → told b ≡ told false → b ≡ true → ⊥
false_of true e h = cc
false_of false e h = cc

to_false : (b : Bool) → (b ≡ true → ⊥) → told b ≡ told false
to_false true never = absurd (never refl)
to_false false never = refl

pub true_by_chain : (db : Database) (pair : UserPair) (name : TheName) → (told (is_in db.memberships pair.current name) ≡ told true) ↔ IsIn db.memberships pair.current name
true_by_chain db pair name =
    (λ e. found_role db.memberships pair.current name (true_of (is_in db.memberships pair.current name) e), λ chain. ap told (role_found db.memberships pair.current name chain))

pub false_by_chain : (db : Database) (pair : UserPair) (name : TheName) → (told (is_in db.memberships pair.current name) ≡ told false) ↔ (IsIn db.memberships pair.current name → ⊥)
false_by_chain db pair name = (
  λ e chain. false_of (is_in db.memberships pair.current name) e (role_found db.memberships pair.current name chain),
  λ never. to_false (is_in db.memberships pair.current name) (λ h. never (found_role db.memberships pair.current name h)),
)
