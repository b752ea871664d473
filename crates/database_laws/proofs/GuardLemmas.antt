-- Without a permissive policy a guard is false.
use Rattle.std.proofs.Common.{◌≡◌, ◌&&◌, Bool, true, false, not, cond, List, [], ◌∷◌, filter, fold, bytes_eq, Ok, refl, sym, ap, ◌∙◌, subst, inl, inr}
use Rattle.sql_types.specs.declared.value.Value.{Value}
use Rattle.sql_types.specs.declared.value.Value.TheVariants.{Bool as Boolean}
use Rattle.sql_ast.specs.declared.privilege.Action.{Action}
use Rattle.sql_ast.specs.declared.policy.Policy.{Policy}
use Rattle.sql_ast.specs.Term.{Term, literal, conjunction}
use Rattle.expressions.specs.Outcome.{with_value}
use Rattle.expressions.specs.Meaning.{UserNames, value_of, and_then}
use Rattle.abstract_database.specs.Lists.{TheName, Among}
use Rattle.abstract_database.specs.Database.{TableOf, Database, is_policy_named}
use Rattle.sql_types.specs.Row.{Row}
use Rattle.abstract_database.specs.Expressions.{called, value_on}
use Rattle.abstract_database.specs.Guards.{Clauses, is_guarded, is_permissive, applicable, conditions, formula, guard_formula, guard, is_for_action, is_for_role}
use Rattle.abstract_database.specs.Statements.{Effect}
use Rattle.abstract_database.specs.Checks.{checked_drop_policy}
use Rattle.std.proofs.lemmas.Bool.{and_from}
use Rattle.abstract_database.proofs.ElementLemmas.{of_filter}
use Rattle.database_laws.specs.Definitions.{closed_by_the_last_drop}
use Rattle.database_laws.proofs.Defining.{done_by}

pub filter_none : {X : Type 0} (f : X → Bool) (xs : List X) → ((x : X) → Among x xs → f x ≡ false) → filter f xs ≡ []
filter_none f [] h = refl
filter_none f (x ∷ xs) h = ap (λ b. cond b (x ∷ filter f xs) (filter f xs)) (h x (inl refl)) ∙ filter_none f xs (λ y k. h y (inr k))

-- false AND anything is false
false_and : {C : Type 0} (cell : C → Value) (users : UserNames) (t : Term C) (rs : List (Term C)) → value_of cell users t ≡ Ok (Boolean false) → value_of cell users (fold conjunction t rs) ≡ Ok (Boolean false)
false_and cell users t [] e = e
false_and cell users t (r ∷ rs) e = false_and cell users (conjunction t r) rs (ap (λ o. with_value o (λ x. and_then x (value_of cell users r))) e)

first_part : (a b c : Bool) → (a && b && c) ≡ true → a ≡ true
first_part true b c e = refl
first_part false true c e = e
first_part false false c e = e

closed_formula : (table : TableOf) (users : UserNames) (row : Row) (clause : Clauses) (policies : List Policy) → filter is_permissive policies ≡ [] →
    value_on (called table.name table ∷ []) users (row ∷ []) (guard_formula clause policies) ≡ Ok (Boolean false)
closed_formula table users row clause policies none =
    subst (λ ps. value_on (called table.name table ∷ []) users (row ∷ []) (formula (conditions clause ps) (conditions clause (filter (λ p. not (is_permissive p)) policies))) ≡ Ok (Boolean false)) (sym none)
    (false_and _ users (literal (Boolean false)) (conditions clause (filter (λ p. not (is_permissive p)) policies)) refl)

pub closed : (db : Database) (users : UserNames) (table : TableOf) (a : Action) (clause : Clauses) (row : Row) →
    is_guarded db users.current table ≡ true →
    ((p : Policy) → Among p db.policies → bytes_eq p.table table.name ≡ true → is_permissive p ≡ false) →
    guard db users table a clause row ≡ Ok (Boolean false)
closed db users table a clause row guarded none =
    let test = λ (p : Policy). bytes_eq p.table table.name && is_for_action a p.command && is_for_role db.memberships users.current p.roles in
    let empty : filter is_permissive (applicable db users.current table a) ≡ [] =
    filter_none is_permissive (applicable db users.current table a) (λ p h.
    let at = of_filter test db.policies p h in
    none p at.0 (first_part (bytes_eq p.table table.name) (is_for_action a p.command) (is_for_role db.memberships users.current p.roles) at.1)) in
    ap (λ b. cond b (value_on (called table.name table ∷ []) users (row ∷ []) (guard_formula clause (applicable db users.current table a))) (Ok (Boolean true))) guarded
    ∙ closed_formula table users row clause (applicable db users.current table a) empty

-- a policy that is left is not the one that was dropped
left_not_permissive : (table name : TheName) (p : Policy) (b : Bool) → is_permissive p ≡ b → (is_permissive p ≡ true → bytes_eq p.name name ≡ true) → bytes_eq p.table table ≡ true → not (is_policy_named table name p) ≡ true → is_permissive p ≡ false
left_not_permissive table name p true e last at left =
    let both : is_policy_named table name p ≡ true = and_from (bytes_eq p.table table) (bytes_eq p.name name) at (last e) in
    let never : not true ≡ true = ap not (sym both) ∙ left in cc
left_not_permissive table name p false e last at left = e

pub closed_by_drop : closed_by_the_last_drop
closed_by_drop db owner s e h last users table a clause row same guarded =
    let done = done_by (checked_drop_policy db owner s) _ e h in
    closed e.database users table a clause row guarded (λ p among at.
    let left = of_filter (λ q. not (is_policy_named s.table s.policy q)) db.policies p (subst (λ (x : Effect). Among p x.database.policies) (sym done.2) among) in
    let at_table : bytes_eq p.table s.table ≡ true = subst (λ n. bytes_eq p.table n ≡ true) same at in
    left_not_permissive s.table s.policy p (is_permissive p) refl (last p left.0 at_table) at_table left.1)
