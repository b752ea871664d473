-- Whom row security concerns.
use Rattle.std.proofs.Common.{◌≡◌, Bool, true, false, not, ◌&&◌, ◌||◌, refl, ap, ◌∙◌}
use Rattle.std.proofs.lemmas.Bool.{and_parts, and_from, false_from_ne_true}
use Rattle.sql_ast.specs.declared.role.Role.{Role}
use Rattle.abstract_database.specs.Lists.{TheName}
use Rattle.abstract_database.specs.Database.{TableOf, Database, is_role_named}
use Rattle.abstract_database.specs.Roles.{IsIn, is_in, IsSuperuser, is_superuser, bypasses_row_security}
use Rattle.abstract_database.specs.Guards.{is_guarded}
use Rattle.abstract_database.proofs.ElementLemmas.{any_found, any_holds}
use Rattle.abstract_database.proofs.ListLemmas.{bytes_same, same_bytes}
use Rattle.abstract_database.proofs.ChainLemmas.{found_role, role_found}
use Rattle.database_laws.specs.RowSecurity.{BypassesRowSecurity}
use Rattle.database_laws.proofs.RightLemmas.{a_superuser, superuser_told}

module _ (db : Database) (role : TheName) (t : TableOf) where
  abbrev guarded : Bool → Bool → Bool → Bool → Bool → Bool
  guarded security superuser bypasses forced owner = security && not (superuser || bypasses) && (forced || not owner)

  bypass_told : BypassesRowSecurity db role → bypasses_row_security db role ≡ true
  bypass_told b =
      any_holds (λ (r : Role). is_role_named role r && r.attributes.bypass_rls) db.roles b.0 b.1
      (and_from (is_role_named role b.0) b.0.attributes.bypass_rls (same_bytes b.0.name role b.2) b.3)

  a_bypass : bypasses_row_security db role ≡ true → BypassesRowSecurity db role
  a_bypass e =
      let found = any_found (λ (r : Role). is_role_named role r && r.attributes.bypass_rls) db.roles e in
      let parts = and_parts (is_role_named role found.0) found.0.attributes.bypass_rls found.2 in
      (found.0, found.1, bytes_same found.0.name role parts.0, parts.1)

  spared_first : (s b f o : Bool) → guarded s true b f o ≡ false
  spared_first true b f o = refl
  spared_first false b f o = refl

  spared_second : (s u f o : Bool) → guarded s u true f o ≡ false
  spared_second true true f o = refl
  spared_second true false f o = refl
  spared_second false u f o = refl

  spared_third : (s u b : Bool) → guarded s u b false true ≡ false
  spared_third true true b = refl
  spared_third true false true = refl
  spared_third true false false = refl
  spared_third false u b = refl

  pub superuser_spared : IsSuperuser db role → is_guarded db role t ≡ false
  superuser_spared s =
      ap (λ (u : Bool). guarded t.row_security u (bypasses_row_security db role) t.forced (is_in db.memberships role t.owner)) (superuser_told db role role s)
      ∙ spared_first t.row_security (bypasses_row_security db role) t.forced (is_in db.memberships role t.owner)

  pub bypassing_spared : BypassesRowSecurity db role → is_guarded db role t ≡ false
  bypassing_spared b =
      ap (λ (x : Bool). guarded t.row_security (is_superuser db role) x t.forced (is_in db.memberships role t.owner)) (bypass_told b)
      ∙ spared_second t.row_security (is_superuser db role) t.forced (is_in db.memberships role t.owner)

  pub owner_spared : t.forced ≡ false → IsIn db.memberships role t.owner → is_guarded db role t ≡ false
  owner_spared f i =
      ap (λ (x : Bool). guarded t.row_security (is_superuser db role) (bypasses_row_security db role) x (is_in db.memberships role t.owner)) f
      ∙ ap (λ (x : Bool). guarded t.row_security (is_superuser db role) (bypasses_row_security db role) false x) (role_found db.memberships role t.owner i)
      ∙ spared_third t.row_security (is_superuser db role) (bypasses_row_security db role)

  pub open_without : t.row_security ≡ false → is_guarded db role t ≡ false
  open_without e = ap (λ (s : Bool). guarded s (is_superuser db role) (bypasses_row_security db role) t.forced (is_in db.memberships role t.owner)) e

  concerned : (f o : Bool) → (f ≡ false → o ≡ true → ⊥) → guarded true false false f o ≡ true
  concerned true o h = refl
  concerned false true h = absurd (h refl refl)
  concerned false false h = refl

  pub other_guarded : t.row_security ≡ true → (IsSuperuser db role → ⊥) → (BypassesRowSecurity db role → ⊥) → (t.forced ≡ false → IsIn db.memberships role t.owner → ⊥) → is_guarded db role t ≡ true
  other_guarded s u b o =
      ap (λ (x : Bool). guarded x (is_superuser db role) (bypasses_row_security db role) t.forced (is_in db.memberships role t.owner)) s
      ∙ ap (λ (x : Bool). guarded true x (bypasses_row_security db role) t.forced (is_in db.memberships role t.owner)) (false_from_ne_true (is_superuser db role) (λ e. u (a_superuser db role role e)))
      ∙ ap (λ (x : Bool). guarded true false x t.forced (is_in db.memberships role t.owner)) (false_from_ne_true (bypasses_row_security db role) (λ e. b (a_bypass e)))
      ∙ concerned t.forced (is_in db.memberships role t.owner) (λ f e. o f (found_role db.memberships role t.owner e))
