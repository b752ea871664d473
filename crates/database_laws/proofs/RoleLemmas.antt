-- What CREATE ROLE and DROP ROLE leave.
use Rattle.std.proofs.Common.{◌≡◌, ◌⊎◌, ◌↔◌, ◌||◌, Bool, true, false, not, List, [], ◌∷◌, fold, bytes_eq, Ok, refl, sym, subst, inl, inr, Ordering, Equal}
use Rattle.std.proofs.lemmas.Bool.{or_cases, or_left, or_right, both_ways, not-true, false_from_ne_true}
use Rattle.sql_types.specs.declared.state.SqlState.TheVariants.{DuplicateObject}
use Rattle.sql_types.specs.declared.tag.Tag.TheVariants as tag
use Rattle.sql_ast.specs.declared.role.Role.{Role}
use Rattle.sql_ast.specs.declared.role.Membership.{Membership}
use Rattle.sql_ast.specs.declared.role.RoleAttribute.{RoleAttribute}
use Rattle.sql_ast.specs.declared.role.RoleAttribute.TheVariants as attribute
use Rattle.sql_ast.specs.declared.role.RoleAttributes.{RoleAttributes}
use Rattle.sql_ast.specs.declared.statement.CreateRole.{CreateRole}
use Rattle.expressions.specs.Stages.{require}
use Rattle.abstract_database.specs.Lists.{TheName, Among, put, the_new, drop_where}
use Rattle.abstract_database.specs.Database.{Database, is_role_named, has_role, role_cmp}
use Rattle.abstract_database.specs.Definitions.{with_attribute, no_attributes, with_role, without_role}
use Rattle.abstract_database.specs.Checks.{checked_create_role, checked_drop_role}
use Rattle.abstract_database.specs.Statements.{as_seen, done}
use Rattle.abstract_database.proofs.ElementLemmas.{any_holds}
use Rattle.abstract_database.proofs.ListLemmas.{bytes_same, same_bytes}
use Rattle.abstract_database.proofs.ResultLemmas.{bind_ok, ok_inside, require_ok}
use Rattle.database_laws.specs.Definitions.{IsAsWritten, IsRoleBy, AddsRole, DropsRole, create_role_adds_it, drop_role_takes_it}
use Rattle.database_laws.proofs.WholeLists.{PutFrom, fresh, there, merged, of_put, put_old, put_new, of_drop, into_drop}
use Rattle.database_laws.proofs.WholeRoles.{names_same}

-- ---- one element more, and elements less

-- a list with an element that none of it is equal to in order
module _ {X : Type 0} (cmp : X → X → Ordering) (x : X) (xs : List X) (apart : (y : X) → Among y xs → cmp x y ≡ Equal → ⊥) where
  of_new : (w : X) → PutFrom cmp the_new x xs w → Among w xs ⊎ (w ≡ x)
  of_new w (fresh is) = inr (sym is)
  of_new w (there h) = inl h
  of_new w (merged y h e is) = inr (sym is)

  into_new : (w : X) → Among w xs ⊎ (w ≡ x) → Among w (put cmp the_new x xs)
  into_new w (inl h) = elim (put_old cmp the_new x xs w h) [ inl stays ↦ stays | inr joins ↦ absurd (apart w h joins.0) ]
  into_new w (inr is) = subst (λ y. Among y (put cmp the_new x xs)) (sym is) (elim (put_new cmp the_new x xs) [ inl h ↦ h | inr at ↦ at.3 ])

  pub one_new : (w : X) → Among w (put cmp the_new x xs) ↔ (Among w xs ⊎ (w ≡ x))
  one_new w = (λ h. of_new w (of_put cmp the_new x xs w h), into_new w)

-- a list without the elements that a test finds
pub some_gone : {X : Type 0} (test : X → Bool) (P : X → Type 0) (xs : List X) (w : X) → (test w ≡ true → P w) → (P w → test w ≡ true) → Among w (drop_where test xs) ↔ (Among w xs × (P w → ⊥))
some_gone test P xs w from to = (
  λ h. let at = of_drop test xs w h in (at.0, λ p. both_ways (test w) at.1 (to p)),
  λ k. into_drop test xs w k.0 (false_from_ne_true (test w) (λ e. k.1 (from e))),
)

-- ---- attributes

module _ (has : RoleAttributes → Bool) (on off : RoleAttribute)
    (only : (a : RoleAttributes) (x : RoleAttribute) → has (with_attribute a x) ≡ true → (has a ≡ true) ⊎ (x ≡ on))
    (given : (a : RoleAttributes) → has (with_attribute a on) ≡ true)
    (kept : (a : RoleAttributes) (x : RoleAttribute) → (x ≡ off → ⊥) → has a ≡ true → has (with_attribute a x) ≡ true) where
  written_alone : (a : RoleAttributes) (xs : List RoleAttribute) → has (fold with_attribute a xs) ≡ true → (has a ≡ true) ⊎ Among on xs
  written_alone a [] e = inl e
  written_alone a (x ∷ xs) e = elim (written_alone (with_attribute a x) xs e) [
    | inl now ↦ elim (only a x now) [ inl before ↦ inl before | inr is ↦ inr (inl is) ]
    | inr later ↦ inr (inr later)
  ]

  kept_through : (a : RoleAttributes) (xs : List RoleAttribute) → (Among off xs → ⊥) → has a ≡ true → has (fold with_attribute a xs) ≡ true
  kept_through a [] never e = e
  kept_through a (x ∷ xs) never e = kept_through (with_attribute a x) xs (λ h. never (inr h)) (kept a x (λ is. never (inl is)) e)

  written_stands : (a : RoleAttributes) (xs : List RoleAttribute) → Among on xs → (Among off xs → ⊥) → has (fold with_attribute a xs) ≡ true
  written_stands a [] h never = absurd h
  written_stands a (x ∷ xs) (inl is) never = kept_through (with_attribute a x) xs (λ h. never (inr h)) (subst (λ y. has (with_attribute a y) ≡ true) (sym is) (given a))
  written_stands a (x ∷ xs) (inr later) never = written_stands (with_attribute a x) xs later (λ h. never (inr h))

  as_written : (s : CreateRole) → (has no_attributes ≡ true → ⊥) → IsAsWritten s on off (has (fold with_attribute no_attributes s.attributes))
  as_written s none = record {
    only = λ e. elim (written_alone no_attributes s.attributes e) [ inl before ↦ absurd (none before) | inr h ↦ h ];
    written = written_stands no_attributes s.attributes;
  }

superuser_only : (a : RoleAttributes) (x : RoleAttribute) → (with_attribute a x).superuser ≡ true → (a.superuser ≡ true) ⊎ (x ≡ attribute.Superuser)
superuser_only a attribute.Superuser e = inr refl
superuser_only a attribute.NoSuperuser e = cc
superuser_only a attribute.Login e = inl e
superuser_only a attribute.NoLogin e = inl e
superuser_only a attribute.BypassRls e = inl e
superuser_only a attribute.NoBypassRls e = inl e

superuser_kept : (a : RoleAttributes) (x : RoleAttribute) → (x ≡ attribute.NoSuperuser → ⊥) → a.superuser ≡ true → (with_attribute a x).superuser ≡ true
superuser_kept a attribute.Superuser never e = refl
superuser_kept a attribute.NoSuperuser never e = absurd (never refl)
superuser_kept a attribute.Login never e = e
superuser_kept a attribute.NoLogin never e = e
superuser_kept a attribute.BypassRls never e = e
superuser_kept a attribute.NoBypassRls never e = e

login_only : (a : RoleAttributes) (x : RoleAttribute) → (with_attribute a x).login ≡ true → (a.login ≡ true) ⊎ (x ≡ attribute.Login)
login_only a attribute.Superuser e = inl e
login_only a attribute.NoSuperuser e = inl e
login_only a attribute.Login e = inr refl
login_only a attribute.NoLogin e = cc
login_only a attribute.BypassRls e = inl e
login_only a attribute.NoBypassRls e = inl e

login_kept : (a : RoleAttributes) (x : RoleAttribute) → (x ≡ attribute.NoLogin → ⊥) → a.login ≡ true → (with_attribute a x).login ≡ true
login_kept a attribute.Superuser never e = e
login_kept a attribute.NoSuperuser never e = e
login_kept a attribute.Login never e = refl
login_kept a attribute.NoLogin never e = absurd (never refl)
login_kept a attribute.BypassRls never e = e
login_kept a attribute.NoBypassRls never e = e

bypass_rls_only : (a : RoleAttributes) (x : RoleAttribute) → (with_attribute a x).bypass_rls ≡ true → (a.bypass_rls ≡ true) ⊎ (x ≡ attribute.BypassRls)
bypass_rls_only a attribute.Superuser e = inl e
bypass_rls_only a attribute.NoSuperuser e = inl e
bypass_rls_only a attribute.Login e = inl e
bypass_rls_only a attribute.NoLogin e = inl e
bypass_rls_only a attribute.BypassRls e = inr refl
bypass_rls_only a attribute.NoBypassRls e = cc

bypass_rls_kept : (a : RoleAttributes) (x : RoleAttribute) → (x ≡ attribute.NoBypassRls → ⊥) → a.bypass_rls ≡ true → (with_attribute a x).bypass_rls ≡ true
bypass_rls_kept a attribute.Superuser never e = e
bypass_rls_kept a attribute.NoSuperuser never e = e
bypass_rls_kept a attribute.Login never e = e
bypass_rls_kept a attribute.NoLogin never e = e
bypass_rls_kept a attribute.BypassRls never e = refl
bypass_rls_kept a attribute.NoBypassRls never e = absurd (never refl)

-- ---- CREATE ROLE

-- the role of the statement
abbrev role_by : CreateRole → Role
role_by s = record { name = s.role; attributes = fold with_attribute no_attributes s.attributes }

role_is_by : (s : CreateRole) → IsRoleBy s (role_by s)
role_is_by s = record {
  name = refl;
  superuser = as_written (λ (a : RoleAttributes). a.superuser) attribute.Superuser attribute.NoSuperuser superuser_only (λ a. refl) superuser_kept s (λ e. cc);
  login = as_written (λ (a : RoleAttributes). a.login) attribute.Login attribute.NoLogin login_only (λ a. refl) login_kept s (λ e. cc);
  bypass_rls = as_written (λ (a : RoleAttributes). a.bypass_rls) attribute.BypassRls attribute.NoBypassRls bypass_rls_only (λ a. refl) bypass_rls_kept s (λ e. cc);
}

no_such_role : (db : Database) (s : CreateRole) → has_role db s.role ≡ false → (y : Role) → Among y db.roles → role_cmp (role_by s) y ≡ Equal → ⊥
no_such_role db s none y h e = both_ways (has_role db s.role) none (any_holds (is_role_named s.role) db.roles y h (same_bytes y.name s.role (sym (names_same s.role y.name e))))

pub role_added : create_role_adds_it
role_added db pair s e is =
    let c = bind_ok (checked_create_role db (as_seen pair db) s) (λ free. Ok (done tag.CreateRole (with_role s db))) e is in
    let named = bind_ok (require (not (has_role db s.role)) DuplicateObject) _ c.0 c.1 in
    let none = not-true (has_role db s.role) (require_ok (not (has_role db s.role)) DuplicateObject named.0 named.1) in
    subst (AddsRole db s) (ok_inside (done tag.CreateRole (with_role s db)) e c.2) (record {
      new = role_by s;
      by = role_is_by s;
      roles = one_new role_cmp (role_by s) db.roles (no_such_role db s none);
      others = refl;
      answer = refl;
    })

-- ---- DROP ROLE

is_of : (role : TheName) (m : Membership) → (bytes_eq m.role role || bytes_eq m.member role) ≡ true → (m.role ≡ role) ⊎ (m.member ≡ role)
is_of role m e = elim (or_cases (bytes_eq m.role role) (bytes_eq m.member role) e) [ inl h ↦ inl (bytes_same m.role role h) | inr h ↦ inr (bytes_same m.member role h) ]

found_of : (role : TheName) (m : Membership) → (m.role ≡ role) ⊎ (m.member ≡ role) → (bytes_eq m.role role || bytes_eq m.member role) ≡ true
found_of role m (inl is) = or_left (bytes_eq m.role role) (bytes_eq m.member role) (same_bytes m.role role is)
found_of role m (inr is) = or_right (bytes_eq m.role role) (bytes_eq m.member role) (same_bytes m.member role is)

pub role_dropped : drop_role_takes_it
role_dropped db pair s e is =
    let c = bind_ok (checked_drop_role db (as_seen pair db) s) (λ free. Ok (done tag.DropRole (without_role s.role db))) e is in
    subst (DropsRole db s) (ok_inside (done tag.DropRole (without_role s.role db)) e c.2) (record {
      roles = λ r. some_gone (is_role_named s.role) (λ (x : Role). x.name ≡ s.role) db.roles r (bytes_same r.name s.role) (same_bytes r.name s.role);
      memberships = λ m. some_gone (λ (x : Membership). bytes_eq x.role s.role || bytes_eq x.member s.role) (λ (x : Membership). (x.role ≡ s.role) ⊎ (x.member ≡ s.role)) db.memberships m (is_of s.role m) (found_of s.role m);
      others = refl;
      answer = refl;
    })
