-- What was gathered of two roles tells whether the one is shown as the other, and of one, whether it has an action at all.
use Rattle.std.proofs.Common.{◌≡◌, ℕ, Bool, true, false, not, ◌&&◌, ◌||◌, List, map, filter, bytes_eq, refl, sym, ap, ◌∙◌, subst}
use Rattle.std.specs.Bool.{beq}
use Rattle.std.specs.List.{list_any}
use Rattle.std.specs.Cmp.Lexicographic.{pointwise}
use Rattle.sql_ast.specs.declared.role.Membership.{Membership}
use Rattle.sql_ast.specs.declared.privilege.Action.{Action}
use Rattle.sql_ast.specs.declared.privilege.Descriptor.{Descriptor}
use Rattle.abstract_database.specs.Lists.{TheName, has_name}
use Rattle.abstract_database.specs.Database.{Database, TableOf, same_action}
use Rattle.abstract_database.specs.Roles.{is_in, is_superuser}
use Rattle.abstract_database.specs.Privileges.{reaches, has_on_some_column}
use Rattle.abstract_database.specs.Guards.{is_guarded}
use Rattle.descriptions.specs.declared.memberships.MembershipDescription.{MembershipDescription}
use Rattle.descriptions.specs.Descriptions.{AreItsRoles, LeadsTo}
use Rattle.descriptions.proofs.Parts.{any_alike}
use Rattle.table_access.specs.declared.action.ActionAccess.{ActionAccess}
use Rattle.table_access.specs.declared.role.RoleAccess.{RoleAccess}
use Rattle.table_access.specs.Having.{grants_for, differs_for, differs_as, is_shown_as}
use Rattle.table_access.specs.Accesses.{HasOfAction, HasOfTable}
use Rattle.table_access.specs.Likeness.{differ, comes_to_more, is_shown}
use Rattle.table_access.proofs.Gathering.{any_left}

-- ---- one role

-- a membership is on a way, asked of the roles that were found
pub between : (ms : List Membership) (role : TheName) (roles : List TheName) (other : TheName) (x : MembershipDescription) → AreItsRoles ms role roles → LeadsTo ms x
    → (has_name x.membership.now.member roles && has_name other x.leads_to) ≡ (is_in ms role x.membership.now.member && is_in ms x.membership.now.role other)
between ms role roles other x its leads =
    ap (λ b. b && has_name other x.leads_to) (its x.membership.now.member)
    ∙ ap (λ b. is_in ms role x.membership.now.member && b) (leads other)

swapped : (a b c : Bool) → ((a && b) && c) ≡ (a && c && b)
swapped true true true = refl
swapped true true false = refl
swapped true false true = refl
swapped true false false = refl
swapped false b c = refl

-- there is a grant for an action where a descriptor gives it, on the table or on a column
pub any_grant : (db : Database) (role : TheName) (t : TableOf) (a : Action) → (is_superuser db role || list_any (λ (d : Descriptor). true) (grants_for db role t a)) ≡ has_on_some_column db role t.name a
any_grant db role t a = ap (λ b. is_superuser db role || b)
    (any_left (λ (d : Descriptor). same_action d.action a) (λ d. bytes_eq d.table t.name && reaches db.memberships role d.grantee) db.descriptors
    ∙ any_alike (λ (d : Descriptor). (bytes_eq d.table t.name && reaches db.memberships role d.grantee) && same_action d.action a) (λ d. bytes_eq d.table t.name && same_action d.action a && reaches db.memberships role d.grantee) db.descriptors
    (λ d. swapped (bytes_eq d.table t.name) (reaches db.memberships role d.grantee) (same_action d.action a)))

-- ---- two roles

or_false : (b : Bool) → (b || false) ≡ b
or_false true = refl
or_false false = refl

grouped : (a b c d e : Bool) → (a || b || c || d || e) ≡ (a || (b || (c || (d || (e || false)))))
grouped true b c d e = refl
grouped false true c d e = refl
grouped false false true d e = refl
grouped false false false true e = refl
grouped false false false false e = sym (or_false e)

module _ (db : Database) (t : TableOf) where
  differ_alike : (r s : TheName) (a : Action) (x y : ActionAccess) → HasOfAction db r t a x → HasOfAction db s t a y → differ x y ≡ differs_for db t r s a
  differ_alike r s a x y h k = rw (h.is_allowed, k.is_allowed, h.on_table, k.on_table, h.columns, k.columns, h.policies, k.policies, k.names_user) refl

  five : (a b c d e f g h k l : Bool) → a ≡ f → b ≡ g → c ≡ h → d ≡ k → e ≡ l → (a || b || c || d || e) ≡ (f || (g || (h || (k || (l || false)))))
  five a b c d e f g h k l p q r s u = rw (p, q, r, s, u) (grouped f g h k l)

  more_alike : (x y : RoleAccess) → HasOfTable db t x → HasOfTable db t y → comes_to_more x y ≡ differs_as db t x.role.now.name y.role.now.name
  more_alike x y h k =
      five _ _ _ _ _ _ _ _ _ _
      (ap (λ b. not (beq b y.is_guarded)) h.is_guarded ∙ ap (λ b. not (beq (is_guarded db x.role.now.name t) b)) k.is_guarded)
      (differ_alike _ _ _ x.select y.select h.select k.select)
      (differ_alike _ _ _ x.insert y.insert h.insert k.insert)
      (differ_alike _ _ _ x.update y.update h.update k.update)
      (differ_alike _ _ _ x.delete y.delete h.delete k.delete)

  pub shown_alike : (superuser : Bool) (x y : RoleAccess) → superuser ≡ is_superuser db x.role.now.name → HasOfTable db t x → HasOfTable db t y
      → is_shown superuser x y ≡ is_shown_as db t x.role.now.name y.role.now.name
  shown_alike superuser x y is h k = rw (is, h.roles y.role.now.name, more_alike x y h k) refl
