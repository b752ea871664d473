-- Each role and each membership has a record of its own.
use Rattle.std.proofs.Common.{◌≡◌, ℕ, ◌/◌, ◌%◌, nat_eq, Bool, true, false, List, [], ◌∷◌, ◌++◌, refl, ap, sym, ◌∙◌}
use Rattle.sql_ast.specs.declared.role.Role.{Role}
use Rattle.sql_ast.specs.declared.role.RoleAttributes.{RoleAttributes}
use Rattle.sql_ast.specs.declared.role.Membership.{Membership}
use Rattle.store.specs.Records.{Record, Records}
use Rattle.store.specs.Items.{Holds}
use Rattle.abstract_database.specs.Lists.{TheName}
use Rattle.abstract_database.specs.Whole.{Each}
use Rattle.stored_database.specs.RecordFormat.{ended, bit, role_flags, role_prefix, role_record, membership_prefix, membership_record}
use Rattle.stored_database.specs.Items.{IsStoredMembership}
use Rattle.stored_database.proofs.Lists.{same_items}
use Rattle.stored_database.proofs.Names.{no_zero_of, same_ended, same_last, same_bit}

-- ---- roles

abbrev attributes_of : ℕ → RoleAttributes
attributes_of n = record { superuser = nat_eq (n % 2) 1; login = nat_eq (n / 2 % 2) 1; bypass_rls = nat_eq (n / 4 % 2) 1 }

abbrev attributes : Bool → Bool → Bool → RoleAttributes
attributes s l b = record { superuser = s; login = l; bypass_rls = b }

flags_read : (s l b : Bool) → attributes_of (role_flags (attributes s l b)) ≡ attributes s l b
flags_read true true true = refl
flags_read true true false = refl
flags_read true false true = refl
flags_read true false false = refl
flags_read false true true = refl
flags_read false true false = refl
flags_read false false true = refl
flags_read false false false = refl

same_flags : (a b : RoleAttributes) → role_flags a ≡ role_flags b → a ≡ b
same_flags a b h = sym (flags_read a.superuser a.login a.bypass_rls) ∙ ap attributes_of h ∙ flags_read b.superuser b.login b.bypass_rls

abbrev role_with : TheName → RoleAttributes → Role
role_with name attributes = record { name = name; attributes = attributes }

same_role : (a b : Role) → a.name ≡ b.name → a.attributes ≡ b.attributes → a ≡ b
same_role a b p q = both p q where
  both : {n m : TheName} {x y : RoleAttributes} → n ≡ m → x ≡ y → role_with n x ≡ role_with m y
  both p q = cc

pub one_role : (a b : Role) → role_record a ≡ role_record b → a ≡ b
one_role a b h =
    let keys : 1 ∷ a.name ≡ 1 ∷ b.name = ap (λ (e : Record). e.0) h in
    let values : role_flags a.attributes ∷ [] ≡ role_flags b.attributes ∷ [] = ap (λ (e : Record). e.1) h in
    let names : a.name ≡ b.name = cc in
    let flags : role_flags a.attributes ≡ role_flags b.attributes = cc in
    same_role a b names (same_flags a.attributes b.attributes flags)

pub one_roles : (records : Records) (xs ys : List Role) → Holds records role_prefix role_record xs → Holds records role_prefix role_record ys → xs ≡ ys
one_roles records xs ys p q = same_items (λ (r : Role). Unit {0}) role_record (λ a b s t. one_role a b) xs ys (λ r among. tt) (λ r among. tt) (sym p ∙ q)

-- ---- memberships

abbrev membership_with : TheName → TheName → Bool → Membership
membership_with role member admin = record { role = role; member = member; admin = admin }

same_membership : (a b : Membership) → a.role ≡ b.role → a.member ≡ b.member → a.admin ≡ b.admin → a ≡ b
same_membership a b p q r = all p q r where
  all : {n m : TheName} {k l : TheName} {x y : Bool} → n ≡ m → k ≡ l → x ≡ y → membership_with n k x ≡ membership_with m l y
  all p q r = cc

pub one_membership : (a b : Membership) → IsStoredMembership a → IsStoredMembership b → membership_record a ≡ membership_record b → a ≡ b
one_membership a b p q h =
    let keys : 2 ∷ (ended a.role ++ ended a.member) ≡ 2 ∷ (ended b.role ++ ended b.member) = ap (λ (e : Record). e.0) h in
    let values : bit a.admin ∷ [] ≡ bit b.admin ∷ [] = ap (λ (e : Record). e.1) h in
    let names : ended a.role ++ ended a.member ≡ ended b.role ++ ended b.member = cc in
    let bits : bit a.admin ≡ bit b.admin = cc in
    let first = same_ended a.role b.role (ended a.member) (ended b.member) (no_zero_of a.role p.role) (no_zero_of b.role q.role) names in
    same_membership a b first.item (same_last a.member b.member (no_zero_of a.member p.member) (no_zero_of b.member q.member) first.rest) (same_bit a.admin b.admin bits)

pub one_memberships : (records : Records) (xs ys : List Membership) → Each IsStoredMembership xs → Each IsStoredMembership ys
    → Holds records membership_prefix membership_record xs → Holds records membership_prefix membership_record ys → xs ≡ ys
one_memberships records xs ys a b p q = same_items IsStoredMembership membership_record one_membership xs ys a b (sym p ∙ q)
