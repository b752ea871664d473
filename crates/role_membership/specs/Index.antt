-- Memberships in the order of their members, beside the same in the order of role and member.
use Rattle.std.specs.Prelude.{◌≡◌, ℕ, Bool, List, Some, slice_get}
use Rattle.std.specs.List.{list_any}
use Rattle.std.specs.List.Sorted.{IsSorted}
use Rattle.std.specs.declared.cmp.Ordering.{Ordering}
use Rattle.sql_ast.specs.declared.role.Membership.{Membership}
use Rattle.abstract_database.specs.Lists.{TheName, Rising, name_cmp}
use Rattle.abstract_database.specs.Database.{membership_cmp}

abbrev pub member_cmp : Membership → Membership → Ordering
member_cmp a b = name_cmp a.member b.member

-- members do not fall along the list
abbrev pub AreByMember : List Membership → Type 0
AreByMember ms = IsSorted member_cmp ms

-- whatever is asked, one of the index passes exactly where one of the list does
abbrev pub IsIndexOf : List Membership → List Membership → Type 0
IsIndexOf ms index = (test : Membership → Bool) → list_any test index ≡ list_any test ms

-- the same memberships in both orders
pub record AreIndexed (by_role by_member : List Membership) : Type 0 where
  pub order : Rising membership_cmp by_role
  pub members : AreByMember by_member
  pub same : IsIndexOf by_role by_member

-- each of these names stands where it stood, others may come after them
abbrev pub Extends : List TheName → List TheName → Type 0
Extends old new = (i : ℕ) (s : TheName) → slice_get old i ≡ Some s → slice_get new i ≡ Some s
