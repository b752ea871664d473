-- Memberships that are put into a list in rising order, in one walk over it.
use Rattle.std.specs.Prelude.{◌≡◌, Bool, false, List, [], ◌∷◌, ◌++◌, drop, map}
use Rattle.std.specs.Ordering.{is_lt}
use Rattle.std.specs.Borrow.{Bor}
use Rattle.std.specs.declared.cmp.Ordering.TheVariants.{Greater}
use Rattle.sql_ast.specs.declared.role.Membership.{Membership}
use Rattle.abstract_database.specs.Lists.{TheName, Among, name_cmp, put}
use Rattle.abstract_database.specs.Database.{membership_cmp}
use Rattle.abstract_database.specs.Roles.{raised}
use Rattle.role_membership.specs.declared.merge.MembershipMerge.{MembershipMerge}

-- the list with each of these put into it in order
abbrev pub put_all : List Membership → List Membership → List Membership
put_all [] memberships = memberships
put_all (m ∷ ms) memberships = put_all ms (put membership_cmp raised m memberships)

abbrev pub membership : TheName → Bool → TheName → Membership
membership role admin member = record { role = role; member = member; admin = admin }

abbrev pub texts : List (Bor TheName) → List TheName
texts names = map (λ name. name.now) names

-- the list that a merge stands for: what is merged, and what is still to come
abbrev pub list_of : MembershipMerge → List Membership
list_of m = m.merged.items ++ drop m.next m.memberships.now

-- each of these stands before the membership
abbrev pub AreBefore : List Membership → Membership → Type 0
AreBefore ys m = (y : Membership) → Among y ys → membership_cmp m y ≡ Greater

-- each of these stands before the membership, or is equal to it in order
abbrev pub AreUpTo : List Membership → Membership → Type 0
AreUpTo ys m = (y : Membership) → Among y ys → is_lt (membership_cmp m y) ≡ false

-- none of these is of a later role
abbrev pub AreOfRolesUpTo : List Membership → TheName → Type 0
AreOfRolesUpTo ys role = (y : Membership) → Among y ys → is_lt (name_cmp role y.role) ≡ false

-- each of these is of an earlier role
abbrev pub AreOfRolesBefore : List Membership → TheName → Type 0
AreOfRolesBefore ys role = (y : Membership) → Among y ys → name_cmp role y.role ≡ Greater
