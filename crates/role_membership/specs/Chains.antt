-- Memberships as elements that wait for their member and give their role, and what chains of them lead to.
use Rattle.std.specs.Prelude.{◌≡◌, ◌↔◌, ℕ, Bool, true, false, List, Some, length, slice_get, get_or}
use Rattle.std.specs.Borrow.{Bor}
use Rattle.sql_ast.specs.declared.role.Membership.{Membership}
use Rattle.reachability.specs.declared.keyed.Element.{Element}
use Rattle.abstract_database.specs.Lists.{TheName, Among, has_name}
use Rattle.abstract_database.specs.Chains.{IsLedTo}
use Rattle.abstract_database.specs.Roles.{IsIn, leads_on}

-- a membership of one of these members
abbrev pub is_of_one : List TheName → Membership → Bool
is_of_one members m = has_name m.member members

-- the element of a membership, where those of these members are starts
pub record IsElementOf (members : List TheName) (m : Membership) (e : Element (Bor TheName)) : Type 0 where
  pub start : e.is_start ≡ is_of_one members m
  pub waits_for : e.waits_for.now ≡ m.member
  pub role : Bor TheName
  pub gives : e.gives ≡ Some role
  pub is_role : role.now ≡ m.role

-- the elements of the first n memberships
pub record AreElementsOfFirst (n : ℕ) (members : List TheName) (ms : List Membership) (es : List (Element (Bor TheName))) : Type 0 where
  pub count : length es ≡ n
  pub each : (i : ℕ) (m : Membership) (e : Element (Bor TheName)) → slice_get ms i ≡ Some m → slice_get es i ≡ Some e → IsElementOf members m e

abbrev pub AreElementsOf : List TheName → List Membership → List (Element (Bor TheName)) → Type 0
AreElementsOf members ms es = AreElementsOfFirst (length ms) members ms es

-- a mark for each membership that a chain from one of these roles leads to
pub record AreMarked (roles : List TheName) (ms : List Membership) (marks : List Bool) : Type 0 where
  pub count : length marks ≡ length ms
  pub each : (i : ℕ) (m : Membership) → slice_get ms i ≡ Some m → (get_or marks i false ≡ true) ↔ IsLedTo (is_of_one roles) leads_on ms m

-- one of these roles is in this one
abbrev pub IsOneIn : List Membership → List TheName → TheName → Type 0
IsOneIn ms roles s = (r : TheName) × Among r roles × IsIn ms r s

-- the roles that one of these is in
abbrev pub AreRolesAbove : List Membership → List TheName → List TheName → Type 0
AreRolesAbove ms roles above = (s : TheName) → Among s above ↔ IsOneIn ms roles s

-- one of these roles is in one of those
abbrev pub IsOneInOne : List Membership → List TheName → List TheName → Type 0
IsOneInOne ms roles of = (s : TheName) × Among s of × IsOneIn ms roles s
