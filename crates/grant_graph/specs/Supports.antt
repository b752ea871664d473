-- Descriptors as elements that wait for the right to grant, and what supports them.
use Rattle.std.specs.Prelude.{◌≡◌, ◌<◌, ◌++◌, ◌||◌, ℕ, Bool, true, false, List, Option, Some, None, map, length, slice_get, get_or}
use Rattle.sql_ast.specs.declared.privilege.Descriptor.{Descriptor}
use Rattle.reachability.specs.declared.keyed.Element.{Element}
use Rattle.abstract_database.specs.Lists.{change_where, drop_where}
use Rattle.abstract_database.specs.Privileges.{is_of_system, is_supported, without_option}
use Rattle.grant_graph.specs.Keys.{Right, LentRight, lent_right, right_needed, right_given, grantee_role}

-- the right that a descriptor gives, where it is grantable to a role
abbrev pub GivesRight : Bool → Option (List ℕ) → Right → Option LentRight → Type 0
GivesRight true (Some role) right (Some lent) = lent_right lent ≡ right
GivesRight true (Some role) right None = ⊥
GivesRight true None right given = given ≡ None
GivesRight false role right given = given ≡ None

abbrev pub GivesRightOf : Descriptor → Option LentRight → Type 0
GivesRightOf d given = GivesRight d.grantable (grantee_role d.grantee) (right_given d) given

-- the element of a descriptor, which waits for the right on its column or on the whole table: one that is named gives nothing
pub record IsElementOf (on_table : Bool) (d : Descriptor) (is_named : Bool) (e : Element LentRight) : Type 0 where
  pub start : e.is_start ≡ is_of_system d
  pub waits_for : lent_right e.waits_for ≡ right_needed on_table d
  pub nothing : is_named ≡ true → e.gives ≡ None
  pub gives : is_named ≡ false → GivesRightOf d e.gives

-- the elements of the first n descriptors
pub record AreElementsOfFirst (on_table : Bool) (n : ℕ) (named : List Bool) (ds : List Descriptor) (es : List (Element LentRight)) : Type 0 where
  pub count : length es ≡ n
  pub each : (i : ℕ) (d : Descriptor) (e : Element LentRight) → slice_get ds i ≡ Some d → slice_get es i ≡ Some e → IsElementOf on_table d (get_or named i false) e

-- the list is followed by the elements of the first n descriptors
pub record AreFollowed (on_table : Bool) (n : ℕ) (named : List Bool) (ds : List Descriptor) (old new : List (Element LentRight)) : Type 0 where
  pub more : List (Element LentRight)
  pub list : new ≡ old ++ more
  pub elements : AreElementsOfFirst on_table n named ds more

-- each descriptor twice: as elements that wait for the right on their columns, and then as those that wait for it on the whole table
pub record AreElementsOf (named : List Bool) (ds : List Descriptor) (es : List (Element LentRight)) : Type 0 where
  pub on_columns : List (Element LentRight)
  pub on_tables : List (Element LentRight)
  pub list : es ≡ on_columns ++ on_tables
  pub columns : AreElementsOfFirst false (length ds) named ds on_columns
  pub tables : AreElementsOfFirst true (length ds) named ds on_tables

-- of each two marks whether one of them is set
pub record AreEitherOfFirst (n : ℕ) (own whole marks : List Bool) : Type 0 where
  pub count : length marks ≡ n
  pub each : (i : ℕ) → i < n → get_or marks i false ≡ (get_or own i false || get_or whole i false)

-- ---- what is left

-- the descriptors without those that pass the test, or with their option cleared
abbrev pub left : Bool → (Descriptor → Bool) → List Descriptor → List Descriptor
left false test ds = drop_where test ds
left true test ds = change_where test without_option ds

-- what is left of one descriptor
abbrev pub left_of : Bool → Bool → Descriptor → Option Descriptor
left_of false true d = None
left_of true true d = Some (without_option d)
left_of option false d = Some d

-- a mark for each descriptor of which something is left that is supported in what is left
pub record MarkSupported (named : List Bool) (ds : List Descriptor) (marks : List Bool) : Type 0 where
  pub count : length marks ≡ length ds
  pub each : (option : Bool) (test : Descriptor → Bool) → named ≡ map test ds → (i : ℕ) (d x : Descriptor) → slice_get ds i ≡ Some d → left_of option (test d) d ≡ Some x
      → get_or marks i false ≡ is_supported (left option test ds) x

abbrev pub itself : Bool → Bool
itself mark = mark
