-- Marks of what stays after a REVOKE, and what is lost.
use Rattle.std.specs.Prelude.{◌≡◌, ◌<◌, ◌&&◌, ◌||◌, ℕ, Bool, true, false, not, List, map, filter, length, get_or, Option, Ok}
use Rattle.sql_ast.specs.declared.privilege.Descriptor.{Descriptor}
use Rattle.abstract_database.specs.Lists.{change_where}
use Rattle.sql_ast.specs.declared.statement.DropBehavior.{DropBehavior}
use Rattle.grant_graph.specs.declared.revoking.RevocationMarks.{RevocationMarks}
use Rattle.abstract_database.specs.Privileges.{without_option, is_taken_by, revoked as revoked_of}

-- marks of the first n: of each whether something is left of it and it is reached
pub record Stay (n : ℕ) (option : Bool) (reached named marks : List Bool) : Type 0 where
  pub count : length marks ≡ n
  pub each : (i : ℕ) → i < n → get_or marks i false ≡ ((option || not (get_or named i false)) && get_or reached i false)

-- something is left and is not reached
abbrev pub Loses : Bool → List Bool → List Bool → Type 0
Loses option reached named = (i : ℕ) × (i < length reached) × ((not (get_or reached i false) && (option || not (get_or named i false))) ≡ true)

-- the descriptors, with the options of those that pass the test cleared if options are taken
abbrev pub in_place : Bool → (Descriptor → Bool) → List Descriptor → List Descriptor
in_place false test ds = ds
in_place true test ds = change_where test without_option ds

-- the marks of what a REVOKE takes of descriptors: those that what it names takes, and those that stay, by a test of what is left of each
pub record Takes (option : Bool) (behavior : Option DropBehavior) (those ds : List Descriptor) (t : RevocationMarks) : Type 0 where
  pub named : t.named.items ≡ map (is_taken_by those) ds
  pub count : (length t.named.items ≡ length ds) × (length t.staying.items ≡ length ds)
  pub stays : Descriptor → Bool
  pub staying : t.staying.items ≡ map stays (in_place option (is_taken_by those) ds)
  pub left : revoked_of option behavior those ds ≡ Ok (filter stays (in_place option (is_taken_by those) ds))
