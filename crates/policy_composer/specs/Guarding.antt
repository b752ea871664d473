-- What the formulas of a guard say of a table's rows, whatever the rows of the database are.
use Rattle.std.specs.Prelude.{◌≡◌, Bool, false, not, ◌&&◌, ◌||◌, List, Option, Some, None}
use Rattle.sql_types.specs.Row.{Row}
use Rattle.sql_ast.specs.declared.privilege.Action.{Action}
use Rattle.sql_ast.specs.declared.role.Role.{Role}
use Rattle.expressions.specs.Meaning.{UserNames}
use Rattle.abstract_database.specs.Lists.{TheName, Among, has_name}
use Rattle.abstract_database.specs.Database.{TableOf, Database}
use Rattle.abstract_database.specs.Guards.{Guard, existing_guard, new_guard}
use Rattle.stored_database.specs.Definitions.{TableDefinition, Definitions}
use Rattle.stored_database.specs.Valid.{Describes}
use Rattle.guards.specs.declared.guard.Formula.{Formula}
use Rattle.guards.specs.Guards.{row_guard}

-- ---- whom row security concerns

-- the role that was found is a superuser or has BYPASSRLS
abbrev pub exempts : Option Role → Bool
exempts None = false
exempts (Some r) = r.attributes.superuser || r.attributes.bypass_rls

-- row security guards the table's rows from the role that was found, which is in these roles
abbrev pub guards_from : List TheName → Option Role → TableOf → Bool
guards_from set found t = t.row_security && not (exempts found) && (t.forced || not (has_name t.owner set))

-- ---- guards

-- the guard of a table's rows from the current user
abbrev pub GuardOf : Type 0
GuardOf = Database → UserNames → TableOf → Guard

abbrev pub existing_of : Action → Bool → GuardOf
existing_of a reads db users t = existing_guard db users t a reads

abbrev pub new_of : Action → Bool → GuardOf
new_of a reads db users t = new_guard db users t a reads

-- in each database of these definitions the formulas say of each row what the guard of their table says, with the same
-- refusals, where this role is the current user
abbrev pub MeansGuard : Definitions → TableDefinition → TheName → GuardOf → List Formula → Type 0
MeansGuard d t role guard formulas =
    (db : Database) (users : UserNames) (row : Row) → Describes d db → Among t d.tables → users.current ≡ role →
    row_guard users formulas row ≡ guard db users t.definition row
