-- The one table that an INSERT, an UPDATE or a DELETE names.
use Rattle.std.specs.Prelude.{◌≡◌, ◌⊎◌, Bool, Ok, Err}
use Rattle.sql_types.specs.declared.state.Refusal.{Refusal}
use Rattle.sql_types.specs.declared.state.SqlState.TheVariants.{OutOfMemory}
use Rattle.sql_ast.specs.declared.privilege.Action.{Action}
use Rattle.abstract_database.specs.Lists.{TheName}
use Rattle.stored_database.specs.Definitions.{TableDefinition, Definitions}
use Rattle.planner.specs.declared.named_table.NamedTable.{NamedTable}
use Rattle.planner.specs.declared.named_table.GuardedTable.{GuardedTable}
use Rattle.planner.specs.Rights.{AreItsRoles, AreRightsOf}
use Rattle.planner.specs.Sources.{IsGuardedFrom}
use Rattle.planner.specs.Tables.{table_in}

-- it is the table of this name, and the rights are those of the role
pub record IsNamed (d : Definitions) (role name : TheName) (n : NamedTable) : Type 0 where
  pub rights : AreRightsOf d role n.rights
  pub found : table_in d name ≡ Ok n.table.now

-- memory was refused, or no table has the name
abbrev pub IsMissing : Definitions → TheName → Refusal → Type 0
IsMissing d name refusal = (refusal.0 ≡ OutOfMemory) ⊎ (table_in d name ≡ Err refusal.0)

-- it is this table with its guard from the action of the role, and the roles are those that the role is in
pub record IsGuarded (d : Definitions) (role : TheName) (t : TableDefinition) (a : Action) (reads : Bool) (g : GuardedTable) : Type 0 where
  pub table : g.source.table.now ≡ t
  pub guard : IsGuardedFrom d role a reads g.source
  pub roles : AreItsRoles d role g.roles
