-- The words that are told for what the definitions say.
use Rattle.std.specs.Prelude.{ℕ, List, codes, Option, Some, None}
use Rattle.std.specs.List.{slice_get}
use Rattle.sql_ast.specs.declared.columns.Column.{Column}
use Rattle.sql_ast.specs.declared.columns.ColumnType.{ColumnType}
use Rattle.sql_ast.specs.declared.columns.ColumnType.TheVariants.{BigInt, Text, Boolean}
use Rattle.sql_ast.specs.declared.privilege.Action.{Action}
use Rattle.sql_ast.specs.declared.privilege.Action.TheVariants.{Select, Insert, Update, Delete}
use Rattle.sql_ast.specs.declared.privilege.Grantee.{Grantee}
use Rattle.sql_ast.specs.declared.privilege.Grantee.TheVariants as grantee
use Rattle.sql_ast.specs.declared.privilege.Grantor.{Grantor}
use Rattle.sql_ast.specs.declared.privilege.Grantor.TheVariants as grantor
use Rattle.sql_ast.specs.declared.policy.PolicyClause.{PolicyClause}
use Rattle.sql_ast.specs.declared.policy.PolicyCommand.{PolicyCommand}
use Rattle.sql_ast.specs.declared.policy.PolicyCommand.TheVariants.{All, Only}
use Rattle.sql_ast.specs.declared.policy.PolicyKind.{PolicyKind}
use Rattle.sql_ast.specs.declared.policy.PolicyKind.TheVariants.{Permissive, Restrictive}
use Rattle.section_texts.specs.Sections.{CellOf, text, everyone, absent}

abbrev pub action_word : Action → List ℕ
action_word Select = codes "SELECT"
action_word Insert = codes "INSERT"
action_word Update = codes "UPDATE"
action_word Delete = codes "DELETE"

abbrev pub type_word : ColumnType → List ℕ
type_word BigInt = codes "BIGINT"
type_word Text = codes "TEXT"
type_word Boolean = codes "BOOLEAN"

abbrev pub kind_word : PolicyKind → List ℕ
kind_word Permissive = codes "PERMISSIVE"
kind_word Restrictive = codes "RESTRICTIVE"

abbrev pub policy_word : PolicyCommand → List ℕ
policy_word All = codes "ALL"
policy_word (Only action) = action_word action

-- who granted: nothing stands for the system
abbrev pub grantor_cell : Grantor → CellOf
grantor_cell grantor.System = absent
grantor_cell (grantor.Role name) = text name

-- who was granted to
abbrev pub grantee_cell : Grantee → CellOf
grantee_cell grantee.Public = everyone
grantee_cell (grantee.Role name) = text name

-- the condition of a policy as it was written, if it has one
abbrev pub clause_cell : Option PolicyClause → CellOf
clause_cell None = absent
clause_cell (Some c) = text c.text

abbrev pub found_column_cell : Option Column → CellOf
found_column_cell None = absent
found_column_cell (Some c) = text c.name

-- the name of a column, or nothing for the whole table
abbrev pub column_cell : List Column → Option ℕ → CellOf
column_cell columns None = absent
column_cell columns (Some i) = found_column_cell (slice_get columns i)
