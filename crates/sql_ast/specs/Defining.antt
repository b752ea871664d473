-- The statements that define something: which of them a text may be read as, their rules of form, and their expressions.
use Rattle.std.specs.Prelude.{◌≡◌, IsTrue, List, [], ◌++◌, option_to_list, IfSome, sum_by, unwrap_or}
use Rattle.sql_types.specs.Name.{IsUtf8Name}
use Rattle.sql_ast.specs.declared.expression.ColumnName.{ColumnName}
use Rattle.sql_ast.specs.declared.policy.PolicyClause.{PolicyClause}
use Rattle.sql_ast.specs.declared.policy.PolicyCommand.TheVariants.{All}
use Rattle.sql_ast.specs.declared.statement.DefiningStatement.{DefiningStatement}
use Rattle.sql_ast.specs.declared.statement.DefiningStatement.TheVariants as defining
use Rattle.sql_ast.specs.Layout.{all_differ}
use Rattle.sql_ast.specs.Term.{Term}
use Rattle.sql_ast.specs.Read.{contradicts, primary_keys_in, HasClauses, IsReadCreateRole, IsReadGrantRole, IsReadRevokeRole, IsReadCreateTable, IsReadCreatePolicy, IsReadDropPolicy, IsWellFormedPrivileges, IsReadGrant, IsReadRevoke}
use Rattle.sql_ast.specs.Expressions.{HoldsInClause}

-- a defining statement that a text may be read as
abbrev pub IsReadDefining : DefiningStatement → Type 0
IsReadDefining (defining.CreateRole s) = IsReadCreateRole s
IsReadDefining (defining.DropRole s) = IsUtf8Name s.role
IsReadDefining (defining.GrantRole s) = IsReadGrantRole s
IsReadDefining (defining.RevokeRole s) = IsReadRevokeRole s
IsReadDefining (defining.CreateTable s) = IsReadCreateTable s
IsReadDefining (defining.DropTable s) = IsUtf8Name s.table
IsReadDefining (defining.AlterTable s) = IsUtf8Name s.table
IsReadDefining (defining.CreatePolicy s) = IsReadCreatePolicy s
IsReadDefining (defining.DropPolicy s) = IsReadDropPolicy s
IsReadDefining (defining.Grant s) = IsReadGrant s
IsReadDefining (defining.Revoke s) = IsReadRevoke s

-- no attribute of a role stands beside its contrary, a table has one primary key, a policy has the clauses of its command, and
-- no DELETE that is granted or revoked has columns
abbrev pub IsWellFormedDefining : DefiningStatement → Type 0
IsWellFormedDefining (defining.CreateRole s) = IsTrue (all_differ contradicts s.attributes)
IsWellFormedDefining (defining.DropRole s) = Unit {0}
IsWellFormedDefining (defining.GrantRole s) = Unit {0}
IsWellFormedDefining (defining.RevokeRole s) = Unit {0}
IsWellFormedDefining (defining.CreateTable s) = sum_by primary_keys_in s.elements ≡ 1
IsWellFormedDefining (defining.DropTable s) = Unit {0}
IsWellFormedDefining (defining.AlterTable s) = Unit {0}
IsWellFormedDefining (defining.CreatePolicy s) = HasClauses (unwrap_or s.command All) s.using s.check
IsWellFormedDefining (defining.DropPolicy s) = Unit {0}
IsWellFormedDefining (defining.Grant s) = IsWellFormedPrivileges s.privileges
IsWellFormedDefining (defining.Revoke s) = IsWellFormedPrivileges s.privileges

-- P holds of each expression of the statement: the conditions of a policy
abbrev pub HoldsInDefining : (Term ColumnName → Type 0) → DefiningStatement → Type 0
HoldsInDefining P (defining.CreateRole s) = Unit {0}
HoldsInDefining P (defining.DropRole s) = Unit {0}
HoldsInDefining P (defining.GrantRole s) = Unit {0}
HoldsInDefining P (defining.RevokeRole s) = Unit {0}
HoldsInDefining P (defining.CreateTable s) = Unit {0}
HoldsInDefining P (defining.DropTable s) = Unit {0}
HoldsInDefining P (defining.AlterTable s) = Unit {0}
HoldsInDefining P (defining.CreatePolicy s) = IfSome s.using (HoldsInClause P) × IfSome s.check (HoldsInClause P)
HoldsInDefining P (defining.DropPolicy s) = Unit {0}
HoldsInDefining P (defining.Grant s) = Unit {0}
HoldsInDefining P (defining.Revoke s) = Unit {0}

-- the conditions of the policy that a statement makes, whose texts are to spell their expressions
abbrev pub clauses_defined : DefiningStatement → List PolicyClause
clauses_defined (defining.CreateRole s) = []
clauses_defined (defining.DropRole s) = []
clauses_defined (defining.GrantRole s) = []
clauses_defined (defining.RevokeRole s) = []
clauses_defined (defining.CreateTable s) = []
clauses_defined (defining.DropTable s) = []
clauses_defined (defining.AlterTable s) = []
clauses_defined (defining.CreatePolicy s) = option_to_list s.using ++ option_to_list s.check
clauses_defined (defining.DropPolicy s) = []
clauses_defined (defining.Grant s) = []
clauses_defined (defining.Revoke s) = []
