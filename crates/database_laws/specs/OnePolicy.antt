-- Tables whose policies say one thing of every command: what their users are answered, whatever rows are hidden from them.
use Rattle.std.specs.Prelude.{◌≡◌, true, Option, Some, None, Ok}
use Rattle.sql_ast.specs.declared.expression.ColumnName.{ColumnName}
use Rattle.sql_ast.specs.declared.scope.ColumnIndex.{ColumnIndex}
use Rattle.sql_ast.specs.declared.policy.Policy.{Policy}
use Rattle.sql_ast.specs.declared.policy.PolicyClause.{PolicyClause}
use Rattle.sql_ast.specs.declared.policy.PolicyCommand.TheVariants as command
use Rattle.sql_ast.specs.declared.statement.DatabaseStatement.TheVariants as on_database
use Rattle.sql_ast.specs.declared.statement.RowStatement.{RowStatement}
use Rattle.sql_ast.specs.declared.statement.RowStatement.TheVariants as over_rows
use Rattle.sql_ast.specs.Scope.{found_in}
use Rattle.abstract_database.specs.Lists.{TheName, Among}
use Rattle.abstract_database.specs.Database.{TableOf, Database, definition_named}
use Rattle.abstract_database.specs.Guards.{is_for_role}
use Rattle.abstract_database.specs.Expressions.{own_scope, columns_in}
use Rattle.abstract_database.specs.Statements.{UserPair, as_seen, exec}
use Rattle.database_laws.specs.Invariants.{IsSound}
use Rattle.database_laws.specs.Worlds.{SameApparentRows, EndAlike, EndAlikeWithoutKeys}

-- the table whose rows a statement changes
abbrev pub target_of : RowStatement → Option TheName
target_of (over_rows.Select s) = None
target_of (over_rows.Insert s) = Some s.table
target_of (over_rows.Update s) = Some s.table
target_of (over_rows.Delete s) = Some s.table

-- a policy of the table, which is for this role
pub record Concerns (db : Database) (role table : TheName) (p : Policy) : Type 0 where
  pub among : Among p db.policies
  pub of_table : p.table ≡ table
  pub for_role : is_for_role db.memberships role p.roles ≡ true

-- each policy of the table that is for the role is for all commands, and its one condition is that of rows that stand and of new ones
pub record HasPoliciesForAll (db : Database) (role table : TheName) : Type 0 where
  pub command : (p : Policy) → Concerns db role table p → p.command ≡ command.All
  pub check : (p : Policy) → Concerns db role table p → p.check ≡ None

-- a name of a column that, where it is one of the table's, is one of its key's
abbrev pub IsOfKey : TableOf → ColumnName → Type 0
IsOfKey t name = (index : ColumnIndex) → found_in (own_scope t) name ≡ Ok index → Among index.column t.layout.key

-- those policies speak of columns of its key alone
abbrev pub SpeaksOfKeys : Database → TheName → TableOf → Type 0
SpeaksOfKeys db role t = (p : Policy) (clause : PolicyClause) (name : ColumnName) → Concerns db role t.name p → p.using ≡ Some clause →
    Among name (columns_in clause.expression) → IsOfKey t name

-- the policies for the role, of the table that a statement changes, are for all commands
abbrev pub IsForAll : Database → TheName → RowStatement → Type 0
IsForAll db role x = (table : TheName) → target_of x ≡ Some table → HasPoliciesForAll db role table

-- and they speak of its key alone
abbrev pub IsByKey : Database → TheName → RowStatement → Type 0
IsByKey db role x = (t : TableOf) → target_of x ≡ Some t.name → definition_named db t.name ≡ Some t → SpeaksOfKeys db role t

-- where the policies for its user are for all commands, every statement ends alike over databases that look alike to its users, unless one
-- is refused for a key that stands already
abbrev pub one_policy_for_all : Type 0
one_policy_for_all = (pair : UserPair) (d e : Database) (x : RowStatement) → IsForAll d pair.current x → IsSound d → IsSound e → SameApparentRows (as_seen pair d) d e →
    EndAlikeWithoutKeys (as_seen pair d) (exec d pair (on_database.OverRows x)) (exec e pair (on_database.OverRows x))

-- and where they also speak of the key alone, it ends alike without exception
abbrev pub keys_tell_nothing : Type 0
keys_tell_nothing = (pair : UserPair) (d e : Database) (x : RowStatement) → IsForAll d pair.current x → IsByKey d pair.current x → IsSound d → IsSound e → SameApparentRows (as_seen pair d) d e →
    EndAlike (as_seen pair d) (exec d pair (on_database.OverRows x)) (exec e pair (on_database.OverRows x))
