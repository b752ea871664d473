-- The statements that a text may be read as: their names are names, their literals are values, their lists are not empty, and
-- each command keeps the rules of form (PostgreSQL manual, "SQL Commands").
use Rattle.std.specs.Prelude.{◌≡◌, ◌<◌, ◌^◌, ℕ, IsTrue, Bool, true, false, List, [], ◌++◌, length, option_to_list, slice_get, All, Option, Some, None, IfSome, sum_by, count_by, unwrap_or}
use Rattle.std.specs.List.{AllByRecursion}
use Rattle.sql_types.specs.Name.{IsUtf8Name}
use Rattle.sql_types.specs.Domain.{IsText, IsValue}
use Rattle.sql_ast.specs.declared.expression.ColumnName.{ColumnName}
use Rattle.sql_ast.specs.declared.role.RoleAttribute.{RoleAttribute}
use Rattle.sql_ast.specs.declared.role.RoleAttribute.TheVariants as attribute
use Rattle.sql_ast.specs.declared.privilege.Action.{Action}
use Rattle.sql_ast.specs.declared.privilege.Action.TheVariants as action
use Rattle.sql_ast.specs.declared.privilege.Grantee.{Grantee}
use Rattle.sql_ast.specs.declared.privilege.Grantee.TheVariants as grantee
use Rattle.sql_ast.specs.declared.policy.PolicyClause.{PolicyClause}
use Rattle.sql_ast.specs.declared.policy.PolicyCommand.{PolicyCommand}
use Rattle.sql_ast.specs.declared.policy.PolicyCommand.TheVariants as command
use Rattle.sql_ast.specs.declared.statement.CreateRole.{CreateRole}
use Rattle.sql_ast.specs.declared.statement.GrantRole.{GrantRole}
use Rattle.sql_ast.specs.declared.statement.RevokeRole.{RevokeRole}
use Rattle.sql_ast.specs.declared.statement.CreateTable.{CreateTable}
use Rattle.sql_ast.specs.declared.statement.TableElement.{TableElement}
use Rattle.sql_ast.specs.declared.statement.TableElement.TheVariants as element
use Rattle.sql_ast.specs.declared.statement.ColumnConstraint.{ColumnConstraint}
use Rattle.sql_ast.specs.declared.statement.ColumnConstraint.TheVariants as constraint
use Rattle.sql_ast.specs.declared.statement.CreatePolicy.{CreatePolicy}
use Rattle.sql_ast.specs.declared.statement.DropPolicy.{DropPolicy}
use Rattle.sql_ast.specs.declared.statement.Privileges.{Privileges}
use Rattle.sql_ast.specs.declared.statement.Privileges.TheVariants as privileges
use Rattle.sql_ast.specs.declared.statement.NamedAction.{NamedAction}
use Rattle.sql_ast.specs.declared.statement.Grant.{Grant}
use Rattle.sql_ast.specs.declared.statement.Revoke.{Revoke}
use Rattle.sql_ast.specs.declared.statement.Insert.{Insert}
use Rattle.sql_ast.specs.declared.statement.Update.{Update}
use Rattle.sql_ast.specs.declared.statement.Assignment.{Assignment}
use Rattle.sql_ast.specs.declared.statement.Delete.{Delete}
use Rattle.sql_ast.specs.declared.statement.Select.{Select}
use Rattle.sql_ast.specs.declared.statement.SelectList.{SelectList}
use Rattle.sql_ast.specs.declared.statement.SelectList.TheVariants as list
use Rattle.sql_ast.specs.declared.statement.TableExpression.{TableExpression}
use Rattle.sql_ast.specs.declared.statement.FromClause.{FromClause}
use Rattle.sql_ast.specs.declared.statement.FromClause.TheVariants as from
use Rattle.sql_ast.specs.declared.statement.TableReference.{TableReference}
use Rattle.sql_ast.specs.declared.statement.Join.{Join}
use Rattle.sql_ast.specs.declared.statement.SortKey.{SortKey}
use Rattle.sql_ast.specs.Layout.{all_differ}
use Rattle.sql_ast.specs.Term.{Term, literal, column, current_user, session_user, comparison, operation, minus, conjunction, disjunction, negation, null_test, not_null_test, member_test}

-- ---- lists

-- one or more elements, each of which is as P says
pub record AreSome {A : Type 0} (P : A → Type 0) (xs : List A) : Type 0 where
  pub some : 0 < length xs
  pub each : AllByRecursion P xs

abbrev pub AreNames : List (List ℕ) → Type 0
AreNames names = AreSome IsUtf8Name names

-- ---- expressions

-- a column by its name, and by its table's where that is given
pub record IsReadColumn (c : ColumnName) : Type 0 where
  pub table : IfSome c.table IsUtf8Name
  pub name : IsUtf8Name c.column

-- each literal is a value, and each name a name
abbrev pub IsReadTerm : Term ColumnName → Type 0
IsReadTerm (literal v) = IsValue v
IsReadTerm (column c) = IsReadColumn c
IsReadTerm current_user = Unit {0}
IsReadTerm session_user = Unit {0}
IsReadTerm (comparison op a b) = IsReadTerm a × IsReadTerm b
IsReadTerm (operation op a b) = IsReadTerm a × IsReadTerm b
IsReadTerm (minus a) = IsReadTerm a
IsReadTerm (conjunction a b) = IsReadTerm a × IsReadTerm b
IsReadTerm (disjunction a b) = IsReadTerm a × IsReadTerm b
IsReadTerm (negation a) = IsReadTerm a
IsReadTerm (null_test a) = IsReadTerm a
IsReadTerm (not_null_test a) = IsReadTerm a
IsReadTerm (member_test a) = IsReadTerm a

-- ---- roles

-- whether two attributes are an attribute and its contrary
abbrev pub contradicts : RoleAttribute → RoleAttribute → Bool
contradicts attribute.Superuser attribute.NoSuperuser = true
contradicts attribute.NoSuperuser attribute.Superuser = true
contradicts attribute.Login attribute.NoLogin = true
contradicts attribute.NoLogin attribute.Login = true
contradicts attribute.BypassRls attribute.NoBypassRls = true
contradicts attribute.NoBypassRls attribute.BypassRls = true
contradicts _ _ = false

pub record IsReadCreateRole (s : CreateRole) : Type 0 where
  pub role : IsUtf8Name s.role
  pub no_contraries : IsTrue (all_differ contradicts s.attributes)

pub record IsReadGrantRole (s : GrantRole) : Type 0 where
  pub roles : AreNames s.roles
  pub members : AreNames s.members

pub record IsReadRevokeRole (s : RevokeRole) : Type 0 where
  pub roles : AreNames s.roles
  pub members : AreNames s.members

-- ---- tables

-- PRIMARY KEY beside a column
abbrev pub is_primary_key : ColumnConstraint → Bool
is_primary_key constraint.NotNull = false
is_primary_key constraint.PrimaryKey = true

-- how many primary keys an element declares: each PRIMARY KEY counts
abbrev pub primary_keys_in : TableElement → ℕ
primary_keys_in (element.Column c) = count_by is_primary_key c.constraints
primary_keys_in (element.PrimaryKey names) = 1

abbrev pub IsReadElement : TableElement → Type 0
IsReadElement (element.Column c) = IsUtf8Name c.column
IsReadElement (element.PrimaryKey names) = AreNames names

-- a table has one primary key
pub record IsReadCreateTable (s : CreateTable) : Type 0 where
  pub table : IsUtf8Name s.table
  pub elements : AreSome IsReadElement s.elements
  pub one_key : sum_by primary_keys_in s.elements ≡ 1

-- ---- policies

-- a condition and the text that it was written as; which expression a text spells, the parser says
pub record IsReadClause (c : PolicyClause) : Type 0 where
  pub text : IsText c.text
  pub expression : IsReadTerm c.expression

-- a policy for INSERT has WITH CHECK alone, one for SELECT or DELETE has USING alone, and each other one has USING
abbrev pub HasClauses : PolicyCommand → Option PolicyClause → Option PolicyClause → Type 0
HasClauses (command.Only action.Insert) None (Some check) = Unit {0}
HasClauses (command.Only action.Insert) _ _ = ⊥
HasClauses (command.Only action.Select) (Some using) None = Unit {0}
HasClauses (command.Only action.Select) _ _ = ⊥
HasClauses (command.Only action.Delete) (Some using) None = Unit {0}
HasClauses (command.Only action.Delete) _ _ = ⊥
HasClauses _ (Some using) check = Unit {0}
HasClauses _ None check = ⊥

-- PUBLIC, or a role by its name
abbrev pub IsReadGrantee : Grantee → Type 0
IsReadGrantee grantee.Public = Unit {0}
IsReadGrantee (grantee.Role name) = IsUtf8Name name

abbrev pub AreGrantees : List Grantee → Type 0
AreGrantees grantees = AreSome IsReadGrantee grantees

pub record IsReadCreatePolicy (s : CreatePolicy) : Type 0 where
  pub policy : IsUtf8Name s.policy
  pub table : IsUtf8Name s.table
  pub grantees : IfSome s.grantees AreGrantees
  pub using : IfSome s.using IsReadClause
  pub check : IfSome s.check IsReadClause
  pub clauses : HasClauses (unwrap_or s.command command.All) s.using s.check

pub record IsReadDropPolicy (s : DropPolicy) : Type 0 where
  pub policy : IsUtf8Name s.policy
  pub table : IsUtf8Name s.table

-- ---- privileges

-- DELETE is of whole rows, and takes no columns
abbrev pub TakesColumns : Action → Option (List (List ℕ)) → Type 0
TakesColumns action.Delete (Some names) = ⊥
TakesColumns _ _ = Unit {0}

abbrev pub IsWellFormedAction : NamedAction → Type 0
IsWellFormedAction a = TakesColumns a.action a.columns

-- no DELETE has columns
abbrev pub IsWellFormedPrivileges : Privileges → Type 0
IsWellFormedPrivileges (privileges.All columns) = Unit {0}
IsWellFormedPrivileges (privileges.Actions actions) = All IsWellFormedAction actions

pub record IsReadAction (a : NamedAction) : Type 0 where
  pub columns : IfSome a.columns AreNames
  pub form : IsWellFormedAction a

abbrev pub IsReadPrivileges : Privileges → Type 0
IsReadPrivileges (privileges.All columns) = IfSome columns AreNames
IsReadPrivileges (privileges.Actions actions) = AreSome IsReadAction actions

pub record IsReadGrant (s : Grant) : Type 0 where
  pub privileges : IsReadPrivileges s.privileges
  pub table : IsUtf8Name s.table
  pub grantees : AreGrantees s.grantees

pub record IsReadRevoke (s : Revoke) : Type 0 where
  pub privileges : IsReadPrivileges s.privileges
  pub table : IsUtf8Name s.table
  pub grantees : AreGrantees s.grantees

-- ---- rows

-- rows of one length
abbrev pub HaveOneLength : List (List (Term ColumnName)) → Type 0
HaveOneLength rows = (row : List (Term ColumnName)) → slice_get rows 0 ≡ Some row → All (λ r. length r ≡ length row) rows

pub record IsReadInsert (s : Insert) : Type 0 where
  pub table : IsUtf8Name s.table
  pub columns : IfSome s.columns AreNames
  pub rows : AreSome (AreSome IsReadTerm) s.rows
  pub one_length : HaveOneLength s.rows

pub record IsReadAssignment (a : Assignment) : Type 0 where
  pub column : IsUtf8Name a.column
  pub value : IsReadTerm a.value

pub record IsReadUpdate (s : Update) : Type 0 where
  pub table : IsUtf8Name s.table
  pub assignments : AreSome IsReadAssignment s.assignments
  pub condition : IfSome s.condition IsReadTerm

pub record IsReadDelete (s : Delete) : Type 0 where
  pub table : IsUtf8Name s.table
  pub condition : IfSome s.condition IsReadTerm

-- ---- queries

abbrev pub IsReadList : SelectList → Type 0
IsReadList list.Asterisk = Unit {0}
IsReadList (list.Expressions terms) = AreSome IsReadTerm terms
IsReadList list.Count = Unit {0}

pub record IsReadReference (t : TableReference) : Type 0 where
  pub table : IsUtf8Name t.table
  pub alias : IfSome t.alias IsUtf8Name

pub record IsReadJoin (j : Join) : Type 0 where
  pub table : IsReadReference j.table
  pub condition : IfSome j.condition IsReadTerm

abbrev pub IsReadFrom : FromClause → Type 0
IsReadFrom (from.List tables) = AreSome IsReadReference tables
IsReadFrom (from.Joined first joins) = IsReadReference first × AreSome IsReadJoin joins

abbrev pub AreSortKeys : List SortKey → Type 0
AreSortKeys keys = AreSome (λ (key : SortKey). IsReadTerm key.value) keys

-- a limit is a BIGINT
pub record IsReadSource (e : TableExpression) : Type 0 where
  pub tables : IsReadFrom e.tables
  pub condition : IfSome e.condition IsReadTerm
  pub order : IfSome e.order AreSortKeys
  pub limit : IfSome e.limit (λ n. n < 2 ^ 63)

-- "*" and COUNT ( * ) have tables, and COUNT ( * ) has neither ORDER BY nor LIMIT
abbrev pub HasSource : SelectList → Option TableExpression → Type 0
HasSource (list.Expressions terms) source = Unit {0}
HasSource list.Asterisk None = ⊥
HasSource list.Asterisk (Some e) = Unit {0}
HasSource list.Count None = ⊥
HasSource list.Count (Some e) = (e.order ≡ None) × (e.limit ≡ None)

pub record IsReadSelect (s : Select) : Type 0 where
  pub list : IsReadList s.list
  pub source : IfSome s.source IsReadSource
  pub form : HasSource s.list s.source
