-- Laws of privileges on columns: what supports what, what ALL names, and which columns there must be.
use Rattle.std.specs.Prelude.{◌≡◌, ℕ, true, List, Some, None, Err}
use Rattle.sql_types.specs.declared.state.SqlState.TheVariants.{UndefinedColumn}
use Rattle.sql_ast.specs.Layout.{Layout}
use Rattle.sql_ast.specs.declared.columns.Column.{Column}
use Rattle.sql_ast.specs.declared.privilege.Action.TheVariants as action
use Rattle.sql_ast.specs.declared.privilege.Grantee.{Grantee}
use Rattle.sql_ast.specs.declared.privilege.Grantee.TheVariants as grantee
use Rattle.sql_ast.specs.declared.privilege.Privilege.{Privilege}
use Rattle.sql_ast.specs.declared.privilege.Descriptor.{Descriptor}
use Rattle.sql_ast.specs.declared.statement.Privileges.{Privileges}
use Rattle.sql_ast.specs.declared.statement.Privileges.TheVariants as privileges
use Rattle.sql_ast.specs.declared.statement.Grant.{Grant}
use Rattle.sql_ast.specs.declared.statement.Revoke.{Revoke}
use Rattle.expressions.specs.Meaning.{UserNames}
use Rattle.abstract_database.specs.Lists.{TheName, Among}
use Rattle.abstract_database.specs.Database.{TableOf, Database, definition_named}
use Rattle.abstract_database.specs.Privileges.{supports, privileges_of, columns_named}
use Rattle.abstract_database.specs.Statements.{Effect, grant, revoke}
use Rattle.abstract_database.specs.Whole.{IsRoleOf}
use Rattle.database_laws.specs.Grants.{Grants, Revokes}

-- ---- support

-- what a descriptor on a column supports is on that column
abbrev pub columns_support_that_column : Type 0
columns_support_that_column = (p q : Descriptor) (index : ℕ) → supports p q ≡ true → p.column ≡ Some index → q.column ≡ Some index

-- what supports a descriptor on a table is on the table
abbrev pub tables_support_tables : Type 0
tables_support_tables = (p q : Descriptor) → supports p q ≡ true → q.column ≡ None → p.column ≡ None

-- a chain of one or more supports leads from the one to the other
pub data LeadsTo (p : Descriptor) : Descriptor → Type 0 where
  by_one : (q : Descriptor) → supports p q ≡ true → LeadsTo p q
  by_more : (q r : Descriptor) → LeadsTo p q → supports q r ≡ true → LeadsTo p r

-- on a cycle of supports all are on the table, or all on one column
abbrev pub cycles_keep_to_one : Type 0
cycles_keep_to_one = (p q : Descriptor) → LeadsTo p q → LeadsTo q p → p.column ≡ q.column

-- ---- what ALL names

-- ALL with columns names privileges on columns, and no DELETE
abbrev pub all_on_columns_is_no_delete : Type 0
all_on_columns_is_no_delete = (layout : Layout) (names : List TheName) (p : Privilege) → Among p (privileges_of layout (privileges.All (Some names))) →
    (p.action ≡ action.Delete → ⊥) × ((index : ℕ) × (p.column ≡ Some index))

-- ---- columns that a statement names

-- the table has a column of this name
abbrev pub HasColumn : TableOf → TheName → Type 0
HasColumn t name = (c : Column) × Among c t.layout.columns × (c.name ≡ name)

abbrev pub HasColumnsNamed : TableOf → Privileges → Type 0
HasColumnsNamed t named = (name : TheName) → Among name (columns_named named) → HasColumn t name

-- where a GRANT is not refused, the table has each column that it names
abbrev pub grants_find_columns : Type 0
grants_find_columns = (db : Database) (users : UserNames) (g : Grant) (t : TableOf) (e : Effect) → Grants db users g t e → HasColumnsNamed t g.privileges

-- and so with REVOKE
abbrev pub revokes_find_columns : Type 0
revokes_find_columns = (db : Database) (users : UserNames) (r : Revoke) (t : TableOf) (e : Effect) → Revokes db users r t e → HasColumnsNamed t r.privileges

-- one of the columns is none of the table's
abbrev pub LacksColumn : TableOf → Privileges → Type 0
LacksColumn t named = (name : TheName) × Among name (columns_named named) × (HasColumn t name → ⊥)

-- each role of these grantees is a role
abbrev pub AreThere : Database → List Grantee → Type 0
AreThere db grantees = (name : TheName) → Among (grantee.Role name) grantees → IsRoleOf db.roles name

-- where the table and the roles are there and a column is not, GRANT is refused so, whatever the role may do
abbrev pub missing_columns_refuse_grants : Type 0
missing_columns_refuse_grants = (db : Database) (users : UserNames) (g : Grant) (t : TableOf) → definition_named db g.table ≡ Some t → AreThere db g.grantees → LacksColumn t g.privileges →
    grant db users g ≡ Err UndefinedColumn

-- and so is REVOKE
abbrev pub missing_columns_refuse_revokes : Type 0
missing_columns_refuse_revokes = (db : Database) (users : UserNames) (r : Revoke) (t : TableOf) → definition_named db r.table ≡ Some t → AreThere db r.grantees → LacksColumn t r.privileges →
    revoke db users r ≡ Err UndefinedColumn
