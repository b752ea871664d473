-- Short words for statements, so that an example reads like a script.
use Rattle.std.specs.Prelude.{ℕ, zero, suc, ◌+◌, ◌/◌, ◌%◌, true, false, List, [], ◌∷◌, ◌++◌, map, codes, replicate, Some, None}
use Prim.Native.String.{String}
use Rattle.sql_types.specs.declared.tag.Tag.{Tag}
use Rattle.sql_types.specs.declared.tag.Tag.TheVariants as tag
use Rattle.sql_ast.specs.declared.columns.ColumnType.{ColumnType}
use Rattle.sql_ast.specs.declared.columns.ColumnType.TheVariants as type
use Rattle.sql_ast.specs.declared.privilege.Action.{Action}
use Rattle.sql_ast.specs.declared.privilege.Action.TheVariants as action
use Rattle.sql_ast.specs.declared.privilege.Grantee.{Grantee}
use Rattle.sql_ast.specs.declared.privilege.Grantee.TheVariants as grantee
use Rattle.sql_ast.specs.declared.role.RoleAttribute.{RoleAttribute}
use Rattle.sql_ast.specs.declared.role.RoleAttribute.TheVariants as attribute
use Rattle.sql_ast.specs.declared.policy.PolicyKind.TheVariants.{Restrictive}
use Rattle.sql_ast.specs.declared.policy.PolicyCommand.TheVariants as command
use Rattle.sql_ast.specs.declared.statement.CreatePolicy.{CreatePolicy}
use Rattle.sql_ast.specs.declared.statement.Statement.{Statement}
use Rattle.sql_ast.specs.declared.statement.Statement.TheVariants as statement
use Rattle.sql_ast.specs.declared.statement.DatabaseStatement.TheVariants as on_database
use Rattle.sql_ast.specs.declared.statement.DefiningStatement.TheVariants as defining
use Rattle.sql_ast.specs.declared.statement.RowStatement.TheVariants as over_rows
use Rattle.sql_ast.specs.declared.statement.SessionStatement.TheVariants as of_session
use Rattle.sql_ast.specs.declared.statement.TableElement.{TableElement}
use Rattle.sql_ast.specs.declared.statement.TableElement.TheVariants as element
use Rattle.sql_ast.specs.declared.statement.ColumnConstraint.TheVariants as constraint
use Rattle.sql_ast.specs.declared.statement.DropBehavior.TheVariants.{Cascade, Restrict}
use Rattle.sql_ast.specs.declared.statement.RowSecurityChange.TheVariants as change
use Rattle.sql_ast.specs.declared.statement.NamedAction.{NamedAction}
use Rattle.sql_ast.specs.declared.statement.Privileges.{Privileges}
use Rattle.sql_ast.specs.declared.statement.Privileges.TheVariants as privileges
use Rattle.sql_ast.specs.declared.statement.SelectList.TheVariants as list
use Rattle.sql_ast.specs.declared.statement.TableExpression.{TableExpression}
use Rattle.sql_ast.specs.declared.statement.FromClause.TheVariants as from
use Rattle.sql_ast.specs.declared.statement.TableReference.{TableReference}
use Rattle.sql_ast.specs.declared.statement.Join.{Join}
use Rattle.sql_ast.specs.declared.statement.SortDirection.TheVariants.{Descending}
use Rattle.sql_ast.specs.declared.statement.SortKey.{SortKey}
use Rattle.abstract_database.specs.Lists.{TheName}
use Rattle.database_examples.specs.Expressions.{E, num, str, yes, null, col, col_of}

abbrev pub one : {X : Type 0} → X → List X
one x = x ∷ []

-- the numbers from this one down to 1
abbrev pub counting : ℕ → List ℕ
counting zero = []
counting (suc n) = suc n ∷ counting n

-- so many names of three bytes, all different for at most 1023 and in falling order
abbrev pub numbered_names : ℕ → List TheName
numbered_names n = map (λ i. 110 ∷ (65 + i / 32) ∷ (65 + i % 32) ∷ []) (counting n)

-- ---- roles

abbrev pub create_role : String → List RoleAttribute → Statement
create_role role attributes = (statement.OnDatabase (on_database.Defining (defining.CreateRole (record { role = codes role; attributes = attributes }))))

abbrev pub can_log_in : List RoleAttribute
can_log_in = attribute.Login ∷ []

abbrev pub cannot_log_in : List RoleAttribute
cannot_log_in = attribute.NoLogin ∷ []

abbrev pub attribute_superuser : List RoleAttribute
attribute_superuser = attribute.Superuser ∷ []

abbrev pub can_bypass : List RoleAttribute
can_bypass = attribute.BypassRls ∷ []

abbrev pub drop_role : String → Statement
drop_role role = (statement.OnDatabase (on_database.Defining (defining.DropRole (record { role = codes role }))))

abbrev pub grant_role : String → String → Statement
grant_role role member = (statement.OnDatabase (on_database.Defining (defining.GrantRole (record { roles = one (codes role); members = one (codes member); with_admin_option = false }))))

abbrev pub grant_role_with_admin : String → String → Statement
grant_role_with_admin role member = (statement.OnDatabase (on_database.Defining (defining.GrantRole (record { roles = one (codes role); members = one (codes member); with_admin_option = true }))))

-- each of the roles to each of the members
abbrev pub grant_roles : List String → List String → Statement
grant_roles roles members = (statement.OnDatabase (on_database.Defining (defining.GrantRole (record { roles = map codes roles; members = map codes members; with_admin_option = false }))))

abbrev pub revoke_role : String → String → Statement
revoke_role role member = (statement.OnDatabase (on_database.Defining (defining.RevokeRole (record { admin_option_for = false; roles = one (codes role); members = one (codes member); behavior = None }))))

abbrev pub revoke_roles : List String → List String → Statement
revoke_roles roles members = (statement.OnDatabase (on_database.Defining (defining.RevokeRole (record { admin_option_for = false; roles = map codes roles; members = map codes members; behavior = None }))))

abbrev pub revoke_admin_option : String → String → Statement
revoke_admin_option role member = (statement.OnDatabase (on_database.Defining (defining.RevokeRole (record { admin_option_for = true; roles = one (codes role); members = one (codes member); behavior = None }))))

abbrev pub set_role : String → Statement
set_role role = (statement.OfSession (of_session.SetRole (record { role = Some (codes role) })))

abbrev pub set_role_none : Statement
set_role_none = (statement.OfSession (of_session.SetRole (record { role = None })))

abbrev pub reset_role : Statement
reset_role = (statement.OfSession of_session.ResetRole)

-- ---- tables

abbrev pub key_column : String → ColumnType → TableElement
key_column name t = element.Column (record { column = codes name; column_type = t; constraints = one constraint.PrimaryKey })

abbrev pub plain_column : String → ColumnType → TableElement
plain_column name t = element.Column (record { column = codes name; column_type = t; constraints = [] })

abbrev pub not_null_column : String → ColumnType → TableElement
not_null_column name t = element.Column (record { column = codes name; column_type = t; constraints = one constraint.NotNull })

abbrev pub key_of : List String → TableElement
key_of names = element.PrimaryKey (map codes names)

abbrev pub create_table : String → List TableElement → Statement
create_table table elements = (statement.OnDatabase (on_database.Defining (defining.CreateTable (record { table = codes table; elements = elements }))))

abbrev pub drop_table : String → Statement
drop_table table = (statement.OnDatabase (on_database.Defining (defining.DropTable (record { table = codes table }))))

-- ---- row security of the table t

abbrev pub enable_rls : Statement
enable_rls = (statement.OnDatabase (on_database.Defining (defining.AlterTable (record { table = codes "t"; change = change.Enable }))))

abbrev pub disable_rls : Statement
disable_rls = (statement.OnDatabase (on_database.Defining (defining.AlterTable (record { table = codes "t"; change = change.Disable }))))

abbrev pub force_rls : Statement
force_rls = (statement.OnDatabase (on_database.Defining (defining.AlterTable (record { table = codes "t"; change = change.Force }))))

abbrev pub no_force_rls : Statement
no_force_rls = (statement.OnDatabase (on_database.Defining (defining.AlterTable (record { table = codes "t"; change = change.NoForce }))))

abbrev pub policy : String → CreatePolicy
policy name = record { policy = codes name; table = codes "t"; kind = None; command = None; grantees = None; using = None; check = None }

abbrev pub restrictive : CreatePolicy → CreatePolicy
restrictive p = record p { kind = Some Restrictive }

abbrev pub only_for : Action → CreatePolicy → CreatePolicy
only_for a p = record p { command = Some (command.Only a) }

abbrev pub only_to : List Grantee → CreatePolicy → CreatePolicy
only_to grantees p = record p { grantees = Some grantees }

abbrev pub using : E → CreatePolicy → CreatePolicy
using e p = record p { using = Some (record { text = codes "e"; expression = e }) }

abbrev pub with_check : E → CreatePolicy → CreatePolicy
with_check e p = record p { check = Some (record { text = codes "e"; expression = e }) }

-- USING ( (true) ) with so many blanks before true, which is a text of 6 bytes more
abbrev pub using_blanks : ℕ → CreatePolicy → CreatePolicy
using_blanks n p = record p { using = Some (record { text = 40 ∷ replicate n 32 ++ codes "true)"; expression = yes }) }

abbrev pub create : CreatePolicy → Statement
create p = (statement.OnDatabase (on_database.Defining (defining.CreatePolicy p)))

-- DROP POLICY name ON t, and the tag of its answer
abbrev pub drop : String → Statement
drop name = (statement.OnDatabase (on_database.Defining (defining.DropPolicy (record { policy = codes name; table = codes "t" }))))

abbrev pub dropped : Tag
dropped = tag.DropPolicy

-- ---- privileges on the table t

abbrev pub the_role : String → List Grantee
the_role name = one (grantee.Role (codes name))

abbrev pub the_roles : List String → List Grantee
the_roles names = map (λ name. grantee.Role (codes name)) names

abbrev pub roles_named : List TheName → List Grantee
roles_named names = map (λ name. grantee.Role name) names

abbrev pub everyone : List Grantee
everyone = one grantee.Public

-- an action on the whole table, or on these columns
abbrev pub whole : Action → NamedAction
whole a = record { action = a; columns = None }

abbrev pub of_columns : Action → List String → NamedAction
of_columns a names = record { action = a; columns = Some (map codes names) }

abbrev pub these_on : List Action → Privileges
these_on actions = privileges.Actions (map whole actions)

abbrev pub select_on : Privileges
select_on = these_on (one action.Select)

abbrev pub insert_on : Privileges
insert_on = these_on (one action.Insert)

abbrev pub update_on : Privileges
update_on = these_on (one action.Update)

abbrev pub delete_on : Privileges
delete_on = these_on (one action.Delete)

abbrev pub all_on : Privileges
all_on = privileges.All None

-- the same of columns: SELECT (k, x), and so on
abbrev pub select_of : List String → Privileges
select_of names = privileges.Actions (one (of_columns action.Select names))

abbrev pub insert_of : List String → Privileges
insert_of names = privileges.Actions (one (of_columns action.Insert names))

abbrev pub update_of : List String → Privileges
update_of names = privileges.Actions (one (of_columns action.Update names))

abbrev pub all_of : List String → Privileges
all_of names = privileges.All (Some (map codes names))

abbrev pub these : List NamedAction → Privileges
these actions = privileges.Actions actions

abbrev pub grant : Privileges → List Grantee → Statement
grant what grantees = (statement.OnDatabase (on_database.Defining (defining.Grant (record { privileges = what; table = codes "t"; grantees = grantees; with_grant_option = false }))))

abbrev pub grant_with_option : Privileges → List Grantee → Statement
grant_with_option what grantees = (statement.OnDatabase (on_database.Defining (defining.Grant (record { privileges = what; table = codes "t"; grantees = grantees; with_grant_option = true }))))

abbrev pub revoke : Privileges → List Grantee → Statement
revoke what grantees = (statement.OnDatabase (on_database.Defining (defining.Revoke (record { grant_option_for = false; privileges = what; table = codes "t"; grantees = grantees; behavior = None }))))

abbrev pub revoke_restrict : Privileges → List Grantee → Statement
revoke_restrict what grantees = (statement.OnDatabase (on_database.Defining (defining.Revoke (record { grant_option_for = false; privileges = what; table = codes "t"; grantees = grantees; behavior = Some Restrict }))))

abbrev pub revoke_cascade : Privileges → List Grantee → Statement
revoke_cascade what grantees = (statement.OnDatabase (on_database.Defining (defining.Revoke (record { grant_option_for = false; privileges = what; table = codes "t"; grantees = grantees; behavior = Some Cascade }))))

abbrev pub revoke_option : Privileges → List Grantee → Statement
revoke_option what grantees = (statement.OnDatabase (on_database.Defining (defining.Revoke (record { grant_option_for = true; privileges = what; table = codes "t"; grantees = grantees; behavior = None }))))

abbrev pub revoke_option_cascade : Privileges → List Grantee → Statement
revoke_option_cascade what grantees = (statement.OnDatabase (on_database.Defining (defining.Revoke (record { grant_option_for = true; privileges = what; table = codes "t"; grantees = grantees; behavior = Some Cascade }))))

abbrev pub select_and_insert : Privileges
select_and_insert = these_on (action.Select ∷ action.Insert ∷ [])

abbrev pub select_and_update : Privileges
select_and_update = these_on (action.Select ∷ action.Update ∷ [])

abbrev pub select_and_delete : Privileges
select_and_delete = these_on (action.Select ∷ action.Delete ∷ [])

abbrev pub update_and_delete : Privileges
update_and_delete = these_on (action.Update ∷ action.Delete ∷ [])

-- ---- rows of the table t

abbrev pub insert : List (List E) → Statement
insert rows = (statement.OnDatabase (on_database.OverRows (over_rows.Insert (record { table = codes "t"; columns = None; rows = rows }))))

-- INSERT INTO t VALUES (1, 5, true, 'ann')
abbrev pub insert_anns : Statement
insert_anns = insert (one (num 1 ∷ num 5 ∷ yes ∷ str "ann" ∷ []))

-- rows of a key alone, the other columns null
abbrev pub insert_keys : List ℕ → Statement
insert_keys keys = insert (map (λ k. num k ∷ []) keys)

-- a row of k and x
abbrev pub pair : ℕ → ℕ → List E
pair k x = num k ∷ num x ∷ []

-- a row of k and o
abbrev pub owned : ℕ → String → List E
owned k o = num k ∷ null ∷ null ∷ str o ∷ []

abbrev pub insert_into : String → E → Statement
insert_into column e = (statement.OnDatabase (on_database.OverRows (over_rows.Insert (record { table = codes "t"; columns = Some (one (codes column)); rows = one (one e) }))))

-- one value, or two, into another table
abbrev pub insert_in : String → E → Statement
insert_in table e = (statement.OnDatabase (on_database.OverRows (over_rows.Insert (record { table = codes table; columns = None; rows = one (one e) }))))

abbrev pub insert_pair : String → E → E → Statement
insert_pair table d e = (statement.OnDatabase (on_database.OverRows (over_rows.Insert (record { table = codes table; columns = None; rows = one (d ∷ e ∷ []) }))))

abbrev pub insert_columns : List String → List E → Statement
insert_columns columns es = (statement.OnDatabase (on_database.OverRows (over_rows.Insert (record { table = codes "t"; columns = Some (map codes columns); rows = one es }))))

abbrev pub insert_rows : List String → List (List E) → Statement
insert_rows columns rows = (statement.OnDatabase (on_database.OverRows (over_rows.Insert (record { table = codes "t"; columns = Some (map codes columns); rows = rows }))))

-- INSERT INTO t (k) VALUES (k)
abbrev pub insert_key : ℕ → Statement
insert_key k = insert_into "k" (num k)

abbrev pub update : String → E → Statement
update column e = (statement.OnDatabase (on_database.OverRows (over_rows.Update (record { table = codes "t"; assignments = one (record { column = codes column; value = e }); condition = None }))))

abbrev pub update_where : String → E → E → Statement
update_where column e condition = (statement.OnDatabase (on_database.OverRows (over_rows.Update (record { table = codes "t"; assignments = one (record { column = codes column; value = e }); condition = Some condition }))))

abbrev pub update_both : String → E → String → E → Statement
update_both first e second f = (statement.OnDatabase (on_database.OverRows (over_rows.Update (record {
  table = codes "t";
  assignments = record { column = codes first; value = e } ∷ record { column = codes second; value = f } ∷ [];
  condition = None;
}))))

abbrev pub delete : Statement
delete = (statement.OnDatabase (on_database.OverRows (over_rows.Delete (record { table = codes "t"; condition = None }))))

abbrev pub delete_where : E → Statement
delete_where condition = (statement.OnDatabase (on_database.OverRows (over_rows.Delete (record { table = codes "t"; condition = Some condition }))))

-- ---- queries

abbrev pub the_table : String → TableReference
the_table name = record { table = codes name; alias = None }

abbrev pub called_as : String → String → TableReference
called_as name alias = record { table = codes name; alias = Some (codes alias) }

abbrev pub from_tables : List TableReference → TableExpression
from_tables references = record { tables = from.List references; condition = None; order = None; limit = None }

abbrev pub from_joined : TableReference → List Join → TableExpression
from_joined first joins = record { tables = from.Joined first joins; condition = None; order = None; limit = None }

abbrev pub join_on : TableReference → E → Join
join_on reference e = record { table = reference; condition = Some e }

abbrev pub cross_join : TableReference → Join
cross_join reference = record { table = reference; condition = None }

-- FROM t p, t q, and FROM t p JOIN t q ON ..
abbrev pub t_twice : TableExpression
t_twice = from_tables (called_as "t" "p" ∷ called_as "t" "q" ∷ [])

abbrev pub t_joined : E → TableExpression
t_joined e = from_joined (called_as "t" "p") (one (join_on (called_as "t" "q") e))

-- their columns
abbrev pub p_of : String → E
p_of c = col_of "p" c

abbrev pub q_of : String → E
q_of c = col_of "q" c

abbrev pub r_of : String → E
r_of c = col_of "r" c

-- FROM t, u, and FROM t JOIN u ON ..
abbrev pub t_and_u : TableExpression
t_and_u = from_tables (the_table "t" ∷ the_table "u" ∷ [])

abbrev pub t_joined_u : E → TableExpression
t_joined_u e = from_joined (the_table "t") (one (join_on (the_table "u") e))

abbrev pub from_t : TableExpression
from_t = from_tables (one (the_table "t"))

abbrev pub where_is : E → TableExpression → TableExpression
where_is e source = record source { condition = Some e }

abbrev pub ordered_by : E → TableExpression → TableExpression
ordered_by e source = record source { order = Some (one (record { value = e; direction = None })) }

abbrev pub ordered_down_by : E → TableExpression → TableExpression
ordered_down_by e source = record source { order = Some (one (record { value = e; direction = Some Descending })) }

abbrev pub up : E → SortKey
up e = record { value = e; direction = None }

abbrev pub down : E → SortKey
down e = record { value = e; direction = Some Descending }

abbrev pub ordered_by_both : SortKey → SortKey → TableExpression → TableExpression
ordered_by_both first second source = record source { order = Some (first ∷ second ∷ []) }

abbrev pub limited_to : ℕ → TableExpression → TableExpression
limited_to n source = record source { limit = Some n }

-- SELECT * FROM t
abbrev pub select_all : Statement
select_all = (statement.OnDatabase (on_database.OverRows (over_rows.Select (record { list = list.Asterisk; source = Some from_t }))))

abbrev pub select_every : TableExpression → Statement
select_every source = (statement.OnDatabase (on_database.OverRows (over_rows.Select (record { list = list.Asterisk; source = Some source }))))

abbrev pub select : List E → TableExpression → Statement
select terms source = (statement.OnDatabase (on_database.OverRows (over_rows.Select (record { list = list.Expressions terms; source = Some source }))))

abbrev pub select_count : TableExpression → Statement
select_count source = (statement.OnDatabase (on_database.OverRows (over_rows.Select (record { list = list.Count; source = Some source }))))

-- SELECT k, x FROM t, and so on
abbrev pub select_these : List String → Statement
select_these names = select (map col names) from_t

-- SELECT k FROM t
abbrev pub select_keys : Statement
select_keys = select (one (col "k")) from_t

-- ---- other tables

-- CREATE TABLE u (k BIGINT PRIMARY KEY)
abbrev pub create_u : Statement
create_u = create_table "u" (one (key_column "k" type.BigInt))

-- CREATE TABLE .. (k BIGINT PRIMARY KEY), under a name that is no literal
abbrev pub create_named : TheName → Statement
create_named name = (statement.OnDatabase (on_database.Defining (defining.CreateTable (record { table = name; elements = one (key_column "k" type.BigInt) }))))

-- CREATE ROLE, under such a name
abbrev pub create_role_named : TheName → Statement
create_role_named name = (statement.OnDatabase (on_database.Defining (defining.CreateRole (record { role = name; attributes = [] }))))

-- a column of a BIGINT, under such a name
abbrev pub column_named : TheName → TableElement
column_named name = element.Column (record { column = name; column_type = type.BigInt; constraints = [] })

abbrev pub select_all_of_u : Statement
select_all_of_u = select_every (from_tables (one (the_table "u")))

-- the same statement on another table in place of t
abbrev pub on : String → Statement → Statement
on table (statement.OnDatabase (on_database.Defining (defining.Grant s))) = (statement.OnDatabase (on_database.Defining (defining.Grant (record s { table = codes table }))))
on table (statement.OnDatabase (on_database.Defining (defining.Revoke s))) = (statement.OnDatabase (on_database.Defining (defining.Revoke (record s { table = codes table }))))
on table (statement.OnDatabase (on_database.OverRows (over_rows.Insert s))) = (statement.OnDatabase (on_database.OverRows (over_rows.Insert (record s { table = codes table }))))
on table (statement.OnDatabase (on_database.OverRows (over_rows.Update s))) = (statement.OnDatabase (on_database.OverRows (over_rows.Update (record s { table = codes table }))))
on table (statement.OnDatabase (on_database.OverRows (over_rows.Delete s))) = (statement.OnDatabase (on_database.OverRows (over_rows.Delete (record s { table = codes table }))))
on table (statement.OnDatabase (on_database.Defining (defining.AlterTable s))) = (statement.OnDatabase (on_database.Defining (defining.AlterTable (record s { table = codes table }))))
on table (statement.OnDatabase (on_database.Defining (defining.CreatePolicy s))) = (statement.OnDatabase (on_database.Defining (defining.CreatePolicy (record s { table = codes table }))))
on table (statement.OnDatabase (on_database.Defining (defining.DropPolicy s))) = (statement.OnDatabase (on_database.Defining (defining.DropPolicy (record s { table = codes table }))))
on table x = x

-- SELECT .. without FROM
abbrev pub select_values : List E → Statement
select_values terms = (statement.OnDatabase (on_database.OverRows (over_rows.Select (record { list = list.Expressions terms; source = None }))))
