-- The grammar of statements: a phrase for each command, which reads as the line above it.
use Rattle.std.specs.Prelude.{ℕ, true, false, List, [], ◌∷◌, Option, Some, None}
use Rattle.sql_lexer.specs.declared.token.TokenKind.TheVariants.{Reserved as R, Unreserved as U, Punctuation as P}
use Rattle.sql_lexer.specs.declared.token.Reserved.TheVariants as reserved
use Rattle.sql_lexer.specs.declared.token.Unreserved.TheVariants as unreserved
use Rattle.sql_lexer.specs.declared.token.Punctuation.TheVariants.{Open, Close, Comma, Star, Equal}
use Rattle.sql_ast.specs.declared.columns.ColumnType.{ColumnType}
use Rattle.sql_ast.specs.declared.columns.ColumnType.TheVariants as type
use Rattle.sql_ast.specs.declared.role.RoleAttribute.{RoleAttribute}
use Rattle.sql_ast.specs.declared.role.RoleAttribute.TheVariants as attribute
use Rattle.sql_ast.specs.declared.privilege.Action.{Action}
use Rattle.sql_ast.specs.declared.privilege.Action.TheVariants as action
use Rattle.sql_ast.specs.declared.privilege.Grantee.{Grantee}
use Rattle.sql_ast.specs.declared.privilege.Grantee.TheVariants as grantee
use Rattle.sql_ast.specs.declared.policy.PolicyKind.{PolicyKind}
use Rattle.sql_ast.specs.declared.policy.PolicyKind.TheVariants as policy_kind
use Rattle.sql_ast.specs.declared.policy.PolicyCommand.{PolicyCommand}
use Rattle.sql_ast.specs.declared.policy.PolicyCommand.TheVariants as policy_command
use Rattle.sql_ast.specs.declared.policy.PolicyClause.{PolicyClause}
use Rattle.sql_ast.specs.declared.statement.Statement.{Statement}
use Rattle.sql_ast.specs.declared.statement.Statement.TheVariants as statement
use Rattle.sql_ast.specs.declared.statement.DatabaseStatement.TheVariants as on_database
use Rattle.sql_ast.specs.declared.statement.DefiningStatement.TheVariants as defining
use Rattle.sql_ast.specs.declared.statement.RowStatement.TheVariants as over_rows
use Rattle.sql_ast.specs.declared.statement.SessionStatement.TheVariants as of_session
use Rattle.sql_ast.specs.declared.statement.DropBehavior.{DropBehavior}
use Rattle.sql_ast.specs.declared.statement.DropBehavior.TheVariants as behavior
use Rattle.sql_ast.specs.declared.statement.TableElement.{TableElement}
use Rattle.sql_ast.specs.declared.statement.TableElement.TheVariants as element
use Rattle.sql_ast.specs.declared.statement.ColumnConstraint.{ColumnConstraint}
use Rattle.sql_ast.specs.declared.statement.ColumnConstraint.TheVariants as constraint
use Rattle.sql_ast.specs.declared.statement.RowSecurityChange.{RowSecurityChange}
use Rattle.sql_ast.specs.declared.statement.RowSecurityChange.TheVariants as change
use Rattle.sql_ast.specs.declared.statement.Privileges.{Privileges}
use Rattle.sql_ast.specs.declared.statement.Privileges.TheVariants as privileges
use Rattle.sql_ast.specs.declared.statement.NamedAction.{NamedAction}
use Rattle.sql_ast.specs.declared.statement.Assignment.{Assignment}
use Rattle.sql_ast.specs.declared.statement.SelectList.{SelectList}
use Rattle.sql_ast.specs.declared.statement.SelectList.TheVariants as list
use Rattle.sql_ast.specs.declared.statement.TableExpression.{TableExpression}
use Rattle.sql_ast.specs.declared.statement.FromClause.{FromClause}
use Rattle.sql_ast.specs.declared.statement.FromClause.TheVariants as from
use Rattle.sql_ast.specs.declared.statement.TableReference.{TableReference}
use Rattle.sql_ast.specs.declared.statement.Join.{Join}
use Rattle.sql_ast.specs.declared.statement.SortKey.{SortKey}
use Rattle.sql_ast.specs.declared.statement.SortDirection.{SortDirection}
use Rattle.sql_ast.specs.declared.statement.SortDirection.TheVariants as direction
use Rattle.expr_parser.specs.Grammar.{Tree}
use Rattle.sql_grammar.specs.Phrases.{Phrase, gives, ◌▹◌, ◌⊛◌, ◌∣◌, listed, many, word_of, name, number, expr, sort_key_expression, clause, optional, after, parenthesized, noise, three_words}
use Rattle.sql_commands.specs.declared.queries.MoreTables.{MoreTables}
use Rattle.sql_commands.specs.declared.queries.MoreTables.TheVariants as more
use Rattle.sql_commands.specs.declared.command.Command.{Command}
use Rattle.sql_commands.specs.declared.command.Command.TheVariants as production

-- ---- parts that several commands have

-- PUBLIC | name
abbrev pub a_grantee : Phrase Grantee
a_grantee = gives grantee.Public ▹ R reserved.Public ∣ gives grantee.Role ⊛ name

-- SELECT | INSERT | UPDATE | DELETE
abbrev pub an_action : Phrase Action
an_action = word_of ((R reserved.Select, action.Select) ∷ (U unreserved.Insert, action.Insert) ∷ (U unreserved.Update, action.Update) ∷ (U unreserved.Delete, action.Delete) ∷ [])

-- CASCADE | RESTRICT
abbrev pub a_behavior : Phrase DropBehavior
a_behavior = word_of ((U unreserved.Cascade, behavior.Cascade) ∷ (U unreserved.Restrict, behavior.Restrict) ∷ [])

-- [WHERE expr]
abbrev pub a_condition : Phrase (Option Tree)
a_condition = optional (after (R reserved.Where) expr)

-- ---- roles

-- SUPERUSER | NOSUPERUSER | LOGIN | NOLOGIN | BYPASSRLS | NOBYPASSRLS
abbrev pub an_attribute : Phrase RoleAttribute
an_attribute = word_of (
    (U unreserved.Superuser, attribute.Superuser) ∷ (U unreserved.NoSuperuser, attribute.NoSuperuser) ∷
    (U unreserved.Login, attribute.Login) ∷ (U unreserved.NoLogin, attribute.NoLogin) ∷
    (U unreserved.BypassRls, attribute.BypassRls) ∷ (U unreserved.NoBypassRls, attribute.NoBypassRls) ∷ [])

-- CREATE ROLE name [WITH] {attribute}
abbrev pub create_role : Phrase Statement
create_role = gives (λ r u xs. (statement.OnDatabase (on_database.Defining (defining.CreateRole (record { role = r; attributes = xs })))))
    ▹ R reserved.Create ▹ U unreserved.Role ⊛ name ⊛ noise (R reserved.With) ⊛ many an_attribute

-- DROP ROLE name
abbrev pub drop_role : Phrase Statement
drop_role = gives (λ r. (statement.OnDatabase (on_database.Defining (defining.DropRole (record { role = r }))))) ▹ U unreserved.Drop ▹ U unreserved.Role ⊛ name

-- GRANT names TO names [WITH ADMIN OPTION]
abbrev pub grant_role : Phrase Statement
grant_role = gives (λ rs ms o. (statement.OnDatabase (on_database.Defining (defining.GrantRole (record { roles = rs; members = ms; with_admin_option = o })))))
    ▹ R reserved.Grant ⊛ listed name ▹ R reserved.To ⊛ listed name ⊛ three_words (R reserved.With) (U unreserved.Admin) (U unreserved.Option)

-- REVOKE names FROM names [CASCADE | RESTRICT]
abbrev pub revoke_role : Phrase Statement
revoke_role = gives (λ rs ms b. (statement.OnDatabase (on_database.Defining (defining.RevokeRole (record { admin_option_for = false; roles = rs; members = ms; behavior = b })))))
    ▹ U unreserved.Revoke ⊛ listed name ▹ R reserved.From ⊛ listed name ⊛ optional a_behavior

-- REVOKE ADMIN OPTION FOR names FROM names [CASCADE | RESTRICT]
abbrev pub revoke_admin_option : Phrase Statement
revoke_admin_option = gives (λ rs ms b. (statement.OnDatabase (on_database.Defining (defining.RevokeRole (record { admin_option_for = true; roles = rs; members = ms; behavior = b })))))
    ▹ U unreserved.Revoke ▹ U unreserved.Admin ▹ U unreserved.Option ▹ R reserved.For ⊛ listed name ▹ R reserved.From ⊛ listed name ⊛ optional a_behavior

-- NONE | name
abbrev pub role_or_none : Phrase (Option (List ℕ))
role_or_none = gives None ▹ R reserved.None ∣ gives Some ⊛ name

-- SET ROLE (NONE | name)
abbrev pub set_role : Phrase Statement
set_role = gives (λ r. (statement.OfSession (of_session.SetRole (record { role = r })))) ▹ U unreserved.Set ▹ U unreserved.Role ⊛ role_or_none

-- RESET ROLE
abbrev pub reset_role : Phrase Statement
reset_role = gives (statement.OfSession of_session.ResetRole) ▹ U unreserved.Reset ▹ U unreserved.Role

-- ---- tables

-- BIGINT | TEXT | BOOLEAN | BOOL
abbrev pub a_type : Phrase ColumnType
a_type = word_of ((U unreserved.Bigint, type.BigInt) ∷ (U unreserved.Text, type.Text) ∷ (U unreserved.Boolean, type.Boolean) ∷ (U unreserved.Bool, type.Boolean) ∷ [])

-- NOT NULL | PRIMARY KEY
abbrev pub a_constraint : Phrase ColumnConstraint
a_constraint = gives constraint.NotNull ▹ R reserved.Not ▹ R reserved.Null ∣ gives constraint.PrimaryKey ▹ R reserved.Primary ▹ U unreserved.Key

-- PRIMARY KEY "(" names ")" | name type {NOT NULL | PRIMARY KEY}
abbrev pub an_element : Phrase TableElement
an_element = gives element.PrimaryKey ▹ R reserved.Primary ▹ U unreserved.Key ⊛ parenthesized name
    ∣ gives (λ n t cs. element.Column (record { column = n; column_type = t; constraints = cs })) ⊛ name ⊛ a_type ⊛ many a_constraint

-- CREATE TABLE name "(" element {"," element} ")"
abbrev pub create_table : Phrase Statement
create_table = gives (λ t es. (statement.OnDatabase (on_database.Defining (defining.CreateTable (record { table = t; elements = es })))))
    ▹ R reserved.Create ▹ R reserved.Table ⊛ name ⊛ parenthesized an_element

-- DROP TABLE name
abbrev pub drop_table : Phrase Statement
drop_table = gives (λ t. (statement.OnDatabase (on_database.Defining (defining.DropTable (record { table = t }))))) ▹ U unreserved.Drop ▹ R reserved.Table ⊛ name

-- NO FORCE | ENABLE | DISABLE | FORCE
abbrev pub a_change : Phrase RowSecurityChange
a_change = gives change.NoForce ▹ U unreserved.No ▹ U unreserved.Force
    ∣ word_of ((U unreserved.Enable, change.Enable) ∷ (U unreserved.Disable, change.Disable) ∷ (U unreserved.Force, change.Force) ∷ [])

-- ALTER TABLE name (ENABLE | DISABLE | FORCE | NO FORCE) ROW LEVEL SECURITY
abbrev pub alter_table : Phrase Statement
alter_table = gives (λ t c. (statement.OnDatabase (on_database.Defining (defining.AlterTable (record { table = t; change = c })))))
    ▹ U unreserved.Alter ▹ R reserved.Table ⊛ name ⊛ a_change ▹ U unreserved.Row ▹ U unreserved.Level ▹ U unreserved.Security

-- ---- policies

-- PERMISSIVE | RESTRICTIVE
abbrev pub a_policy_kind : Phrase PolicyKind
a_policy_kind = word_of ((U unreserved.Permissive, policy_kind.Permissive) ∷ (U unreserved.Restrictive, policy_kind.Restrictive) ∷ [])

-- ALL | SELECT | INSERT | UPDATE | DELETE
abbrev pub a_policy_command : Phrase PolicyCommand
a_policy_command = word_of (
    (R reserved.All, policy_command.All) ∷ (R reserved.Select, policy_command.Only action.Select) ∷
    (U unreserved.Insert, policy_command.Only action.Insert) ∷ (U unreserved.Update, policy_command.Only action.Update) ∷
    (U unreserved.Delete, policy_command.Only action.Delete) ∷ [])

-- "(" expr ")", with the expression's text in this source
abbrev pub enclosed : List ℕ → Phrase PolicyClause
enclosed source = gives (λ c. c) ▹ P Open ⊛ clause source ▹ P Close

-- USING "(" expr ")"
abbrev pub a_using : List ℕ → Phrase PolicyClause
a_using source = after (R reserved.Using) (enclosed source)

-- WITH CHECK "(" expr ")"
abbrev pub a_check : List ℕ → Phrase PolicyClause
a_check source = gives (λ c. c) ▹ R reserved.With ▹ R reserved.Check ⊛ enclosed source

-- CREATE POLICY name ON name [AS kind] [FOR command] [TO grantees] [USING "(" expr ")"] [WITH CHECK "(" expr ")"]
abbrev pub create_policy : List ℕ → Phrase Statement
create_policy source = gives (λ p t k c gs u w. (statement.OnDatabase (on_database.Defining (defining.CreatePolicy (record { policy = p; table = t; kind = k; command = c; grantees = gs; using = u; check = w })))))
    ▹ R reserved.Create ▹ U unreserved.Policy ⊛ name ▹ R reserved.On ⊛ name
    ⊛ optional (after (R reserved.As) a_policy_kind) ⊛ optional (after (R reserved.For) a_policy_command)
    ⊛ optional (after (R reserved.To) (listed a_grantee)) ⊛ optional (a_using source) ⊛ optional (a_check source)

-- DROP POLICY name ON name
abbrev pub drop_policy : Phrase Statement
drop_policy = gives (λ p t. (statement.OnDatabase (on_database.Defining (defining.DropPolicy (record { policy = p; table = t })))))
    ▹ U unreserved.Drop ▹ U unreserved.Policy ⊛ name ▹ R reserved.On ⊛ name

-- ---- privileges

-- ["(" names ")"]
abbrev pub some_columns : Phrase (Option (List (List ℕ)))
some_columns = optional (parenthesized name)

-- (SELECT | INSERT | UPDATE | DELETE) ["(" names ")"]
abbrev pub a_named_action : Phrase NamedAction
a_named_action = gives (λ a cs. record { action = a; columns = cs }) ⊛ an_action ⊛ some_columns

-- ALL [PRIVILEGES] ["(" names ")"] | action {"," action}, where an action may have columns of its own
abbrev pub some_privileges : Phrase Privileges
some_privileges = gives (λ u cs. privileges.All cs) ▹ R reserved.All ⊛ noise (U unreserved.Privileges) ⊛ some_columns
    ∣ gives privileges.Actions ⊛ listed a_named_action

-- GRANT privileges ON [TABLE] name TO grantees [WITH GRANT OPTION]
abbrev pub grant : Phrase Statement
grant = gives (λ ps u t gs o. (statement.OnDatabase (on_database.Defining (defining.Grant (record { privileges = ps; table = t; grantees = gs; with_grant_option = o })))))
    ▹ R reserved.Grant ⊛ some_privileges ▹ R reserved.On ⊛ noise (R reserved.Table) ⊛ name ▹ R reserved.To ⊛ listed a_grantee
    ⊛ three_words (R reserved.With) (R reserved.Grant) (U unreserved.Option)

-- REVOKE [GRANT OPTION FOR] privileges ON [TABLE] name FROM grantees [CASCADE | RESTRICT]
abbrev pub revoke : Phrase Statement
revoke = gives (λ o ps u t gs b. (statement.OnDatabase (on_database.Defining (defining.Revoke (record { grant_option_for = o; privileges = ps; table = t; grantees = gs; behavior = b })))))
    ▹ U unreserved.Revoke ⊛ three_words (R reserved.Grant) (U unreserved.Option) (R reserved.For) ⊛ some_privileges
    ▹ R reserved.On ⊛ noise (R reserved.Table) ⊛ name ▹ R reserved.From ⊛ listed a_grantee ⊛ optional a_behavior

-- ---- rows

-- "(" expr {"," expr} ")"
abbrev pub a_row : Phrase (List Tree)
a_row = parenthesized expr

-- INSERT INTO name ["(" names ")"] VALUES row {"," row}, where a row is "(" expr {"," expr} ")"
abbrev pub insert : Phrase Statement
insert = gives (λ t cs rs. (statement.OnDatabase (on_database.OverRows (over_rows.Insert (record { table = t; columns = cs; rows = rs })))))
    ▹ U unreserved.Insert ▹ R reserved.Into ⊛ name ⊛ optional (parenthesized name) ▹ U unreserved.Values ⊛ listed a_row

-- name "=" expr
abbrev pub an_assignment : Phrase Assignment
an_assignment = gives (λ c v. record { column = c; value = v }) ⊛ name ▹ P Equal ⊛ expr

-- UPDATE name SET assignment {"," assignment} [WHERE expr]
abbrev pub update : Phrase Statement
update = gives (λ t xs c. (statement.OnDatabase (on_database.OverRows (over_rows.Update (record { table = t; assignments = xs; condition = c })))))
    ▹ U unreserved.Update ⊛ name ▹ U unreserved.Set ⊛ listed an_assignment ⊛ a_condition

-- DELETE FROM name [WHERE expr]
abbrev pub delete : Phrase Statement
delete = gives (λ t c. (statement.OnDatabase (on_database.OverRows (over_rows.Delete (record { table = t; condition = c }))))) ▹ U unreserved.Delete ▹ R reserved.From ⊛ name ⊛ a_condition

-- ---- queries

-- [AS name | name]
abbrev pub an_alias : Phrase (Option (List ℕ))
an_alias = gives Some ▹ R reserved.As ⊛ name ∣ optional name

-- name [[AS] name]
abbrev pub a_table : Phrase TableReference
a_table = gives (λ t a. record { table = t; alias = a }) ⊛ name ⊛ an_alias

-- CROSS JOIN table
abbrev pub cross_join : Phrase Join
cross_join = gives (λ t. record { table = t; condition = None }) ▹ R reserved.Cross ▹ R reserved.Join ⊛ a_table

-- INNER JOIN table ON expr
abbrev pub inner_join : Phrase Join
inner_join = gives (λ t e. record { table = t; condition = Some e }) ▹ R reserved.Inner ▹ R reserved.Join ⊛ a_table ▹ R reserved.On ⊛ expr

-- JOIN table ON expr
abbrev pub plain_join : Phrase Join
plain_join = gives (λ t e. record { table = t; condition = Some e }) ▹ R reserved.Join ⊛ a_table ▹ R reserved.On ⊛ expr

-- CROSS JOIN table | [INNER] JOIN table ON expr
abbrev pub a_join : Phrase Join
a_join = cross_join ∣ (inner_join ∣ plain_join)

-- what follows the first table: further tables, or joins
abbrev pub more_tables : Phrase MoreTables
more_tables = gives more.Tables ▹ P Comma ⊛ listed a_table ∣ gives more.Joins ⊛ many a_join

-- the tables of FROM by the first of them and what follows it
abbrev pub from_clause : TableReference → MoreTables → FromClause
from_clause t (more.Tables ts) = from.List (t ∷ ts)
from_clause t (more.Joins []) = from.List (t ∷ [])
from_clause t (more.Joins (j ∷ js)) = from.Joined t (j ∷ js)

-- table {"," table} | table {join}
abbrev pub some_tables : Phrase FromClause
some_tables = gives from_clause ⊛ a_table ⊛ more_tables

-- ASC | DESC
abbrev pub a_direction : Phrase SortDirection
a_direction = word_of ((R reserved.Asc, direction.Ascending) ∷ (R reserved.Desc, direction.Descending) ∷ [])

-- expr [ASC | DESC], where the expression is no number by itself
abbrev pub a_sort_key : Phrase SortKey
a_sort_key = gives (λ e d. record { value = e; direction = d }) ⊛ sort_key_expression ⊛ optional a_direction

-- ORDER BY key {"," key}
abbrev pub an_order : Phrase (List SortKey)
an_order = gives (λ ks. ks) ▹ R reserved.Order ▹ U unreserved.By ⊛ listed a_sort_key

-- tables [WHERE expr] [ORDER BY key {"," key}] [LIMIT number]
abbrev pub a_source : Phrase TableExpression
a_source = gives (λ ts c o l. record { tables = ts; condition = c; order = o; limit = l })
    ⊛ some_tables ⊛ a_condition ⊛ optional an_order ⊛ optional (after (R reserved.Limit) number)

-- "*" | expr {"," expr}
abbrev pub a_select_list : Phrase SelectList
a_select_list = gives list.Asterisk ▹ P Star ∣ gives list.Expressions ⊛ listed expr

-- SELECT list [FROM source]
abbrev pub select : Phrase Statement
select = gives (λ l s. (statement.OnDatabase (on_database.OverRows (over_rows.Select (record { list = l; source = s })))))
    ▹ R reserved.Select ⊛ a_select_list ⊛ optional (after (R reserved.From) a_source)

-- SELECT COUNT "(" "*" ")" [FROM source]
abbrev pub select_count : Phrase Statement
select_count = gives (λ s. (statement.OnDatabase (on_database.OverRows (over_rows.Select (record { list = list.Count; source = s })))))
    ▹ R reserved.Select ▹ U unreserved.Count ▹ P Open ▹ P Star ▹ P Close ⊛ optional (after (R reserved.From) a_source)

-- ---- transactions

-- [WORK | TRANSACTION]
abbrev pub work : Phrase (Unit {0})
work = gives tt ▹ U unreserved.Work ∣ noise (U unreserved.Transaction)

-- BEGIN [WORK | TRANSACTION]
abbrev pub begin : Phrase Statement
begin = gives (λ u. (statement.OfSession of_session.Begin)) ▹ U unreserved.Begin ⊛ work

-- START TRANSACTION
abbrev pub start_transaction : Phrase Statement
start_transaction = gives (statement.OfSession of_session.Begin) ▹ U unreserved.Start ▹ U unreserved.Transaction

-- COMMIT [WORK | TRANSACTION]
abbrev pub commit : Phrase Statement
commit = gives (λ u. (statement.OfSession of_session.Commit)) ▹ U unreserved.Commit ⊛ work

-- ROLLBACK [WORK | TRANSACTION]
abbrev pub rollback : Phrase Statement
rollback = gives (λ u. (statement.OfSession of_session.Rollback)) ▹ U unreserved.Rollback ⊛ work

-- ---- the table of statements

-- the phrase of each command, in a text that is this source
abbrev pub phrase_of : List ℕ → Command → Phrase Statement
phrase_of source production.CreateRole = create_role
phrase_of source production.DropRole = drop_role
phrase_of source production.GrantRole = grant_role
phrase_of source production.RevokeRole = revoke_role
phrase_of source production.RevokeAdminOption = revoke_admin_option
phrase_of source production.SetRole = set_role
phrase_of source production.ResetRole = reset_role
phrase_of source production.CreateTable = create_table
phrase_of source production.DropTable = drop_table
phrase_of source production.AlterTable = alter_table
phrase_of source production.CreatePolicy = create_policy source
phrase_of source production.DropPolicy = drop_policy
phrase_of source production.Grant = grant
phrase_of source production.Revoke = revoke
phrase_of source production.Insert = insert
phrase_of source production.Update = update
phrase_of source production.Delete = delete
phrase_of source production.Select = select
phrase_of source production.SelectCount = select_count
phrase_of source production.Begin = begin
phrase_of source production.StartTransaction = start_transaction
phrase_of source production.Commit = commit
phrase_of source production.Rollback = rollback
