-- The lists of a database stay in their orders.
use Rattle.std.proofs.Common.{◌≡◌, Ok, false, map, length}
use Rattle.sql_ast.specs.declared.statement.DatabaseStatement.{DatabaseStatement}
use Rattle.sql_ast.specs.declared.statement.DatabaseStatement.TheVariants as on_database
use Rattle.sql_ast.specs.declared.statement.RowStatement.{RowStatement}
use Rattle.sql_ast.specs.declared.statement.RowStatement.TheVariants as over_rows
use Rattle.sql_ast.specs.declared.statement.Insert.{Insert}
use Rattle.sql_ast.specs.declared.statement.Update.{Update}
use Rattle.sql_ast.specs.declared.statement.Delete.{Delete}
use Rattle.sql_ast.specs.declared.statement.Select.{Select}
use Rattle.expressions.specs.Meaning.{UserNames}
use Rattle.abstract_database.specs.Database.{Database, rows_named}
use Rattle.abstract_database.specs.Guards.{existing_guard, new_guard}
use Rattle.abstract_database.specs.Queries.{query}
use Rattle.abstract_database.specs.Changes.{rows_inserted, rows_updated, rows_deleted}
use Rattle.abstract_database.specs.Definitions.{with_rows_of}
use Rattle.abstract_database.specs.Whole.{IsInOrder}
use Rattle.abstract_database.proofs.ResultLemmas.{Every, every_bind, every_ok}
use Rattle.database_laws.proofs.RisingLemmas.{rows_rise}
use Rattle.database_laws.proofs.EachDefinition.{each_definition}
use Rattle.abstract_database.specs.Checks.{checked_insert, checked_update, checked_delete, checked_select}
use Rattle.abstract_database.specs.Statements.{Effect, effect, counted, exec_as, exec_over_rows, source_of, inserted, updated, deleted, selected, insert, update, delete, select}
use Rattle.sql_types.specs.declared.answer.Answer.TheVariants as answer
use Rattle.sql_types.specs.declared.tag.Tag.TheVariants as tag
use Rattle.sql_ast.specs.declared.privilege.Action.TheVariants as action

-- ---- statements

abbrev OrderAfter : Effect → Type 0
OrderAfter e = IsInOrder e.database

insert_ordered : (db : Database) (users : UserNames) (s : Insert) → IsInOrder db → Every OrderAfter (insert db users s)
insert_ordered db users s q = every_bind OrderAfter (checked_insert db users s) (inserted db users) (λ c is. every_bind OrderAfter (rows_inserted (new_guard db users c.table action.Insert false) users c (rows_named db c.table.name)) _
    (λ rows rows-is. every_ok OrderAfter (counted tag.Insert (length c.rows) (with_rows_of c.table.name rows db)) (record { roles = q.roles; memberships = q.memberships; tables = rows_rise c.table.name rows db.tables q.tables; descriptors = q.descriptors; policies = q.policies })))

update_ordered : (db : Database) (users : UserNames) (s : Update) → IsInOrder db → Every OrderAfter (update db users s)
update_ordered db users s q = every_bind OrderAfter (checked_update db users s) (updated db users) (λ c is. every_bind OrderAfter (rows_updated (existing_guard db users c.table action.Update c.reads) (new_guard db users c.table action.Update c.reads) users c (rows_named db c.table.name)) _
    (λ changed changed-is. every_ok OrderAfter (counted tag.Update changed.count (with_rows_of c.table.name changed.rows db)) (record { roles = q.roles; memberships = q.memberships; tables = rows_rise c.table.name changed.rows db.tables q.tables; descriptors = q.descriptors; policies = q.policies })))

delete_ordered : (db : Database) (users : UserNames) (s : Delete) → IsInOrder db → Every OrderAfter (delete db users s)
delete_ordered db users s q = every_bind OrderAfter (checked_delete db users s) (deleted db users) (λ c is. every_bind OrderAfter (rows_deleted (existing_guard db users c.table action.Delete c.reads) users c (rows_named db c.table.name)) _
    (λ changed changed-is. every_ok OrderAfter (counted tag.Delete changed.count (with_rows_of c.table.name changed.rows db)) (record { roles = q.roles; memberships = q.memberships; tables = rows_rise c.table.name changed.rows db.tables q.tables; descriptors = q.descriptors; policies = q.policies })))

select_ordered : (db : Database) (users : UserNames) (s : Select) → IsInOrder db → Every OrderAfter (select db users s)
select_ordered db users s q = every_bind OrderAfter (checked_select db users s) (selected db users) (λ c is. every_bind OrderAfter (query (map (source_of db users) c.tables) users c.query) _ (λ rows rows-is. every_ok OrderAfter (effect (answer.Rows rows) db) q))

over_rows_ordered : (db : Database) (users : UserNames) (x : RowStatement) →
    IsInOrder db → Every OrderAfter (exec_over_rows db users x)
over_rows_ordered db users (over_rows.Insert s) q = insert_ordered db users s q
over_rows_ordered db users (over_rows.Update s) q = update_ordered db users s q
over_rows_ordered db users (over_rows.Delete s) q = delete_ordered db users s q
over_rows_ordered db users (over_rows.Select s) q = select_ordered db users s q

exec_ordered : (db : Database) (users : UserNames) (x : DatabaseStatement) → IsInOrder db → Every OrderAfter (exec_as db users x)
exec_ordered db users (on_database.Defining x) q = λ e is. ((each_definition db users x).lawful e is).ordered q
exec_ordered db users (on_database.OverRows x) q = over_rows_ordered db users x q

pub ordered : (db : Database) (users : UserNames) (x : DatabaseStatement) (e : Effect) → exec_as db users x ≡ Ok e → IsInOrder db → IsInOrder e.database
ordered db users x e is q = exec_ordered db users x q e is
