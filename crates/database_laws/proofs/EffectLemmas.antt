-- What a statement answers where it is not refused is no refusal.
use Rattle.std.proofs.Common.{◌≡◌, ℕ, false, List, map, length}
use Rattle.sql_types.specs.declared.state.SqlState.{SqlState}
use Rattle.sql_types.specs.declared.answer.Answer.TheVariants as answer
use Rattle.sql_types.specs.declared.tag.Tag.{Tag}
use Rattle.sql_types.specs.declared.tag.Tag.TheVariants as tag
use Rattle.sql_types.specs.Row.{Row}
use Rattle.sql_ast.specs.declared.privilege.Action.TheVariants as action
use Rattle.sql_ast.specs.declared.statement.RowStatement.{RowStatement}
use Rattle.sql_ast.specs.declared.statement.RowStatement.TheVariants as over_rows
use Rattle.sql_ast.specs.declared.statement.Insert.{Insert}
use Rattle.sql_ast.specs.declared.statement.Update.{Update}
use Rattle.sql_ast.specs.declared.statement.Delete.{Delete}
use Rattle.sql_ast.specs.declared.statement.Select.{Select}
use Rattle.expressions.specs.Meaning.{UserNames}
use Rattle.abstract_database.specs.Database.{Database, rows_named}
use Rattle.abstract_database.specs.Guards.{existing_guard, new_guard}
use Rattle.abstract_database.specs.Queries.{query}
use Rattle.abstract_database.specs.Changes.{rows_inserted, rows_updated, rows_deleted}
use Rattle.abstract_database.specs.Definitions.{with_rows_of}
use Rattle.abstract_database.specs.Checks.{checked_insert, checked_update, checked_delete, checked_select}
use Rattle.abstract_database.specs.Statements.{Effect, effect, done, counted, exec_over_rows, source_of, inserted, updated, deleted, selected, insert, update, delete, select}
use Rattle.abstract_database.proofs.ResultLemmas.{Every, every_bind, every_ok}

abbrev pub Answers : Effect → Type 0
Answers e = (code : SqlState) → e.answer ≡ answer.Refused code → ⊥

pub done_answers : (t : Tag) (db : Database) → Answers (done t db)
done_answers t db = λ code e. cc

counted_answers : (t : Tag) (count : ℕ) (db : Database) → Answers (counted t count db)
counted_answers t count db = λ code e. cc

rows_answer : (rows : List Row) (db : Database) → Answers (effect (answer.Rows rows) db)
rows_answer rows db = λ code e. cc

module _ (db : Database) (users : UserNames) where
  insert_answers : (s : Insert) → Every Answers (insert db users s)
  insert_answers s = every_bind Answers (checked_insert db users s) (inserted db users) (λ c is. every_bind Answers (rows_inserted (new_guard db users c.table action.Insert false) users c (rows_named db c.table.name)) _
      (λ rows rows-is. every_ok Answers (counted tag.Insert (length c.rows) (with_rows_of c.table.name rows db)) (counted_answers tag.Insert (length c.rows) (with_rows_of c.table.name rows db))))

  update_answers : (s : Update) → Every Answers (update db users s)
  update_answers s = every_bind Answers (checked_update db users s) (updated db users) (λ c is. every_bind Answers (rows_updated (existing_guard db users c.table action.Update c.reads) (new_guard db users c.table action.Update c.reads) users c (rows_named db c.table.name)) _
      (λ changed changed-is. every_ok Answers (counted tag.Update changed.count (with_rows_of c.table.name changed.rows db)) (counted_answers tag.Update changed.count (with_rows_of c.table.name changed.rows db))))

  delete_answers : (s : Delete) → Every Answers (delete db users s)
  delete_answers s = every_bind Answers (checked_delete db users s) (deleted db users) (λ c is. every_bind Answers (rows_deleted (existing_guard db users c.table action.Delete c.reads) users c (rows_named db c.table.name)) _
      (λ changed changed-is. every_ok Answers (counted tag.Delete changed.count (with_rows_of c.table.name changed.rows db)) (counted_answers tag.Delete changed.count (with_rows_of c.table.name changed.rows db))))

  select_answers : (s : Select) → Every Answers (select db users s)
  select_answers s = every_bind Answers (checked_select db users s) (selected db users) (λ c is. every_bind Answers (query (map (source_of db users) c.tables) users c.query) _ (λ rows rows-is. every_ok Answers (effect (answer.Rows rows) db) (rows_answer rows db)))

pub over_rows_answers : (db : Database) (users : UserNames) (x : RowStatement) → Every Answers (exec_over_rows db users x)
over_rows_answers db users (over_rows.Insert s) = insert_answers db users s
over_rows_answers db users (over_rows.Update s) = update_answers db users s
over_rows_answers db users (over_rows.Delete s) = delete_answers db users s
over_rows_answers db users (over_rows.Select s) = select_answers db users s
