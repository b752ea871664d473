-- What is proved of each statement that concerns the database, and of each event.
use Rattle.std.proofs.Common.{◌≡◌, map, Ok, Err}
use Rattle.sql_types.specs.declared.answer.Answer.TheVariants as answer
use Rattle.sql_ast.specs.declared.statement.DatabaseStatement.{DatabaseStatement}
use Rattle.sql_ast.specs.declared.statement.DatabaseStatement.TheVariants as on_database
use Rattle.sql_ast.specs.declared.statement.RowStatement.{RowStatement}
use Rattle.sql_ast.specs.declared.statement.RowStatement.TheVariants as over_rows
use Rattle.sql_ast.specs.declared.statement.Select.{Select}
use Rattle.sql_ast.specs.OverRows.{IsReadOverRows}
use Rattle.sql_ast.specs.Statements.{IsReadOnDatabase, IsRead}
use Rattle.expressions.specs.Meaning.{UserNames}
use Rattle.abstract_database.specs.Database.{Table, Database}
use Rattle.abstract_database.specs.Queries.{query}
use Rattle.abstract_database.specs.Checks.{checked_select}
use Rattle.abstract_database.specs.Statements.{Effect, effect, source_of, selected, select, UserPair, as_seen, define, exec_over_rows, exec_as, exec}
use Rattle.abstract_database.specs.Machine.{Event, opens, executes, closes, Reading}
use Rattle.abstract_database.specs.Whole.{IsWhole, AreRolesOf}
use Rattle.abstract_database.proofs.ResultLemmas.{Every, every_bind, every_ok}
use Rattle.database_laws.specs.Definitions.{definers_may_define, who_may_define_does}
use Rattle.database_laws.specs.Stages.{checked_then_performed, checks_read_no_rows}
use Rattle.database_laws.specs.Tables.{EachTable}
use Rattle.database_laws.specs.WholeDatabases.{each_statement_keeps_whole, IsReadReading, IsReadEvent, whole_for_ever, conditions_come_from_statements}
use Rattle.database_laws.proofs.Defining.{WholeAfter}
use Rattle.database_laws.proofs.EachDefinition.{each_definition}
use Rattle.database_laws.proofs.EffectLemmas.{Answers, over_rows_answers}
use Rattle.database_laws.proofs.OrderLemmas.{ordered}
use Rattle.database_laws.proofs.TableLemmas.{TablesFrom, over_rows_tables, Lasts, lasts_from}
use Rattle.database_laws.proofs.WholeTexts.{over_rows_known}
use Rattle.database_laws.proofs.StageLemmas.{defined_then, defines_same, over_rows_staged, over_rows_apart}
use Rattle.database_laws.proofs.LastingLemmas.{OfReading, OfEvent, read_transition_holds}
use Rattle.database_laws.proofs.WholeRoles.{whole_of, aside_of}
use Rattle.database_laws.proofs.WholeRows.{insert_whole, update_whole, delete_whole}

-- ---- what it answers is no refusal

pub exec_answers : (db : Database) (pair : UserPair) (x : DatabaseStatement) → Every Answers (exec db pair x)
exec_answers db pair (on_database.Defining x) = λ e is. ((each_definition db (as_seen pair db) x).lawful e is).answers
exec_answers db pair (on_database.OverRows x) = over_rows_answers db (as_seen pair db) x

-- ---- who may issue it

pub may_define : definers_may_define
may_define db users x = (each_definition db users x).may

pub spared : who_may_define_does
spared db users x = (each_definition db users x).spared

-- ---- its checks come first, and read no rows

pub staged : checked_then_performed
staged db pair (on_database.Defining x) = defined_then db (as_seen pair db) (define db (as_seen pair db) x)
staged db pair (on_database.OverRows x) = over_rows_staged db (as_seen pair db) x

pub reads_no_rows : checks_read_no_rows
reads_no_rows db users (on_database.Defining x) = defines_same _ (define db users x) (each_definition db users x).apart
reads_no_rows db users (on_database.OverRows x) = over_rows_apart db users x

-- ---- the tables after it

exec_tables : (db : Database) (users : UserNames) (x : DatabaseStatement) → Every (TablesFrom db) (exec_as db users x)
exec_tables db users (on_database.Defining x) = λ e is. ((each_definition db users x).lawful e is).tables
exec_tables db users (on_database.OverRows x) = over_rows_tables db users x

pub lasts : (Q R : Table → Type 0) → Lasts Q R → (db : Database) (users : UserNames) (x : DatabaseStatement) (e : Effect) → exec_as db users x ≡ Ok e → EachTable R e.database → EachTable Q db → EachTable Q e.database
lasts Q R l db users x e is r q = λ t h. lasts_from Q R l db q t (r t h) (exec_tables db users x e is t h)

-- ---- the conditions of policies after it

pub clauses_known : conditions_come_from_statements
clauses_known db pair (on_database.Defining x) e is = ((each_definition db (as_seen pair db) x).lawful e is).known
clauses_known db pair (on_database.OverRows x) e is = over_rows_known db (as_seen pair db) x e is

-- ---- databases stay whole

select_whole : (db : Database) (users : UserNames) (s : Select) → IsWhole db → Every WholeAfter (select db users s)
select_whole db users s w =
    every_bind WholeAfter (checked_select db users s) (selected db users) (λ c c-is.
    every_bind WholeAfter (query (map (source_of db users) c.tables) users c.query) _ (λ rows rows-is.
    every_ok WholeAfter (effect (answer.Rows rows) db) (aside_of db w)))

over_rows_whole : (db : Database) (users : UserNames) (x : RowStatement) → IsReadOverRows x → IsWhole db →
    AreRolesOf db users → Every WholeAfter (exec_over_rows db users x)
over_rows_whole db users (over_rows.Insert s) read w are = insert_whole db users s read w are
over_rows_whole db users (over_rows.Update s) read w are = update_whole db users s read w are
over_rows_whole db users (over_rows.Delete s) read w are = delete_whole db users s w
over_rows_whole db users (over_rows.Select s) read w are = select_whole db users s w

each_whole : (db : Database) (users : UserNames) (x : DatabaseStatement) → IsReadOnDatabase x → IsWhole db →
    AreRolesOf db users → Every WholeAfter (exec_as db users x)
each_whole db users (on_database.Defining x) = (each_definition db users x).whole
each_whole db users (on_database.OverRows x) = over_rows_whole db users x

pub kept_for : (db : Database) (users : UserNames) (x : DatabaseStatement) (e : Effect) → IsReadOnDatabase x → IsWhole db → AreRolesOf db users → exec_as db users x ≡ Ok e → IsWhole e.database
kept_for db users x e read w are is =
    whole_of e.database (ordered db users x e is w.definitions.order) (each_whole db users x read w are e is)

pub each_kept : each_statement_keeps_whole
each_kept db pair x e read w are is = kept_for db (as_seen pair db) x e read w are is

-- ---- events

of_reading : (reading : Reading) → IsReadReading reading → OfReading IsRead reading
of_reading (Ok x) read = read
of_reading (Err code) read = tt

of_event : (event : Event Reading) → IsReadEvent event → OfEvent IsRead event
of_event (opens number login) read = tt
of_event (executes number reading) read = of_reading reading read
of_event (closes number) read = tt

pub events_kept : whole_for_ever
events_kept m event read w h = read_transition_holds IsWhole IsRead (λ db pair x e may are is whole. each_kept db pair x e may whole are is) m event (of_event event read) w h
