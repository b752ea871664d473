-- What may come in place of the machine's own answer, and what may not: refusals of memory, space, commit number, device.
use Rattle.std.specs.Prelude.{◌≡◌, ◌^◌, ◌-◌, ℕ, true, List, [], ◌∷◌, ◌++◌, map, codes, Ok}
use Rattle.sql_types.specs.declared.state.SqlState.{SqlState}
use Rattle.sql_types.specs.declared.state.SqlState.TheVariants as state
use Rattle.sql_types.specs.declared.answer.Answer.TheVariants as answer
use Rattle.sql_types.specs.declared.tag.Tag.TheVariants as tag
use Rattle.sql_ast.specs.declared.columns.ColumnType.TheVariants as type
use Rattle.sql_ast.specs.declared.statement.Statement.{Statement}
use Rattle.sql_ast.specs.declared.statement.Statement.TheVariants as statement
use Rattle.sql_ast.specs.declared.statement.SessionStatement.TheVariants as of_session
use Rattle.abstract_database.specs.Machine.{executes, opens, closes, Machine}
use Rattle.abstract_database.specs.Runs.{ReadingRelation, Counts, IsStep}
use Rattle.database_examples.specs.Expressions.{num, long_text}
use Rattle.database_examples.specs.Wording.{one, counting, create_table, key_column, plain_column, insert_key, insert_pair, select_keys, select_count, from_tables, the_table}
use Rattle.database_examples.specs.Lines.{a, r, ok, inserted, numbers, refused, machine_after, Line, ◌gives◌, AnswersFrom, ready, Shows}

-- every text reads as this statement
abbrev pub reads_as : Statement → ReadingRelation
reads_as x text reading = reading ≡ Ok x

-- a store's counts: its last commit's number, how often it was full, how often its device failed, and the device counts as many
abbrev pub counts : ℕ → ℕ → ℕ → Counts
counts number fulls failures = record { number = number; fulls = fulls; failures = failures; faults = failures }

-- ann's statement, over a store with these counts before and after, may be refused with the code, and leaves this machine
abbrev pub MayRefuse : SqlState → Machine → Counts → Counts → Statement → Machine → Type 0
MayRefuse code m old new x after = IsStep (reads_as x) old new m (executes 2 []) (answer.Refused code) after

-- ann in a block that has put a row in
abbrev pub in_a_block : Machine
in_a_block = machine_after ready (a (statement.OfSession of_session.Begin) ∷ a (insert_key 1) ∷ [])

-- ---- 53100: no space

-- an INSERT outside a block may be refused where the store was full during it, and then changes nothing
abbrev pub full_store_refuses : Type 0
full_store_refuses = MayRefuse state.DiskFull ready (counts 5 0 0) (counts 5 1 0) (insert_key 1) ready

-- so it may where the count of full stores is at its greatest and rises no more
abbrev pub greatest_count_refuses : Type 0
greatest_count_refuses = MayRefuse state.DiskFull ready (counts 5 (2 ^ 64 - 1) 0) (counts 5 (2 ^ 64 - 1) 0) (insert_key 1) ready

-- it may not where that count stays
abbrev pub store_with_room_refuses_nothing : Type 0
store_with_room_refuses_nothing = (after : Machine) → MayRefuse state.DiskFull ready (counts 5 3 0) (counts 6 3 0) (insert_key 1) after → ⊥

-- the COMMIT of the holder may be refused, and leaves the block as it was
abbrev pub full_store_refuses_a_commit : Type 0
full_store_refuses_a_commit = MayRefuse state.DiskFull in_a_block (counts 5 0 0) (counts 5 1 0) (statement.OfSession of_session.Commit) in_a_block

-- an INSERT within a block may not, whatever the store counts
abbrev pub no_statement_of_a_block : Type 0
no_statement_of_a_block = (old new : Counts) (after : Machine) → MayRefuse state.DiskFull in_a_block old new (insert_key 2) after → ⊥

-- nor may a SELECT
abbrev pub no_query : Type 0
no_query = (old new : Counts) (after : Machine) → MayRefuse state.DiskFull ready old new select_keys after → ⊥

-- root in a block that has put 20 rows with texts of 1,000 bytes in
abbrev pub with_20_rows : List Line
with_20_rows =
    (r (create_table "big" (key_column "k" type.BigInt ∷ plain_column "v" type.Text ∷ [])) gives ok tag.CreateTable)
    ∷ (r (statement.OfSession of_session.Begin) gives ok tag.Begin)
    ∷ map (λ k. r (insert_pair "big" (num k) (long_text 1000)) gives inserted 1) (counting 20)

abbrev pub count_of_big : Statement
count_of_big = select_count (from_tables (one (the_table "big")))

-- a block's rows are there until it is rolled back
abbrev pub block_of_20_rows : Type 0
block_of_20_rows = Shows (with_20_rows
    ++ (r count_of_big gives numbers (20 ∷ []))
    ∷ (r (statement.OfSession of_session.Rollback) gives ok tag.Rollback)
    ∷ (r count_of_big gives numbers (0 ∷ []))
    ∷ [])

abbrev pub machine_with_20_rows : Machine
machine_with_20_rows = machine_after ready (map (λ line. line.event) with_20_rows)

-- where the store was full at its COMMIT, this is refused, and the block goes on as it was
abbrev pub block_of_20_rows_stays : Type 0
block_of_20_rows_stays = IsStep (reads_as (statement.OfSession of_session.Commit)) (counts 5 0 0) (counts 5 1 0) machine_with_20_rows (executes 1 []) (answer.Refused state.DiskFull) machine_with_20_rows

-- ---- 54000: no further commit number

-- an INSERT outside a block may be refused once the last commit's number is the greatest
abbrev pub greatest_number_refuses : Type 0
greatest_number_refuses = MayRefuse state.ProgramLimitExceeded ready (counts (2 ^ 64 - 1) 0 0) (counts (2 ^ 64 - 1) 0 0) (insert_key 1) ready

-- it may not before
abbrev pub number_before_the_greatest : Type 0
number_before_the_greatest = (new : Counts) (after : Machine) → MayRefuse state.ProgramLimitExceeded ready (counts (2 ^ 64 - 2) 0 0) new (insert_key 1) after → ⊥

-- ---- 58030: a device that failed

-- any statement may be refused during which the device failed, and then the machine has stopped
abbrev pub failed_device_refuses : Type 0
failed_device_refuses = MayRefuse state.IoError ready (counts 5 0 0) (counts 5 0 1) select_keys (record ready { stopped = true })

-- it may not where the count of failures stays
abbrev pub sound_device_refuses_nothing : Type 0
sound_device_refuses_nothing = (after : Machine) → MayRefuse state.IoError ready (counts 5 0 2) (counts 5 0 2) select_keys after → ⊥

-- a machine that has stopped refuses every event
abbrev pub stopped_machines_refuse : Type 0
stopped_machines_refuse = AnswersFrom (record ready { stopped = true }) (
    a select_keys gives refused state.IoError
    ∷ closes 2 gives refused state.IoError
    ∷ opens 2 (codes "ann") gives refused state.IoError
    ∷ executes 9 (Ok select_keys) gives refused state.IoError
    ∷ [])

-- ---- 53200: no memory

-- a statement may be refused for memory, and leaves its block as it was
abbrev pub memory_refuses_a_statement : Type 0
memory_refuses_a_statement = MayRefuse state.OutOfMemory in_a_block (counts 5 0 0) (counts 5 0 0) (insert_key 2) in_a_block

-- a close may not
abbrev pub memory_refuses_no_close : Type 0
memory_refuses_no_close = (old new : Counts) (x : Statement) (after : Machine) → IsStep (reads_as x) old new in_a_block (closes 2) (answer.Refused state.OutOfMemory) after → ⊥
