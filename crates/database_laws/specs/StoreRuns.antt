-- Laws of runs over a store: what the machine answers without it, what the store counts, and what a stop leaves.
use Rattle.std.specs.Prelude.{ℕ, ◌≤◌, ◌<◌, List, ◌∷◌, length, Ok}
use Rattle.sql_types.specs.declared.answer.Answer.{Answer}
use Rattle.sql_ast.specs.declared.statement.Statement.{Statement}
use Rattle.abstract_database.specs.Lists.{TheName}
use Rattle.abstract_database.specs.Machine.{client_of, own_sessions, Event, opens, executes, closes, Machine}
use Rattle.abstract_database.specs.Runs.{TheText, ReadingRelation, Counts, IsStep, RanBy, Stops, IsFoundAt, At, Happens}
use Rattle.database_laws.specs.Runs.{Next}

-- ---- what the machine answers by itself

-- a text of more than 65,536 bytes is read as no statement
abbrev pub ReadsNoLongText : ReadingRelation → Type 0
ReadsNoLongText Reads = (text : TheText) (x : Statement) → Reads text (Ok x) → length text ≤ 65536

-- so its length is what it is answered for, whatever there is of memory and space
abbrev pub long_texts_are_answered_for_their_length : ReadingRelation → Type 0
long_texts_are_answered_for_their_length Reads = ReadsNoLongText Reads → (old new : Counts) (m after : Machine) (number : ℕ) (text : TheText) (answer : Answer) → (length text ≤ 65536 → ⊥) →
    IsStep Reads old new m (executes number text) answer after → Next Reads m (executes number text) answer after

-- and an opening beside 256 sessions of its client for their number
abbrev pub full_machines_answer_openings : ReadingRelation → Type 0
full_machines_answer_openings Reads = (old new : Counts) (m after : Machine) (number : ℕ) (login : TheName) (answer : Answer) → (length (own_sessions (client_of number) m.sessions) < 256 → ⊥) →
    IsStep Reads old new m (opens number login) answer after → Next Reads m (opens number login) answer after

-- a close is always answered so
abbrev pub machines_answer_closes : ReadingRelation → Type 0
machines_answer_closes Reads = (old new : Counts) (m after : Machine) (number : ℕ) (answer : Answer) → IsStep Reads old new m (closes number) answer after → Next Reads m (closes number) answer after

-- ---- what lasts over a run

-- the number of the last commit never falls
abbrev pub commit_numbers_never_fall : ReadingRelation → Stops → Type 0
commit_numbers_never_fall Reads Leave = (w end : At) (events : List (Event TheText)) (answers : List Answer) → RanBy (Happens Reads Leave) w events answers end →
    w.counts.number ≤ end.counts.number

-- after each event a stop leaves what has been answered: the committed database, or where the device failed the one under way
abbrev pub stops_leave_what_was_answered : ReadingRelation → Stops → Type 0
stops_leave_what_was_answered Reads Leave = (w end : At) (event : Event TheText) (events : List (Event TheText)) (answer : Answer) (answers : List Answer) →
    RanBy (Happens Reads Leave) w (event ∷ events) (answer ∷ answers) end → Leave end.moment end.moment (IsFoundAt end.standing)
