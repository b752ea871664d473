-- The lines of a script: an event with its answer, and what a script shows.
use Rattle.std.specs.Prelude.{◌≡◌, ℕ, true, pos, neg_ℤ, List, [], ◌∷◌, ◌++◌, map, codes, Some, None, Ok, Err}
use Prim.Native.String.{String}
use Rattle.sql_types.specs.declared.state.SqlState.{SqlState}
use Rattle.sql_types.specs.declared.value.Value.{Value}
use Rattle.sql_types.specs.declared.value.Value.TheVariants.{Int, Text, Bool as Boolean}
use Rattle.sql_types.specs.declared.answer.Answer.{Answer}
use Rattle.sql_types.specs.declared.answer.Answer.TheVariants as answer
use Rattle.sql_types.specs.declared.tag.Tag.{Tag}
use Rattle.sql_types.specs.declared.tag.Tag.TheVariants as tag
use Rattle.sql_types.specs.declared.warning.Warning.{Warning}
use Rattle.sql_ast.specs.declared.columns.ColumnType.TheVariants as type
use Rattle.sql_ast.specs.declared.statement.Statement.{Statement}
use Rattle.abstract_database.specs.Database.{new_database}
use Rattle.abstract_database.specs.Machine.{Event, opens, executes, Reading, Machine, machine_over, transition}
use Rattle.database_examples.specs.Wording.{can_log_in, create_role, create_table, key_column, plain_column}

-- ---- events: r is the session of root, a of ann, b of bob, c of cid, d of dan

abbrev pub r : Statement → Event Reading
r x = executes 1 (Ok x)

abbrev pub a : Statement → Event Reading
a x = executes 2 (Ok x)

abbrev pub b : Statement → Event Reading
b x = executes 3 (Ok x)

abbrev pub c : Statement → Event Reading
c x = executes 4 (Ok x)

abbrev pub d : Statement → Event Reading
d x = executes 5 (Ok x)

-- of eve, whose session a script opens itself
abbrev pub e : Statement → Event Reading
e x = executes 6 (Ok x)

-- a statement of ann whose text is refused
abbrev pub a_misread : SqlState → Event Reading
a_misread code = executes 2 (Err code)

-- ---- answers

abbrev pub ok : Tag → Answer
ok t = answer.Done t None None

abbrev pub inserted : ℕ → Answer
inserted n = answer.Done tag.Insert (Some n) None

abbrev pub updated : ℕ → Answer
updated n = answer.Done tag.Update (Some n) None

abbrev pub deleted : ℕ → Answer
deleted n = answer.Done tag.Delete (Some n) None

abbrev pub warning : Warning → Tag → Answer
warning w t = answer.Done t None (Some w)

abbrev pub refused : SqlState → Answer
refused code = answer.Refused code

abbrev pub rows : List (List Value) → Answer
rows values = answer.Rows values

abbrev pub no_rows : Answer
no_rows = answer.Rows []

abbrev pub int : ℕ → Value
int n = Int (pos n)

abbrev pub minus_int : ℕ → Value
minus_int n = Int (neg_ℤ (pos n))

abbrev pub text : String → Value
text s = Text (codes s)

-- rows of one number each
abbrev pub numbers : List ℕ → Answer
numbers ns = answer.Rows (map (λ n. int n ∷ []) ns)

-- rows of numbers
abbrev pub number_rows : List (List ℕ) → Answer
number_rows ns = answer.Rows (map (map int) ns)

-- the row that insert_anns inserts
abbrev pub anns_row : Answer
anns_row = answer.Rows ((int 1 ∷ int 5 ∷ Boolean true ∷ text "ann" ∷ []) ∷ [])

-- ---- scripts

-- the answers of the machine itself to events whose texts have been read
abbrev pub answers_to : Machine → List (Event Reading) → List Answer
answers_to m [] = []
answers_to m (event ∷ events) = (transition m event).answer ∷ answers_to (transition m event).machine events

-- the machine after events whose texts have been read
abbrev pub machine_after : Machine → List (Event Reading) → Machine
machine_after m [] = m
machine_after m (event ∷ events) = machine_after (transition m event).machine events

-- an event, and what it is answered
pub record Line : Type 0 where
  pub event : Event Reading
  pub answer : Answer

infix 80 ◌gives◌
abbrev pub ◌gives◌ : Event Reading → Answer → Line
event gives answer = record { event = event; answer = answer }

abbrev pub AnswersFrom : Machine → List Line → Type 0
AnswersFrom m lines = answers_to m (map (λ line. line.event) lines) ≡ map (λ line. line.answer) lines

-- a new database with the superuser root, over which no session is open
abbrev pub at_first : Machine
at_first = machine_over (new_database (codes "root"))

-- root makes four roles that may log in; a session is opened for each
abbrev pub beginning : List Line
beginning =
    opens 1 (codes "root") gives ok tag.Open
    ∷ r (create_role "ann" can_log_in) gives ok tag.CreateRole
    ∷ r (create_role "bob" can_log_in) gives ok tag.CreateRole
    ∷ r (create_role "cid" can_log_in) gives ok tag.CreateRole
    ∷ r (create_role "dan" can_log_in) gives ok tag.CreateRole
    ∷ opens 2 (codes "ann") gives ok tag.Open
    ∷ opens 3 (codes "bob") gives ok tag.Open
    ∷ opens 4 (codes "cid") gives ok tag.Open
    ∷ opens 5 (codes "dan") gives ok tag.Open
    ∷ []

-- CREATE TABLE t (k BIGINT PRIMARY KEY, x BIGINT, s BOOLEAN, o TEXT)
abbrev pub create_t : Statement
create_t = create_table "t" (key_column "k" type.BigInt ∷ plain_column "x" type.BigInt ∷ plain_column "s" type.Boolean ∷ plain_column "o" type.Text ∷ [])

-- then ann makes the table t
abbrev pub ready : Machine
ready = machine_after at_first (map (λ line. line.event) (beginning ++ (a create_t gives ok tag.CreateTable) ∷ []))

-- these events, in order, after the beginning, are answered so
abbrev pub Shows : List Line → Type 0
Shows lines = AnswersFrom ready lines

-- these sessions are open after them, in the order of their opening
abbrev pub LeavesOpen : List Line → List ℕ → Type 0
LeavesOpen lines numbers = map (λ entry. entry.0) (machine_after ready (map (λ line. line.event) lines)).sessions ≡ numbers
