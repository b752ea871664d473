-- Patterns of the answers of two servers, each over a store of its own.
use Rattle.std.specs.Prelude.{◌≡◌, Bool, true, false, if◌then◌else◌, List, [], ◌∷◌, Err}
use Rattle.sql_types.specs.declared.state.SqlState.{SqlState}
use Rattle.sql_types.specs.declared.state.SqlState.TheVariants.{ProgramLimitExceeded, DiskFull, OutOfMemory, IoError}
use Rattle.sql_types.specs.declared.answer.Answer.{Answer}
use Rattle.abstract_database.specs.Machine.{Event, Reading, Machine}
use Rattle.abstract_database.specs.Runs.{TheText, ReadingRelation, IsReadAs, RanBy, Stops, At, Happens}
use Rattle.database_laws.specs.Codes.{is_of_stores}
use Rattle.database_laws.specs.HiddenRuns.{AreSound}
use Rattle.database_laws.specs.Runs.{ReadsOnce}
use Rattle.database_laws.specs.Told.{Tenant, IsAlikeTo}
use Rattle.database_laws.specs.ToldStores.{is_text_of, own_texts, KeepOutOfSight}
use Rattle.database_laws.specs.Patterns.{is_listed, pattern, TellsUnlisted}

-- the listed refusals of the machine, and those that a store gives in its place: for memory, for space, after the last commit number, and
-- of the device
abbrev pub is_listed_of_stores : SqlState → Bool
is_listed_of_stores OutOfMemory = true
is_listed_of_stores DiskFull = true
is_listed_of_stores ProgramLimitExceeded = true
is_listed_of_stores IoError = true
is_listed_of_stores code = is_listed code

-- the answers to the tenant's own texts, in their order
abbrev pub own_told : Tenant → List (Event TheText) → List Answer → List Answer
own_told a [] answers = []
own_told a (event ∷ events) [] = []
own_told a (event ∷ events) (x ∷ answers) = if is_text_of a event then x ∷ own_told a events answers else own_told a events answers

-- no text is itself read as a refusal for memory, for space or of the device
abbrev pub ReadsForNoStore : ReadingRelation → Type 0
ReadsForNoStore Reads = (text : TheText) (code : SqlState) → is_of_stores code ≡ true → Reads text (Err code) → ⊥

-- the event, as it is read over a machine that has not stopped, tells by listed refusals alone
abbrev pub TextTellsListedOnly : ReadingRelation → Tenant → Machine → Event TheText → Type 0
TextTellsListedOnly Reads a m event = m.stopped ≡ false → (read : Event Reading) → IsReadAs Reads m event read → TellsUnlisted a m read → ⊥

-- so does each own event of a run
abbrev pub AllTextsTellListedOnly : (Reads : ReadingRelation) (Leave : Stops) → Tenant → (w end : At) (events : List (Event TheText)) (answers : List Answer) → RanBy (Happens Reads Leave) w events answers end → Type 0
AllTextsTellListedOnly Reads Leave a w end [] [] ran = Unit {0}
AllTextsTellListedOnly Reads Leave a w end (event ∷ events) (x ∷ answers) ran =
    (is_text_of a event ≡ true → TextTellsListedOnly Reads a w.standing.machine event) × AllTextsTellListedOnly Reads Leave a ran.0 end events answers ran.2
AllTextsTellListedOnly Reads Leave a w end [] (x ∷ answers) ran = Unit {0}
AllTextsTellListedOnly Reads Leave a w end (event ∷ events) [] ran = Unit {0}

-- two servers over stores of their own, of which the tenant asks the same: where its answers have one pattern, they are the same
abbrev pub store_patterns_determine_answers : ReadingRelation → Stops → Stops → Type 0
store_patterns_determine_answers Reads Leave LeaveOther = ReadsOnce Reads → ReadsForNoStore Reads → (a : Tenant) (w v end other_end : At) (events others : List (Event TheText)) (answers told : List Answer) →
    IsAlikeTo a w.standing.machine v.standing.machine → AreSound w.standing.machine → AreSound v.standing.machine →
    (ran : RanBy (Happens Reads Leave) w events answers end) (ran_there : RanBy (Happens Reads LeaveOther) v others told other_end) →
    KeepOutOfSight Reads Leave a w end events answers ran → KeepOutOfSight Reads LeaveOther a v other_end others told ran_there → own_texts a events ≡ own_texts a others →
    AllTextsTellListedOnly Reads Leave a w end events answers ran →
    pattern is_listed_of_stores (own_told a events answers) ≡ pattern is_listed_of_stores (own_told a others told) → own_told a events answers ≡ own_told a others told
