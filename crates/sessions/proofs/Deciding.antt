-- What is decided on a statement, by the transition that its decision makes.
use Rattle.std.proofs.Common.{◌≡◌, ◌≤◌, ℕ, true, false, length, is_some, Option, Some, None, Result, Ok, Err, refl, sym, ◌∙◌, ap, subst}
use Rattle.sql_types.specs.declared.answer.Answer.{Answer}
use Rattle.sql_types.specs.declared.answer.Answer.TheVariants as answer
use Rattle.sql_types.specs.declared.state.SqlState.{SqlState}
use Rattle.sql_types.specs.declared.state.SqlState.TheVariants.{ConnectionDoesNotExist}
use Rattle.sql_ast.specs.declared.statement.Statement.{Statement}
use Rattle.store.specs.Records.{Records}
use Rattle.store.specs.declared.fault.Fault.{Fault}
use Rattle.store.specs.declared.fault.Fault.TheVariants.{Memory, Device, Damaged}
use Rattle.expr_parser.specs.Stages.{Parses, by_tokens}
use Rattle.sql_parser.specs.Forms.{Means, IsStatementWithinDepth}
use Rattle.abstract_database.specs.Database.{Database}
use Rattle.abstract_database.specs.Lists.{TheName}
use Rattle.abstract_database.specs.Machine.{opens, executes, Block, Outside, Inside, Failed, Machine, Holder, Session, Reading, Transition, transition_to, session_of, after_refusal, refused, execute_in, execute}
use Rattle.abstract_database.specs.Runs.{TheText, ReadingRelation, MayCallStore, CommitsAt, Commits, MayCommit}
use Rattle.stored_database.specs.Definitions.{Definitions}
use Rattle.server.specs.declared.decision.Decision.{Decision}
use Rattle.catalogue.specs.declared.effect.Effect.{Effect}
use Rattle.server.specs.declared.decision.Decision.TheVariants as decision
use Rattle.server.specs.declared.decision.SessionChange.TheVariants as change
use Rattle.server.specs.declared.writer.Writer.{Writer}
use Rattle.server.specs.Standing.{HolderShows, HoldsInBlock}
use Rattle.server.specs.Decisions.{Entries, machine_at, LeadsTo, Decides, DecidesAt}
use Rattle.sessions.specs.Opening.{Opens}
use Rattle.sessions.specs.Decisions.{Makes, Serves, Always, Never}
use Rattle.sessions.specs.Readings.{ReadsText}
use Rattle.sessions.specs.Serving.{MakesAt}

-- a text that is parsed is not too long
parsed_is_short : {text : TheText} {s : Statement} → Parses (Means text) IsStatementWithinDepth text (Ok s) → length text ≤ 65536
parsed_is_short (by_tokens short tokens_are answers_are) = short

pub is_short : (text : TheText) (x : Statement) → ReadsText text (Ok x) → length text ≤ 65536
is_short text x reads = parsed_is_short reads.0

-- ---- any reading

module _ (Reads : ReadingRelation) (records : Records) (d : Definitions) (writer : Option Writer) (db : Database) (holder : Option Holder) (sessions : Entries)
    (number : ℕ) (text : TheText) (reading : Reading) (read : Reads text reading) where
  abbrev m : Machine
  m = machine_at db holder sessions

  leads : (t : Transition) (answer : Answer) (after : Machine) → t ≡ execute m number reading (session_of number sessions) → t ≡ transition_to answer after
      → LeadsTo Reads m (executes number text) answer after
  leads t answer after made is = record { as_read = executes number reading; read = (reading, refl, λ may. read); is = sym is ∙ made }

  -- a decision that makes the transition of this reading is what the text asks, where it may call the store, and may commit where the decision may
  pub makes_decides : (MayBeCommitted : Type 0) (t : Transition) (what : Decision) → t ≡ execute m number reading (session_of number sessions)
      → MayCallStore m (executes number text) → (MayBeCommitted → MayCommit Reads m (executes number text))
      → Makes records d writer db holder sessions MayBeCommitted t what → Decides Reads records d writer db holder sessions (executes number text) what
  makes_decides MayBeCommitted t (decision.Answer a c) made calls commits p = (p.0, p.1, leads t _ _ made p.2)
  makes_decides MayBeCommitted t (decision.Open a n s) made calls commits p = absurd p
  makes_decides MayBeCommitted t (decision.Release a c) made calls commits p = (p.0, leads t _ _ made p.1)
  makes_decides MayBeCommitted t (decision.Commit it) made calls commits p = (p.0, p.1, p.2, commits p.3, calls, leads t _ _ made p.4)
  makes_decides MayBeCommitted t (decision.Hold n it) made calls commits p = (p.0, p.1, p.2, calls, leads t _ _ made p.3)
  makes_decides MayBeCommitted t (decision.CommitWriter a c) made calls commits p = (p.0, p.1, p.2, commits p.3, calls, leads t _ _ made p.4)

-- ---- a text that is no statement

-- a refusal leaves the holder
holder_of_refusal : (m : Machine) (number : ℕ) (s : Session) (block : Block) → (after_refusal m number s block).holder ≡ m.holder
holder_of_refusal m number s Outside = refl
holder_of_refusal m number s (Inside role) = refl
holder_of_refusal m number s (Failed role) = refl

holder_stays : (m after : Machine) (number : ℕ) (s : Session) (code : SqlState) (answer : Answer) → refused m number s code ≡ transition_to answer after → m.holder ≡ after.holder
holder_stays m after number s code answer is = sym (holder_of_refusal m number s s.block) ∙ ap (λ (t : Transition). t.machine.holder) is

module _ (records : Records) (d : Definitions) (writer : Option Writer) (db : Database) (holder : Option Holder) (sessions : Entries)
    (number : ℕ) (text : TheText) (s : Session) (found : session_of number sessions ≡ Some s) where
  abbrev over : Machine
  over = machine_at db holder sessions

  -- no decision that refuses in every machine of this session changes what a holder sees
  never_holds : (code : SqlState) (n : ℕ) (made : Effect) → ((given : Option Writer) → Serves given number s Always Never (λ m. refused m number s code) (decision.Hold n made)) → ⊥
  never_holds code n made serves =
      let p = serves None records d db None sessions tt tt found tt in
      let wrong : ◌≡◌ {A = Option Holder} None (Some (record { session = n; database = p.0 })) =
      holder_stays (machine_at db None sessions) (machine_at db (Some (record { session = n; database = p.0 })) sessions) number s code made.answer p.3 in
      cc

  -- a text that is read as a refusal is refused
  pub refusal_decides : (code : SqlState) (what : Decision) → ReadsText text (Err code) → HolderShows records d writer holder → HoldsInBlock holder sessions
      → ((given : Option Writer) → Serves given number s Always Never (λ m. refused m number s code) what)
      → Decides ReadsText records d writer db holder sessions (executes number text) what
  refusal_decides code what read shows holds serves = by_decision what serves (serves writer records d db holder sessions shows holds found tt)
    where
      made : refused over number s code ≡ execute over number (Err code) (session_of number sessions)
      made = rw found refl

      by_decision : (what : Decision) → ((given : Option Writer) → Serves given number s Always Never (λ m. refused m number s code) what)
          → Makes records d writer db holder sessions ⊥ (refused over number s code) what → Decides ReadsText records d writer db holder sessions (executes number text) what
      by_decision (decision.Answer a c) serves p = (p.0, p.1, leads ReadsText records d writer db holder sessions number text (Err code) read _ _ _ made p.2)
      by_decision (decision.Open a n x) serves p = absurd p
      by_decision (decision.Release a c) serves p = (p.0, leads ReadsText records d writer db holder sessions number text (Err code) read _ _ _ made p.1)
      by_decision (decision.Commit it) serves p = absurd p.3
      by_decision (decision.Hold n it) serves p = absurd (never_holds code n it serves)
      by_decision (decision.CommitWriter a c) serves p = absurd p.3

  -- ---- a statement

  pub statement_decides : (x : Statement) (result : Result Decision Fault) → ReadsText text (Ok x)
      → MakesAt records d writer db holder sessions (CommitsAt over number s.block x) (execute_in over number s (Ok x)) result
      → DecidesAt ReadsText records d writer db holder sessions (executes number text) result
  statement_decides x result read p = by_result result p
    where
      made : execute_in over number s (Ok x) ≡ execute over number (Ok x) (session_of number sessions)
      made = ap (execute over number (Ok x)) (sym found)

      calls : MayCallStore over (executes number text)
      calls = ((refl, ap is_some found), is_short text x read)

      commits : CommitsAt over number s.block x → MayCommit ReadsText over (executes number text)
      commits may = (refl, subst (λ (o : Option Session). Commits ReadsText over number text o) (sym found) (x, read, may))

      by_result : (result : Result Decision Fault) → MakesAt records d writer db holder sessions (CommitsAt over number s.block x) (execute_in over number s (Ok x)) result
          → DecidesAt ReadsText records d writer db holder sessions (executes number text) result
      by_result (Ok what) p = makes_decides ReadsText records d writer db holder sessions number text (Ok x) read _ _ what made calls commits p
      by_result (Err Memory) p = calls
      by_result (Err Device) p = (calls, (execute_in over number s (Ok x), record { as_read = executes number (Ok x); read = (Ok x, refl, λ may. read); is = made }))
      by_result (Err Damaged) p = absurd p

-- ---- no session

pub unopened_decides : (records : Records) (d : Definitions) (writer : Option Writer) (db : Database) (holder : Option Holder) (sessions : Entries) (number : ℕ) (text : TheText)
    → session_of number sessions ≡ None → HoldsInBlock holder sessions
    → Decides ReadsText records d writer db holder sessions (executes number text) (decision.Answer (answer.Refused ConnectionDoesNotExist) change.Keep)
unopened_decides records d writer db holder sessions number text missing holds = (
  tt,
  holds,
  record {
    as_read = executes number (Err ConnectionDoesNotExist);
    read = (Err ConnectionDoesNotExist, refl, λ may. let wrong : false ≡ true = sym (ap is_some missing) ∙ may.1 in cc);
    is = ap (execute (machine_at db holder sessions) number (Err ConnectionDoesNotExist)) (sym missing);
  },
)

-- ---- opening

-- doing the decision that opens is what the event asks
pub opening_decides : (records : Records) (d : Definitions) (writer : Option Writer) (db : Database) (holder : Option Holder) (sessions : Entries) (number : ℕ) (login : TheName) (what : Decision)
    → HoldsInBlock holder sessions → Opens db holder sessions number login what → Decides ReadsText records d writer db holder sessions (opens number login) what
opening_decides records d writer db holder sessions number login (decision.Answer a change.Keep) holds p = (tt, holds, record { as_read = opens number login; read = refl; is = sym p })
opening_decides records d writer db holder sessions number login (decision.Answer a (change.Put n s)) holds p = absurd p
opening_decides records d writer db holder sessions number login (decision.Answer a (change.Block n c)) holds p = absurd p
opening_decides records d writer db holder sessions number login (decision.Answer a (change.Close n)) holds p = absurd p
opening_decides records d writer db holder sessions number login (decision.Open a n s) holds p = (p.0, p.1, record { as_read = opens number login; read = refl; is = sym p.2 })
opening_decides records d writer db holder sessions number login (decision.Release a c) holds p = absurd p
opening_decides records d writer db holder sessions number login (decision.Commit made) holds p = absurd p
opening_decides records d writer db holder sessions number login (decision.Hold n made) holds p = absurd p
opening_decides records d writer db holder sessions number login (decision.CommitWriter a c) holds p = absurd p
