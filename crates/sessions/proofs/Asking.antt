-- Texts that ask for the writer lock.
use Rattle.std.proofs.Common.{◌≡◌, ◌≤◌, ℕ, Bool, true, false, length, is_some, Option, Some, None, Result, Ok, Err, IfOk, refl, sym, ◌∙◌, ap}
use Rattle.std.specs.declared.alloc.AllocError.{AllocError}
use Rattle.sql_types.specs.declared.state.SqlState.{SqlState}
use Rattle.sql_ast.specs.declared.statement.Statement.{Statement}
use Rattle.store.specs.Records.{Records}
use Rattle.abstract_database.specs.Database.{Database}
use Rattle.abstract_database.specs.Machine.{executes, Machine, Holder, Session, session_of, is_writing, may_execute}
use Rattle.abstract_database.specs.Runs.{TheText}
use Rattle.database_laws.specs.Runs.{ReadsOnce}
use Rattle.stored_database.specs.Definitions.{Definitions}
use Rattle.server.specs.declared.writer.Writer.{Writer}
use Rattle.server.specs.Standing.{HolderShows}
use Rattle.server.specs.Decisions.{Entries, machine_at}
use Rattle.server.specs.LockedOut.{TellsAsking}
use Rattle.sessions.specs.Readings.{ReadsText}
use Rattle.sessions.specs.LockedOut.{IsAdmittedWriting, TellsWriting}
use Rattle.sessions.specs.Serving.{IsOpenOver}
use Rattle.sessions.specs.declared.statements.OpenSession.{OpenSession}
use Rattle.sessions.proofs.Deciding.{is_short}
use Rattle.sessions.proofs.LockedOut.{true_is_not_false, none_is_not_some, some_inside, statement_inside, refusal_is_no_statement}
use Rattle.sessions.proofs.SeenDefinitions.{is_held}

none_of : {A : Type 0} (x : Option A) → is_some x ≡ false → x ≡ None
none_of None is = refl
none_of (Some a) is = cc

-- where the statement changes nothing
pub reader_tells : (at : OpenSession) (x : Statement) → is_writing x ≡ false → TellsWriting at x false
reader_tells at x reads records db holder sessions there asks = true_is_not_false (sym asks.0 ∙ reads)

-- ---- texts

module _ (db : Database) (holder : Option Holder) (sessions : Entries) (number : ℕ) (text : TheText) where
  abbrev over : Machine
  over = machine_at db holder sessions

  -- of no session
  pub unopened_asks : session_of number sessions ≡ None → TellsAsking ReadsText over (executes number text) (Ok false)
  unopened_asks missing asks = none_is_not_some asks.2.0 (sym missing ∙ asks.2.1)

  -- where somebody holds the writer lock
  pub held_asks : (records : Records) (d : Definitions) (writer : Option Writer) → HolderShows records d writer holder → is_some writer ≡ true
      → TellsAsking ReadsText over (executes number text) (Ok false)
  held_asks records d writer shows held asks = true_is_not_false (sym held ∙ is_held records d writer holder shows ∙ ap is_some asks.1)

  -- that are no statement
  pub refusal_asks : ReadsOnce ReadsText → (code : SqlState) → ReadsText text (Err code) → TellsAsking ReadsText over (executes number text) (Ok false)
  refusal_asks once code read asks = refusal_is_no_statement code asks.2.2.0 (once text (Err code) (Ok asks.2.2.0) read asks.2.2.1)

  module _ (s : Session) (found : session_of number sessions ≡ Some s) where
    free : (records : Records) (d : Definitions) (writer : Option Writer) → HolderShows records d writer holder → is_some writer ≡ false → holder ≡ None
    free records d writer shows is = none_of holder (sym (is_held records d writer holder shows) ∙ is)

    -- that were not read
    pub unread_asks : (records : Records) (d : Definitions) (writer : Option Writer) (error : AllocError) → HolderShows records d writer holder → is_some writer ≡ false
        → length text ≤ 65536 → TellsAsking ReadsText over (executes number text) (Err error)
    unread_asks records d writer error shows is short = (((refl, ap is_some found), short), free records d writer shows is)

    -- of a statement
    pub statement_asks : ReadsOnce ReadsText → (records : Records) (d : Definitions) (writer : Option Writer) (x : Statement) (result : Result Bool AllocError) → HolderShows records d writer holder
        → is_some writer ≡ false → ReadsText text (Ok x) → IfOk result (λ is. IsAdmittedWriting x is (may_execute over number s x))
        → TellsAsking ReadsText over (executes number text) result
    statement_asks once records d writer x (Ok true) shows is read tells = (refl, free records d writer shows is, (s, found, (x, read, tells.0, tells.1)))
    statement_asks once records d writer x (Ok false) shows is read tells = λ asks.
        let same : s ≡ asks.2.0 = some_inside s asks.2.0 (sym found ∙ asks.2.1) in
        let read_alike : x ≡ asks.2.2.0 = statement_inside x asks.2.2.0 (once text (Ok x) (Ok asks.2.2.0) read asks.2.2.1) in
        tells (rw (same, read_alike) (asks.2.2.2, asks.2.2.3))
    statement_asks once records d writer x (Err error) shows is read tells = unread_asks records d writer error shows is (is_short text x read)

-- what is told of each machine is told of this one
pub asks_there : (at : OpenSession) (x : Statement) (result : Result Bool AllocError) (records : Records) (db : Database) (holder : Option Holder) (sessions : Entries) → IfOk result (TellsWriting at x)
    → IsOpenOver records at db holder sessions → IfOk result (λ is. IsAdmittedWriting x is (may_execute (machine_at db holder sessions) at.number at.session.now x))
asks_there at x (Ok is) records db holder sessions tells there = tells records db holder sessions there
asks_there at x (Err error) records db holder sessions tells there = tt
