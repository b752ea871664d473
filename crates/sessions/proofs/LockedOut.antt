-- Texts that are refused for the writer lock.
use Rattle.std.proofs.Common.{◌≡◌, ◌≤◌, ℕ, Bool, true, false, length, is_some, Option, Some, None, Result, Ok, Err, IfOk, refl, sym, ◌∙◌, ap}
use Rattle.std.specs.declared.alloc.AllocError.{AllocError}
use Rattle.sql_types.specs.declared.state.SqlState.{SqlState}
use Rattle.sql_ast.specs.declared.statement.Statement.{Statement}
use Rattle.store.specs.Records.{Records}
use Rattle.abstract_database.specs.Database.{Database}
use Rattle.abstract_database.specs.Machine.{executes, Machine, Holder, Session, session_of, may_execute}
use Rattle.abstract_database.specs.Runs.{TheText, MayCallStore}
use Rattle.database_laws.specs.Runs.{ReadsOnce}
use Rattle.stored_database.specs.Definitions.{Definitions}
use Rattle.server.specs.declared.writer.Writer.{Writer}
use Rattle.server.specs.Standing.{HolderShows}
use Rattle.server.specs.Decisions.{Entries, machine_at}
use Rattle.server.specs.LockedOut.{TellsLockedOut}
use Rattle.sessions.proofs.WriterLock.{held_where_refused}
use Rattle.sessions.specs.Readings.{ReadsText}
use Rattle.sessions.specs.LockedOut.{IsForLock, TellsRefusal}
use Rattle.sessions.specs.Serving.{IsOpenOver}
use Rattle.sessions.specs.declared.statements.OpenSession.{OpenSession}
use Rattle.sessions.specs.Writers.{is_lock_of_other}
use Rattle.sessions.proofs.Deciding.{is_short}
use Rattle.sessions.proofs.SeenDefinitions.{held_by_other}

pub true_is_not_false : true ≡ false → ⊥
true_is_not_false is = cc

pub none_is_not_some : {A : Type 0} (x : A) → ◌≡◌ {A = Option A} None (Some x) → ⊥
none_is_not_some x is = cc

pub some_inside : {A : Type 0} (x y : A) → ◌≡◌ {A = Option A} (Some x) (Some y) → x ≡ y
some_inside x y is = cc

pub statement_inside : (x y : Statement) → ◌≡◌ {A = Result Statement SqlState} (Ok x) (Ok y) → x ≡ y
statement_inside x y is = cc

pub refusal_is_no_statement : (code : SqlState) (x : Statement) → ◌≡◌ {A = Result Statement SqlState} (Err code) (Ok x) → ⊥
refusal_is_no_statement code x is = cc

-- ---- texts

module _ (db : Database) (holder : Option Holder) (sessions : Entries) (number : ℕ) (text : TheText) where
  abbrev over : Machine
  over = machine_at db holder sessions

  -- of no session
  pub unopened_tells : session_of number sessions ≡ None → TellsLockedOut ReadsText over (executes number text) (Ok false)
  unopened_tells missing locked = none_is_not_some locked.1.0 (sym missing ∙ locked.1.1)

  -- of the holder, or where nobody holds the writer lock
  pub free_tells : (records : Records) (d : Definitions) (writer : Option Writer) → HolderShows records d writer holder → is_lock_of_other number writer ≡ false
      → TellsLockedOut ReadsText over (executes number text) (Ok false)
  free_tells records d writer shows free locked =
      true_is_not_false (sym (held_where_refused over number locked.1.0 locked.1.2.0 locked.1.2.2) ∙ held_by_other records d writer holder number shows ∙ free)

  -- that are no statement
  pub refusal_tells : ReadsOnce ReadsText → (code : SqlState) → ReadsText text (Err code) → TellsLockedOut ReadsText over (executes number text) (Ok false)
  refusal_tells once code read locked = refusal_is_no_statement code locked.1.2.0 (once text (Err code) (Ok locked.1.2.0) read locked.1.2.1)

  module _ (s : Session) (found : session_of number sessions ≡ Some s) where
    may_fail : length text ≤ 65536 → MayCallStore over (executes number text)
    may_fail short = ((refl, ap is_some found), short)

    -- that were not read
    pub unread_tells : (records : Records) (d : Definitions) (writer : Option Writer) (error : AllocError) → HolderShows records d writer holder → is_lock_of_other number writer ≡ true
        → length text ≤ 65536 → TellsLockedOut ReadsText over (executes number text) (Err error)
    unread_tells records d writer error shows held short = (may_fail short, held_by_other records d writer holder number shows ∙ held)

    -- of a statement
    pub statement_tells : ReadsOnce ReadsText → (records : Records) (d : Definitions) (writer : Option Writer) (x : Statement) (result : Result Bool AllocError) → HolderShows records d writer holder
        → is_lock_of_other number writer ≡ true → ReadsText text (Ok x) → IfOk result (λ is. IsForLock is (may_execute over number s x))
        → TellsLockedOut ReadsText over (executes number text) result
    statement_tells once records d writer x (Ok true) shows held read tells = (refl, (s, found, (x, read, tells)))
    statement_tells once records d writer x (Ok false) shows held read tells = λ locked.
        let same : s ≡ locked.1.0 = some_inside s locked.1.0 (sym found ∙ locked.1.1) in
        let read_alike : x ≡ locked.1.2.0 = statement_inside x locked.1.2.0 (once text (Ok x) (Ok locked.1.2.0) read locked.1.2.1) in
        tells (rw (same, read_alike) locked.1.2.2)
    statement_tells once records d writer x (Err error) shows held read tells = unread_tells records d writer error shows held (is_short text x read)

-- what is told of each machine is told of this one
pub tells_there : (at : OpenSession) (x : Statement) (result : Result Bool AllocError) (records : Records) (db : Database) (holder : Option Holder) (sessions : Entries) → IfOk result (TellsRefusal at x)
    → IsOpenOver records at db holder sessions → IfOk result (λ is. IsForLock is (may_execute (machine_at db holder sessions) at.number at.session.now x))
tells_there at x (Ok is) records db holder sessions tells there = tells records db holder sessions there
tells_there at x (Err error) records db holder sessions tells there = tt
