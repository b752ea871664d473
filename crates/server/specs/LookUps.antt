-- How a server looks a verifier up: as if a session of a client of its own did.
use Rattle.std.specs.Prelude.{◌≡◌, ◌≤◌, ℕ, Bool, true, false, List, length, Option, None, Result, Ok, Err, IfOk}
use Rattle.sql_types.specs.declared.answer.Answer.{Answer}
use Rattle.sql_types.specs.declared.answer.Answer.TheVariants.{Refused}
use Rattle.sql_types.specs.declared.event.Event.{Event}
use Rattle.sql_types.specs.declared.event.Event.TheVariants as event
use Rattle.sql_types.specs.declared.state.SqlState.{SqlState}
use Rattle.sql_types.specs.declared.state.SqlState.TheVariants.{InvalidAuthorization, ConnectionDoesNotExist, OutOfMemory, IoError}
use Rattle.store.specs.Store.{StoreState, KeepsHistory}
use Rattle.store.specs.declared.fault.StoreFault.{StoreFault}
use Rattle.abstract_database.specs.Lists.{TheName}
use Rattle.abstract_database.specs.Machine.{Outside, Session, Machine, number_in, session_of, with_session_changed}
use Rattle.abstract_database.specs.Runs.{TheText, ReadingRelation, At}
use Rattle.kept_verifiers.specs.Verifiers.{kept_text}
use Rattle.server.specs.declared.server.Server.{Server}
use Rattle.server.specs.Standing.{Represents, event_of}
use Rattle.server.specs.Attempts.{after_attempt}
use Rattle.server.specs.Decisions.{Attempts}
use Rattle.server.specs.Runs.{Steps}

-- what is found of a verifier: its text, or none, or why it was not looked up
abbrev pub Found : Type 0
Found = Result (Option (List ℕ)) SqlState

-- the number of the client whose sessions look-ups are, which is nobody's
abbrev pub look_up_client : ℕ
look_up_client = 4294967295

-- the number of such a session in the server
abbrev pub look_up_number : ℕ
look_up_number = number_in look_up_client 0

-- a text, not too long, is refused
pub record RefusesAText (Reads : ReadingRelation) : Type 0 where
  pub text : TheText
  pub short : length text ≤ 65536
  pub code : SqlState
  pub refused : Reads text (Err code)

-- ---- what a look-up does

-- a step of the server on an event of the client of look-ups
pub record TakesOwn {S X : Type 0} (Reads : ReadingRelation) (state : S → StoreState) (e : Event) (a : Answer) (old new : Server S X) : Type 0 where
  pub history : KeepsHistory (state old.store) (state new.store)
  pub stopped : old.stopped ≡ true → (a ≡ Refused IoError) × (new ≡ old)
  pub running : new.stopped ≡ true → a ≡ Refused IoError
  pub steps : Steps Reads state look_up_client old e a new

-- the answer says that the event was carried out
abbrev pub IsAccepted : Answer → Type 0
IsAccepted a = (code : SqlState) → a ≡ Refused code → ⊥

-- what is found where no session was opened: none is kept for a role that may not log in
abbrev pub found_refused : SqlState → Found
found_refused InvalidAuthorization = Ok None
found_refused code = Err code

-- what is found once the row was read: a text or none, or an allocation failed; where the server has stopped, that alone is told
abbrev pub IsFoundInRow : Bool → Found → Type 0
IsFoundInRow true r = r ≡ Err IoError
IsFoundInRow false (Ok text) = Unit {0}
IsFoundInRow false (Err code) = code ≡ OutOfMemory

-- What a look-up for a role does to a server, and what is found: nothing is done, or what these events of the client of look-ups would do. A session is
-- opened for the role, or that is refused. The session is closed once the row was read. Or the device failed in the session, and the server has stopped.
pub data LooksVerifierUp {S X : Type 0} (Reads : ReadingRelation) (state : S → StoreState) (role : TheName) (r : Found) (old new : Server S X) : Type 0 where
  had_stopped : old.stopped ≡ true → r ≡ Err IoError → new ≡ old → LooksVerifierUp Reads state role r old new
  lacked_memory : old.stopped ≡ false → r ≡ Err OutOfMemory → new ≡ old → LooksVerifierUp Reads state role r old new
  was_refused : (code : SqlState) → old.stopped ≡ false → r ≡ found_refused code → TakesOwn Reads state (event.Open 0 role) (Refused code) old new → LooksVerifierUp Reads state role r old new
  did_not_open : (a : Answer) → old.stopped ≡ false → r ≡ Err ConnectionDoesNotExist → TakesOwn Reads state (event.Open 0 role) a old new → IsAccepted a
      → session_of look_up_number new.sessions.entries ≡ None → LooksVerifierUp Reads state role r old new
  read : (a b : Answer) (mid : Server S X) → old.stopped ≡ false → IsFoundInRow new.stopped r → TakesOwn Reads state (event.Open 0 role) a old mid → IsAccepted a
      → TakesOwn Reads state (event.Close 0) b mid new → LooksVerifierUp Reads state role r old new
  failed : (a : Answer) (text : TheText) (mid : Server S X) → old.stopped ≡ false → r ≡ Err IoError → TakesOwn Reads state (event.Open 0 role) a old mid → IsAccepted a → new.stopped ≡ true
      → TakesOwn Reads state (event.Statement 0 text) (Refused IoError) mid new → LooksVerifierUp Reads state role r old new

-- ---- what it leaves

-- the session of a look-up
abbrev pub look_up_session : TheName → Session
look_up_session role = record { login = role; role = role; block = Outside }

-- the machine after a look-up: as it was; or its device failed, and it has stopped with the session of the look-up open
pub data IsLeftByLookUp (role : TheName) (r : Found) (m after : Machine) : Type 0 where
  as_it_was : after ≡ m → IsLeftByLookUp role r m after
  stopped_within : r ≡ Err IoError → session_of look_up_number m.sessions ≡ None → after ≡ record (with_session_changed m look_up_number (look_up_session role)) { stopped = true } → IsLeftByLookUp role r m after

-- wherever the server stood, it stands so
abbrev pub LeavesMachine : {S X : Type 0} → (S → StoreState) → TheName → Found → Server S X → Server S X → Type 0
LeavesMachine state role r old new = (state old.store).sound → (w : At) → Represents state old w →
    (next : At) × Represents state new next × IsLeftByLookUp role r w.standing.machine next.standing.machine

-- ---- what it answers

-- what is found is what the table keeps in the committed database
abbrev pub FindsKept : {S X : Type 0} → (S → StoreState) → TheName → TheName → Found → Server S X → Type 0
FindsKept state table role r old = (state old.store).sound → (w : At) → Represents state old w → IfOk r (λ text. text ≡ kept_text w.standing.machine.committed table role)

-- ---- within its session

-- what is done in the session of a look-up: nothing where it is not open; it is closed; or the device has failed in it
pub data ReadsInSession {S X : Type 0} (Reads : ReadingRelation) (state : S → StoreState) (r : Found) (old new : Server S X) : Type 0 where
  not_open : r ≡ Err ConnectionDoesNotExist → session_of look_up_number old.sessions.entries ≡ None → new ≡ old → ReadsInSession Reads state r old new
  closes : (b : Answer) → IsFoundInRow new.stopped r → TakesOwn Reads state (event.Close 0) b old new → ReadsInSession Reads state r old new
  fails : (text : TheText) → r ≡ Err IoError → new.stopped ≡ true → TakesOwn Reads state (event.Statement 0 text) (Refused IoError) old new → ReadsInSession Reads state r old new

-- the session of a look-up was closed, or that was attempted
pub record ClosesOwn {S X : Type 0} (Reads : ReadingRelation) (state : S → StoreState) (old new : Server S X) : Type 0 where
  pub tried : Server S X
  pub attempted : Result Answer StoreFault
  pub history : KeepsHistory (state old.store) (state tried.store)
  pub running : tried.stopped ≡ old.stopped
  pub attempts : Attempts Reads state old tried (event_of look_up_client (event.Close 0)) attempted
  pub is : new ≡ after_attempt attempted tried
