-- The sessions of a client, as it numbers them.
use Rattle.std.specs.Prelude.{◌≡◌, ℕ, false, [], slice_get, Some}
use Rattle.std.specs.Option.{option_map}
use Rattle.sql_types.specs.declared.answer.Answer.{Answer}
use Rattle.sql_types.specs.declared.event.Event.TheVariants as event
use Rattle.store.specs.Store.{StoreState}
use Rattle.abstract_database.specs.Machine.{own_number, client_of, own_sessions}
use Rattle.abstract_database.specs.Runs.{ReadingRelation, At}
use Rattle.server.specs.declared.numbers.ClientSession.{ClientSession}
use Rattle.server.specs.declared.server.Server.{Server}
use Rattle.server.specs.Standing.{Represents}
use Rattle.server.specs.Runs.{Steps}

-- the session that has this number in the server
abbrev pub client_session : ℕ → ClientSession
client_session number = record { client = client_of number; session = own_number number }

-- the client has no session open
abbrev pub HasNoneOpen : {S X : Type 0} → (S → StoreState) → ℕ → Server S X → Type 0
HasNoneOpen state client server = (w : At) → Represents state server w → own_sessions client w.standing.machine.sessions ≡ []

-- the session of this own number is the first that the client has open
abbrev pub IsFirstOpen : {S X : Type 0} → (S → StoreState) → ℕ → ℕ → Server S X → Type 0
IsFirstOpen state client session server = (w : At) → Represents state server w
    → Some session ≡ option_map (λ e. own_number e.0) (slice_get (own_sessions client w.standing.machine.sessions) 0)

-- a server that has not stopped closes by a step the first session that the client has open
pub record ClosesNext {S X : Type 0} (Reads : ReadingRelation) (state : S → StoreState) (client : ℕ) (old new : Server S X) : Type 0 where
  pub running : old.stopped ≡ false
  pub session : ℕ
  pub first : IsFirstOpen state client session old
  pub answer : Answer
  pub steps : Steps Reads state client old (event.Close session) answer new
  -- it is told as before whether a role may have been dropped
  pub dropped : new.may_have_dropped ≡ old.may_have_dropped
