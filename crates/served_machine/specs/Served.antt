-- What a server does for clients: steps, questions, and ends of sessions.
use Rattle.std.specs.Prelude.{◌≡◌, ◌<◌, ◌^◌, ℕ, true, false, Option, Err}
use Rattle.std.specs.Option.{option_map}
use Rattle.sql_types.specs.declared.answer.Answer.{Answer}
use Rattle.sql_types.specs.declared.answer.Answer.TheVariants.{Refused}
use Rattle.sql_types.specs.declared.event.Event.{Event}
use Rattle.sql_types.specs.declared.event.Event.TheVariants as event
use Rattle.sql_types.specs.declared.state.SqlState.TheVariants.{InvalidAuthorization, OutOfMemory, IoError}
use Rattle.store.specs.Store.{StoreState, KeepsHistory}
use Rattle.sql_ast.specs.declared.description.StatementDescription.{StatementDescription}
use Rattle.sql_ast.specs.declared.description.StatementDescription.TheVariants as describes
use Rattle.abstract_database.specs.Descriptions.{IsDescription}
use Rattle.abstract_database.specs.Lists.{TheName}
use Rattle.abstract_database.specs.Machine.{Block, Outside, Inside, Failed, number_in, session_of}
use Rattle.abstract_database.specs.Runs.{TheText, ReadingRelation, At}
use Rattle.server.specs.declared.server.Server.{Server}
use Rattle.server.specs.Standing.{Represents}
use Rattle.server.specs.Runs.{Steps}
use Rattle.server.specs.Clients.{ClosesNext}
use Rattle.server.specs.Dropped.{KeepsDefinitions}
use Rattle.server.specs.LookUps.{Found, LooksVerifierUp, LeavesMachine, FindsKept}
use Rattle.talks.specs.declared.want.Want.{Want}
use Rattle.talks.specs.declared.want.Want.TheVariants as want
use Rattle.talks.specs.declared.want.Reply.{Reply}
use Rattle.talks.specs.declared.want.Reply.TheVariants as reply
use Rattle.talks.specs.declared.want.SessionEntry.{SessionEntry}
use Rattle.talks.specs.declared.want.BlockStanding.{BlockStanding}
use Rattle.talks.specs.declared.want.BlockStanding.TheVariants as standing
use Rattle.served_machine.specs.Entries.{is_way_of, admits}

-- ---- steps

-- a step of the server on an event of this client
pub record TakesEvent {S X : Type 0} (Reads : ReadingRelation) (state : S → StoreState) (c : ℕ) (e : Event) (a : Answer) (old new : Server S X) : Type 0 where
  pub history : KeepsHistory (state old.store) (state new.store)
  pub stopped : old.stopped ≡ true → (a ≡ Refused IoError) × (new ≡ old)
  pub running : new.stopped ≡ true → a ≡ Refused IoError
  pub steps : Steps Reads state c old e a new
  pub dropped : KeepsDefinitions old new

-- so asked for, a session for this role may be opened wherever the server stands, or nowhere
abbrev pub IsLetIn : {S X : Type 0} → (S → StoreState) → Server S X → SessionEntry → TheName → Type 0
IsLetIn state server entry login = (w : At) → Represents state server w → admits w.standing.machine.committed entry login ≡ true

abbrev pub IsTurnedAway : {S X : Type 0} → (S → StoreState) → Server S X → SessionEntry → TheName → Type 0
IsTurnedAway state server entry login = (w : At) → Represents state server w → admits w.standing.machine.committed entry login ≡ false

-- what a client is answered that asks for a session: a server that has stopped refuses it; whom the place does not admit is turned away; memory is
-- refused, to one who comes by a way for that role; or the server takes the event that opens it, of whom the place admits
pub data OpensFor {S X : Type 0} (Reads : ReadingRelation) (state : S → StoreState) (c n : ℕ) (login : TheName) (entry : SessionEntry) (a : Answer) (old new : Server S X) : Type 0 where
  has_stopped : old.stopped ≡ true → a ≡ Refused IoError → new ≡ old → OpensFor Reads state c n login entry a old new
  turns_away : old.stopped ≡ false → IsTurnedAway state old entry login → a ≡ Refused InvalidAuthorization → new ≡ old → OpensFor Reads state c n login entry a old new
  lacks_memory : old.stopped ≡ false → is_way_of entry.way login ≡ true → a ≡ Refused OutOfMemory → new ≡ old → OpensFor Reads state c n login entry a old new
  takes : old.stopped ≡ false → IsLetIn state old entry login → n < 2 ^ 32 → TakesEvent Reads state c (event.Open n login) a old new → OpensFor Reads state c n login entry a old new

-- a step that a client wants; the event that opens a session comes only with how it is asked for
abbrev pub TakesStep : {S X : Type 0} → ReadingRelation → (S → StoreState) → ℕ → Want → Reply → Server S X → Server S X → Type 0
TakesStep Reads state c (want.Event (event.Statement n text)) (reply.Answer a) old new = TakesEvent Reads state c (event.Statement n text) a old new
TakesStep Reads state c (want.Event (event.Close n)) (reply.Answer a) old new = TakesEvent Reads state c (event.Close n) a old new
TakesStep Reads state c (want.Open n login entry) (reply.Answer a) old new = OpensFor Reads state c n login entry a old new
TakesStep Reads state c _ _ old new = ⊥

-- ---- questions

abbrev pub standing_of : Block → BlockStanding
standing_of Outside = standing.Outside
standing_of (Inside role) = standing.Inside
standing_of (Failed role) = standing.Failed

-- how the block of a client's session stands, or None where it is not open
abbrev pub IsStandingOf : {S X : Type 0} → (S → StoreState) → ℕ → ℕ → Option BlockStanding → Server S X → Type 0
IsStandingOf state c n b server = (w : At) → Represents state server w → b ≡ option_map (λ s. standing_of s.block) (session_of (number_in c n) w.standing.machine.sessions)

-- what a statement of this text would answer in a client's session; a server that has stopped describes none
abbrev pub IsDescribedTo : {S X : Type 0} → ReadingRelation → (S → StoreState) → ℕ → ℕ → TheText → StatementDescription → Server S X → Type 0
IsDescribedTo Reads state c n text d server = (server.stopped ≡ true → d ≡ describes.Refused IoError)
    × ((w : At) → Represents state server w → IsDescription Reads w.standing.machine (number_in c n) text d)

-- what the table of this name keeps for a role was looked up; the server then stands as it stood, or has stopped
pub record LooksUpKept {S X : Type 0} (Reads : ReadingRelation) (state : S → StoreState) (table role : TheName) (r : Found) (old new : Server S X) : Type 0 where
  pub history : KeepsHistory (state old.store) (state new.store)
  pub stopped : old.stopped ≡ true → (r ≡ Err IoError) × (new ≡ old)
  pub running : new.stopped ≡ true → r ≡ Err IoError
  pub looks : LooksVerifierUp Reads state role r old new
  pub leaves : LeavesMachine state role r old new
  pub finds : FindsKept state table role r old

-- a question of a client
abbrev pub TellsClient : {S X : Type 0} → ReadingRelation → (S → StoreState) → ℕ → Want → Reply → Server S X → Server S X → Type 0
TellsClient Reads state c (want.Standing n) (reply.Standing b) old new = IsStandingOf state c n b old × (new ≡ old)
TellsClient Reads state c (want.Description n text) (reply.Description d) old new = IsDescribedTo Reads state c n text d old × (new ≡ old)
TellsClient Reads state c (want.Verifier table role) (reply.Verifier r) old new = LooksUpKept Reads state table role r old new
TellsClient Reads state c _ _ old new = ⊥

-- ---- ends of sessions

-- the first session that a client has open is closed
pub record ClosesOne {S X : Type 0} (Reads : ReadingRelation) (state : S → StoreState) (c : ℕ) (old new : Server S X) : Type 0 where
  pub history : KeepsHistory (state old.store) (state new.store)
  pub closes : ClosesNext Reads state c old new
