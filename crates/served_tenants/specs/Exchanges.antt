-- What a server does for its clients, one exchange after the other, and where it stands in between.
use Rattle.std.specs.Prelude.{◌≡◌, ℕ, true, false, List, [], ◌∷◌, ◌++◌, Err, IfOk}
use Rattle.std.specs.Option.{option_map}
use Rattle.sql_types.specs.declared.answer.Answer.{Answer}
use Rattle.sql_types.specs.declared.answer.Answer.TheVariants.{Refused}
use Rattle.sql_types.specs.declared.event.Event.{Event}
use Rattle.sql_types.specs.declared.event.Event.TheVariants as event
use Rattle.sql_types.specs.declared.state.SqlState.TheVariants.{InvalidAuthorization, OutOfMemory, IoError}
use Rattle.sql_ast.specs.declared.description.StatementDescription.{StatementDescription}
use Rattle.store.specs.Store.{StoreState}
use Rattle.abstract_database.specs.Descriptions.{IsDescription}
use Rattle.abstract_database.specs.Lists.{TheName}
use Rattle.abstract_database.specs.Machine.{number_in, session_of}
use Rattle.abstract_database.specs.Runs.{ReadingRelation, Stops, At, Happens}
use Rattle.kept_verifiers.specs.Verifiers.{kept_text}
use Rattle.server.specs.Standing.{event_of, Represents}
use Rattle.server.specs.LookUps.{Found, IsLeftByLookUp}
use Rattle.talks.specs.declared.want.Want.{Want}
use Rattle.talks.specs.declared.want.Want.TheVariants as want
use Rattle.talks.specs.declared.want.Reply.{Reply}
use Rattle.talks.specs.declared.want.Reply.TheVariants as reply
use Rattle.talks.specs.declared.want.SessionEntry.{SessionEntry}
use Rattle.talks.specs.declared.talk.Talk.{Ghosts as TalkGhosts}
use Rattle.talks.specs.declared.clients.ServedClients.{Ghosts as ClientsGhosts}
use Rattle.talks.specs.Turns.{Exchange, Turn, steps, asks, waits, leaves, ends, TakesTurn, TakesTurns}
use Rattle.served_machine.specs.declared.machine.ServedMachine.{ServedMachine}
use Rattle.served_machine.specs.Entries.{is_way_of, admits}
use Rattle.served_machine.specs.Machines.{machine_of}
use Rattle.served_machine.specs.Served.{standing_of}

-- ---- where a server stands

-- nothing is said of what a stop leaves
abbrev pub unsaid : Stops
unsaid from to P = Unit {0}

-- an event of a client is carried out where the server stands
abbrev pub CarriesOutAt : ReadingRelation → At → ℕ → Event → Answer → At → Type 0
CarriesOutAt Reads w c e a next = Happens Reads unsaid w (event_of c e) a next

-- A session is asked for. The server has stopped; or it is not asked, since the place turns the role away or memory is refused, to one who
-- comes by a way for that role; or it takes the event
pub data OpensSessionAt (Reads : ReadingRelation) (w : At) (c n : ℕ) (login : TheName) (entry : SessionEntry) (a : Answer) (next : At) : Type 0 where
  has_stopped : w.standing.machine.stopped ≡ true → a ≡ Refused IoError → next ≡ w → OpensSessionAt Reads w c n login entry a next
  turns_away : w.standing.machine.stopped ≡ false → admits w.standing.machine.committed entry login ≡ false → a ≡ Refused InvalidAuthorization → next ≡ w → OpensSessionAt Reads w c n login entry a next
  lacks_memory : w.standing.machine.stopped ≡ false → is_way_of entry.way login ≡ true → a ≡ Refused OutOfMemory → next ≡ w → OpensSessionAt Reads w c n login entry a next
  takes : w.standing.machine.stopped ≡ false → admits w.standing.machine.committed entry login ≡ true → CarriesOutAt Reads w c (event.Open n login) a next → OpensSessionAt Reads w c n login entry a next

-- a look-up that the device fails has stopped the server, and one of a server that has stopped does nothing
pub record StopsWithDevice (w : At) (f : Found) (next : At) : Type 0 where
  pub fails : f ≡ Err IoError → next.standing.machine.stopped ≡ true
  pub stopped : w.standing.machine.stopped ≡ true → (f ≡ Err IoError) × (next ≡ w)

-- what a client wants is done where the server stands, and this is the reply: an event is carried out, which opens no session, or a session is asked
-- for; a question is answered, and the server stands as before; or a verifier is looked up, and it stands as before or has stopped
abbrev pub Replies : ReadingRelation → At → ℕ → Want → Reply → At → Type 0
Replies Reads w c (want.Event (event.Statement n text)) r next = (a : Answer) × (r ≡ reply.Answer a) × CarriesOutAt Reads w c (event.Statement n text) a next
Replies Reads w c (want.Event (event.Close n)) r next = (a : Answer) × (r ≡ reply.Answer a) × CarriesOutAt Reads w c (event.Close n) a next
Replies Reads w c (want.Open n login entry) r next = (a : Answer) × (r ≡ reply.Answer a) × OpensSessionAt Reads w c n login entry a next
Replies Reads w c (want.Standing n) r next = (r ≡ reply.Standing (option_map (λ s. standing_of s.block) (session_of (number_in c n) w.standing.machine.sessions))) × (next ≡ w)
Replies Reads w c (want.Description n text) r next = (d : StatementDescription) × (r ≡ reply.Description d) × IsDescription Reads w.standing.machine (number_in c n) text d × (next ≡ w)
Replies Reads w c (want.Verifier table role) r next =
    (f : Found) × (r ≡ reply.Verifier f) × IsLeftByLookUp role f w.standing.machine next.standing.machine × IfOk f (λ text. text ≡ kept_text w.standing.machine.committed table role)
    × StopsWithDevice w f next
Replies Reads w c _ r next = ⊥

-- one exchange after the other
abbrev pub Exchanges : ReadingRelation → At → List Exchange → At → Type 0
Exchanges Reads w [] end = end ≡ w
Exchanges Reads w (x ∷ xs) end = (next : At) × Replies Reads w x.client x.want x.reply next × Exchanges Reads next xs end

-- ---- turns

module _ {S X T C : Type 0} (Reads : ReadingRelation) (state : S → StoreState) (t : TalkGhosts T) (k : ClientsGhosts C T) where
  -- the exchanges of a turn; the end of a session that a client has left open is one in which it wants that, and is told nothing
  abbrev pub exchanges_in : (old : ServedMachine S X) (before : C) (turn : Turn) (new : ServedMachine S X) (after : C) → TakesTurn (machine_of Reads state) t k old before turn new after → List Exchange
  exchanges_in old before (steps d ds) new after took = d ∷ ds
  exchanges_in old before (asks d) new after took = d ∷ []
  exchanges_in old before (waits c w) new after took = []
  exchanges_in old before (leaves c) new after took = record { client = c; want = want.Event (event.Close took.1.closes.session); reply = reply.Answer took.1.closes.answer } ∷ []
  exchanges_in old before (ends c why) new after took = []

  -- and of all turns
  abbrev pub exchanges_of : (old : ServedMachine S X) (before : C) (turns : List Turn) (new : ServedMachine S X) (after : C) → TakesTurns (machine_of Reads state) t k old before turns new after → List Exchange
  exchanges_of old before [] new after took = []
  exchanges_of old before (turn ∷ turns) new after took = exchanges_in old took.0 turn took.1 took.2 took.4 ++ exchanges_of took.1 took.2 turns new after took.6

-- A server over a sound store stood here and worked, and took these turns for clients. From here their exchanges were made one after the other,
-- and it stands where they have led
pub record HasServed {S X T C : Type 0} (Reads : ReadingRelation) (state : S → StoreState) (t : TalkGhosts T) (k : ClientsGhosts C T) (w : At) (old : ServedMachine S X) (before : C) (turns : List Turn) (new : ServedMachine S X) (after : C)
    (took : TakesTurns (machine_of Reads state) t k old before turns new after) : Type 0 where
  pub sound : (state old.server.store).sound
  pub stood : Represents state old.server w
  pub works : w.standing.machine.stopped ≡ false
  pub end : At
  pub stands : Represents state new.server end
  pub made : Exchanges Reads w (exchanges_of Reads state t k old before turns new after took) end

-- whatever turns a server took, it has served so
abbrev pub turns_are_exchanges : (S X T C : Type 0) (Reads : ReadingRelation) (state : S → StoreState) (t : TalkGhosts T) (k : ClientsGhosts C T) → Type 0
turns_are_exchanges S X T C Reads state t k = (w : At) (old : ServedMachine S X) (before : C) (turns : List Turn) (new : ServedMachine S X) (after : C) (took : TakesTurns (machine_of Reads state) t k old before turns new after) →
    (state old.server.store).sound → Represents state old.server w → w.standing.machine.stopped ≡ false → HasServed Reads state t k w old before turns new after took
