-- Which events a server took in turns that were taken for clients.
use Rattle.std.specs.Prelude.{ℕ, List, [], ◌∷◌, ◌++◌}
use Rattle.sql_types.specs.declared.answer.Answer.{Answer}
use Rattle.sql_types.specs.declared.answer.Answer.TheVariants.{Refused}
use Rattle.sql_types.specs.declared.event.Event.{Event}
use Rattle.sql_types.specs.declared.event.Event.TheVariants as event
use Rattle.sql_types.specs.declared.state.SqlState.TheVariants.{IoError}
use Rattle.store.specs.Store.{StoreState}
use Rattle.abstract_database.specs.Lists.{TheName}
use Rattle.abstract_database.specs.Runs.{ReadingRelation}
use Rattle.server.specs.declared.server.Server.{Server}
use Rattle.server.specs.LookUps.{Found, look_up_client, LooksVerifierUp, had_stopped, lacked_memory, was_refused, did_not_open, read, failed}
use Rattle.talks.specs.declared.want.Want.{Want}
use Rattle.talks.specs.declared.want.Want.TheVariants as want
use Rattle.talks.specs.declared.want.Reply.{Reply}
use Rattle.talks.specs.declared.want.Reply.TheVariants as reply
use Rattle.talks.specs.declared.want.SessionEntry.{SessionEntry}
use Rattle.talks.specs.declared.talk.Talk.{Ghosts as TalkGhosts}
use Rattle.talks.specs.declared.clients.ServedClients.{Ghosts as ClientsGhosts}
use Rattle.talks.specs.Turns.{Exchange, Turn, steps, asks, waits, leaves, ends, Steps, TakesTurn, TakesTurns}
use Rattle.served_machine.specs.declared.machine.ServedMachine.{ServedMachine}
use Rattle.served_machine.specs.Served.{OpensFor, has_stopped, turns_away, lacks_memory, takes, TakesStep, TellsClient}
use Rattle.served_machine.specs.Machines.{machine_of}
use Rattle.served_clients.specs.Taken.{Taken}

module _ {S X : Type 0} (Reads : ReadingRelation) (state : S → StoreState) where
  -- an event that this server has just taken
  abbrev pub just_taken : ℕ → Event → Answer → Server S X → Taken
  just_taken c e a new = record { client = c; event = e; answer = a; moment = (state new.store).time.moment }

  -- nothing of an opening that the server was not asked for: it had stopped, or the place refused it
  abbrev pub of_opening : (c n : ℕ) (login : TheName) (entry : SessionEntry) (a : Answer) (old new : Server S X) → OpensFor Reads state c n login entry a old new → List Taken
  of_opening c n login entry a old new (has_stopped was refused is) = []
  of_opening c n login entry a old new (turns_away runs away refused is) = []
  of_opening c n login entry a old new (lacks_memory runs admitted refused is) = []
  of_opening c n login entry a old new (takes runs admitted small made) = just_taken c (event.Open n login) a new ∷ []

  -- what was taken in a look-up: events of the client of look-ups
  abbrev pub of_look_up : (role : TheName) (r : Found) (old new : Server S X) → LooksVerifierUp Reads state role r old new → List Taken
  of_look_up role r old new (had_stopped was told is) = []
  of_look_up role r old new (lacked_memory runs told is) = []
  of_look_up role r old new (was_refused code runs told made) = just_taken look_up_client (event.Open 0 role) (Refused code) new ∷ []
  of_look_up role r old new (did_not_open a runs told made accepted none) = just_taken look_up_client (event.Open 0 role) a new ∷ []
  of_look_up role r old new (read a b mid runs told made accepted closed) = just_taken look_up_client (event.Open 0 role) a mid ∷ just_taken look_up_client (event.Close 0) b new ∷ []
  of_look_up role r old new (failed a text mid runs told made accepted stops fails) =
      just_taken look_up_client (event.Open 0 role) a mid ∷ just_taken look_up_client (event.Statement 0 text) (Refused IoError) new ∷ []

  -- and in a question
  abbrev pub of_question : (c : ℕ) (w : Want) (r : Reply) (old new : Server S X) → TellsClient Reads state c w r old new → List Taken
  of_question c (want.Verifier table role) (reply.Verifier r) old new tells = of_look_up role r old new tells.looks
  of_question c w r old new tells = []

  -- what was taken in a step that a client wanted
  abbrev pub of_step : (c : ℕ) (w : Want) (r : Reply) (old new : Server S X) → TakesStep Reads state c w r old new → List Taken
  of_step c (want.Event (event.Statement n text)) (reply.Answer a) old new made = just_taken c (event.Statement n text) a new ∷ []
  of_step c (want.Event (event.Close n)) (reply.Answer a) old new made = just_taken c (event.Close n) a new ∷ []
  of_step c (want.Open n login entry) (reply.Answer a) old new made = of_opening c n login entry a old new made
  of_step c w r old new made = []

  module _ {T C : Type 0} (t : TalkGhosts T) (k : ClientsGhosts C T) where
    -- in steps, one after the other
    abbrev pub of_steps : (clients : C) (old : ServedMachine S X) (ds : List Exchange) (new : ServedMachine S X) → Steps (machine_of Reads state) t k clients old ds new → List Taken
    of_steps clients old [] new made = []
    of_steps clients old (d ∷ ds) new made = of_step d.client d.want d.reply old.server made.0.server made.4 ++ of_steps clients made.0 ds new made.5

    -- in a turn: a session that a client has left open is closed by an event of its own, and a look-up is made of events
    abbrev pub of_turn : (old : ServedMachine S X) (before : C) (turn : Turn) (new : ServedMachine S X) (after : C) → TakesTurn (machine_of Reads state) t k old before turn new after → List Taken
    of_turn old before (steps d ds) new after took = of_steps before old (d ∷ ds) new took.0
    of_turn old before (asks d) new after took = of_question d.client d.want d.reply old.server new.server took.2
    of_turn old before (waits c w) new after took = []
    of_turn old before (leaves c) new after took = just_taken c (event.Close took.1.closes.session) took.1.closes.answer new.server ∷ []
    of_turn old before (ends c why) new after took = []

    -- in all turns
    abbrev pub of_turns : (old : ServedMachine S X) (before : C) (turns : List Turn) (new : ServedMachine S X) (after : C) → TakesTurns (machine_of Reads state) t k old before turns new after → List Taken
    of_turns old before [] new after took = []
    of_turns old before (turn ∷ turns) new after took = of_turn old took.0 turn took.1 took.2 took.4 ++ of_turns took.1 took.2 turns new after took.6
