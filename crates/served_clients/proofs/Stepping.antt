-- Turns as steps of the server.
use Rattle.std.proofs.Common.{ℕ, List, [], ◌∷◌, ◌++◌, refl, ap, subst}
use Rattle.sql_types.specs.declared.answer.Answer.{Answer}
use Rattle.sql_types.specs.declared.answer.Answer.TheVariants.{Refused}
use Rattle.sql_types.specs.declared.event.Event.{Event}
use Rattle.sql_types.specs.declared.event.Event.TheVariants as event
use Rattle.sql_types.specs.declared.state.SqlState.TheVariants.{IoError}
use Rattle.store.specs.Store.{StoreState, KeepsHistory}
use Rattle.abstract_database.specs.Lists.{TheName}
use Rattle.abstract_database.specs.Runs.{ReadingRelation}
use Rattle.server.specs.declared.server.Server.{Server}
use Rattle.server.specs.Runs.{Steps as ServerSteps}
use Rattle.server.specs.LookUps.{Found, look_up_client, TakesOwn, LooksVerifierUp, had_stopped, lacked_memory, was_refused, did_not_open, read, failed}
use Rattle.talks.specs.declared.want.Want.{Want}
use Rattle.talks.specs.declared.want.Want.TheVariants as want
use Rattle.talks.specs.declared.want.Reply.{Reply}
use Rattle.talks.specs.declared.want.Reply.TheVariants as reply
use Rattle.talks.specs.declared.want.SessionEntry.{SessionEntry}
use Rattle.talks.specs.declared.talk.Talk.{Ghosts as TalkGhosts}
use Rattle.talks.specs.declared.clients.ServedClients.{Ghosts as ClientsGhosts}
use Rattle.talks.specs.Turns.{Exchange, Turn, steps, asks, waits, leaves, ends, Steps, TakesTurn, TakesTurns}
use Rattle.served_machine.specs.declared.machine.ServedMachine.{ServedMachine}
use Rattle.served_machine.specs.Served.{TakesEvent, OpensFor, has_stopped, turns_away, lacks_memory, takes, TakesStep, TellsClient}
use Rattle.served_machine.specs.Machines.{machine_of}
use Rattle.served_clients.specs.Taken.{Taken, TakesEach}
use Rattle.served_clients.specs.Spelled.{just_taken, of_opening, of_look_up, of_question, of_step, of_steps, of_turn, of_turns}

module _ {S X : Type 0} (Reads : ReadingRelation) (state : S → StoreState) where
  -- these, and then more
  pub each_joined : (first mid last : Server S X) (ts more : List Taken) → TakesEach Reads state first ts mid → TakesEach Reads state mid more last → TakesEach Reads state first (ts ++ more) last
  each_joined first mid last [] more done rest = subst (λ (s : Server S X). TakesEach Reads state s more last) done rest
  each_joined first mid last (t ∷ ts) more done rest = (done.0, done.1, each_joined done.0 mid last ts more done.2 rest)

  -- one step
  one : (c : ℕ) (e : Event) (a : Answer) (old new : Server S X) → KeepsHistory (state old.store) (state new.store) → ServerSteps Reads state c old e a new
      → TakesEach Reads state old (just_taken Reads state c e a new ∷ []) new
  one c e a old new history made = (new, record { history = history; steps = made; clock = refl }, refl)

  taken : (c : ℕ) (e : Event) (a : Answer) (old new : Server S X) → TakesEvent Reads state c e a old new → TakesEach Reads state old (just_taken Reads state c e a new ∷ []) new
  taken c e a old new made = one c e a old new made.history made.steps

  opening : (c n : ℕ) (login : TheName) (entry : SessionEntry) (a : Answer) (old new : Server S X) (made : OpensFor Reads state c n login entry a old new)
      → TakesEach Reads state old (of_opening Reads state c n login entry a old new made) new
  opening c n login entry a old new (has_stopped was refused is) = is
  opening c n login entry a old new (turns_away runs away refused is) = is
  opening c n login entry a old new (lacks_memory runs admitted refused is) = is
  opening c n login entry a old new (takes runs admitted small made) = taken c (event.Open n login) a old new made

  pub step : (c : ℕ) (w : Want) (r : Reply) (old new : Server S X) (made : TakesStep Reads state c w r old new) → TakesEach Reads state old (of_step Reads state c w r old new made) new
  step c (want.Event (event.Statement n text)) (reply.Answer a) old new made = taken c (event.Statement n text) a old new made
  step c (want.Event (event.Close n)) (reply.Answer a) old new made = taken c (event.Close n) a old new made
  step c (want.Open n login entry) (reply.Answer a) old new made = opening c n login entry a old new made
  step c (want.Event (event.Open n login)) r old new made = absurd made
  step c (want.Event (event.Statement n text)) (reply.Standing b) old new made = absurd made
  step c (want.Event (event.Close n)) (reply.Standing b) old new made = absurd made
  step c (want.Open n login entry) (reply.Standing b) old new made = absurd made
  step c (want.Event (event.Statement n text)) (reply.Description x) old new made = absurd made
  step c (want.Event (event.Close n)) (reply.Description x) old new made = absurd made
  step c (want.Open n login entry) (reply.Description x) old new made = absurd made
  step c (want.Event (event.Statement n text)) (reply.Verifier v) old new made = absurd made
  step c (want.Event (event.Close n)) (reply.Verifier v) old new made = absurd made
  step c (want.Open n login entry) (reply.Verifier v) old new made = absurd made
  step c want.Message r old new made = absurd made
  step c (want.Standing n) r old new made = absurd made
  step c (want.Description n text) r old new made = absurd made
  step c (want.Verifier table role) r old new made = absurd made
  step c (want.End late) r old new made = absurd made
  step c want.OutOfMemory r old new made = absurd made

  -- ---- questions

  own : (e : Event) (a : Answer) (old new : Server S X) → TakesOwn Reads state e a old new → TakesEach Reads state old (just_taken Reads state look_up_client e a new ∷ []) new
  own e a old new made = one look_up_client e a old new made.history made.steps

  looked_up : (role : TheName) (r : Found) (old new : Server S X) (looks : LooksVerifierUp Reads state role r old new) → TakesEach Reads state old (of_look_up Reads state role r old new looks) new
  looked_up role r old new (had_stopped was told is) = is
  looked_up role r old new (lacked_memory runs told is) = is
  looked_up role r old new (was_refused code runs told made) = own (event.Open 0 role) (Refused code) old new made
  looked_up role r old new (did_not_open a runs told made accepted none) = own (event.Open 0 role) a old new made
  looked_up role r old new (read a b mid runs told made accepted closed) =
      each_joined old mid new (just_taken Reads state look_up_client (event.Open 0 role) a mid ∷ []) (just_taken Reads state look_up_client (event.Close 0) b new ∷ [])
      (own (event.Open 0 role) a old mid made) (own (event.Close 0) b mid new closed)
  looked_up role r old new (failed a text mid runs told made accepted stops fails) =
      each_joined old mid new (just_taken Reads state look_up_client (event.Open 0 role) a mid ∷ []) (just_taken Reads state look_up_client (event.Statement 0 text) (Refused IoError) new ∷ [])
      (own (event.Open 0 role) a old mid made) (own (event.Statement 0 text) (Refused IoError) mid new fails)

  pub question : (c : ℕ) (w : Want) (r : Reply) (old new : Server S X) (tells : TellsClient Reads state c w r old new) → TakesEach Reads state old (of_question Reads state c w r old new tells) new
  question c (want.Standing n) (reply.Standing b) old new tells = tells.1
  question c (want.Description n text) (reply.Description x) old new tells = tells.1
  question c (want.Verifier table role) (reply.Verifier r) old new tells = looked_up role r old new tells.looks
  question c (want.Standing n) (reply.Answer a) old new tells = absurd tells
  question c (want.Standing n) (reply.Description x) old new tells = absurd tells
  question c (want.Standing n) (reply.Verifier v) old new tells = absurd tells
  question c (want.Description n text) (reply.Answer a) old new tells = absurd tells
  question c (want.Description n text) (reply.Standing b) old new tells = absurd tells
  question c (want.Description n text) (reply.Verifier v) old new tells = absurd tells
  question c (want.Verifier table role) (reply.Answer a) old new tells = absurd tells
  question c (want.Verifier table role) (reply.Standing b) old new tells = absurd tells
  question c (want.Verifier table role) (reply.Description x) old new tells = absurd tells
  question c (want.Event e) r old new tells = absurd tells
  question c (want.Open n login entry) r old new tells = absurd tells
  question c want.Message r old new tells = absurd tells
  question c (want.End late) r old new tells = absurd tells
  question c want.OutOfMemory r old new tells = absurd tells

  module _ {T C : Type 0} (t : TalkGhosts T) (k : ClientsGhosts C T) where
    pub all_steps : (clients : C) (old : ServedMachine S X) (ds : List Exchange) (new : ServedMachine S X) (made : Steps (machine_of Reads state) t k clients old ds new)
        → TakesEach Reads state old.server (of_steps Reads state t k clients old ds new made) new.server
    all_steps clients old [] new made = ap (λ (m : ServedMachine S X). m.server) made
    all_steps clients old (d ∷ ds) new made =
        each_joined old.server made.0.server new.server (of_step Reads state d.client d.want d.reply old.server made.0.server made.4) (of_steps Reads state t k clients made.0 ds new made.5)
        (step d.client d.want d.reply old.server made.0.server made.4) (all_steps clients made.0 ds new made.5)

    pub turn : (old : ServedMachine S X) (before : C) (u : Turn) (new : ServedMachine S X) (after : C) (took : TakesTurn (machine_of Reads state) t k old before u new after)
        → TakesEach Reads state old.server (of_turn Reads state t k old before u new after took) new.server
    turn old before (steps d ds) new after took = all_steps before old (d ∷ ds) new took.0
    turn old before (asks d) new after took = question d.client d.want d.reply old.server new.server took.2
    turn old before (waits c w) new after took = ap (λ (m : ServedMachine S X). m.server) took.2
    turn old before (leaves c) new after took = one c (event.Close took.1.closes.session) took.1.closes.answer old.server new.server took.1.history took.1.closes.steps
    turn old before (ends c why) new after took = ap (λ (m : ServedMachine S X). m.server) took.4

    pub turns : (old : ServedMachine S X) (before : C) (us : List Turn) (new : ServedMachine S X) (after : C) (took : TakesTurns (machine_of Reads state) t k old before us new after)
        → TakesEach Reads state old.server (of_turns Reads state t k old before us new after took) new.server
    turns old before [] new after took = ap (λ (m : ServedMachine S X). m.server) took.0
    turns old before (u ∷ us) new after took =
        each_joined old.server took.1.server new.server (of_turn Reads state t k old took.0 u took.1 took.2 took.4) (of_turns Reads state t k took.1 took.2 us new after took.6)
        (turn old took.0 u took.1 took.2 took.4) (turns took.1 took.2 us new after took.6)
