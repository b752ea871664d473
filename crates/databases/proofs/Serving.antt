-- Clients that are served: their turns are steps of the server, and do nothing to one that has stopped.
use Rattle.std.proofs.Common.{◌≡◌, ◌∙◌, ℕ, true, false, List, [], ◌∷◌, sym, ap, subst, arith}
use Rattle.sql_types.specs.declared.answer.Answer.{Answer}
use Rattle.sql_types.specs.declared.event.Event.TheVariants as event
use Rattle.store.specs.Store.{StoreState, KeepsHistory}
use Rattle.store.proofs.Reading.{history_joined}
use Rattle.abstract_database.specs.Lists.{TheName}
use Rattle.abstract_database.specs.Runs.{ReadingRelation}
use Rattle.server.specs.declared.server.Server.{Server}
use Rattle.talks.specs.declared.want.Want.{Want}
use Rattle.talks.specs.declared.want.Want.TheVariants as want
use Rattle.talks.specs.declared.want.Reply.{Reply}
use Rattle.talks.specs.declared.want.Reply.TheVariants as reply
use Rattle.talks.specs.declared.want.SessionEntry.{SessionEntry}
use Rattle.talks.specs.declared.talk.Talk.{Ghosts as TalkGhosts}
use Rattle.talks.specs.declared.clients.ServedClients.{Ghosts as ClientsGhosts}
use Rattle.talks.specs.Turns.{Exchange, Turn, steps, asks, waits, leaves, ends, Steps, TakesTurn, TakesTurns}
use Rattle.served_machine.specs.declared.machine.ServedMachine.{ServedMachine}
use Rattle.served_machine.specs.Served.{OpensFor, has_stopped, turns_away, lacks_memory, takes, TakesStep}
use Rattle.served_machine.specs.ServedLaws.{tells_nothing}
use Rattle.served_machine.specs.Machines.{machine_of}
use Rattle.served_clients.specs.Taken.{Taken, TakesEach}
use Rattle.databases.specs.Clients.{of_taken}
use Rattle.databases.proofs.Answering.{Stepped}

-- ---- the events that a server took

module _ {S X : Type 0} (Reads : ReadingRelation) (state : S → StoreState) where
  -- are its steps
  pub taken_steps : (first last : Server S X) (taken : List Taken) → TakesEach Reads state first taken last → Stepped Reads state first (of_taken taken) last
  taken_steps first last [] each = each
  taken_steps first last (t ∷ taken) each =
      (each.0, record { history = each.1.history; steps = each.1.steps; clock = each.1.clock }, taken_steps each.0 last taken each.2)

  -- and its store keeps its history over them
  pub taken_history : (first last : Server S X) (taken : List Taken) → TakesEach Reads state first taken last → KeepsHistory (state first.store) (state last.store)
  taken_history first last [] each =
      subst (λ (s : Server S X). KeepsHistory (state first.store) (state s.store)) (sym each) (record { sound = λ is. is; fulls = omega arith; failures = omega arith; faults = omega arith })
  taken_history first last (t ∷ taken) each =
      history_joined (state first.store) (state each.0.store) (state last.store) each.1.history (taken_history each.0 last taken each.2)

  -- ---- a server that has stopped

  opening_stays : (c n : ℕ) (login : TheName) (entry : SessionEntry) (a : Answer) (old new : Server S X) → OpensFor Reads state c n login entry a old new → old.stopped ≡ true → new ≡ old
  opening_stays c n login entry a old new (has_stopped was refused is) stopped = is
  opening_stays c n login entry a old new (turns_away runs away refused is) stopped = is
  opening_stays c n login entry a old new (lacks_memory runs may refused is) stopped = is
  opening_stays c n login entry a old new (takes runs may small made) stopped = (made.stopped stopped).1

  step_stays : (c : ℕ) (w : Want) (r : Reply) (old new : Server S X) → TakesStep Reads state c w r old new → old.stopped ≡ true → new ≡ old
  step_stays c (want.Event (event.Statement n text)) (reply.Answer a) old new made stopped = (made.stopped stopped).1
  step_stays c (want.Event (event.Close n)) (reply.Answer a) old new made stopped = (made.stopped stopped).1
  step_stays c (want.Open n login entry) (reply.Answer a) old new made stopped = opening_stays c n login entry a old new made stopped
  step_stays c (want.Event (event.Open n login)) r old new made stopped = absurd made
  step_stays c (want.Event (event.Statement n text)) (reply.Standing b) old new made stopped = absurd made
  step_stays c (want.Event (event.Close n)) (reply.Standing b) old new made stopped = absurd made
  step_stays c (want.Open n login entry) (reply.Standing b) old new made stopped = absurd made
  step_stays c (want.Event (event.Statement n text)) (reply.Description x) old new made stopped = absurd made
  step_stays c (want.Event (event.Close n)) (reply.Description x) old new made stopped = absurd made
  step_stays c (want.Open n login entry) (reply.Description x) old new made stopped = absurd made
  step_stays c (want.Event (event.Statement n text)) (reply.Verifier v) old new made stopped = absurd made
  step_stays c (want.Event (event.Close n)) (reply.Verifier v) old new made stopped = absurd made
  step_stays c (want.Open n login entry) (reply.Verifier v) old new made stopped = absurd made
  step_stays c want.Message r old new made stopped = absurd made
  step_stays c (want.Standing n) r old new made stopped = absurd made
  step_stays c (want.Description n text) r old new made stopped = absurd made
  step_stays c (want.Verifier table role) r old new made stopped = absurd made
  step_stays c (want.End late) r old new made stopped = absurd made
  step_stays c want.OutOfMemory r old new made stopped = absurd made

  module _ {T C : Type 0} (t : TalkGhosts T) (k : ClientsGhosts C T) where
    steps_stay : (clients : C) (old : ServedMachine S X) (ds : List Exchange) (new : ServedMachine S X) → Steps (machine_of Reads state) t k clients old ds new → old.server.stopped ≡ true
        → new.server ≡ old.server
    steps_stay clients old [] new made stopped = ap (λ (s : ServedMachine S X). s.server) made
    steps_stay clients old (d ∷ ds) new made stopped =
        let first = step_stays d.client d.want d.reply old.server made.0.server made.4 stopped in
        steps_stay clients made.0 ds new made.5 (ap (λ (s : Server S X). s.stopped) first ∙ stopped) ∙ first

    turn_stays : (old : ServedMachine S X) (before : C) (u : Turn) (new : ServedMachine S X) (after : C) → TakesTurn (machine_of Reads state) t k old before u new after → old.server.stopped ≡ true
        → new.server ≡ old.server
    turn_stays old before (steps d ds) new after took stopped = steps_stay before old (d ∷ ds) new took.0 stopped
    turn_stays old before (asks d) new after took stopped = tells_nothing Reads state old.server new.server d.client d.want d.reply took.2 stopped
    turn_stays old before (waits c w) new after took stopped = ap (λ (s : ServedMachine S X). s.server) took.2
    turn_stays old before (leaves c) new after took stopped = let wrong : false ≡ true = sym took.1.closes.running ∙ stopped in absurd (let no : ⊥ = cc in no)
    turn_stays old before (ends c why) new after took stopped = ap (λ (s : ServedMachine S X). s.server) took.4

    -- it stays as it was
    pub turns_stay : (old : ServedMachine S X) (before : C) (us : List Turn) (new : ServedMachine S X) (after : C) → TakesTurns (machine_of Reads state) t k old before us new after
        → old.server.stopped ≡ true → new.server ≡ old.server
    turns_stay old before [] new after took stopped = ap (λ (s : ServedMachine S X). s.server) took.0
    turns_stay old before (u ∷ us) new after took stopped =
        let first = turn_stays old took.0 u took.1 took.2 took.4 stopped in
        turns_stay took.1 took.2 us new after took.6 (ap (λ (s : Server S X). s.stopped) first ∙ stopped) ∙ first
