-- Which answers clients were told, and at which place each stands among all that the server gave.
use Rattle.std.specs.Prelude.{◌≡◌, ◌⊎◌, ◌≤◌, ◌+◌, ℕ, List, [], ◌∷◌, length, slice_get, Some}
use Rattle.store.specs.Store.{StoreState}
use Rattle.abstract_database.specs.Runs.{ReadingRelation}
use Rattle.talks.specs.declared.want.Reply.TheVariants as reply
use Rattle.talks.specs.declared.talk.Talk.{Ghosts as TalkGhosts}
use Rattle.talks.specs.declared.clients.ServedClients.{Ghosts as ClientsGhosts}
use Rattle.talks.specs.Turns.{Exchange, Turn, steps, asks, waits, leaves, ends, Steps, TakesTurn, TakesTurns}
use Rattle.served_machine.specs.declared.machine.ServedMachine.{ServedMachine}
use Rattle.served_machine.specs.Machines.{machine_of}
use Rattle.served_clients.specs.Taken.{Taken}
use Rattle.served_clients.specs.Spelled.{of_step, of_turn}

module _ {S X T C : Type 0} (Reads : ReadingRelation) (state : S → StoreState) (t : TalkGhosts T) (k : ClientsGhosts C T) where
  -- one of these steps was an event that the server took, which has this place among those that it took in them
  abbrev pub IsDoneAt : (clients : C) (old : ServedMachine S X) (ds : List Exchange) (new : ServedMachine S X) → Steps (machine_of Reads state) t k clients old ds new → Exchange → ℕ → Type 0
  IsDoneAt clients old [] new made told place = ⊥
  IsDoneAt clients old (d ∷ ds) new made told place =
      let first = length (of_step Reads state d.client d.want d.reply old.server made.0.server made.4) in
      ((told ≡ d) × (first ≡ 1) × (place ≡ 0)) ⊎ ((later : ℕ) × (place ≡ first + later) × IsDoneAt clients made.0 ds new made.5 told later)

  -- so was one of this turn
  abbrev pub IsToldHere : (old : ServedMachine S X) (before : C) (turn : Turn) (new : ServedMachine S X) (after : C) → TakesTurn (machine_of Reads state) t k old before turn new after → Exchange → ℕ → Type 0
  IsToldHere old before (steps d ds) new after took told place = IsDoneAt before old (d ∷ ds) new took.0 told place
  IsToldHere old before (asks d) new after took told place = ⊥
  IsToldHere old before (waits c w) new after took told place = ⊥
  IsToldHere old before (leaves c) new after took told place = ⊥
  IsToldHere old before (ends c why) new after took told place = ⊥

  -- a client was told this of an event that the server took, which has this place among all that it took; the clock of the store stood at this moment
  abbrev pub IsTold : (old : ServedMachine S X) (before : C) (turns : List Turn) (new : ServedMachine S X) (after : C) → TakesTurns (machine_of Reads state) t k old before turns new after → Exchange → ℕ → ℕ → Type 0
  IsTold old before [] new after took told moment place = ⊥
  IsTold old before (turn ∷ turns) new after took told moment place =
      (IsToldHere old took.0 turn took.1 took.2 took.4 told place × (moment ≡ (state took.1.server.store).time.moment))
      ⊎ ((later : ℕ) × (place ≡ length (of_turn Reads state t k old took.0 turn took.1 took.2 took.4) + later) × IsTold took.1 took.2 turns new after took.6 told moment later)

-- at this place stands an event of the client that was told this of it, and it was answered by then
pub record IsPlacedAt (ts : List Taken) (told : Exchange) (moment place : ℕ) : Type 0 where
  pub taken : Taken
  pub there : slice_get ts place ≡ Some taken
  pub client : taken.client ≡ told.client
  pub answer : told.reply ≡ reply.Answer taken.answer
  pub in_time : taken.moment ≤ moment
