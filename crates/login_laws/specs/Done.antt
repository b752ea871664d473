-- What a server did for its clients: each step and each question, one after the other, and where the server stood before it.
use Rattle.std.specs.Prelude.{◌⊎◌, ◌==◌, ℕ, List, [], ◌∷◌, ◌++◌, filter}
use Rattle.store.specs.Store.{StoreState}
use Rattle.abstract_database.specs.Runs.{ReadingRelation}
use Rattle.server.specs.declared.server.Server.{Server}
use Rattle.talks.specs.declared.talk.Talk.{Ghosts as TalkGhosts}
use Rattle.talks.specs.declared.clients.ServedClients.{Ghosts as ClientsGhosts}
use Rattle.talks.specs.Wants.{Learnt, learnt}
use Rattle.talks.specs.Turns.{Exchange, Turn, steps, asks, waits, leaves, ends, Steps, TakesTurn, TakesTurns}
use Rattle.served_machine.specs.declared.machine.ServedMachine.{ServedMachine}
use Rattle.served_machine.specs.Served.{TakesStep, TellsClient}
use Rattle.served_machine.specs.Machines.{machine_of}

-- a client wanted something of a server that stood so, and was told something
pub record Done (S X : Type 0) : Type 0 where
  pub server : Server S X
  pub exchange : Exchange

-- the server made the step that was wanted, or answered the question, from where it stood
abbrev pub WasDone : {S X : Type 0} → ReadingRelation → (S → StoreState) → Done S X → Type 0
WasDone {S} {X} Reads state x = (next : Server S X)
    × (TakesStep Reads state x.exchange.client x.exchange.want x.exchange.reply x.server next ⊎ TellsClient Reads state x.exchange.client x.exchange.want x.exchange.reply x.server next)

-- what was done for this client
abbrev pub done_for : {S X : Type 0} → ℕ → List (Done S X) → List (Done S X)
done_for c xs = filter (λ x. x.exchange.client == c) xs

-- what was wanted, and what was told of that
abbrev pub told_in : {S X : Type 0} → List (Done S X) → List Learnt
told_in [] = []
told_in (x ∷ xs) = learnt x.exchange.want x.exchange.reply ∷ told_in xs

module _ {S X T C : Type 0} (Reads : ReadingRelation) (state : S → StoreState) (t : TalkGhosts T) (k : ClientsGhosts C T) where
  -- what was done in steps
  abbrev pub done_by_steps : (clients : C) (old : ServedMachine S X) (ds : List Exchange) (new : ServedMachine S X) → Steps (machine_of Reads state) t k clients old ds new → List (Done S X)
  done_by_steps clients old [] new made = []
  done_by_steps clients old (d ∷ ds) new made = record { server = old.server; exchange = d } ∷ done_by_steps clients made.0 ds new made.5

  -- and in a turn; that a session is closed which a client has left open is wanted by no conversation
  abbrev pub done_in : (old : ServedMachine S X) (before : C) (turn : Turn) (new : ServedMachine S X) (after : C) → TakesTurn (machine_of Reads state) t k old before turn new after → List (Done S X)
  done_in old before (steps d ds) new after took = done_by_steps before old (d ∷ ds) new took.0
  done_in old before (asks d) new after took = record { server = old.server; exchange = d } ∷ []
  done_in old before (waits client w) new after took = []
  done_in old before (leaves client) new after took = []
  done_in old before (ends client w) new after took = []

  -- and in all turns
  abbrev pub all_done : (old : ServedMachine S X) (before : C) (turns : List Turn) (new : ServedMachine S X) (after : C) → TakesTurns (machine_of Reads state) t k old before turns new after → List (Done S X)
  all_done old before [] new after took = []
  all_done old before (turn ∷ turns) new after took = done_in old took.0 turn took.1 took.2 took.4 ++ all_done took.1 took.2 turns new after took.6
