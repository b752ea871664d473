-- Which steps opened a session for a client that was admitted then.
use Rattle.std.specs.Prelude.{◌≡◌, ◌⊎◌, ℕ, List, [], ◌∷◌}
use Rattle.store.specs.Store.{StoreState}
use Rattle.abstract_database.specs.Lists.{TheName}
use Rattle.abstract_database.specs.Runs.{ReadingRelation}
use Rattle.server.specs.declared.server.Server.{Server}
use Rattle.talks.specs.declared.want.Want.{Want}
use Rattle.talks.specs.declared.want.Want.TheVariants as want
use Rattle.talks.specs.declared.talk.Talk.{Ghosts as TalkGhosts}
use Rattle.talks.specs.declared.clients.ServedClients.{Ghosts as ClientsGhosts}
use Rattle.talks.specs.Wants.{TellsOpened}
use Rattle.talks.specs.Turns.{Exchange, Turn, steps, asks, waits, leaves, ends, Steps, TakesTurn, TakesTurns, StaysOpenInSteps, StaysOpenInTurns}
use Rattle.served_machine.specs.declared.machine.ServedMachine.{ServedMachine}
use Rattle.served_machine.specs.Sessions.{HasOwnSession}
use Rattle.served_machine.specs.Served.{IsLetIn}
use Rattle.served_machine.specs.Machines.{machine_of}

-- this wants a session of this number for this role, which its place admits where the server stands
abbrev pub WantsAdmitted : {S X : Type 0} → (S → StoreState) → Server S X → Want → ℕ → TheName → Type 0
WantsAdmitted state server (want.Open k role entry) n login = (k ≡ n) × (role ≡ login) × IsLetIn state server entry login
WantsAdmitted state server _ n login = ⊥

-- a step opens this session of this client for this role, which its place admits: its conversation wanted that, it is answered so, and the session is
-- there, and was not before
abbrev pub OpensAdmitted : {S X : Type 0} → (S → StoreState) → ServedMachine S X → Exchange → ServedMachine S X → ℕ → ℕ → TheName → Type 0
OpensAdmitted state old d new c n login = (d.client ≡ c) × WantsAdmitted state old.server d.want n login × TellsOpened d.reply
    × (HasOwnSession state old.server c n login → ⊥) × HasOwnSession state new.server c n login

module _ {S X T C : Type 0} (Reads : ReadingRelation) (state : S → StoreState) (t : TalkGhosts T) (k : ClientsGhosts C T) where
  -- one of these steps did, and since then the session stays open
  abbrev pub AdmittedBySteps : (clients : C) (old : ServedMachine S X) (ds : List Exchange) (new : ServedMachine S X) → Steps (machine_of Reads state) t k clients old ds new → ℕ → ℕ → TheName → Type 0
  AdmittedBySteps clients old [] new made c n login = ⊥
  AdmittedBySteps clients old (d ∷ ds) new made c n login =
      (OpensAdmitted state old d made.0 c n login × StaysOpenInSteps (machine_of Reads state) t k clients made.0 ds new made.5 c n login) ⊎ AdmittedBySteps clients made.0 ds new made.5 c n login

  abbrev pub AdmittedHere : (old : ServedMachine S X) (before : C) (turn : Turn) (new : ServedMachine S X) (after : C) → TakesTurn (machine_of Reads state) t k old before turn new after → ℕ → ℕ → TheName → Type 0
  AdmittedHere old before (steps d ds) new after took c n login = AdmittedBySteps before old (d ∷ ds) new took.0 c n login
  AdmittedHere old before (asks d) new after took c n login = ⊥
  AdmittedHere old before (waits client w) new after took c n login = ⊥
  AdmittedHere old before (leaves client) new after took c n login = ⊥
  AdmittedHere old before (ends client w) new after took c n login = ⊥

  -- a step of one of these turns did, and since then the session stays open
  abbrev pub AdmittedIn : (old : ServedMachine S X) (before : C) (turns : List Turn) (new : ServedMachine S X) (after : C) → TakesTurns (machine_of Reads state) t k old before turns new after → ℕ → ℕ → TheName → Type 0
  AdmittedIn old before [] new after took c n login = ⊥
  AdmittedIn old before (turn ∷ turns) new after took c n login =
      (AdmittedHere old took.0 turn took.1 took.2 took.4 c n login × StaysOpenInTurns (machine_of Reads state) t k took.1 took.2 turns new after took.6 c n login) ⊎ AdmittedIn took.1 took.2 turns new after took.6 c n login
