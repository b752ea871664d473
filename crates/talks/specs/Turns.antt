-- What was done for clients: one thing after the other.
use Rattle.std.specs.Prelude.{◌≡◌, ◌≢◌, ◌⊎◌, ℕ, Bool, true, false, List, [], ◌∷◌, ◌++◌, Option, Some}
use Rattle.talks.specs.declared.want.Want.{Want}
use Rattle.talks.specs.declared.want.Reply.{Reply}
use Rattle.talks.specs.declared.talk.Talk.{Ghosts as TalkGhosts}
use Rattle.talks.specs.declared.machine.Machine.{Ghosts as MachineGhosts}
use Rattle.talks.specs.declared.clients.ServedClients.{Ghosts as ClientsGhosts}
use Rattle.talks.specs.declared.clients.EndCause.{EndCause}
use Rattle.talks.specs.declared.clients.EndCause.TheVariants as end_cause
use Rattle.talks.specs.Wants.{Learnt, learnt, own, WantsStep, WantsQuestion, OpensSession, TellsOpened, RefusesMemory, refuses_lock}
use Rattle.talks.specs.Conversations.{IsGone, IsThere, wanted, ending, Passes}
use Rattle.talks.specs.Clients.{Contention, CutsOffOrExpels, IsStillServed, contended, forgotten, without, is_behind, IsPutLast, IsLeaving, NoneHasLost, Moved}

-- what a client wanted of the machine, and what it was told of that
pub record Exchange : Type 0 where
  pub client : ℕ
  pub want : Want
  pub reply : Reply

pub data Turn : Type 0 where
  -- steps were made, one at least, and then each was told
  steps : Exchange → List Exchange → Turn
  -- a question was answered
  asks : Exchange → Turn
  -- an event was not taken yet
  waits : ℕ → Want → Turn
  -- a session was closed that a client has left open
  leaves : ℕ → Turn
  -- a client was let go whose connection had ended
  ends : ℕ → EndCause → Turn

-- what client c learns of an exchange
abbrev pub learnt_of : ℕ → Exchange → List Learnt
learnt_of c d = own d.client c (learnt d.want d.reply)

abbrev pub learnt_of_all : ℕ → List Exchange → List Learnt
learnt_of_all c [] = []
learnt_of_all c (d ∷ ds) = learnt_of c d ++ learnt_of_all c ds

-- and in a turn
abbrev pub learnt_in : ℕ → Turn → List Learnt
learnt_in c (steps d ds) = learnt_of_all c (d ∷ ds)
learnt_in c (asks d) = learnt_of c d
learnt_in c (waits client w) = []
learnt_in c (leaves client) = []
learnt_in c (ends client w) = []

-- and in all
abbrev pub own_learnt : ℕ → List Turn → List Learnt
own_learnt c [] = []
own_learnt c (t ∷ turns) = learnt_in c t ++ own_learnt c turns

-- a turn lets this client go
abbrev pub LetsGo : ℕ → Turn → Type 0
LetsGo c (steps d ds) = ⊥
LetsGo c (asks d) = ⊥
LetsGo c (waits client w) = ⊥
LetsGo c (leaves client) = ⊥
LetsGo c (ends client w) = client ≡ c

-- since it held the lock that another wants
abbrev pub LetsGoHolder : ℕ → Turn → Type 0
LetsGoHolder c (steps d ds) = ⊥
LetsGoHolder c (asks d) = ⊥
LetsGoHolder c (waits client w) = ⊥
LetsGoHolder c (leaves client) = ⊥
LetsGoHolder c (ends client w) = (client ≡ c) × (w ≡ end_cause.HeldTheLock)

-- one of these turns did
abbrev pub WasLetGo : ℕ → List Turn → Type 0
WasLetGo c [] = ⊥
WasLetGo c (t ∷ turns) = LetsGo c t ⊎ WasLetGo c turns

abbrev pub HolderWasLetGo : ℕ → List Turn → Type 0
HolderWasLetGo c [] = ⊥
HolderWasLetGo c (t ∷ turns) = LetsGoHolder c t ⊎ HolderWasLetGo c turns

-- something is done in a turn for a client that is served
abbrev pub IsOfService : Turn → Type 0
IsOfService (steps d ds) = Unit {0}
IsOfService (asks d) = Unit {0}
IsOfService (waits client w) = Unit {0}
IsOfService (leaves client) = ⊥
IsOfService (ends client w) = ⊥

-- in one of these
abbrev pub ServesSomebody : List Turn → Type 0
ServesSomebody [] = ⊥
ServesSomebody (t ∷ turns) = IsOfService t ⊎ ServesSomebody turns

-- ---- the course of a client

abbrev pub IsAmong : ℕ → List Exchange → Type 0
IsAmong c [] = ⊥
IsAmong c (d ∷ ds) = (d.client ≡ c) ⊎ IsAmong c ds

-- a turn serves this client
abbrev pub IsTurnOf : ℕ → Turn → Type 0
IsTurnOf c (steps d ds) = IsAmong c (d ∷ ds)
IsTurnOf c (asks d) = d.client ≡ c
IsTurnOf c (waits client w) = client ≡ c
IsTurnOf c (leaves client) = ⊥
IsTurnOf c (ends client w) = ⊥

-- a turn closes a session that this client has left open
abbrev pub ClosesLeft : ℕ → Turn → Type 0
ClosesLeft c (steps d ds) = ⊥
ClosesLeft c (asks d) = ⊥
ClosesLeft c (waits client w) = ⊥
ClosesLeft c (leaves client) = client ≡ c
ClosesLeft c (ends client w) = ⊥

abbrev pub NoneIs : (Turn → Type 0) → List Turn → Type 0
NoneIs P [] = Unit {0}
NoneIs P (t ∷ turns) = (P t → ⊥) × NoneIs P turns

-- a client is served, then what it has left open is closed, then it is let go, and then no turn is its
abbrev pub IsCourse : ℕ → List Turn → Type 0
IsCourse c [] = Unit {0}
IsCourse c (t ∷ turns) = (ClosesLeft c t → NoneIs (IsTurnOf c) turns) × (LetsGo c t → NoneIs (λ u. IsTurnOf c u ⊎ ClosesLeft c u ⊎ LetsGo c u) turns) × IsCourse c turns

module _ {M T C : Type 0} (m : MachineGhosts M) (t : TalkGhosts T) (k : ClientsGhosts C T) where
  -- a client wants this
  abbrev pub Wants : C → ℕ → Want → Type 0
  Wants clients c w = wanted t (k.at clients c) ≡ Some w

  -- a step may be made: no other client's session holds the lock for it, and nobody waits before its client or it does not ask for the lock; or its
  -- client has waited as long as it may
  abbrev pub MayGo : M → C → ℕ → Want → Type 0
  MayGo machine clients c w = (m.IsFree machine c w × (m.AsksForNone machine c w ⊎ (is_behind c (k.waiting clients) ≡ false))) ⊎ k.has_waited clients c

  -- and it may be held back
  abbrev pub MustWait : M → C → ℕ → Want → Type 0
  MustWait machine clients c w = m.IsLockedOut machine c w ⊎ (m.AsksForLock machine c w × (is_behind c (k.waiting clients) ≡ true))

  -- the machine made these steps, in this order, each of which its client wants and may have, or is refused for memory; one that may have dropped a
  -- role is the last
  abbrev pub Steps : C → M → List Exchange → M → Type 0
  Steps clients old [] new = new ≡ old
  Steps clients old (d ∷ ds) new = (mid : M) × Wants clients d.client d.want × WantsStep d.want × (MayGo old clients d.client d.want ⊎ RefusesMemory d.reply)
      × m.Steps old d.client d.want d.reply mid × Steps clients mid ds new × (m.MayHaveDropped mid → ds ≡ [])

  -- each conversation learnt its own, at this moment of the machine
  abbrev pub Learn : ℕ → C → List Exchange → C → Type 0
  Learn moment before [] after = after ≡ before
  Learn moment before (d ∷ ds) after = (mid : C) × k.learns before moment d.client d.reply mid × Learn moment mid ds after

  -- those that took their turn wait no more
  abbrev pub waiting_after : List Exchange → List ℕ → List ℕ
  waiting_after [] waiting = waiting
  waiting_after (d ∷ ds) waiting = waiting_after ds (without d.client waiting)

  -- they had not been cut off
  abbrev pub AreServed : C → List Exchange → Type 0
  AreServed clients [] = Unit {0}
  AreServed clients (d ∷ ds) = IsStillServed d.client (k.contention clients) × AreServed clients ds

  -- no session of a client is open, or the machine has stopped
  abbrev pub HasNone : M → ℕ → Type 0
  HasNone machine c = (m.stopped machine ≡ true) ⊎ ((n : ℕ) (login : List ℕ) → m.Has machine c n login → ⊥)

  -- nobody who is there has lost its role, if the machine's last step may have dropped one
  abbrev pub HaveTheirRoles : M → C → Type 0
  HaveTheirRoles machine clients = NoneHasLost t (m.MayHaveDropped machine) (m.Has machine) (m.LacksRole machine) (k.at clients)

  -- each conversation learnt while the machine stood where its step has led
  abbrev pub TakesTurn : M → C → Turn → M → C → Type 0
  TakesTurn old before (steps d ds) new after = Steps before old (d ∷ ds) new × Learn (m.moment new) before (d ∷ ds) after × (k.waiting after ≡ waiting_after (d ∷ ds) (k.waiting before))
      × AreServed before (d ∷ ds) × HaveTheirRoles old before
  TakesTurn old before (asks d) new after = Wants before d.client d.want × WantsQuestion d.want × m.Tells old d.client d.want d.reply new × k.learns before (m.moment new) d.client d.reply after × (k.waiting after ≡ without d.client (k.waiting before))
      × IsStillServed d.client (k.contention before) × HaveTheirRoles old before
  TakesTurn old before (waits c w) new after = Wants before c w × MustWait old before c w × (new ≡ old) × IsPutLast t (k.at after) c (k.waiting before) (k.waiting after)
      × IsStillServed c (k.contention before) × HaveTheirRoles old before
  TakesTurn old before (leaves c) new after = IsLeaving t (k.at before c) × m.Closes old c new × (after ≡ before)
  TakesTurn old before (ends c w) new after = (ending (k.at before c) ≡ Some w) × IsLeaving t (k.at before c) × (w ≡ end_cause.Stopped → m.stopped old ≡ true)
      × HasNone old c × (new ≡ old) × IsGone (k.at after c) × (k.waiting after ≡ without c (k.waiting before))
      × (w ≡ end_cause.HeldTheLock → (k.contention before).cut_off ≡ Some c) × (w ≡ end_cause.RoleDropped → (k.contention before).expelled ≡ Some c)

  -- this client was told of a step, or held back, and it was looked who holds the lock; `wants` tells that it was held back or refused for that
  abbrev pub Contends : M → ℕ → Bool → Contention → Contention → Type 0
  Contends machine c wants old new = (holder : Option ℕ) × m.IsHeldBy machine holder × (new ≡ contended holder c wants old)

  abbrev pub ContendsAll : M → List Exchange → Contention → Contention → Type 0
  ContendsAll machine [] old new = new ≡ old
  ContendsAll machine (d ∷ ds) old new = (mid : Contention) × Contends machine d.client (refuses_lock d.reply) old mid × ContendsAll machine ds mid new

  -- what a turn does, after which the machine stands so
  abbrev pub ContendsIn : M → Turn → Contention → Contention → Type 0
  ContendsIn machine (steps d ds) old new = ContendsAll machine (d ∷ ds) old new
  ContendsIn machine (asks d) old new = Contends machine d.client (refuses_lock d.reply) old new
  ContendsIn machine (waits c w) old new = Contends machine c true old new
  ContendsIn machine (leaves c) old new = new ≡ old
  ContendsIn machine (ends c w) old new = new ≡ forgotten c old

  -- what clients do between turns: they come, are heard and sent to, and one may be cut off, or go since its role was dropped
  pub record Goes (before after : C) : Type 0 where
    pub moved : Moved t (k.makes (k.maker before)) (k.at before) (k.at after)
    pub maker : k.maker after ≡ k.maker before
    pub waiting : k.waiting after ≡ k.waiting before
    pub contention : CutsOffOrExpels (k.contention before) (k.contention after)
    pub expected : k.expected after ≡ k.expected before

  -- in a turn each client learnt its own, nobody went who was not let go, and nobody was cut off
  pub record Moves (machine : M) (turn : Turn) (before after : C) : Type 0 where
    pub passed : (c : ℕ) → Passes t (k.makes (k.maker before)) (k.at before c) (learnt_in c turn) (k.at after c)
    pub maker : k.maker after ≡ k.maker before
    pub alone : (c : ℕ) → IsGone (k.at after c) → IsGone (k.at before c) ⊎ LetsGo c turn
    pub contention : ContendsIn machine turn (k.contention before) (k.contention after)
    pub expected : k.expected after ≡ k.expected before

  -- one turn after the other, and what clients did before each and at last
  abbrev pub TakesTurns : M → C → List Turn → M → C → Type 0
  TakesTurns old before [] new after = (new ≡ old) × Goes before after
  TakesTurns old before (turn ∷ turns) new after = (mid : C) × (machine : M) × (told : C)
      × Goes before mid × TakesTurn old mid turn machine told × Moves machine turn mid told × TakesTurns machine told turns new after

  -- ---- who was cut off

  -- another than this client was refused the lock in one of these steps
  abbrev pub IsRefusedLock : ℕ → List Exchange → Type 0
  IsRefusedLock c [] = ⊥
  IsRefusedLock c (d ∷ ds) = ((refuses_lock d.reply ≡ true) × (d.client ≢ c)) ⊎ IsRefusedLock c ds

  -- or held back for it, in this turn
  abbrev pub IsWantedIn : ℕ → Turn → Type 0
  IsWantedIn c (steps d ds) = IsRefusedLock c (d ∷ ds)
  IsWantedIn c (asks d) = IsRefusedLock c (d ∷ [])
  IsWantedIn c (waits d w) = d ≢ c
  IsWantedIn c (leaves d) = ⊥
  IsWantedIn c (ends d w) = ⊥

  -- after a turn that left the machine so, this client holds the lock, and another was held back or refused for it since it does: in this turn, or
  -- before it, as `Holds` says. The end of another's session leaves it the lock
  abbrev pub StillHolds : Type 0 → ℕ → Turn → M → Type 0
  StillHolds Holds c (leaves d) machine = Holds
  StillHolds Holds c (ends d w) machine = Holds
  StillHolds Holds c turn machine = m.IsHeldBy machine (Some c) × (IsWantedIn c turn ⊎ Holds)

  -- between two turns this client was cut off, while it held the lock so; `Holds` says that it did before these
  abbrev pub WasCutOff : Type 0 → ℕ → (old : M) (before : C) (turns : List Turn) (new : M) (after : C) → TakesTurns old before turns new after → Type 0
  WasCutOff Holds c old before [] new after took = ((k.contention after).cut_off ≡ Some c) × Holds
  WasCutOff Holds c old before (turn ∷ turns) new after took = (((k.contention took.0).cut_off ≡ Some c) × Holds)
      ⊎ WasCutOff (StillHolds Holds c turn took.1) c took.1 took.2 turns new after took.6

  -- ---- which of them opened a session

  -- a session is open in each state of the machine that these steps go through
  abbrev pub StaysOpenInSteps : (clients : C) (old : M) (ds : List Exchange) (new : M) → Steps clients old ds new → ℕ → ℕ → List ℕ → Type 0
  StaysOpenInSteps clients old [] new made c n login = m.Has new c n login
  StaysOpenInSteps clients old (d ∷ ds) new made c n login = m.Has old c n login × StaysOpenInSteps clients made.0 ds new made.5 c n login

  -- and that this turn does
  abbrev pub StaysOpenInTurn : (old : M) (before : C) (turn : Turn) (new : M) (after : C) → TakesTurn old before turn new after → ℕ → ℕ → List ℕ → Type 0
  StaysOpenInTurn old before (steps d ds) new after took c n login = StaysOpenInSteps before old (d ∷ ds) new took.0 c n login
  StaysOpenInTurn old before turn new after took c n login = m.Has old c n login × m.Has new c n login

  -- and that these turns do
  abbrev pub StaysOpenInTurns : (old : M) (before : C) (turns : List Turn) (new : M) (after : C) → TakesTurns old before turns new after → ℕ → ℕ → List ℕ → Type 0
  StaysOpenInTurns old before [] new after took c n login = m.Has new c n login
  StaysOpenInTurns old before (turn ∷ turns) new after took c n login = StaysOpenInTurn old took.0 turn took.1 took.2 took.4 c n login × StaysOpenInTurns took.1 took.2 turns new after took.6 c n login

  -- a step opens this session of this client for this role: its conversation wanted that, it is answered so, and the session is there, and was not before
  abbrev pub Opens : M → Exchange → M → ℕ → ℕ → List ℕ → Type 0
  Opens old d new c n login = (d.client ≡ c) × OpensSession d.want n login × TellsOpened d.reply × (m.Has old c n login → ⊥) × m.Has new c n login × m.Steps old d.client d.want d.reply new

  -- one of these steps did, and since then the session stays open
  abbrev pub OpenedBySteps : (clients : C) (old : M) (ds : List Exchange) (new : M) → Steps clients old ds new → ℕ → ℕ → List ℕ → Type 0
  OpenedBySteps clients old [] new made c n login = ⊥
  OpenedBySteps clients old (d ∷ ds) new made c n login = (Opens old d made.0 c n login × StaysOpenInSteps clients made.0 ds new made.5 c n login) ⊎ OpenedBySteps clients made.0 ds new made.5 c n login

  abbrev pub OpenedHere : (old : M) (before : C) (turn : Turn) (new : M) (after : C) → TakesTurn old before turn new after → ℕ → ℕ → List ℕ → Type 0
  OpenedHere old before (steps d ds) new after took c n login = OpenedBySteps before old (d ∷ ds) new took.0 c n login
  OpenedHere old before (asks d) new after took c n login = ⊥
  OpenedHere old before (waits client w) new after took c n login = ⊥
  OpenedHere old before (leaves client) new after took c n login = ⊥
  OpenedHere old before (ends client w) new after took c n login = ⊥

  -- a step of one of these turns did, and since then the session stays open
  abbrev pub OpenedIn : (old : M) (before : C) (turns : List Turn) (new : M) (after : C) → TakesTurns old before turns new after → ℕ → ℕ → List ℕ → Type 0
  OpenedIn old before [] new after took c n login = ⊥
  OpenedIn old before (turn ∷ turns) new after took c n login =
      (OpenedHere old took.0 turn took.1 took.2 took.4 c n login × StaysOpenInTurns took.1 took.2 turns new after took.6 c n login) ⊎ OpenedIn took.1 took.2 turns new after took.6 c n login

  -- ---- roles that are dropped

  -- each session that is open is of a client that is there, or the machine has stopped
  abbrev pub AreOfClients : M → C → Type 0
  AreOfClients machine clients = (m.stopped machine ≡ true) ⊎ ((c n : ℕ) (login : List ℕ) → m.Has machine c n login → IsThere (k.at clients c))
