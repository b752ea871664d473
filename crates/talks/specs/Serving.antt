-- What serving clients has done, and why it ended.
use Rattle.std.specs.Prelude.{◌≡◌, ◌⊎◌, ◌≤◌, ℕ, List, [], length}
use Rattle.talks.specs.declared.talk.Talk.{Ghosts as TalkGhosts}
use Rattle.talks.specs.declared.machine.Machine.{Ghosts as MachineGhosts}
use Rattle.talks.specs.declared.clients.ServedClients.{Ghosts as ClientsGhosts}
use Rattle.talks.specs.declared.serving.ServeEnd.{ServeEnd}
use Rattle.talks.specs.declared.serving.ServeEnd.TheVariants as served
use Rattle.talks.specs.Conversations.{IsGone, Passes}
use Rattle.talks.specs.Clients.{EndsAs, LeavesNobody}
use Rattle.talks.specs.Turns.{Turn, own_learnt, WasLetGo, IsCourse, TakesTurns, HasNone}

module _ {M T C : Type 0} (m : MachineGhosts M) (t : TalkGhosts T) (k : ClientsGhosts C T) where
  -- why it ended: nothing more is to be done, and then nobody waits; or so many turns were taken as it may take
  abbrev pub EndedAs : ℕ → List Turn → ServeEnd → M → C → Type 0
  EndedAs most turns (served.Ended e) machine clients = EndsAs (m.stopped machine) (k.at clients) (k.expected clients) (k.refusals clients) (k.looks clients) e × (LeavesNobody e → k.waiting clients ≡ [])
  EndedAs most turns served.TurnLimit machine clients = most ≤ length turns

  pub record ServesClients (most : ℕ) (old : M) (before : C) (end : ServeEnd) (new : M) (after : C) : Type 0 where
    pub turns : List Turn
    -- one order of all that was done
    pub took : TakesTurns m t k old before turns new after
    -- each client learnt its own, and was said just what its protocol says to that and to its bytes; who came had a conversation that is made there
    pub talked : (c : ℕ) → Passes t (k.makes (k.maker before)) (k.at before c) (own_learnt c turns) (k.at after c)
    -- each was served, and then let go
    pub course : (c : ℕ) → IsCourse c turns
    -- who has gone was let go
    pub went : (c : ℕ) → IsGone (k.at after c) → IsGone (k.at before c) ⊎ WasLetGo c turns
    -- and has no session
    pub closed : m.IsSound old → (c : ℕ) → WasLetGo c turns → HasNone m t k new c
    -- as many are to come as were
    pub expected : k.expected after ≡ k.expected before
    pub ended : EndedAs most turns end new after
