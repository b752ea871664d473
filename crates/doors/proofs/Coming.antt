-- Clients that come where each conversation stands at one door.
use Rattle.std.proofs.Common.{◌≡◌, ℕ, List, sym, subst}
use Rattle.talks.specs.Wants.{Learnt}
use Rattle.talks.specs.Conversations.{ClientState, Conversation, Continues, Heard, IsAwaited, IsNew, Passes, awaited, gone, there}
use Rattle.talks.specs.declared.talk.Talk.{Ghosts}
use Rattle.doors.specs.declared.door.Door.{Door}
use Rattle.doors.specs.DoorTalks.{AreAdmitted}

module _ {U : Type 0} (k : Ghosts U) (door_of : U → Door) (admitted : (t u : U) (bytes said rest : List ℕ) (xs : List Learnt) → Heard k t bytes xs said rest u → AreAdmitted (door_of t) xs)
    (door : Door) where
  abbrev stands_there : U → Type 0
  stands_there u = door_of u ≡ door

  -- what a conversation that was made so has learnt
  admitted_since : (bytes : _) (x y : Conversation U) (xs : List Learnt) → IsNew k stands_there bytes x → Continues k x xs y → AreAdmitted door xs
  admitted_since bytes x y xs new goes = subst (λ (d : Door). AreAdmitted d xs) new.is_made (admitted x.talk y.talk _ goes.1 y.held xs goes.3)

  pub admitted_passing : (old new : ClientState U) (xs : List Learnt) → IsAwaited old → Passes k stands_there old xs new → AreAdmitted door xs
  admitted_passing (awaited bytes) (awaited left) xs came passes = subst (λ (l : List Learnt). AreAdmitted door l) (sym passes.0) tt
  admitted_passing (awaited bytes) (there y) xs came passes = admitted_since bytes passes.0 y xs passes.1 passes.2
  admitted_passing (awaited bytes) (gone sent) xs came passes = admitted_since bytes passes.0 passes.2.0 xs passes.1 passes.2.1
  admitted_passing (there x) new xs came passes = absurd came
  admitted_passing (gone old) new xs came passes = absurd came
