-- Clients in memory.
use Rattle.std.specs.Prelude.{◌≡◌, false, [], Some}
use Rattle.talks.specs.declared.talk.Talk.{Ghosts}
use Rattle.talks.specs.declared.want.Want.{Want}
use Rattle.talks.specs.declared.clients.EndCause.{EndCause}
use Rattle.talks.specs.declared.clients.EndCause.TheVariants as end_cause
use Rattle.talks.specs.Wants.{WantsStep, WantsQuestion}
use Rattle.talks.specs.Conversations.{Conversation, ClientState, awaited, there, gone, wanted, ending}
use Rattle.talks.specs.Clients.{IsLeaving}
use Rattle.talks_tests.specs.declared.line.MemoryClient.{MemoryClient}
use Rattle.talks_tests.specs.declared.line.Stage.{Stage}
use Rattle.talks_tests.specs.declared.line.Stage.TheVariants as stage
use Rattle.talks_tests.specs.declared.line.Wish.{Wish}
use Rattle.talks_tests.specs.declared.line.Wish.TheVariants as wish

-- whatever conversation it is
abbrev pub any_talk : {T : Type 0} → T → Type 0
any_talk talk = Unit {0}

-- the conversation with a client in memory: all that it sends has come, and all that was said to it has gone out
abbrev pub conversation_of : {T : Type 0} → MemoryClient T → Conversation T
conversation_of line = record {
  talk = line.talk;
  held = line.held.items;
  remaining = Some [];
  sent = Some line.said.items;
  unsent = [];
  failures = 0;
  limited = false;
  end_cause = line.end_cause;
}

-- where a client is
abbrev pub state_at : {T : Type 0} → Stage → MemoryClient T → ClientState T
state_at stage.Awaited line = awaited (Some line.held.items)
state_at stage.There line = there (conversation_of line)
state_at stage.Gone line = gone (Some line.said.items)

abbrev pub state_of : {T : Type 0} → MemoryClient T → ClientState T
state_of line = state_at line.stage line

-- a cause that is neither the machine's nor the writer lock's, nor that of a role
abbrev pub IsOwnCause : EndCause → Type 0
IsOwnCause w = (w ≡ end_cause.Stopped → ⊥) × (w ≡ end_cause.HeldTheLock → ⊥) × (w ≡ end_cause.RoleDropped → ⊥)

-- what a client has to do with the machine is so
abbrev pub HasWish : {T : Type 0} → Ghosts T → Wish → ClientState T → Type 0
HasWish k wish.Nothing p = Unit {0}
HasWish k wish.Step p = (w : Want) × (wanted k p ≡ Some w) × WantsStep w
HasWish k wish.Question p = (w : Want) × (wanted k p ≡ Some w) × WantsQuestion w
HasWish k (wish.Left w) p = (ending p ≡ Some w) × IsLeaving k p × IsOwnCause w
