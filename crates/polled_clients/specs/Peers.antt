-- A client that is there.
use Rattle.std.specs.Prelude.{◌≡◌, ◌&&◌, ◌||◌, not, Bool, true, false, List, drop, Some}
use Rattle.channels.specs.declared.channel.Channel.{Ghosts as ChannelGhosts}
use Rattle.channels.specs.Channels.{left}
use Rattle.talks.specs.declared.talk.Talk.{Ghosts}
use Rattle.talks.specs.declared.want.Want.{Want}
use Rattle.talks.specs.declared.clients.EndCause.{EndCause}
use Rattle.talks.specs.declared.clients.EndCause.TheVariants as end_cause
use Rattle.talks.specs.Wants.{Learnt, WantsStep, WantsQuestion}
use Rattle.talks.specs.Conversations.{Conversation, Continues, HasCause, unless_ended}
use Rattle.polled_clients.specs.declared.peer.Peer.{Peer}
use Rattle.polled_clients.specs.declared.need.EndOrder.{EndOrder}
use Rattle.polled_clients.specs.declared.need.Need.{Need}
use Rattle.polled_clients.specs.declared.need.Need.TheVariants as need

-- it has passed a limit: it was silent for as long as it may; or it was turned out, and no session was opened for it
abbrev pub has_passed_limit : {T C : Type 0} → Peer T C → Bool
has_passed_limit x = x.is_over || (x.is_turned_out && not x.has_session)

module _ {T C : Type 0} (k : ChannelGhosts C) where
  -- the conversation with a client
  abbrev pub conversation_of : Peer T C → Conversation T
  conversation_of p = record {
    talk = p.talk;
    held = drop p.heard p.held.items;
    remaining = k.remaining p.channel;
    sent = k.taken p.channel;
    unsent = left p.queue.going.items p.queue.sent p.queue.said.items;
    failures = k.failures p.channel;
    limited = p.limited;
    end_cause = p.end_cause;
  }

module _ {T C : Type 0} (t : Ghosts T) (k : ChannelGhosts C) where
  -- some bytes came, were heard and went out, and this was learnt
  abbrev pub Goes : Peer T C → List Learnt → Peer T C → Type 0
  Goes x xs y = Continues t (conversation_of k x) xs (conversation_of k y)

  -- its connection is to end for this
  abbrev pub MayEnd : EndOrder → Peer T C → EndCause → Type 0
  MayEnd order x w = HasCause t w (conversation_of k x) × (w ≡ end_cause.Stopped → order.stopped ≡ true) × (w ≡ end_cause.HeldTheLock → order.cut_off ≡ true)
      × (w ≡ end_cause.Limit → has_passed_limit x ≡ true) × (w ≡ end_cause.RoleDropped → order.expelled ≡ true)

  -- what a client has to do with the machine is so
  abbrev pub HasNeed : EndOrder → Need → Peer T C → Type 0
  HasNeed order need.Nothing x = Unit {0}
  HasNeed order need.Step x = (w : Want) × (unless_ended x.end_cause (t.wants x.talk) ≡ Some w) × WantsStep w × (order.cut_off ≡ false)
  HasNeed order need.Question x = (w : Want) × (unless_ended x.end_cause (t.wants x.talk) ≡ Some w) × WantsQuestion w × (order.cut_off ≡ false)
  HasNeed order (need.Left w) x = (x.end_cause ≡ Some w) × MayEnd order x w
