-- Where each client is.
use Rattle.std.specs.Prelude.{◌≡◌, ◌≢◌, ◌<◌, ◌⊎◌, ℕ, Bool, IfSome, true, false, List, [], ◌∷◌, Option, Some, None, nat_eq, nat_lt, if◌then◌else◌}
use Rattle.channels.specs.declared.channel.Channel.{Ghosts as ChannelGhosts}
use Rattle.channels.specs.declared.attend.Attend.{Ghosts as AttendGhosts}
use Rattle.channels.specs.Channels.{NamedBytes}
use Rattle.indexmap.specs.IndexMap.{get}
use Rattle.talks.specs.declared.talk.Talk.{Ghosts}
use Rattle.talks.specs.declared.want.Want.{Want}
use Rattle.talks.specs.declared.clients.EndCause.TheVariants as end_cause
use Rattle.talks.specs.declared.want.Reply.{Reply}
use Rattle.talks.specs.Wants.{Learnt, learnt, WantsStep, WantsQuestion, HasLostRole}
use Rattle.talks.specs.Conversations.{ClientState, awaited, there, gone, wanted, ending}
use Rattle.talks.specs.Clients.{Contention, IsLeaving, EndsAs, LeavesNobody}
use Rattle.talks.specs.declared.clients.Next.{Next}
use Rattle.talks.specs.declared.clients.Next.TheVariants as next
use Rattle.polled_clients.specs.Peers.{conversation_of, Goes, HasNeed}
use Rattle.polled_clients.specs.declared.peer.Peer.{Peer}
use Rattle.polled_clients.specs.declared.need.EndOrder.{EndOrder}
use Rattle.polled_clients.specs.declared.need.Need.{Need}
use Rattle.polled_clients.specs.declared.need.Need.TheVariants as need
use Rattle.polled_clients.specs.declared.clients.PolledClients.{PolledClients}

-- a client that has come is there, or was let go after this had gone out to it
abbrev pub state_of : {T C : Type 0} → ChannelGhosts C → Option (Peer T C) → NamedBytes → ClientState T
state_of k None closed = gone closed
state_of k (Some p) closed = there (conversation_of k p)

-- where a client is, of whom so many have come
abbrev pub state_at : {T C : Type 0} → ChannelGhosts C → ℕ → ℕ → Option (Peer T C) → NamedBytes → NamedBytes → ClientState T
state_at k came c peer closed coming = if nat_lt c came then state_of k peer closed else awaited coming

abbrev pub states : {T C A F : Type 0} → ChannelGhosts C → AttendGhosts A C → PolledClients T C A F → ℕ → ClientState T
states k a x c = state_at k x.came c (get nat_eq x.peers c) (a.closed x.attend c) (a.coming x.attend c)

module _ {T C : Type 0} (t : Ghosts T) (k : ChannelGhosts C) where
  -- some bytes of a client came, were heard and went out, and this was learnt
  abbrev pub GoesOn : Option (Peer T C) → List Learnt → Option (Peer T C) → Type 0
  GoesOn None xs new = new ≡ None
  GoesOn (Some x) xs None = ⊥
  GoesOn (Some x) xs (Some y) = Goes t k x xs y

  -- a client that is there has learnt what it wanted
  abbrev pub Learns : Option (Peer T C) → Reply → Option (Peer T C) → Type 0
  Learns None r new = new ≡ None
  Learns (Some x) r None = ⊥
  Learns (Some x) r (Some y) = Goes t k x (learnt (t.wants x.talk) r ∷ []) y

  -- what a client has to do with the machine, if it is there, is so
  abbrev pub HasNeedHere : EndOrder → Need → Option (Peer T C) → Type 0
  HasNeedHere order v None = v ≡ need.Nothing
  HasNeedHere order v (Some x) = HasNeed t k order v x

module _ {T : Type 0} (t : Ghosts T) where
  -- what a client has to do with the machine, wherever it is, is so
  abbrev pub HasNeedAt : EndOrder → Need → ClientState T → Type 0
  HasNeedAt order need.Nothing p = Unit {0}
  HasNeedAt order need.Step p = (w : Want) × (wanted t p ≡ Some w) × WantsStep w × (order.cut_off ≡ false)
  HasNeedAt order need.Question p = (w : Want) × (wanted t p ≡ Some w) × WantsQuestion w × (order.cut_off ≡ false)
  HasNeedAt order (need.Left w) p = (ending p ≡ Some w) × IsLeaving t p × (w ≡ end_cause.Stopped → order.stopped ≡ true) × (w ≡ end_cause.HeldTheLock → order.cut_off ≡ true)
      × (w ≡ end_cause.RoleDropped → order.expelled ≡ true)

  -- what was found to do, before it is looked who has lost its role
  abbrev pub IsLooked : Bool → (ℕ → ClientState T) → List ℕ → Contention → Option ℕ → ℕ → ℕ → Next → Type 0
  IsLooked stopped at waiting x expected refusals looks (next.Step client) = (w : Want) × (wanted t (at client) ≡ Some w) × WantsStep w × (x.cut_off ≢ Some client)
  IsLooked stopped at waiting x expected refusals looks (next.Question client) = (w : Want) × (wanted t (at client) ≡ Some w) × WantsQuestion w × (x.cut_off ≢ Some client)
  IsLooked stopped at waiting x expected refusals looks (next.Left client w) = (ending (at client) ≡ Some w) × IsLeaving t (at client)
      × (w ≡ end_cause.Stopped → stopped ≡ true) × (w ≡ end_cause.HeldTheLock → x.cut_off ≡ Some client) × (w ≡ end_cause.RoleDropped → x.expelled ≡ Some client)
  IsLooked stopped at waiting x expected refusals looks (next.Ended e) = EndsAs stopped at expected refusals looks e × (LeavesNobody e → waiting ≡ [])

-- a session was opened for a client that is there
abbrev pub has_session : {T C : Type 0} → Option (Peer T C) → Bool
has_session None = false
has_session (Some p) = p.has_session

-- this client is told to end, if it is there, and nobody else
abbrev pub IsTurnedOut : {T C : Type 0} → Option ℕ → (ℕ → Option (Peer T C)) → (ℕ → Option (Peer T C)) → Type 0
IsTurnedOut None old new = (c : ℕ) → new c ≡ old c
IsTurnedOut (Some client) old new = IfSome (new client) (λ p. p.is_turned_out ≡ true) × ((c : ℕ) → c ≢ client → new c ≡ old c)

-- the step of a client has waited until its time was over
abbrev pub IsSomeWaited : {T C : Type 0} → Option (Peer T C) → Type 0
IsSomeWaited None = ⊥
IsSomeWaited (Some p) = p.has_waited ≡ true

-- a client has waited as long as it may, or none may wait
abbrev pub HasWaited : {D T C : Type 0} → Option D → Option (Peer T C) → Type 0
HasWaited None p = Unit {0}
HasWaited (Some d) p = IsSomeWaited p

-- a client that is there has lost its role: that of a session that it has open, or the one that it has shown to come as
abbrev pub HasLostItsRole : {T C : Type 0} → Ghosts T → (ℕ → ℕ → List ℕ → Type 0) → (List ℕ → Type 0) → ℕ → ℕ → Option (Peer T C) → Type 0
HasLostItsRole t Has Lacks came c None = ⊥
HasLostItsRole t Has Lacks came c (Some p) = (c < came) × (HasLostRole (Has c) Lacks ⊎ ((role : List ℕ) × (t.comes_as p.talk ≡ Some role) × Lacks role))
