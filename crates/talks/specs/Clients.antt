-- What the calls of clients do.
use Rattle.std.specs.Prelude.{◌≡◌, ◌≢◌, ◌⊎◌, ◌<◌, ◌≤◌, ◌-◌, ◌^◌, ◌==◌, ◌&&◌, ◌||◌, ℕ, Bool, true, false, not, if◌then◌else◌, List, [], ◌∷◌, filter, Option, Some, None}
use Rattle.talks.specs.Wants.{WantsStep, WantsQuestion, HasLostRole}
use Rattle.talks.specs.Conversations.{ClientState, awaited, there, gone, IsGone, IsThere, IsAwaited, wanted, ending, comes_as, HasEnded, Passes}
use Rattle.talks.specs.declared.want.Want.{Want}
use Rattle.talks.specs.declared.want.Want.TheVariants as want
use Rattle.talks.specs.declared.talk.Talk.{Ghosts}
use Rattle.talks.specs.declared.clients.EndCause.TheVariants as end_cause
use Rattle.talks.specs.declared.clients.Finish.{Finish}
use Rattle.talks.specs.declared.clients.Finish.TheVariants as ends
use Rattle.talks.specs.declared.clients.Next.{Next}
use Rattle.talks.specs.declared.clients.Next.TheVariants as next

-- ---- who waits, first come first served

abbrev pub without : ℕ → List ℕ → List ℕ
without c waiting = filter (λ d. not (d == c)) waiting

-- who waits already keeps its place
abbrev pub put_last : ℕ → List ℕ → List ℕ
put_last c [] = c ∷ []
put_last c (d ∷ ds) = if d == c then d ∷ ds else d ∷ put_last c ds

-- another waits before this client
abbrev pub is_behind : ℕ → List ℕ → Bool
is_behind c [] = false
is_behind c (d ∷ ds) = not (d == c)

-- ---- who holds the writer lock that others want, and who goes for what it has lost

pub record Contention : Type 0 where
  -- who holds it, for which a step of another was held back or refused since it does
  pub holder : Option ℕ
  -- who was cut off, since it had held it so for as long as it may
  pub cut_off : Option ℕ
  -- that is limited
  pub is_limited : Bool
  -- who goes since its role was dropped, before anything else is done
  pub expelled : Option ℕ

abbrev pub is_client : ℕ → Option ℕ → Bool
is_client c None = false
is_client c (Some d) = d == c

-- the holder of whom that is so, where the lock is held by `holder` now: who was it stays so, and `wants` tells that client c was held back or refused
abbrev pub contending : Option ℕ → ℕ → Bool → Option ℕ → Option ℕ
contending None c wants old = None
contending (Some h) c wants old = if is_client h old || (wants && not (h == c)) then Some h else None

abbrev pub contended : Option ℕ → ℕ → Bool → Contention → Contention
contended holder c wants x = record x { holder = contending holder c wants x.holder }

-- with a client forgotten that was let go
abbrev pub unless_client : ℕ → Option ℕ → Option ℕ
unless_client c o = if is_client c o then None else o

abbrev pub forgotten : ℕ → Contention → Contention
forgotten c x = record x { holder = unless_client c x.holder; cut_off = unless_client c x.cut_off; expelled = unless_client c x.expelled }

-- nobody more was cut off; or that holder was, where that is limited
abbrev pub CutsOff : Contention → Contention → Type 0
CutsOff old new = (new ≡ old) ⊎ ((old.is_limited ≡ true) × ((c : ℕ) × (old.holder ≡ Some c) × (new ≡ record old { cut_off = Some c })))

-- the same, but for who goes since its role was dropped
abbrev pub CutsOffOrExpels : Contention → Contention → Type 0
CutsOffOrExpels old new = CutsOff old (record new { expelled = old.expelled })

-- this client was not cut off, and nobody goes for what it has lost
abbrev pub IsStillServed : ℕ → Contention → Type 0
IsStillServed c x = (x.cut_off ≢ Some c) × (x.expelled ≡ None)

-- ---- who is there

-- nobody goes
abbrev pub NoneGoes : {T : Type 0} → (ℕ → ClientState T) → (ℕ → ClientState T) → Type 0
NoneGoes old new = (c : ℕ) → IsGone (new c) → IsGone (old c)

-- nobody but this client does
abbrev pub GoesAlone : {T : Type 0} → ℕ → (ℕ → ClientState T) → (ℕ → ClientState T) → Type 0
GoesAlone client old new = (c : ℕ) → c ≢ client → IsGone (new c) → IsGone (old c)

-- nobody is there
abbrev pub NobodyIsThere : {T : Type 0} → (ℕ → ClientState T) → Type 0
NobodyIsThere at = (c : ℕ) → IsAwaited (at c) ⊎ IsGone (at c)

-- the first n have come and gone, and no other has come
abbrev pub AllCame : {T : Type 0} → ℕ → (ℕ → ClientState T) → Type 0
AllCame n at = (c : ℕ) → (c < n → IsGone (at c)) × (n ≤ c → IsAwaited (at c))

-- why nothing more is to be done
abbrev pub EndsAs : {T : Type 0} → Bool → (ℕ → ClientState T) → Option ℕ → ℕ → ℕ → Finish → Type 0
EndsAs stopped at expected refusals looks ends.Done = (n : ℕ) × (expected ≡ Some n) × AllCame n at
EndsAs stopped at expected refusals looks ends.Stopped = (stopped ≡ true) × NobodyIsThere at
EndsAs stopped at expected refusals looks ends.Net = (refusals ≢ 0) × NobodyIsThere at
EndsAs stopped at expected refusals looks ends.LookLimit = 2 ^ 64 - 1 ≤ looks

-- then nobody is there
abbrev pub LeavesNobody : Finish → Type 0
LeavesNobody ends.LookLimit = ⊥
LeavesNobody _ = Unit {0}

module _ {T : Type 0} (k : Ghosts T) where
  -- a client waits, behind those that do, or was refused the memory for that
  abbrev pub IsPutLast : (ℕ → ClientState T) → ℕ → List ℕ → List ℕ → Type 0
  IsPutLast at c old new = (new ≡ put_last c old) ⊎ ((new ≡ old) × (wanted k (at c) ≡ Some want.OutOfMemory))

  -- the connection of a client has ended, with its cause
  abbrev pub IsLeaving : ClientState T → Type 0
  IsLeaving (awaited bytes) = ⊥
  IsLeaving (there x) = HasEnded k x
  IsLeaving (gone told) = ⊥

  -- clients came, with conversations of this kind, were heard and were sent to; nothing was learnt, and nobody went
  pub record Moved (made : T → Type 0) (old new : ℕ → ClientState T) : Type 0 where
    pub passed : (c : ℕ) → Passes k made (old c) [] (new c)
    pub gone : NoneGoes old new

  -- a client has lost its role: that of a session that it has open, or the one that it has shown to come as
  abbrev pub HasLost : (ℕ → ℕ → List ℕ → Type 0) → (List ℕ → Type 0) → (ℕ → ClientState T) → ℕ → Type 0
  HasLost Has Lacks at c = HasLostRole (Has c) Lacks ⊎ ((role : List ℕ) × (comes_as k (at c) ≡ Some role) × Lacks role)

  -- nobody who is there has, if a role may have been dropped
  abbrev pub NoneHasLost : Type 0 → (ℕ → ℕ → List ℕ → Type 0) → (List ℕ → Type 0) → (ℕ → ClientState T) → Type 0
  NoneHasLost Dropped Has Lacks at = Dropped → (c : ℕ) → IsThere (at c) → HasLost Has Lacks at c → ⊥

  -- one goes who had lost its role meanwhile, where none did; or who did goes on
  abbrev pub ExpelsLost : (T → Type 0) → (ℕ → ℕ → List ℕ → Type 0) → (List ℕ → Type 0) → (ℕ → ClientState T) → (ℕ → ClientState T) → Option ℕ → Option ℕ → Type 0
  ExpelsLost made Has Lacks old new before after = (after ≡ before)
      ⊎ ((before ≡ None) × ((c : ℕ) × (after ≡ Some c) × ((mid : ℕ → ClientState T) × Moved made old mid × Moved made mid new × HasLost Has Lacks mid c)))

  -- what is to be done next
  abbrev pub IsNext : Bool → Type 0 → (ℕ → ℕ → List ℕ → Type 0) → (List ℕ → Type 0) → (ℕ → ClientState T) → List ℕ → Contention → Option ℕ → ℕ → ℕ → Next → Type 0
  IsNext stopped Dropped Has Lacks at waiting x expected refusals looks (next.Step client) = (w : Want) × (wanted k (at client) ≡ Some w) × WantsStep w × IsStillServed client x × NoneHasLost Dropped Has Lacks at
  IsNext stopped Dropped Has Lacks at waiting x expected refusals looks (next.Question client) = (w : Want) × (wanted k (at client) ≡ Some w) × WantsQuestion w × IsStillServed client x × NoneHasLost Dropped Has Lacks at
  IsNext stopped Dropped Has Lacks at waiting x expected refusals looks (next.Left client w) = (ending (at client) ≡ Some w) × IsLeaving (at client)
      × (w ≡ end_cause.Stopped → stopped ≡ true) × (w ≡ end_cause.HeldTheLock → x.cut_off ≡ Some client) × (w ≡ end_cause.RoleDropped → x.expelled ≡ Some client)
  IsNext stopped Dropped Has Lacks at waiting x expected refusals looks (next.Ended e) = EndsAs stopped at expected refusals looks e × (LeavesNobody e → waiting ≡ [])
