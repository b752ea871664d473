-- What a step needs of the writer lock.
use Rattle.std.specs.Prelude.{◌≡◌, ◌==◌, ℕ, Bool, true, false, not, Option, Some, None}
use Rattle.std.specs.Option.{option_map}
use Rattle.store.specs.Store.{StoreState}
use Rattle.abstract_database.specs.Machine.{Holder, client_of}
use Rattle.abstract_database.specs.Runs.{ReadingRelation, At, MayRunOutOfMemory}
use Rattle.server.specs.declared.server.Server.{Server}
use Rattle.server.specs.Standing.{event_of, Represents}
use Rattle.server.specs.LockedOut.{IsLockedOut, AsksForLock}
use Rattle.talks.specs.declared.want.Want.{Want}
use Rattle.talks.specs.declared.want.Want.TheVariants as want

-- a session of this client holds it
abbrev pub is_held_by_own : ℕ → Option Holder → Bool
is_held_by_own c None = false
is_held_by_own c (Some h) = client_of h.session == c

-- a session of another client holds it
abbrev pub is_held_by_another : ℕ → Option Holder → Bool
is_held_by_another c None = false
is_held_by_another c (Some h) = not (client_of h.session == c)

-- a step of this client is a statement that is refused since a session of another client holds it
abbrev pub LocksOut : {S X : Type 0} → ReadingRelation → (S → StoreState) → Server S X → ℕ → Want → Type 0
LocksOut Reads state server c (want.Event e) = (w : At) → Represents state server w
    → (is_held_by_another c w.standing.machine.holder ≡ true) × IsLockedOut Reads w.standing.machine (event_of c e)
LocksOut Reads state server c _ = ⊥

-- it is none
abbrev pub LetsIn : {S X : Type 0} → ReadingRelation → (S → StoreState) → Server S X → ℕ → Want → Type 0
LetsIn Reads state server c (want.Event e) = (w : At) → Represents state server w
    → (is_held_by_another c w.standing.machine.holder ≡ true) × IsLockedOut Reads w.standing.machine (event_of c e) → ⊥
LetsIn Reads state server c _ = Unit {0}

-- it is a statement that takes the writer lock, which nobody holds
abbrev pub TakesLock : {S X : Type 0} → ReadingRelation → (S → StoreState) → Server S X → ℕ → Want → Type 0
TakesLock Reads state server c (want.Event e) = (w : At) → Represents state server w → AsksForLock Reads w.standing.machine (event_of c e)
TakesLock Reads state server c _ = ⊥

-- it is none
abbrev pub LeavesLock : {S X : Type 0} → ReadingRelation → (S → StoreState) → Server S X → ℕ → Want → Type 0
LeavesLock Reads state server c (want.Event e) = (w : At) → Represents state server w → AsksForLock Reads w.standing.machine (event_of c e) → ⊥
LeavesLock Reads state server c _ = Unit {0}

-- who holds the writer lock, by a session of its own; nobody does once a server has stopped
abbrev pub IsHolder : {S X : Type 0} → (S → StoreState) → Server S X → Option ℕ → Type 0
IsHolder state server c = (server.stopped ≡ true → c ≡ None)
    × (server.stopped ≡ false → (w : At) → Represents state server w → c ≡ option_map (λ h. client_of h.session) w.standing.machine.holder)

-- an allocation may fail where it is looked what it needs: it is a statement in an open session, and no session of its client holds the writer lock
abbrev pub MayLackMemory : {S X : Type 0} → (S → StoreState) → Server S X → ℕ → Want → Type 0
MayLackMemory state server c (want.Event e) = (server.stopped ≡ false)
    × ((w : At) → Represents state server w → MayRunOutOfMemory w.standing.machine (event_of c e) × (is_held_by_own c w.standing.machine.holder ≡ false))
MayLackMemory state server c _ = ⊥
