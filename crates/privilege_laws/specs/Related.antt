-- Machines that a tenant is not to tell apart, by whatever relation of their databases, and runs over them.
use Rattle.std.specs.Prelude.{◌≡◌, ◌⊎◌, ℕ, nat_le, Bool, true, false, List, [], ◌∷◌, ◌++◌, length, Result, Ok, Err}
use Rattle.sql_types.specs.declared.state.SqlState.{SqlState}
use Rattle.abstract_database.specs.Database.{Database}
use Rattle.abstract_database.specs.Statements.{Effect}
use Rattle.abstract_database.specs.Machine.{client_of, own_sessions, Event, Reading, Machine, is_held_by_other, seen}
use Rattle.database_laws.specs.Sessions.{number_of}
use Rattle.database_laws.specs.HiddenRuns.{holds_lock, AreSound, answer_to, after}
use Rattle.database_laws.specs.Told.{Tenant, entries_of, AllFor, Act, happens, declares, restarts, follows, is_of, OpensItsOwn, noticed, IsCrowded, LeavesTenant, IsRefusedAlike, IsAnsweredAlike}
use Rattle.database_laws.specs.Patterns.{pattern, own_answers, after_all}

-- ---- databases

-- databases that are not to be told apart
abbrev pub Relation : Type 1
Relation = Database → Database → Type 0

-- which events of the session of a number may be answered differently over two machines of such databases all the same
abbrev pub Telling : Type 1
Telling = ℕ → Machine → Machine → Event Reading → Type 0

-- none
abbrev pub NothingTells : Telling
NothingTells number m k event = ⊥

-- refused with one code, or carried out with one answer, and what they leave is related
abbrev pub EndRelated : Relation → Result Effect SqlState → Result Effect SqlState → Type 0
EndRelated R (Ok a) (Ok b) = (a.answer ≡ b.answer) × R a.database b.database
EndRelated R (Err c) (Err k) = c ≡ k
EndRelated R (Ok a) (Err k) = ⊥
EndRelated R (Err c) (Ok b) = ⊥

-- ---- machines

-- over both machines the tenant's sessions are the same, each acts as its pairs alone and holds the writer lock over both or over none, and
-- what is committed, and what each of them sees, is related
pub record MachinesRelated (R : Relation) (a : Tenant) (m k : Machine) : Type 0 where
  pub sessions : (number : ℕ) → a.sessions number ≡ true → entries_of number m.sessions ≡ entries_of number k.sessions
  pub opened_for : (number : ℕ) → a.sessions number ≡ true → AllFor a.pairs (entries_of number m.sessions)
  pub stopped : m.stopped ≡ k.stopped
  pub lock : (number : ℕ) → a.sessions number ≡ true → holds_lock number m.holder ≡ holds_lock number k.holder
  pub committed : R m.committed k.committed
  pub seen : (number : ℕ) → a.sessions number ≡ true → R (seen m number) (seen k number)

-- over both machines, or over none, a session of another holds the writer lock; and so with 256 sessions of the client of this number
pub record AreCrowdedAlike (number : ℕ) (m k : Machine) : Type 0 where
  pub lock : is_held_by_other number m.holder ≡ is_held_by_other number k.holder
  pub room : nat_le 256 (length (own_sessions (client_of number) m.sessions)) ≡ nat_le 256 (length (own_sessions (client_of number) k.sessions))

-- each act is the tenant's own, or what it leaves committed is related to what was
abbrev pub OthersKeepRelated : Relation → Tenant → Machine → List Act → Type 0
OthersKeepRelated R a m [] = Unit {0}
OthersKeepRelated R a m (x ∷ later) =
    ((is_of a x ≡ true → OpensItsOwn a m x) × (is_of a x ≡ false → R m.committed (follows m x).committed))
    × OthersKeepRelated R a (follows m x) later

-- ---- where answers may part

-- an own event that may be answered differently: it tells; or others hold the writer lock, or have sessions open, over one machine alone; or
-- a session sets a role that is none of the tenant's
abbrev pub MayPart : Telling → Tenant → Machine → Machine → Act → Type 0
MayPart T a m k (happens event) = T (number_of event) m k event ⊎ IsCrowded (number_of event) m k event ⊎ LeavesTenant a (number_of event) m event
MayPart T a m k (declares event) = ⊥
MayPart T a m k restarts = ⊥

-- ---- runs

-- the answers to the tenant's own events are the same in two runs, each with events of others, up to the first that may be answered
-- differently and is not refused alike
pub data IsToldRelated (R : Relation) (T : Telling) (a : Tenant) : Machine → Machine → List Act → List Act → Type 0 where
  all_told : {m k : Machine} → IsToldRelated R T a m k [] []
  told_apart : {m k : Machine} {x : Act} {later others : List Act} → is_of a x ≡ true → MayPart T a m k x → (IsRefusedAlike m k x → ⊥) → IsToldRelated R T a m k (x ∷ later) (x ∷ others)
  told_alike : {m k : Machine} {x : Act} {later others : List Act} → is_of a x ≡ true → IsAnsweredAlike m k x →
      IsToldRelated R T a (follows m x) (follows k x) later others → IsToldRelated R T a m k (x ∷ later) (x ∷ others)
  -- as long as the machines are related after it
  declared : {m k : Machine} {event : Event Reading} {later others : List Act} → (MachinesRelated R a (after m event) (after k event) → IsToldRelated R T a (after m event) (after k event) later others) →
      IsToldRelated R T a m k (declares event ∷ later) (declares event ∷ others)
  untold_here : {m k : Machine} {x : Act} {later others : List Act} → is_of a x ≡ false → IsToldRelated R T a (follows m x) k later others → IsToldRelated R T a m k (x ∷ later) others
  untold_there : {m k : Machine} {x : Act} {later others : List Act} → is_of a x ≡ false → IsToldRelated R T a m (follows k x) later others → IsToldRelated R T a m k later (x ∷ others)

-- two runs in which the tenant does the same, and others what they will within the relation, are told it alike
abbrev pub RunsAreTold : (Tenant → Relation) → Telling → Type 0
RunsAreTold R T = (a : Tenant) (m k : Machine) (acts others : List Act) → MachinesRelated (R a) a m k → AreSound m → AreSound k →
    OthersKeepRelated (R a) a m acts → OthersKeepRelated (R a) a k others → noticed a acts ≡ noticed a others → IsToldRelated (R a) T a m k acts others

-- ---- patterns

-- each act of a run is so
abbrev pub EachAct : (Machine → Act → Type 0) → Machine → List Act → Type 0
EachAct Q m [] = Unit {0}
EachAct Q m (x ∷ later) = Q m x × EachAct Q (follows m x) later

-- each event that others declare in two runs, at the same place of what the tenant does and notices, leaves the machines related
abbrev pub AreDeclaredRelated : Relation → Tenant → Machine → Machine → List Act → List Act → Type 0
AreDeclaredRelated R a m k acts others = (before later before_there later_there : List Act) (event : Event Reading) → acts ≡ before ++ declares event ∷ later → others ≡ before_there ++ declares event ∷ later_there →
    noticed a before ≡ noticed a before_there → MachinesRelated R a (after (after_all m before) event) (after (after_all k before_there) event)

-- two such runs in which each act is so give the tenant the same answers, to the end, where its refusals with the listed codes are the same
-- at the same places
abbrev pub PatternsTellAll : (Tenant → Relation) → (SqlState → Bool) → (Tenant → Machine → Act → Type 0) → Type 0
PatternsTellAll R listed Q = (a : Tenant) (m k : Machine) (acts others : List Act) → MachinesRelated (R a) a m k → AreSound m → AreSound k →
    OthersKeepRelated (R a) a m acts → OthersKeepRelated (R a) a k others → noticed a acts ≡ noticed a others → EachAct (Q a) m acts → AreDeclaredRelated (R a) a m k acts others →
    pattern listed (own_answers a m acts) ≡ pattern listed (own_answers a k others) → own_answers a m acts ≡ own_answers a k others

-- ---- what the laws of runs forbid

-- an own event that is answered differently over two machines is told alike only where it may part
abbrev pub RunsPartWhereTold : (Tenant → Relation) → Telling → Type 0
RunsPartWhereTold R T = (a : Tenant) (m k : Machine) (event : Event Reading) → is_of a (happens event) ≡ true → (answer_to m event ≡ answer_to k event → ⊥) →
    IsToldRelated (R a) T a m k (happens event ∷ []) (happens event ∷ []) → MayPart T a m k (happens event)

-- and behind an act of another only where the machine that this act left makes it
abbrev pub RunsPartBehindOthers : (Tenant → Relation) → Telling → Type 0
RunsPartBehindOthers R T = (a : Tenant) (m k : Machine) (other : Act) (event : Event Reading) → is_of a other ≡ false → is_of a (happens event) ≡ true →
    (answer_to (follows m other) event ≡ answer_to k event → ⊥) → IsToldRelated (R a) T a m k (other ∷ happens event ∷ []) (happens event ∷ []) → MayPart T a (follows m other) k (happens event)
