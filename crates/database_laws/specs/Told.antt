-- What a tenant is told: the answers to all of its sessions, whatever else is done out of the sight of all that they act as.
use Rattle.std.specs.Prelude.{◌≡◌, ◌⊎◌, ℕ, nat_eq, nat_le, Bool, true, false, List, [], ◌∷◌, filter, length, Some, Ok}
use Rattle.sql_types.specs.declared.state.SqlState.TheVariants.{LockNotAvailable, TooManyConnections}
use Rattle.sql_ast.specs.declared.statement.Statement.{Statement}
use Rattle.sql_ast.specs.declared.statement.Statement.TheVariants as statement
use Rattle.sql_ast.specs.declared.statement.SetRole.{SetRole}
use Rattle.sql_ast.specs.declared.statement.SessionStatement.TheVariants as of_session
use Rattle.abstract_database.specs.Roles.{may_log_in}
use Rattle.abstract_database.specs.Statements.{UserPair}
use Rattle.abstract_database.specs.Machine.{client_of, own_sessions, Holder, Session, Event, opens, executes, closes, Reading, Machine, machine_over, session_of, users_of, may_execute, with_role_set, is_writing, is_held_by_other, seen}
use Rattle.database_laws.specs.Sessions.{number_of}
use Rattle.database_laws.specs.OutOfSight.{IsUnseen}
use Rattle.database_laws.specs.HiddenRuns.{SameApparentRowsForPairs, as_itself, ActsWithin, holds_lock, AreSound, answer_to, after, AreOneRefusal, TellsAlone, IsException}
use Rattle.abstract_database.specs.Lists.{TheName}

-- a tenant: the pairs of users as which it acts, each a login role and a role that its sessions set, and the numbers of its sessions,
-- over whatever connections. One login role may set the role of each of many tenants: it is of each of them with that role alone
pub record Tenant : Type 0 where
  pub pairs : UserPair → Bool
  pub sessions : ℕ → Bool

-- the open sessions of this number
abbrev pub entries_of : ℕ → List (ℕ × Session) → List (ℕ × Session)
entries_of number sessions = filter (λ e. nat_eq number e.0) sessions

-- all of them act as these pairs alone
abbrev pub AllFor : (UserPair → Bool) → List (ℕ × Session) → Type 0
AllFor pairs [] = Unit {0}
AllFor pairs (e ∷ es) = ActsWithin pairs e.1 × AllFor pairs es

-- ---- machines

-- over both machines the tenant's sessions are the same, each acts as its pairs alone and holds the writer lock over both or over none, and
-- what is committed, and what each of them sees, looks alike to all of the pairs
pub record IsAlikeTo (a : Tenant) (m k : Machine) : Type 0 where
  pub sessions : (number : ℕ) → a.sessions number ≡ true → entries_of number m.sessions ≡ entries_of number k.sessions
  pub opened_for : (number : ℕ) → a.sessions number ≡ true → AllFor a.pairs (entries_of number m.sessions)
  pub stopped : m.stopped ≡ k.stopped
  pub lock : (number : ℕ) → a.sessions number ≡ true → holds_lock number m.holder ≡ holds_lock number k.holder
  pub committed : SameApparentRowsForPairs a.pairs m.committed k.committed
  pub seen : (number : ℕ) → a.sessions number ≡ true → SameApparentRowsForPairs a.pairs (seen m number) (seen k number)

-- ---- what happens

-- an event; one of another that happens in both runs, such as a definition; or a stop and the next opening: each session is gone, and
-- what was committed is there
pub data Act : Type 0 where
  happens : Event Reading → Act
  declares : Event Reading → Act
  restarts : Act

abbrev pub follows : Machine → Act → Machine
follows m (happens event) = after m event
follows m (declares event) = after m event
follows m restarts = machine_over m.committed

-- whether the tenant notices it: its own events, and each restart
abbrev pub is_of : Tenant → Act → Bool
is_of a (happens event) = a.sessions (number_of event)
is_of a (declares event) = true
is_of a restarts = true

-- the tenant opens its sessions for its own login roles alone, but for attempts that are refused
abbrev pub OpensItsOwn : Tenant → Machine → Act → Type 0
OpensItsOwn a m (happens (opens number login)) = may_log_in m.committed login ≡ true → a.pairs (as_itself login) ≡ true
OpensItsOwn a m (happens (executes number reading)) = Unit {0}
OpensItsOwn a m (happens (closes number)) = Unit {0}
OpensItsOwn a m (declares event) = Unit {0}
OpensItsOwn a m restarts = Unit {0}

-- each act is the tenant's own, or leaves what is committed as it looks to all that it acts as
abbrev pub OthersKeepOutOfSight : Tenant → Machine → List Act → Type 0
OthersKeepOutOfSight a m [] = Unit {0}
OthersKeepOutOfSight a m (x ∷ later) =
    ((is_of a x ≡ true → OpensItsOwn a m x) × (is_of a x ≡ false → SameApparentRowsForPairs a.pairs m.committed (follows m x).committed))
    × OthersKeepOutOfSight a (follows m x) later

-- what the tenant does and notices, in its order
abbrev pub noticed : Tenant → List Act → List Act
noticed a acts = filter (is_of a) acts

-- ---- exceptions

-- an event that is refused over one of two machines, and not over the other, for what others hold or have open there
pub data IsCrowded (number : ℕ) (m k : Machine) : Event Reading → Type 0 where
  -- a write, while a session of another holds the writer lock over one of the machines alone
  by_lock : (x : Statement) → is_writing x ≡ true → (is_held_by_other number m.holder ≡ is_held_by_other number k.holder → ⊥) →
      TellsAlone LockNotAvailable (answer_to m (executes number (Ok x))) (answer_to k (executes number (Ok x))) → IsCrowded number m k (executes number (Ok x))
  -- an opening beside 256 sessions of its client over one of the machines alone
  by_number : (login : TheName) → (nat_le 256 (length (own_sessions (client_of number) m.sessions)) ≡ nat_le 256 (length (own_sessions (client_of number) k.sessions)) → ⊥) →
      TellsAlone TooManyConnections (answer_to m (opens number login)) (answer_to k (opens number login)) → IsCrowded number m k (opens number login)

-- a session sets a role, and it is none that the tenant acts as
pub data LeavesTenant (a : Tenant) (number : ℕ) (m : Machine) : Event Reading → Type 0 where
  by_role : (s changed : Session) (x : SetRole) (free : Unit {0}) → session_of number m.sessions ≡ Some s → may_execute m number s (statement.OfSession (of_session.SetRole x)) ≡ Ok free →
      with_role_set (seen m number) s x.role ≡ Ok changed → a.pairs (users_of changed) ≡ false → LeavesTenant a number m (executes number (Ok (statement.OfSession (of_session.SetRole x))))

-- an event after which the tenant's answers may differ
abbrev pub IsExceptionFor : Tenant → Machine → Machine → Act → Type 0
IsExceptionFor a m k (happens event) = IsException (number_of event) m k event ⊎ IsCrowded (number_of event) m k event ⊎ LeavesTenant a (number_of event) m event
IsExceptionFor a m k (declares event) = ⊥
IsExceptionFor a m k restarts = ⊥

-- one refusal of an event
abbrev pub IsRefusedAlike : Machine → Machine → Act → Type 0
IsRefusedAlike m k (happens event) = AreOneRefusal (answer_to m event) (answer_to k event)
IsRefusedAlike m k (declares event) = ⊥
IsRefusedAlike m k restarts = ⊥

-- one answer to an event
abbrev pub IsAnsweredAlike : Machine → Machine → Act → Type 0
IsAnsweredAlike m k (happens event) = answer_to m event ≡ answer_to k event
IsAnsweredAlike m k (declares event) = ⊥
IsAnsweredAlike m k restarts = Unit {0}

-- ---- runs

-- the answers to the tenant's own events are the same in two runs, each with events of others, up to the first exception, which is no
-- event that both machines refuse alike
pub data IsToldAlike (a : Tenant) : Machine → Machine → List Act → List Act → Type 0 where
  all_told : {m k : Machine} → IsToldAlike a m k [] []
  told_apart : {m k : Machine} {x : Act} {later others : List Act} → is_of a x ≡ true → IsExceptionFor a m k x → (IsRefusedAlike m k x → ⊥) → IsToldAlike a m k (x ∷ later) (x ∷ others)
  told_alike : {m k : Machine} {x : Act} {later others : List Act} → is_of a x ≡ true → IsAnsweredAlike m k x →
      IsToldAlike a (follows m x) (follows k x) later others → IsToldAlike a m k (x ∷ later) (x ∷ others)
  -- as long as the machines are alike after it
  declared : {m k : Machine} {event : Event Reading} {later others : List Act} → (IsAlikeTo a (after m event) (after k event) → IsToldAlike a (after m event) (after k event) later others) →
      IsToldAlike a m k (declares event ∷ later) (declares event ∷ others)
  untold_here : {m k : Machine} {x : Act} {later others : List Act} → is_of a x ≡ false → IsToldAlike a (follows m x) k later others → IsToldAlike a m k (x ∷ later) others
  untold_there : {m k : Machine} {x : Act} {later others : List Act} → is_of a x ≡ false → IsToldAlike a m (follows k x) later others → IsToldAlike a m k later (x ∷ others)

-- two runs in which the tenant does the same, and others what they will out of its sight, are told it alike
abbrev pub what_a_tenant_is_told : Type 0
what_a_tenant_is_told = (a : Tenant) (m k : Machine) (acts others : List Act) → IsAlikeTo a m k → AreSound m → AreSound k →
    OthersKeepOutOfSight a m acts → OthersKeepOutOfSight a k others → noticed a acts ≡ noticed a others → IsToldAlike a m k acts others

-- ---- others that act out of sight

-- what another session has done, which holds the writer lock, looks to the tenant like what is committed
abbrev pub OthersHoldOutOfSight : Tenant → Machine → Type 0
OthersHoldOutOfSight a m = (h : Holder) → m.holder ≡ Some h → a.sessions h.session ≡ false → SameApparentRowsForPairs a.pairs m.committed h.database

-- each act is the tenant's own, or makes no statement but one over rows that are out of its sight
abbrev pub IsUnseenAct : Tenant → Machine → Act → Type 0
IsUnseenAct a m (happens event) = IsUnseen a.pairs m event
IsUnseenAct a m (declares event) = Unit {0}
IsUnseenAct a m restarts = Unit {0}

-- what others hold after an event that happens in both runs
abbrev pub LeavesHolder : Tenant → Machine → Act → Type 0
LeavesHolder a m (happens event) = Unit {0}
LeavesHolder a m (declares event) = OthersHoldOutOfSight a (after m event)
LeavesHolder a m restarts = Unit {0}

abbrev pub OthersActOutOfSight : Tenant → Machine → List Act → Type 0
OthersActOutOfSight a m [] = Unit {0}
OthersActOutOfSight a m (x ∷ later) =
    ((is_of a x ≡ true → OpensItsOwn a m x) × (is_of a x ≡ false → IsUnseenAct a m x)) × LeavesHolder a m x × OthersActOutOfSight a (follows m x) later

-- then each leaves what is committed as it looks to the tenant
abbrev pub unseen_acts_are_out_of_sight : Type 0
unseen_acts_are_out_of_sight = (a : Tenant) (m : Machine) (acts : List Act) → AreSound m → OthersHoldOutOfSight a m → OthersActOutOfSight a m acts → OthersKeepOutOfSight a m acts
