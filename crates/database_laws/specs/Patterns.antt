-- Patterns: at which of its own events a tenant meets one of the listed refusals, and which. They determine all of its answers.
use Rattle.std.specs.Prelude.{◌≡◌, ℕ, Bool, true, false, if◌then◌else◌, List, [], ◌∷◌, ◌++◌, map, filter, Option, Some, None, Ok}
use Rattle.sql_types.specs.declared.state.SqlState.{SqlState}
use Rattle.sql_types.specs.declared.state.SqlState.TheVariants.{UniqueViolation, LockNotAvailable, TooManyConnections}
use Rattle.sql_types.specs.declared.answer.Answer.{Answer}
use Rattle.sql_types.specs.declared.answer.Answer.TheVariants as answer
use Rattle.sql_ast.specs.declared.statement.Statement.TheVariants as statement
use Rattle.sql_ast.specs.declared.statement.DatabaseStatement.TheVariants as on_database
use Rattle.sql_ast.specs.declared.statement.DefiningStatement.{DefiningStatement}
use Rattle.sql_ast.specs.declared.statement.RowStatement.{RowStatement}
use Rattle.abstract_database.specs.Statements.{as_seen, Checked, checked}
use Rattle.abstract_database.specs.Machine.{Session, Event, executes, closes, Reading, Machine, machine_over, session_of, users_of, seen, transition}
use Rattle.database_laws.specs.Blocks.{IsRefused}
use Rattle.database_laws.specs.Sessions.{number_of}
use Rattle.database_laws.specs.HiddenRuns.{AreSound, goes_by_visible, may_unhide, answer_to, after}
use Rattle.database_laws.specs.Told.{Tenant, IsAlikeTo, Act, happens, declares, restarts, follows, is_of, OthersKeepOutOfSight, noticed, LeavesTenant}

-- ---- the pattern of answers

-- the refusals that may come of what is hidden, or of what others hold or have open: of a key, for the writer lock, and beside 256 sessions
abbrev pub is_listed : SqlState → Bool
is_listed UniqueViolation = true
is_listed LockNotAvailable = true
is_listed TooManyConnections = true
is_listed _ = false

-- the code of a refusal that is listed; every other answer is struck out
abbrev pub mark_of : (SqlState → Bool) → Answer → Option SqlState
mark_of listed (answer.Refused code) = if listed code then Some code else None
mark_of listed _ = None

-- the places and codes of the listed refusals in a list of answers
abbrev pub pattern : (SqlState → Bool) → List Answer → List (Option SqlState)
pattern listed answers = map (mark_of listed) answers

-- ---- the answers to a tenant

-- to its own events, in their order
abbrev pub own_answers : Tenant → Machine → List Act → List Answer
own_answers a m [] = []
own_answers a m (happens event ∷ later) = if a.sessions (number_of event) then answer_to m event ∷ own_answers a (after m event) later else own_answers a (after m event) later
own_answers a m (declares event ∷ later) = own_answers a (after m event) later
own_answers a m (restarts ∷ later) = own_answers a (machine_over m.committed) later

-- ---- what tells without a listed refusal

-- an event whose answer, or what comes of it, may go by what is hidden without such a refusal
pub data TellsUnlisted (a : Tenant) (m : Machine) : Event Reading → Type 0 where
  -- an UPDATE or DELETE that reads no column passes its checks, and not all policies of its table that are for the set role are FOR
  -- ALL without WITH CHECK
  by_count : (number : ℕ) (s : Session) (x : RowStatement) (c : Checked) → session_of number m.sessions ≡ Some s → goes_by_visible (seen m number) s.role x ≡ false →
      checked (seen m number) (as_seen (users_of s) (seen m number)) (on_database.OverRows x) ≡ Ok c →
      TellsUnlisted a m (executes number (Ok (statement.OnDatabase (on_database.OverRows x))))
  -- a statement that may bring to light what was hidden is carried out
  by_definition : (number : ℕ) (x : DefiningStatement) → may_unhide x ≡ true → (IsRefused (transition m (executes number (Ok (statement.OnDatabase (on_database.Defining x))))) → ⊥) →
      TellsUnlisted a m (executes number (Ok (statement.OnDatabase (on_database.Defining x))))
  -- the session sets a role that is none of the tenant's
  by_role : (number : ℕ) (event : Event Reading) → LeavesTenant a number m event → TellsUnlisted a m event

-- the act is no own event of this kind
abbrev pub TellsListedOnly : Tenant → Machine → Act → Type 0
TellsListedOnly a m (happens event) = a.sessions (number_of event) ≡ true → TellsUnlisted a m event → ⊥
TellsListedOnly a m (declares event) = Unit {0}
TellsListedOnly a m restarts = Unit {0}

-- no act of a run is
abbrev pub AllTellListedOnly : Tenant → Machine → List Act → Type 0
AllTellListedOnly a m [] = Unit {0}
AllTellListedOnly a m (x ∷ later) = TellsListedOnly a m x × AllTellListedOnly a (follows m x) later

-- the machine after these acts
abbrev pub after_all : Machine → List Act → Machine
after_all m [] = m
after_all m (x ∷ later) = after_all (follows m x) later

-- each event that others declare in two runs, at the same place of what the tenant does and notices, leaves the machines alike to it
abbrev pub AreDeclaredAlike : Tenant → Machine → Machine → List Act → List Act → Type 0
AreDeclaredAlike a m k acts others = (before later before_there later_there : List Act) (event : Event Reading) → acts ≡ before ++ declares event ∷ later → others ≡ before_there ++ declares event ∷ later_there →
    noticed a before ≡ noticed a before_there → IsAlikeTo a (after (after_all m before) event) (after (after_all k before_there) event)

-- ---- the law

-- two runs in which the tenant does the same, and others what they will out of its sight: where its answers have one pattern, they are
-- the same
abbrev pub patterns_determine_answers : Type 0
patterns_determine_answers = (a : Tenant) (m k : Machine) (acts others : List Act) → IsAlikeTo a m k → AreSound m → AreSound k →
    OthersKeepOutOfSight a m acts → OthersKeepOutOfSight a k others → noticed a acts ≡ noticed a others →
    AllTellListedOnly a m acts → AreDeclaredAlike a m k acts others →
    pattern is_listed (own_answers a m acts) ≡ pattern is_listed (own_answers a k others) → own_answers a m acts ≡ own_answers a k others

-- ---- where no answer comes

-- what comes of an act, and of its answer. The tenant gets it if the event is its own. Or an own event is carried out, and its answer does
-- not come; or it is not carried out, and none comes; or the connection of an own session ends, which closes the session
pub data Delivery : Type 0 where
  answered : Act → Delivery
  kept : Event Reading → Delivery
  lost : Event Reading → Delivery
  cut_off : ℕ → Delivery

-- the acts that happen
abbrev pub acts_of : List Delivery → List Act
acts_of [] = []
acts_of (answered x ∷ later) = x ∷ acts_of later
acts_of (kept event ∷ later) = happens event ∷ acts_of later
acts_of (lost event ∷ later) = acts_of later
acts_of (cut_off number ∷ later) = happens (closes number) ∷ acts_of later

-- whether it is the tenant's
abbrev pub is_own_delivery : Tenant → Delivery → Bool
is_own_delivery a (answered x) = is_of a x
is_own_delivery a (kept event) = true
is_own_delivery a (lost event) = true
is_own_delivery a (cut_off number) = true

-- what the tenant does and notices, and which of it is not answered
abbrev pub own_deliveries : Tenant → List Delivery → List Delivery
own_deliveries a deliveries = filter (is_own_delivery a) deliveries

-- the machine after it
abbrev pub after_delivery : Machine → Delivery → Machine
after_delivery m (answered x) = follows m x
after_delivery m (kept event) = after m event
after_delivery m (lost event) = m
after_delivery m (cut_off number) = after m (closes number)

-- what is kept is an own event that is not refused, and each session that is closed is an own one
abbrev pub MayBeUnanswered : Tenant → Machine → Delivery → Type 0
MayBeUnanswered a m (answered x) = Unit {0}
MayBeUnanswered a m (kept event) = (a.sessions (number_of event) ≡ true) × (IsRefused (transition m event) → ⊥)
MayBeUnanswered a m (lost event) = Unit {0}
MayBeUnanswered a m (cut_off number) = a.sessions number ≡ true

abbrev pub MayAllBeUnanswered : Tenant → Machine → List Delivery → Type 0
MayAllBeUnanswered a m [] = Unit {0}
MayAllBeUnanswered a m (x ∷ later) = MayBeUnanswered a m x × MayAllBeUnanswered a (after_delivery m x) later

-- the answers that come
abbrev pub delivered_answers : Tenant → Machine → List Delivery → List Answer
delivered_answers a m [] = []
delivered_answers a m (answered x ∷ later) = own_answers a m (x ∷ []) ++ delivered_answers a (follows m x) later
delivered_answers a m (kept event ∷ later) = delivered_answers a (after m event) later
delivered_answers a m (lost event ∷ later) = delivered_answers a m later
delivered_answers a m (cut_off number ∷ later) = delivered_answers a (after m (closes number)) later

-- the same where not each own event is answered: each that is not, and each end of a connection, stands at the same place of both runs, and
-- what is kept in the one is kept in the other
abbrev pub patterns_determine_delivered_answers : Type 0
patterns_determine_delivered_answers = (a : Tenant) (m k : Machine) (deliveries others : List Delivery) → IsAlikeTo a m k → AreSound m → AreSound k →
    OthersKeepOutOfSight a m (acts_of deliveries) → OthersKeepOutOfSight a k (acts_of others) → MayAllBeUnanswered a m deliveries → MayAllBeUnanswered a k others → own_deliveries a deliveries ≡ own_deliveries a others →
    AllTellListedOnly a m (acts_of deliveries) → AreDeclaredAlike a m k (acts_of deliveries) (acts_of others) →
    pattern is_listed (delivered_answers a m deliveries) ≡ pattern is_listed (delivered_answers a k others) → delivered_answers a m deliveries ≡ delivered_answers a k others
