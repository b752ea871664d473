-- Clients under other numbers, and with them their sessions: in machines, events, and servers over stores.
use Rattle.std.specs.Prelude.{◌≡◌, ℕ, List, map, Option, Some, None}
use Rattle.sql_types.specs.declared.answer.Answer.{Answer}
use Rattle.abstract_database.specs.Machine.{Event, opens, executes, closes, Reading, Session, Holder, Machine, Transition, number_in, own_number, client_of, transition}
use Rattle.abstract_database.specs.Runs.{TheText, ReadingRelation, RanBy, Standing, Stops, At, Happens}

-- no two clients have one place
abbrev pub IsOneToOne : (ℕ → ℕ) → Type 0
IsOneToOne place = (c d : ℕ) → place c ≡ place d → c ≡ d

-- ---- clients that are numbered by their places

module _ (place : ℕ → ℕ) where
  -- the number that a session of the machine has then
  abbrev pub renumbered : ℕ → ℕ
  renumbered number = number_in (place (client_of number)) (own_number number)

  abbrev pub renumbered_entry : ℕ × Session → ℕ × Session
  renumbered_entry e = (renumbered e.0, e.1)

  abbrev pub renumbered_holder : Option Holder → Option Holder
  renumbered_holder None = None
  renumbered_holder (Some h) = Some (record h { session = renumbered h.session })

  abbrev pub renumbered_machine : Machine → Machine
  renumbered_machine m = record m { holder = renumbered_holder m.holder; sessions = map renumbered_entry m.sessions }

  abbrev pub renumbered_event : {T : Type 0} → Event T → Event T
  renumbered_event (opens number login) = opens (renumbered number) login
  renumbered_event (executes number x) = executes (renumbered number) x
  renumbered_event (closes number) = closes (renumbered number)

  abbrev pub renumbered_events : {T : Type 0} → List (Event T) → List (Event T)
  renumbered_events events = map renumbered_event events

  abbrev pub renumbered_transition : Transition → Transition
  renumbered_transition t = record t { machine = renumbered_machine t.machine }

  abbrev pub renumbered_standing : Standing → Standing
  renumbered_standing s = record s { machine = renumbered_machine s.machine }

  abbrev pub renumbered_at : At → At
  renumbered_at w = record w { standing = renumbered_standing w.standing }

-- ---- nothing else comes of it

-- each event has the same answer, and leads to the same machine, under these numbers
abbrev pub numbers_change_no_answer : Type 0
numbers_change_no_answer = (place : ℕ → ℕ) → IsOneToOne place → (m : Machine) (event : Event Reading) →
    transition (renumbered_machine place m) (renumbered_event place event) ≡ renumbered_transition place (transition m event)

-- and so it is over a store, event by event, with each stop in between
abbrev pub numbers_change_no_run : ReadingRelation → Stops → Type 0
numbers_change_no_run Reads Leave = (place : ℕ → ℕ) → IsOneToOne place → (w end : At) (events : List (Event TheText)) (answers : List Answer) → RanBy (Happens Reads Leave) w events answers end →
    RanBy (Happens Reads Leave) (renumbered_at place w) (renumbered_events place events) answers (renumbered_at place end)
