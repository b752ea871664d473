-- The numbers that a script's sessions get, and the events that its lines request.
use Rattle.std.specs.Prelude.{ℕ, ◌+◌, List, map, bytes_eq, Option, Some, None}
use Rattle.std.specs.List.{position_or_len}
use Rattle.std.specs.Borrow.{Bor}
use Rattle.indexmap.specs.IndexSet.{insert_key}
use Rattle.sql_types.specs.declared.event.Event.{Event}
use Rattle.sql_types.specs.declared.event.Event.TheVariants as event
use Rattle.wire.specs.declared.session_numbers.SessionNumbers.{SessionNumbers}
use Rattle.wire.specs.ScriptLine.{Request, nothing, opens, asks, closes}

-- the names of sessions, in the order in which a script first names them
abbrev pub Names : Type 0
Names = List (List ℕ)

-- a name that is new goes last
abbrev pub with_name : Names → List ℕ → Names
with_name names name = insert_key bytes_eq names name

-- the number of a session: the index of its name, counted from 1
abbrev pub number_of : Names → List ℕ → ℕ
number_of names name = position_or_len (bytes_eq name) names + 1

-- the event that a line requests, if it requests one
abbrev pub event_for : Names → Request → Option Event
event_for names nothing = None
event_for names (opens name login) = Some (event.Open (number_of names name) login)
event_for names (asks name text) = Some (event.Statement (number_of names name) text)
event_for names (closes name) = Some (event.Close (number_of names name))

-- the names, with the one that the line has
abbrev pub names_after : Names → Request → Names
names_after names nothing = names
names_after names (opens name login) = with_name names name
names_after names (asks name text) = with_name names name
names_after names (closes name) = with_name names name

-- borrowed texts, as lists of bytes
abbrev pub texts_of : List (Bor (List ℕ)) → List (List ℕ)
texts_of texts = map (λ text. text.now) texts

-- the names that have got numbers
abbrev pub names_of : SessionNumbers → Names
names_of numbers = texts_of numbers.names.keys
