-- What is left of a server after a script: the sessions that are open are closed, and nothing else is done.
use Rattle.std.specs.Prelude.{◌≡◌, ◌≤◌, ℕ, true, false, List, length, map, None}
use Rattle.std.specs.List.{AllByRecursion}
use Rattle.sql_types.specs.declared.answer.Answer.{Answer}
use Rattle.sql_types.specs.declared.answer.Answer.TheVariants.{Done}
use Rattle.sql_types.specs.declared.tag.Tag.TheVariants as tag
use Rattle.sql_types.specs.declared.event.Event.{Event}
use Rattle.sql_types.specs.declared.event.Event.TheVariants as event
use Rattle.store.specs.Store.{StoreState}
use Rattle.abstract_database.specs.Machine.{Session, client_of, own_number, machine_over}
use Rattle.abstract_database.specs.Runs.{ReadingRelation, At}
use Rattle.server.specs.declared.server.Server.{Server}
use Rattle.server.specs.Standing.{Represents}
use Rattle.server.specs.Runs.{Runs}

-- the open sessions of a machine, in the order of their opening
abbrev pub Sessions : Type 0
Sessions = List (ℕ × Session)

-- each of them is of the one client of scripts, and of connections that are served one after the other
abbrev pub AreOfOne : Sessions → Type 0
AreOfOne sessions = AllByRecursion (λ s. client_of s.0 ≡ 0) sessions

-- the sessions are closed, the first opened first
abbrev pub closing_events : Sessions → List Event
closing_events sessions = map (λ s. event.Close (own_number s.0)) sessions

-- and each is closed
abbrev pub closed_answers : Sessions → List Answer
closed_answers sessions = map (λ s. Done tag.Close None None) sessions

-- the server stands at a machine whose open sessions are of the one client, and no more than it ever opens
abbrev pub StandsWithinLimit : {S X : Type 0} → (S → StoreState) → Server S X → Type 0
StandsWithinLimit state server = (state server.store).sound × ((w : At) × Represents state server w × AreOfOne w.standing.machine.sessions × (length w.standing.machine.sessions ≤ 256))

-- its sessions are closed in their order, and no other event is run; then no session is open, and the committed database is as it was. A server
-- that has stopped closes none
pub record Closes {S X : Type 0} (Reads : ReadingRelation) (state : S → StoreState) (old new : Server S X) : Type 0 where
  pub stopped : old.stopped ≡ true → new ≡ old
  pub closed : old.stopped ≡ false → (w : At) → Represents state old w
      → Runs Reads state 0 old (closing_events w.standing.machine.sessions) (closed_answers w.standing.machine.sessions) new
  pub left : old.stopped ≡ false → (w : At) → Represents state old w
      → (end : At) × Represents state new end × (end.standing.machine ≡ machine_over w.standing.machine.committed)

-- what is left after a script: no session is open, and nobody holds the writer lock, unless the server has stopped
abbrev pub LeavesNoSession : {S X : Type 0} → (S → StoreState) → Server S X → Type 0
LeavesNoSession state new = (end : At) × Represents state new end × (new.stopped ≡ false → end.standing.machine ≡ machine_over end.standing.machine.committed)
