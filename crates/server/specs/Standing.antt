-- Where a server over a store stands, and what a stop leaves of its database.
use Rattle.std.specs.Prelude.{◌≡◌, ◌≢◌, ℕ, Bool, true, false, List, [], ◌∷◌, Option, Some, None}
use Rattle.sector_device.specs.Timeline.{Timeline}
use Rattle.storage_sizes.specs.declared.record_format.RecordFormat.TheVariants.{V2}
use Rattle.sql_types.specs.declared.event.Event.{Event}
use Rattle.sql_types.specs.declared.event.Event.TheVariants as event
use Rattle.store.specs.Records.{Records}
use Rattle.store.specs.Store.{StoreState, Contents}
use Rattle.abstract_database.specs.Database.{Database}
use Rattle.abstract_database.specs.Machine.{Event as MachineEvent, opens, executes, closes, Holder, Session, Outside, number_in, machine_over, session_of}
use Rattle.abstract_database.specs.Runs.{TheText, Counts, IsFoundAt, Stops, At}
use Rattle.stored_database.specs.Definitions.{Definitions}
use Rattle.stored_database.specs.Records.{Shows}
pub use Rattle.stored_database.specs.BothRecordFormats.{Stands, Means}
use Rattle.transactions.specs.Views.{applied_all}
use Rattle.server.specs.declared.writer.Writer.{Writer}
use Rattle.server.specs.declared.server.Server.{Server}
use Rattle.server.specs.Writers.{definitions_or}

-- ---- events

-- an event of a client as an event of the machine
abbrev pub event_of : ℕ → Event → MachineEvent TheText
event_of client (event.Open session login) = opens (number_in client session) login
event_of client (event.Statement session text) = executes (number_in client session) text
event_of client (event.Close session) = closes (number_in client session)

abbrev pub events_of : ℕ → List Event → List (MachineEvent TheText)
events_of client [] = []
events_of client (e ∷ es) = event_of client e ∷ events_of client es

-- ---- what a stop leaves

-- whatever a stop leaves from one moment to another stands for a database of which this holds
abbrev pub stops_of : Timeline (Option Contents) → Stops
stops_of time from to P = (x : Option Contents) → time.stops from to x → (db : Database) × Means x db × P db

-- ---- where a server stands

-- the holder's changes over the store's records show the holder's database
abbrev pub HolderShows : Records → Definitions → Option Writer → Option Holder → Type 0
HolderShows records d None None = Unit {0}
HolderShows records d (Some writer) (Some h) = (h.session ≡ writer.session) × Shows (applied_all writer.lists records) (definitions_or writer.catalogue d) h.database
HolderShows records d None (Some h) = ⊥
HolderShows records d (Some writer) None = ⊥

-- the holder's session is open, and in a block
abbrev pub HoldsInBlock : Option Holder → List (ℕ × Session) → Type 0
HoldsInBlock None sessions = Unit {0}
HoldsInBlock (Some h) sessions = (s : Session) × (session_of h.session sessions ≡ Some s) × (s.block ≢ Outside)

-- a server whose store works: its records, which are of record format 2, show this database, and its writer lock this holder's
pub record Works {S X : Type 0} (state : S → StoreState) (server : Server S X) (db : Database) (holder : Option Holder) : Type 0 where
  pub unfailed : (state server.store).has_failed ≡ false
  pub second : (state server.store).record_format ≡ V2
  pub committed : Shows (state server.store).map server.catalogue db
  pub held : HolderShows (state server.store).map server.catalogue server.writer holder
  pub in_block : HoldsInBlock holder server.sessions.entries

-- these are the store's counts; once the server has stopped, the number is the last one that it knew
pub record AreCounts (s : StoreState) (stopped : Bool) (counts : Counts) : Type 0 where
  pub number : stopped ≡ false → counts.number ≡ s.number
  pub fulls : counts.fulls ≡ s.fulls
  pub failures : counts.failures ≡ s.failures
  pub faults : counts.faults ≡ s.faults

-- where a server stands that has just been opened over a store that shows this database
abbrev pub at_start : StoreState → Database → At
at_start s db = record {
  counts = record { number = s.number; fulls = s.fulls; failures = s.failures; faults = s.faults };
  moment = s.time.moment;
  standing = record { machine = machine_over db; under_way = None };
}

-- the server stands here: its sessions are the machine's; while it works its store shows the machine's databases, and once
-- it has stopped a stop leaves the committed one or the one under way
pub record Represents {S X : Type 0} (state : S → StoreState) (server : Server S X) (w : At) : Type 0 where
  pub moment : w.moment ≡ (state server.store).time.moment
  pub counts : AreCounts (state server.store) server.stopped w.counts
  pub sessions : w.standing.machine.sessions ≡ server.sessions.entries
  pub stopped : w.standing.machine.stopped ≡ server.stopped
  pub works : server.stopped ≡ false → (w.standing.under_way ≡ None) × Works state server w.standing.machine.committed w.standing.machine.holder
  pub left : server.stopped ≡ true → (x : Option Contents) → (state server.store).time.left x → (db : Database) × Means x db × IsFoundAt w.standing db
