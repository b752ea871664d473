-- What a decision makes of the machine of a server that works, for a statement of an open session.
use Rattle.std.specs.Prelude.{◌≡◌, ℕ, Option, Some, None}
use Rattle.store.specs.Records.{Records}
use Rattle.abstract_database.specs.Lists.{TheName}
use Rattle.abstract_database.specs.Database.{Database}
use Rattle.abstract_database.specs.Machine.{Machine, Holder, Block, Outside, Inside, Failed, Session, Transition, transition_to, session_of}
use Rattle.abstract_database.specs.Runs.{ReadingRelation}
use Rattle.stored_database.specs.Definitions.{Definitions}
use Rattle.catalogue.specs.Changes.{definitions_after}
use Rattle.server.specs.declared.decision.Decision.{Decision}
use Rattle.server.specs.declared.decision.Decision.TheVariants as decision
use Rattle.server.specs.declared.writer.Writer.{Writer}
use Rattle.server.specs.Writers.{records_under, definitions_under}
use Rattle.server.specs.Standing.{HolderShows, HoldsInBlock}
use Rattle.catalogue.specs.Executed.{Leads}
use Rattle.server.specs.Decisions.{Entries, machine_at, after_change, Concerns}

-- doing the decision is this transition of the machine, and a holder is still in a block; there is a commit only where one may be
abbrev pub Makes : Records → Definitions → Option Writer → Database → Option Holder → Entries → Type 0 → Transition → Decision → Type 0
Makes records d writer db holder sessions MayCommit t (decision.Answer answer c) =
    Concerns c sessions × HoldsInBlock holder (after_change c sessions)
    × (t ≡ transition_to answer (machine_at db holder (after_change c sessions)))
-- no statement opens a session
Makes records d writer db holder sessions MayCommit t (decision.Open answer number s) = ⊥
Makes records d writer db holder sessions MayCommit t (decision.Release answer c) =
    Concerns c sessions × (t ≡ transition_to answer (machine_at db None (after_change c sessions)))
Makes records d writer db holder sessions MayCommit t (decision.Commit made) =
    (after : Database) × Leads made.changes records (definitions_after made.schema d) after × (holder ≡ None) × MayCommit
    × (t ≡ transition_to made.answer (machine_at after None sessions))
Makes records d writer db holder sessions MayCommit t (decision.Hold number made) =
    (after : Database) × Leads made.changes (records_under writer records) (definitions_after made.schema (definitions_under writer d)) after
    × HoldsInBlock (Some (record { session = number; database = after })) sessions
    × (t ≡ transition_to made.answer (machine_at db (Some (record { session = number; database = after })) sessions))
Makes records d writer db holder sessions MayCommit t (decision.CommitWriter answer c) =
    (h : Holder) × (holder ≡ Some h) × Concerns c sessions × MayCommit
    × (t ≡ transition_to answer (machine_at h.database None (after_change c sessions)))

-- in each machine in which this session of this number is open and this writer lock is held, where this is given, the decision makes this transition
abbrev pub Serves : Option Writer → ℕ → Session → (Machine → Type 0) → (Machine → Type 0) → (Machine → Transition) → Decision → Type 0
Serves writer number s Given MayCommit leads what = (records : Records) (d : Definitions) (db : Database) (holder : Option Holder) (sessions : Entries)
    → HolderShows records d writer holder → HoldsInBlock holder sessions → session_of number sessions ≡ Some s → Given (machine_at db holder sessions)
    → Makes records d writer db holder sessions (MayCommit (machine_at db holder sessions)) (leads (machine_at db holder sessions)) what

-- nothing is given
abbrev pub Always : Machine → Type 0
Always m = Unit {0}

-- nothing may be committed
abbrev pub Never : Machine → Type 0
Never m = ⊥

-- a block at whose BEGIN this role was set
abbrev pub IsBlockOf : TheName → Block → Type 0
IsBlockOf role Outside = ⊥
IsBlockOf role (Inside before) = before ≡ role
IsBlockOf role (Failed before) = before ≡ role

-- no text has a reading: opening and closing read none
abbrev pub NoText : ReadingRelation
NoText text reading = ⊥
