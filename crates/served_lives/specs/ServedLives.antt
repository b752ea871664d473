-- What two databases tell the clients of a tenant, over each of which a server of many clients is opened, stopped and opened again, without end.
use Rattle.std.specs.Prelude.{◌≡◌, ◌⊎◌, ◌≤◌, ℕ, true, if◌then◌else◌, List, [], ◌∷◌, length, Some, None, zero, suc}
use Rattle.sql_types.specs.declared.event.Event.{Event}
use Rattle.abstract_database.specs.Database.{Database}
use Rattle.abstract_database.specs.Machine.{Event as MachineEvent, Reading, machine_over}
use Rattle.abstract_database.specs.Runs.{ReadingRelation, IsReadAs, Standing, IsFoundAt, At}
use Rattle.database_laws.specs.Blocks.{IsCommittedAt}
use Rattle.database_laws.specs.Invariants.{IsSound}
use Rattle.database_laws.specs.HiddenRuns.{SameApparentRowsForPairs}
use Rattle.database_laws.specs.Runs.{ReadsOnce}
use Rattle.client_laws.specs.Renumbered.{IsOneToOne}
use Rattle.server.specs.Standing.{event_of}
use Rattle.talks.specs.declared.want.Want.{Want}
use Rattle.talks.specs.Turns.{Exchange}
use Rattle.served_tenants.specs.Exchanges.{Exchanges}
use Rattle.served_tenants.specs.ServedTenants.{ClientsOfTenant, is_own, own_exchanges, OthersOutOfSight, AskAlike, IsEventOf, TellAlike}
use Rattle.served_tenants.specs.SaidTenants.{NeverParts}

-- ---- lives

-- where a server stands that has just been opened over a database: no session is open, and nothing is under way
abbrev pub opened_over : Database → Standing
opened_over db = record { machine = machine_over db; under_way = None }

-- A life: a server is opened over this database, works for clients that all come in this life, and is stopped. What it had done by then has one
-- order. Of the last that it had done nobody may have been told any more.
pub record ServedLife (Reads : ReadingRelation) (database : Database) : Type 0 where
  pub begin : At
  pub over : begin.standing ≡ opened_over database
  -- the place of each of its clients
  pub place : ℕ → ℕ
  pub apart : IsOneToOne place
  pub done : List Exchange
  pub end : At
  pub made : Exchanges Reads begin done end
  -- what the stop left, and the next life is over: what was committed; or, once a device had failed, what the event in which it did would have brought
  pub left : Database
  pub found : IsFoundAt end.standing left

-- lives that follow each other, each over what the stop of the one before left
pub data ServedLives (Reads : ReadingRelation) : Database → Type 0 where
  none_served : {db : Database} → ServedLives Reads db
  served : {db : Database} (life : ServedLife Reads db) → ServedLives Reads life.left → ServedLives Reads db

-- what a life did for the tenant
abbrev pub own_done : {Reads : ReadingRelation} {db : Database} → ClientsOfTenant → ServedLife Reads db → List Exchange
own_done a life = own_exchanges a life.place life.done

-- ---- premises

-- in each life what others do keeps out of the tenant's sight
abbrev pub OthersKeepHidden : {Reads : ReadingRelation} {db : Database} → ClientsOfTenant → ServedLives Reads db → Type 0
OthersKeepHidden a none_served = Unit {0}
OthersKeepHidden {Reads = Reads} a (served life lives) = OthersOutOfSight a life.place Reads life.begin life.done life.end life.made × OthersKeepHidden a lives

-- in both lives of each place its clients want the same, in one order over all of them, for as long as they are told the same and both go on
abbrev pub WantTheSame : {Reads : ReadingRelation} {d e : Database} → ClientsOfTenant → ServedLives Reads d → ServedLives Reads e → Type 0
WantTheSame a none_served others = Unit {0}
WantTheSame a (served life lives) none_served = Unit {0}
WantTheSame a (served life lives) (served other others) = AskAlike life.place other.place (own_done a life) (own_done a other) × WantTheSame a lives others

-- ---- own commits at a stop

-- what a client wants is an event that the machine carries out from here, and that commits what it brings
pub record IsCommit (Reads : ReadingRelation) (w : At) (client : ℕ) (wanted : Want) (next : At) : Type 0 where
  pub event : Event
  pub is : IsEventOf wanted event
  pub read : MachineEvent Reading
  pub reads : IsReadAs Reads w.standing.machine (event_of client event) read
  pub commits : IsCommittedAt w.standing.machine read next.standing.machine.committed

abbrev pub one_less : ℕ → ℕ
one_less zero = zero
one_less (suc n) = n

-- an exchange of the tenant's own is a commit, and so many of its own came before it
abbrev pub CommitsBehind : (Reads : ReadingRelation) (a : ClientsOfTenant) (place : ℕ → ℕ) (before : ℕ) (w : At) (xs : List Exchange) (end : At) → Exchanges Reads w xs end → Type 0
CommitsBehind Reads a place before w [] end made = ⊥
CommitsBehind Reads a place before w (x ∷ xs) end made =
    ((before ≡ 0) × (is_own a place x ≡ true) × IsCommit Reads w x.client x.want made.0)
    ⊎ CommitsBehind Reads a place (if is_own a place x then one_less before else before) made.0 xs end made.2

-- one life made an own commit, behind all that the other has done for the tenant
abbrev pub CommitsMore : {Reads : ReadingRelation} {d e : Database} → ClientsOfTenant → ServedLife Reads d → ServedLife Reads e → Type 0
CommitsMore {Reads = Reads} a life other = CommitsBehind Reads a life.place (length (own_done a other)) life.begin life.done life.end life.made

-- After two lives that told the tenant alike their stops may leave what does not look alike to it: the one stop came before an own commit that the
-- other life has made; or a device had failed under an event, and the stop left what that would have brought.
pub data PartWhereStopped {Reads : ReadingRelation} {d e : Database} (a : ClientsOfTenant) (life : ServedLife Reads d) (other : ServedLife Reads e) : Type 0 where
  one_commit_more : CommitsMore a life other → PartWhereStopped a life other
  one_commit_more_there : CommitsMore a other life → PartWhereStopped a life other
  device_had_failed : life.end.standing.under_way ≡ Some life.left → PartWhereStopped a life other
  device_had_failed_there : other.end.standing.under_way ≡ Some other.left → PartWhereStopped a life other

-- ---- what is told

-- The first two lives tell the tenant alike, up to the end of one, or to where they may part. Where they never part, and their stops did not part them
-- either, what these left looks alike to the tenant, and so it goes on
abbrev pub ServedLivesTellAlike : {Reads : ReadingRelation} {d e : Database} → ClientsOfTenant → ServedLives Reads d → ServedLives Reads e → Type 0
ServedLivesTellAlike a none_served others = Unit {0}
ServedLivesTellAlike a (served life lives) none_served = Unit {0}
ServedLivesTellAlike {Reads = Reads} a (served life lives) (served other others) =
    (told : TellAlike Reads a life.place other.place life.begin other.begin life.done other.done)
    × (NeverParts told → PartWhereStopped a life other ⊎ (SameApparentRowsForPairs a.pairs life.left other.left × ServedLivesTellAlike a lives others))

-- two databases that look alike to a tenant, whose clients want the same in lives that follow each other, tell it the same, life by life
abbrev pub what_lives_tell_clients : ReadingRelation → Type 0
what_lives_tell_clients Reads = ReadsOnce Reads → (a : ClientsOfTenant) (d e : Database) (lives : ServedLives Reads d) (others : ServedLives Reads e) →
    SameApparentRowsForPairs a.pairs d e → IsSound d → IsSound e → OthersKeepHidden a lives → OthersKeepHidden a others → WantTheSame a lives others → ServedLivesTellAlike a lives others

-- ---- what a stop does not part

-- Two lives never part, and both have done as much for the tenant, or what one has done more is no commit; no device had failed. Then the next two
-- begin with what looks alike to the tenant, and tell it alike
abbrev pub next_lives_tell_alike : ReadingRelation → Type 0
next_lives_tell_alike Reads = (a : ClientsOfTenant) (d e : Database) (life : ServedLife Reads d) (other : ServedLife Reads e)
    (later : ServedLife Reads life.left) (later_there : ServedLife Reads other.left) (rest : ServedLives Reads later.left) (rest_there : ServedLives Reads later_there.left) →
    ((told : TellAlike Reads a life.place other.place life.begin other.begin life.done other.done) → NeverParts told) →
    (CommitsMore a life other → ⊥) → (CommitsMore a other life → ⊥) → (life.end.standing.under_way ≡ Some life.left → ⊥) → (other.end.standing.under_way ≡ Some other.left → ⊥) →
    ServedLivesTellAlike a (served life (served later rest)) (served other (served later_there rest_there)) →
    SameApparentRowsForPairs a.pairs life.left other.left
    × TellAlike Reads a later.place later_there.place later.begin later_there.begin later.done later_there.done

-- a life that has done no more for the tenant than the other has made no own commit more
abbrev pub as_many_commit_no_more : ReadingRelation → Type 0
as_many_commit_no_more Reads = (a : ClientsOfTenant) (d e : Database) (life : ServedLife Reads d) (other : ServedLife Reads e) → length (own_done a life) ≤ length (own_done a other) → CommitsMore a life other → ⊥
