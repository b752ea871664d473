-- Two servers, each over a store of its own, of which a tenant asks the same.
use Rattle.std.specs.Prelude.{◌≡◌, ◌⊎◌, true, false, List}
use Rattle.sql_types.specs.declared.state.SqlState.TheVariants.{IoError}
use Rattle.sql_types.specs.declared.answer.Answer.{Answer}
use Rattle.sql_types.specs.declared.answer.Answer.TheVariants as answer
use Rattle.sql_types.specs.declared.event.Event.{Event}
use Rattle.store.specs.Store.{StoreState}
use Rattle.abstract_database.specs.Database.{Database}
use Rattle.abstract_database.specs.Runs.{At}
use Rattle.database_laws.specs.HiddenRuns.{SameApparentRowsForPairs}
use Rattle.database_laws.specs.Told.{Tenant, IsAlikeTo}
use Rattle.database_laws.specs.ToldStores.{is_text_of, own_texts, OpensAsOwn, KeepOutOfSight, IsToldAlikeBy, GoesAlike}
use Rattle.server.specs.declared.server.Server.{Server}
use Rattle.server.specs.Standing.{event_of, events_of, stops_of, Represents, at_start}
use Rattle.server.specs.Runs.{Steps, Runs}
use Rattle.sessions.specs.Readings.{ReadsText}

-- ---- runs

-- a server over a sound store stood here, works, and ran these events with these answers
pub record HasRunFrom {S X : Type 0} (state : S → StoreState) (w : At) (events : List Event) (answers : List Answer) (before after : Server S X) : Type 0 where
  pub sound : (state before.store).sound
  pub stood : Represents state before w
  pub works : w.standing.machine.stopped ≡ false
  pub ran : Runs ReadsText state 0 before events answers after

-- in its run each event of others leaves what is committed as it looks to all that the tenant acts as, and the tenant opens its
-- sessions for its own login roles alone
abbrev pub OthersAreOutOfSight : {S X : Type 0} (state : S → StoreState) (a : Tenant) (w : At) (events : List Event) (answers : List Answer) (before after : Server S X) → HasRunFrom state w events answers before after → Type 0
OthersAreOutOfSight state a w events answers before after run =
    let ran = run.ran run.sound w run.stood in KeepOutOfSight ReadsText (stops_of (state after.store).time) a w ran.0 (events_of 0 events) answers ran.2

-- the answers of both servers to the tenant's own events are the same, up to the first exception, the first refusal of a store,
-- or the first failure of a device
abbrev pub AreToldAlike : {S T X Y : Type 0} → (S → StoreState) → (T → StoreState) → Tenant → At → At → List Event → List Answer → List Event → List Answer → Server S X → Server T Y → Type 0
AreToldAlike state other_state a w v events answers others told after other_after =
    IsToldAlikeBy ReadsText (stops_of (state after.store).time) (stops_of (other_state other_after.store).time) a w v (events_of 0 events) answers (events_of 0 others) told

-- two servers that stand where their machines are alike to a tenant, and of which it asks the same, tell it the same
abbrev pub servers_tell_a_tenant : (S T X Y : Type 0) → (S → StoreState) → (T → StoreState) → Type 0
servers_tell_a_tenant S T X Y state other_state =
    (a : Tenant) (w v : At) (events others : List Event) (answers told : List Answer) (before after : Server S X) (other_before other_after : Server T Y) →
    IsAlikeTo a w.standing.machine v.standing.machine → own_texts a (events_of 0 events) ≡ own_texts a (events_of 0 others) →
    (here : HasRunFrom state w events answers before after) → OthersAreOutOfSight state a w events answers before after here →
    (there : HasRunFrom other_state v others told other_before other_after) → OthersAreOutOfSight other_state a v others told other_before other_after there →
    AreToldAlike state other_state a w v events answers others told after other_after

-- so do two that have just been opened over databases which look alike to all that the tenant acts as
abbrev pub opened_servers_tell_a_tenant : (S T X Y : Type 0) → (S → StoreState) → (T → StoreState) → Type 0
opened_servers_tell_a_tenant S T X Y state other_state =
    (a : Tenant) (d e : Database) (events others : List Event) (answers told : List Answer) (before after : Server S X) (other_before other_after : Server T Y) →
    SameApparentRowsForPairs a.pairs d e → own_texts a (events_of 0 events) ≡ own_texts a (events_of 0 others) →
    (here : HasRunFrom state (at_start (state before.store) d) events answers before after) → OthersAreOutOfSight state a (at_start (state before.store) d) events answers before after here →
    (there : HasRunFrom other_state (at_start (other_state other_before.store) e) others told other_before other_after) → OthersAreOutOfSight other_state a (at_start (other_state other_before.store) e) others told other_before other_after there →
    AreToldAlike state other_state a (at_start (state before.store) d) (at_start (other_state other_before.store) e) events answers others told after other_after

-- ---- one step

-- two servers over sound stores, which work and stand where their machines are alike to the tenant
pub record StandAlike {S T X Y : Type 0} (state : S → StoreState) (other_state : T → StoreState) (a : Tenant) (server : Server S X) (other : Server T Y) : Type 0 where
  pub here : At
  pub there : At
  pub sound_here : (state server.store).sound
  pub sound_there : (other_state other.store).sound
  pub stands_here : Represents state server here
  pub stands_there : Represents other_state other there
  pub works : here.standing.machine.stopped ≡ false
  pub alike : IsAlikeTo a here.standing.machine there.standing.machine

-- after one own event both stand somewhere, and the event went alike from where they stood
pub record StepAlike {S T X Y : Type 0} (state : S → StoreState) (other_state : T → StoreState) (a : Tenant) (w v : At) (e : Event) (x y : Answer) (server : Server S X) (other : Server T Y) : Type 0 where
  pub here : At
  pub there : At
  pub stands_here : Represents state server here
  pub stands_there : Represents other_state other there
  pub goes : GoesAlike ReadsText a w v here there (event_of 0 e) x y

-- so does each own event go
abbrev pub servers_step_alike : (S T X Y : Type 0) → (S → StoreState) → (T → StoreState) → Type 0
servers_step_alike S T X Y state other_state =
    (a : Tenant) (e : Event) (x y : Answer) (before after : Server S X) (other_before other_after : Server T Y) →
    (s : StandAlike state other_state a before other_before) → is_text_of a (event_of 0 e) ≡ true → OpensAsOwn a s.here.standing.machine (event_of 0 e) →
    Steps ReadsText state 0 before e x after → Steps ReadsText other_state 0 other_before e y other_after →
    StepAlike state other_state a s.here s.there e x y after other_after

-- an event of another, out of sight of all that the tenant acts as, leaves them so, or the device under the one has failed
abbrev pub steps_of_others_go_unseen : (S T X Y : Type 0) → (S → StoreState) → (T → StoreState) → Type 0
steps_of_others_go_unseen S T X Y state other_state =
    (a : Tenant) (e : Event) (x : Answer) (before after : Server S X) (other : Server T Y) →
    (s : StandAlike state other_state a before other) → is_text_of a (event_of 0 e) ≡ false → Steps ReadsText state 0 before e x after →
    (next : At) × Represents state after next
    × (SameApparentRowsForPairs a.pairs s.here.standing.machine.committed next.standing.machine.committed → IsAlikeTo a next.standing.machine s.there.standing.machine ⊎ (x ≡ answer.Refused IoError))
