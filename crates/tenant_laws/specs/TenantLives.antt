-- What a tenant is told by two databases, each of which is opened, answers events, stops and is opened again, without end.
use Rattle.std.specs.Prelude.{◌≡◌, ◌⊎◌, true, false, List, [], ◌∷◌, Some, None}
use Rattle.sql_types.specs.declared.answer.Answer.{Answer}
use Rattle.abstract_database.specs.Database.{Database}
use Rattle.abstract_database.specs.Machine.{Event, Reading, machine_over}
use Rattle.abstract_database.specs.Runs.{TheText, ReadingRelation, IsReadAs, RanBy, Standing, IsBrought, Stops, At, Happens}
use Rattle.database_laws.specs.Blocks.{IsCommittedAt}
use Rattle.database_laws.specs.Invariants.{IsSound}
use Rattle.database_laws.specs.HiddenRuns.{SameApparentRowsForPairs}
use Rattle.database_laws.specs.Runs.{ReadsOnce}
use Rattle.database_laws.specs.Told.{Tenant, happens, IsExceptionFor}
use Rattle.database_laws.specs.ToldStores.{is_text_of, own_texts, OpensAsOwn, KeepOutOfSight, IsToldAlikeBy, all_told, told_apart, refused_alone, told_alike, untold_here, untold_there, failed_here, failed_there}

-- ---- lives

-- What a stop left where the last answer left a server here: what was committed; or what would have come of the event in which the device
-- had failed; or what the event that was under way, and was not answered, would have brought.
pub data IsLeftByStop (Reads : ReadingRelation) (Leave : Stops) (here : At) (db : Database) : Type 0 where
  is_committed : db ≡ here.standing.machine.committed → IsLeftByStop Reads Leave here db
  had_failed : here.standing.under_way ≡ Some db → IsLeftByStop Reads Leave here db
  was_under_way : (event : Event TheText) (answer : Answer) (next : At) (it : Happens Reads Leave here event answer next) → IsBrought it.step db → IsLeftByStop Reads Leave here db

-- where a server stands that has just been opened over a database: no session is open, and nothing is under way
abbrev pub just_opened : Database → Standing
just_opened db = record { machine = machine_over db; under_way = None }

-- A life: a server is opened over this database, answers events, and is stopped. What stops leave goes by its time.
pub record LifeOver {T : Type 0} (Reads : ReadingRelation) (leave : T → Stops) (database : Database) : Type 0 where
  pub time : T
  pub begin : At
  pub over : begin.standing ≡ just_opened database
  -- those that were answered up to the stop
  pub events : List (Event TheText)
  pub answers : List Answer
  pub end : At
  pub ran : RanBy (Happens Reads (leave time)) begin events answers end
  -- what the stop left, and the next life is opened over
  pub left : Database
  pub leaves : IsLeftByStop Reads (leave time) end left

-- lives that follow each other, each over what the stop of the one before left
pub data LivesOver {T : Type 0} (Reads : ReadingRelation) (leave : T → Stops) : Database → Type 0 where
  no_more : {db : Database} → LivesOver Reads leave db
  lived : {db : Database} (life : LifeOver Reads leave db) → LivesOver Reads leave life.left → LivesOver Reads leave db

-- ---- what was not answered

-- the event that was under way at the stop, if the stop left what it would have brought
abbrev pub event_left : {Reads : ReadingRelation} {Leave : Stops} {here : At} {db : Database} → IsLeftByStop Reads Leave here db → List (Event TheText)
event_left (is_committed is) = []
event_left (had_failed is) = []
event_left (was_under_way event answer next it brought) = event ∷ []

-- it, if it is the tenant's own
abbrev pub own_left : {T : Type 0} {Reads : ReadingRelation} {leave : T → Stops} {db : Database} → Tenant → LifeOver Reads leave db → List (Event TheText)
own_left a life = own_texts a (event_left life.leaves)

-- the device had failed, and the stop left what that event would have brought
abbrev pub IsOfFailure : {Reads : ReadingRelation} {Leave : Stops} {here : At} {db : Database} → IsLeftByStop Reads Leave here db → Type 0
IsOfFailure (is_committed is) = ⊥
IsOfFailure (had_failed is) = Unit {0}
IsOfFailure (was_under_way event answer next it brought) = ⊥

-- ---- premises

-- an event of another that was under way leaves what looks as before to all that the tenant may act as
abbrev pub StopsOutOfSight : {Reads : ReadingRelation} {Leave : Stops} {here : At} {db : Database} → Tenant → IsLeftByStop Reads Leave here db → Type 0
StopsOutOfSight a (is_committed is) = Unit {0}
StopsOutOfSight a (had_failed is) = Unit {0}
StopsOutOfSight {here = here} {db} a (was_under_way event answer next it brought) =
    (is_text_of a event ≡ true → OpensAsOwn a here.standing.machine event) × (is_text_of a event ≡ false → SameApparentRowsForPairs a.pairs here.standing.machine.committed db)

-- in each life what others do keeps out of the tenant's sight
abbrev pub LivesOutOfSight : {T : Type 0} {Reads : ReadingRelation} {leave : T → Stops} {db : Database} → Tenant → LivesOver Reads leave db → Type 0
LivesOutOfSight a no_more = Unit {0}
LivesOutOfSight {Reads = Reads} {leave} a (lived life lives) =
    KeepOutOfSight Reads (leave life.time) a life.begin life.end life.events life.answers life.ran × StopsOutOfSight a life.leaves × LivesOutOfSight a lives

-- in both lives of each place the tenant's own events that were answered are the same, and so are those that were left unanswered by both
abbrev pub AskTheSame : {T U : Type 0} {Reads : ReadingRelation} {leave : T → Stops} {leave_there : U → Stops} {d e : Database} → Tenant → LivesOver Reads leave d → LivesOver Reads leave_there e → Type 0
AskTheSame a no_more others = Unit {0}
AskTheSame a (lived life lives) no_more = Unit {0}
AskTheSame a (lived life lives) (lived other others) =
    (own_texts a life.events ≡ own_texts a other.events)
    × ((x y : Event TheText) → own_left a life ≡ x ∷ [] → own_left a other ≡ y ∷ [] → x ≡ y)
    × AskTheSame a lives others

-- ---- what is told

-- the answers are told to the last one: no exception came before
abbrev pub IsToldToTheEnd : {Reads : ReadingRelation} {Leave LeaveOther : Stops} {a : Tenant} {w v : At} {events others : List (Event TheText)} {answers told : List Answer} →
    IsToldAlikeBy Reads Leave LeaveOther a w v events answers others told → Type 0
IsToldToTheEnd (all_told alike) = Unit {0}
IsToldToTheEnd (told_apart own read is exception none) = ⊥
IsToldToTheEnd (refused_alone next later own here there place none) = ⊥
IsToldToTheEnd (told_alike next later own here there rest) = IsToldToTheEnd rest
IsToldToTheEnd (untold_here next other here rest) = IsToldToTheEnd rest
IsToldToTheEnd (untold_there later other there rest) = IsToldToTheEnd rest
IsToldToTheEnd (failed_here other is) = ⊥
IsToldToTheEnd (failed_there other is) = ⊥

-- After two lives that were told alike to the end their stops may leave what does not look alike to the tenant.
pub data PartsAtStop {T U : Type 0} {Reads : ReadingRelation} {leave : T → Stops} {leave_there : U → Stops} {d e : Database} (a : Tenant) (life : LifeOver Reads leave d) (other : LifeOver Reads leave_there e) : Type 0 where
  -- an own commit was not answered, and one stop left what it brought, the other none of its own that was not answered
  by_commit : (x : Event TheText) → own_left a life ≡ x ∷ [] → own_left a other ≡ [] → (read : Event Reading) → IsReadAs Reads life.end.standing.machine x read →
      IsCommittedAt life.end.standing.machine read life.left → PartsAtStop a life other
  by_commit_there : (x : Event TheText) → own_left a life ≡ [] → own_left a other ≡ x ∷ [] → (read : Event Reading) → IsReadAs Reads other.end.standing.machine x read →
      IsCommittedAt other.end.standing.machine read other.left → PartsAtStop a life other
  -- both left what an own event brought that is an exception
  by_exception : (x : Event TheText) → own_left a life ≡ x ∷ [] → own_left a other ≡ x ∷ [] → (read : Event Reading) → IsReadAs Reads life.end.standing.machine x read →
      IsExceptionFor a life.end.standing.machine other.end.standing.machine (happens read) → PartsAtStop a life other
  -- a device had failed under an event, and the stop left what that would have brought
  by_failure : IsOfFailure life.leaves → PartsAtStop a life other
  by_failure_there : IsOfFailure other.leaves → PartsAtStop a life other

-- in the first two lives the tenant is told alike; unless that ended with an exception, or their stops parted, what these left looks alike
-- to it, and so it goes on
abbrev pub LivesTellAlike : {T U : Type 0} {Reads : ReadingRelation} {leave : T → Stops} {leave_there : U → Stops} {d e : Database} → Tenant → LivesOver Reads leave d → LivesOver Reads leave_there e → Type 0
LivesTellAlike a no_more others = Unit {0}
LivesTellAlike a (lived life lives) no_more = Unit {0}
LivesTellAlike {Reads = Reads} {leave} {leave_there} a (lived life lives) (lived other others) =
    (told : IsToldAlikeBy Reads (leave life.time) (leave_there other.time) a life.begin other.begin life.events life.answers other.events other.answers)
    × (IsToldToTheEnd told → PartsAtStop a life other ⊎ (SameApparentRowsForPairs a.pairs life.left other.left × LivesTellAlike a lives others))

-- two databases that look alike to a tenant, of which it asks the same in lives that follow each other, tell it the same, life by life
abbrev pub what_lives_tell_a_tenant : {T U : Type 0} → ReadingRelation → (T → Stops) → (U → Stops) → Type 0
what_lives_tell_a_tenant Reads leave leave_there = ReadsOnce Reads → (a : Tenant) (d e : Database) (lives : LivesOver Reads leave d) (others : LivesOver Reads leave_there e) →
    SameApparentRowsForPairs a.pairs d e → IsSound d → IsSound e → LivesOutOfSight a lives → LivesOutOfSight a others → AskTheSame a lives others → LivesTellAlike a lives others
