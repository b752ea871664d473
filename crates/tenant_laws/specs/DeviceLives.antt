-- Lives on a device, as lives over the databases that their stops left.
use Rattle.std.specs.Prelude.{◌≡◌, ◌⊎◌, ◌≤◌, ℕ, List, [], ◌∷◌, Option, Some, None, Result, Ok, Err}
use Rattle.std.proofs.Common.{refl, subst, inl, inr}
use Rattle.sector_device.specs.Timeline.{Timeline}
use Rattle.sector_device.specs.declared.device.Device.{Ghosts}
use Rattle.sql_types.specs.declared.answer.Answer.{Answer}
use Rattle.store.specs.Store.{Contents}
use Rattle.abstract_database.specs.Database.{Database}
use Rattle.abstract_database.specs.Machine.{Event}
use Rattle.abstract_database.specs.Runs.{TheText, ReadingRelation, RanBy, Standing, IsFoundAt, IsBrought, Stops, At, Happens}
use Rattle.server.specs.Standing.{stops_of, event_of}
use Rattle.databases.specs.declared.fault.DatabaseFault.{DatabaseFault}
use Rattle.databases.specs.Lives.{ClientEvent, RanAt, IsLife}
use Rattle.databases.specs.OnDevice.{records_on}
use Rattle.databases.specs.Stopping.{GoesOnFrom, between, during, StopsIn, StopsAt}
use Rattle.databases.specs.Following.{LeadsOn, GoOn}
use Rattle.databases.specs.Following as chains
use Rattle.database_laws.specs.Invariants.{IsSound}
use Rattle.database_laws.specs.HiddenRuns.{SameApparentRowsForPairs}
use Rattle.database_laws.specs.Runs.{ReadsOnce}
use Rattle.database_laws.specs.Told.{Tenant}
use Rattle.tenant_laws.specs.TenantLives.{IsLeftByStop, is_committed, had_failed, was_under_way, just_opened, LivesOver, no_more, lived, LivesOutOfSight, AskTheSame, LivesTellAlike}

-- ---- runs with moments, as runs

-- the events of clients, as events of the machine: each session has a number of its own there
abbrev pub machine_events : List ClientEvent → List (Event TheText)
machine_events [] = []
machine_events (event ∷ events) = event_of event.client event.event ∷ machine_events events

abbrev pub run_of : (Reads : ReadingRelation) (Leave : Stops) (w end : At) (events : List ClientEvent) (told : List Answer) (moments : List ℕ) → RanAt Reads Leave w events told moments end →
    RanBy (Happens Reads Leave) w (machine_events events) told end
run_of Reads Leave w end [] [] [] ran = ran
run_of Reads Leave w end (event ∷ events) (x ∷ told) (moment ∷ moments) (next, at, it, its) = (next, it, run_of Reads Leave next end events told moments its)
run_of Reads Leave w end events told moments ran = absurd ran

-- ---- what a stop left

-- what a server may leave that stands where the last answer left it
abbrev pub left_of : (Reads : ReadingRelation) (Leave : Stops) (here : At) (db : Database) → IsFoundAt here.standing db → IsLeftByStop Reads Leave here db
left_of Reads Leave here db (inl is) = is_committed is
left_of Reads Leave here db (inr is) = had_failed is

-- the databases that stops of a device leave
abbrev pub stops_on : {D : Type 0} → Ghosts D → D → Stops
stops_on g device = stops_of (records_on (g.state device))

-- lives that go on from where the last one was stopped, over a database that it may have left
pub record LivesAfter {D : Type 0} (g : Ghosts D) (Reads : ReadingRelation) (last : Standing) : Type 0 where
  pub database : Database
  pub found : IsFoundAt last database
  pub lives : LivesOver Reads (stops_on g) database

-- a life over a database that the last one may have left, up to its stop, and what the stop left
abbrev pub ended_here : {D : Type 0} (g : Ghosts D) (Reads : ReadingRelation) (last : Standing) (device : D) (database : Database) → IsFoundAt last database →
    (begin here : At) → begin.standing ≡ just_opened database → (done : List ClientEvent) (answers : List Answer) (before : List ℕ) → RanAt Reads (stops_on g device) begin done answers before here →
    (left : Database) → IsLeftByStop Reads (stops_on g device) here left → LivesOver Reads (stops_on g) left → LivesAfter g Reads last
ended_here g Reads last device database found begin here over done answers before ran left leaves later = record {
  database = database;
  found = found;
  lives = lived (record {
    time = device;
    begin = begin;
    over = over;
    events = machine_events done;
    answers = answers;
    end = here;
    ran = run_of Reads (stops_on g device) begin here done answers before ran;
    left = left;
    leaves = leaves;
  }) later;
}

-- where nothing was under way at the stop
abbrev pub left_between : (Reads : ReadingRelation) (Leave : Stops) (here : At) (next : Standing) → next ≡ here.standing → (db : Database) → IsFoundAt next db → IsLeftByStop Reads Leave here db
left_between Reads Leave here next at db found = left_of Reads Leave here db (subst (λ (s : Standing). IsFoundAt s db) at found)

-- what the stop left of the event that was under way
abbrev pub left_during : (Reads : ReadingRelation) (Leave : Stops) (here : At) (event : Event TheText) (x : Answer) (next : At) (it : Happens Reads Leave here event x next) (db : Database) →
    IsFoundAt here.standing db ⊎ IsBrought it.step db → IsLeftByStop Reads Leave here db
left_during Reads Leave here event x next it db (inl found) = left_of Reads Leave here db found
left_during Reads Leave here event x next it db (inr brought) = was_under_way event x next it brought

abbrev pub left_by_stop : (Reads : ReadingRelation) (time : Timeline (Option Contents)) (stop : ℕ) (here : At) (others : List ClientEvent) (rest : List Answer) (after : List ℕ) (next : Standing) →
    GoesOnFrom Reads time stop here others rest after next → (db : Database) → IsFoundAt next db → IsLeftByStop Reads (stops_of time) here db
left_by_stop Reads time stop here others rest after next (between at same) db found = left_between Reads (stops_of time) here next same db found
left_by_stop Reads time stop here others rest after next (during event events x told following moments is_others is_rest is_after it before machine leads) db found =
    left_during Reads (stops_of time) here (event_of event.client event.event) x following it db ((leads db).0 found)

-- a life up to its stop, and those behind it; one that was stopped before it began is none
abbrev pub up_to_stop : {D : Type 0} (g : Ghosts D) (Reads : ReadingRelation) (last : Standing) (device : D) (old : Timeline (Option Contents)) (events : List ClientEvent) (told : List Answer) (moments : List ℕ)
    (life : IsLife Reads last events told moments old (records_on (g.state device))) (stop : Option ℕ) (next : Standing) → StopsAt last life stop next → LivesAfter g Reads next → LivesAfter g Reads last
up_to_stop g Reads last device old events told moments life None next is later =
    ended_here g Reads last device life.database life.found life.begin life.end life.over events told moments life.ran later.database
    (left_between Reads (stops_on g device) life.end next is later.database later.found) later.lives
up_to_stop g Reads last device old events told moments life (Some stop) next (inl opening) later = subst (λ (s : Standing). LivesAfter g Reads s) opening.1 later
up_to_stop g Reads last device old events told moments life (Some stop) next (inr stops) later =
    ended_here g Reads last device life.database life.found life.begin stops.1.here life.over stops.1.done stops.1.answers stops.1.before stops.1.ran later.database
    (left_by_stop Reads (records_on (g.state device)) stop stops.1.here stops.1.others stops.1.rest stops.1.after next stops.1.leads later.database later.found) later.lives

-- one that did not begin is none
abbrev pub led_from : {D : Type 0} (g : Ghosts D) (X : Type 0) (Reads : ReadingRelation) (last : Standing) (life : chains.Life D) (result : Result (Unit {0}) DatabaseFault) (next : Standing) →
    LeadsOn g X Reads last life result next → LivesAfter g Reads next → LivesAfter g Reads last
led_from g X Reads last life (Ok x) next (told, moments, after, (is, served, stops)) later = up_to_stop g Reads last life.end (records_on (g.state life.begin)) life.events told moments is.0 life.stop next stops later
led_from g X Reads last life (Err fault) next (same, none, stays) later = subst (λ (s : Standing). LivesAfter g Reads s) stays later

-- the lives in which lives on devices come to, each from what the stop before it left
abbrev pub lives_from : {D : Type 0} (g : Ghosts D) (X : Type 0) (Reads : ReadingRelation) (last : Standing) (lives : List (chains.Life D)) → GoOn g X Reads last lives → LivesAfter g Reads last
lives_from g X Reads last [] on = record { database = last.machine.committed; found = inl refl; lives = no_more }
lives_from g X Reads last (life ∷ lives) (next, leads, on) = led_from g X Reads last life life.result next leads (lives_from g X Reads next lives on)

-- ---- the law

-- On two devices, each with a server and a journal or none of its own, lives go on from what looks alike to a tenant, with a stop at any
-- moment of each. Where others keep out of its sight, and it asks the same in the lives of each place, it is told alike, life by life.
abbrev pub what_devices_tell_a_tenant : {D E : Type 0} (g : Ghosts D) (h : Ghosts E) (X Y : Type 0) → ReadingRelation → Type 0
what_devices_tell_a_tenant {D} {E} g h X Y Reads = ReadsOnce Reads → (a : Tenant) (s v : Standing) (lives : List (chains.Life D)) (others : List (chains.Life E)) (on : GoOn g X Reads s lives) (on_there : GoOn h Y Reads v others) →
    SameApparentRowsForPairs a.pairs (lives_from g X Reads s lives on).database (lives_from h Y Reads v others on_there).database →
    IsSound (lives_from g X Reads s lives on).database → IsSound (lives_from h Y Reads v others on_there).database →
    LivesOutOfSight a (lives_from g X Reads s lives on).lives → LivesOutOfSight a (lives_from h Y Reads v others on_there).lives →
    AskTheSame a (lives_from g X Reads s lives on).lives (lives_from h Y Reads v others on_there).lives →
    LivesTellAlike a (lives_from g X Reads s lives on).lives (lives_from h Y Reads v others on_there).lives

-- ---- no life is left out

-- the first of these lives answered these events so
abbrev pub FirstAnswers : {T : Type 0} {Reads : ReadingRelation} {leave : T → Stops} {db : Database} → LivesOver Reads leave db → List (Event TheText) → List Answer → Type 0
FirstAnswers no_more events answers = ⊥
FirstAnswers (lived life lives) events answers = (life.events ≡ events) × (life.answers ≡ answers)

-- a life on a device that was not stopped before its last answer is the first of them, with all its events
abbrev pub lives_on_devices_are_lived : {D : Type 0} (g : Ghosts D) (X : Type 0) → ReadingRelation → Type 0
lives_on_devices_are_lived {D} g X Reads = (last : Standing) (begin end : D) (events : List ClientEvent) (before after : List Answer) (x : Unit {0}) (lives : List (chains.Life D))
    (on : GoOn g X Reads last (record { begin = begin; end = end; events = events; before = before; after = after; result = Ok x; stop = None } ∷ lives)) →
    FirstAnswers (lives_from g X Reads last (record { begin = begin; end = end; events = events; before = before; after = after; result = Ok x; stop = None } ∷ lives) on).lives (machine_events events) on.1.0

-- and so is one that was stopped after it began, with those that were answered up to the stop
abbrev pub stopped_lives_are_lived : {D : Type 0} (g : Ghosts D) → ReadingRelation → Type 0
stopped_lives_are_lived {D} g Reads = (last : Standing) (begin device : D) (events : List ClientEvent) (told : List Answer) (moments : List ℕ)
    (life : IsLife Reads last events told moments (records_on (g.state begin)) (records_on (g.state device))) (stop : ℕ) (next : Standing) (later : LivesAfter g Reads next)
    (stops : (life.begin.moment ≤ stop) × StopsIn Reads (records_on (g.state device)) life.begin stop events told moments next) →
    FirstAnswers (up_to_stop g Reads last device (records_on (g.state begin)) events told moments life (Some stop) next (inr stops) later).lives (machine_events stops.1.done) stops.1.answers
