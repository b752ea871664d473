-- What a life over a store leaves, from its opening to its end.
use Rattle.std.proofs.Common.{◌≡◌, ◌∙◌, ◌≤◌, ℕ, inl, inr, ⊎_elim, Bool, true, false, List, [], ◌∷◌, ◌++◌, Option, Some, Result, Ok, Err, IfErr, refl, sym, ap, subst, arith}
use Rattle.sector_device.specs.Timeline.{Timeline, LeavesOnly, IsPresent, weakened}
use Rattle.sql_types.specs.declared.answer.Answer.{Answer}
use Rattle.sql_types.specs.declared.event.Event.{Event}
use Rattle.store.specs.declared.fault.Fault.TheVariants as read
use Rattle.store.specs.declared.fault.StoreFault.TheVariants as commit
use Rattle.store.specs.Store.{StoreState, Contents, KeepsHistory, stored}
use Rattle.abstract_database.specs.Database.{Database}
use Rattle.abstract_database.specs.Machine.{Event as MachineEvent}
use Rattle.abstract_database.specs.Runs.{TheText, ReadingRelation, Standing, IsFoundAt, At, Happens}
use Rattle.stored_database.specs.Records.{Shows}
use Rattle.stored_database.specs.BothRecordFormats.{in_record_format_2}
use Rattle.server.specs.declared.server.Server.{Server}
use Rattle.server.specs.Standing.{Means, Stands, AreCounts, Represents, at_start, event_of, stops_of}
use Rattle.server.specs.Runs.{Steps, KeepsPast}
use Rattle.recovery.specs.declared.fault.OpeningFault.{OpeningFault}
use Rattle.recovery.specs.declared.fault.OpeningFault.TheVariants.{Read, Commit}
use Rattle.recovery.specs.Openings.{HasOpeningCause, HasLooked, IsNumberAfter, KeepsDatabase, OnlyLooks}
use Rattle.recovery.proofs.Outcomes.{looking_without_memory}
use Rattle.databases.specs.Lives.{ClientEvent, of_client, all_of_client, IsFoundLeft, LeavesFound, up_to, IsStepAt, StepsAt, RunsAt, standing_over, IsNoLife, BeginsAt, EndsAt, IsLifeOver, IsServed, Lives, IsRefused, Answers}

-- ---- events of clients

-- some events of a client, and then more
all_joined : (client : ℕ) (events more : List Event) → all_of_client client (events ++ more) ≡ all_of_client client events ++ all_of_client client more
all_joined client [] more = refl
all_joined client (e ∷ events) more = ap (λ (l : List ClientEvent). of_client client e ∷ l) (all_joined client events more)

-- and then one more
pub all_and_one : (client : ℕ) (events all : List Event) (e : Event) → all ≡ events ++ e ∷ [] → all_of_client client all ≡ all_of_client client events ++ of_client client e ∷ []
all_and_one client events all e is = ap (λ (l : List Event). all_of_client client l) is ∙ all_joined client events (e ∷ [])

-- ---- steps, one after the other

-- what happened is said of a later timeline, too
pub happens_past : (Reads : ReadingRelation) (t u : Timeline (Option Contents)) (w next : At) (e : MachineEvent TheText) (answer : Answer) → KeepsPast t u → next.moment ≤ t.moment
    → Happens Reads (stops_of t) w e answer next → Happens Reads (stops_of u) w e answer next
happens_past Reads t u w next e answer past le happens = record {
  counts = happens.counts;
  step = happens.step;
  under_way = happens.under_way;
  later = happens.later;
  during = λ x stop. happens.during x (past w.moment next.moment x le stop);
  now = λ x stop. happens.now x (past next.moment next.moment x le stop);
}

module _ {S X : Type 0} (Reads : ReadingRelation) (state : S → StoreState) where
  -- one step more
  pub steps_more : (first mid new : Server S X) (events : List ClientEvent) (told : List Answer) (moments : List ℕ) (e : ClientEvent) (answer : Answer)
      → StepsAt Reads state first events told moments mid → KeepsHistory (state mid.store) (state new.store) → Steps Reads state e.client mid e.event answer new
      → StepsAt Reads state first (events ++ e ∷ []) (told ++ answer ∷ []) (moments ++ (state new.store).time.moment ∷ []) new
  steps_more first mid new [] [] [] e answer steps history more =
      (new, subst (λ (s : Server S X). IsStepAt Reads state s e answer (state new.store).time.moment new) steps (record { history = history; steps = more; clock = refl }), refl)
  steps_more first mid new (f ∷ events) (a ∷ told) (m ∷ moments) e answer steps history more =
      (steps.0, steps.1, steps_more steps.0 mid new events told moments e answer steps.2 history more)
  steps_more first mid new events told moments e answer steps history more = absurd steps

  -- a store stays sound
  pub steps_sound : (first last : Server S X) (events : List ClientEvent) (told : List Answer) (moments : List ℕ) → StepsAt Reads state first events told moments last
      → (state first.store).sound → (state last.store).sound
  steps_sound first last [] [] [] steps sound = subst (λ (s : Server S X). (state s.store).sound) (sym steps) sound
  steps_sound first last (e ∷ events) (answer ∷ told) (m ∷ moments) steps sound = steps_sound steps.0 last events told moments steps.2 (steps.1.history.sound sound)
  steps_sound first last events told moments steps sound = absurd steps

  -- steps from where a server stands are a run with their moments
  pub steps_run : (first last : Server S X) (events : List ClientEvent) (told : List Answer) (moments : List ℕ) (w : At) → StepsAt Reads state first events told moments last
      → (state first.store).sound → Represents state first w → RunsAt Reads state first w events told moments last
  steps_run first last [] [] [] w steps sound here = (
    w,
    subst (λ (s : Server S X). Represents state s w) (sym steps) here,
    refl,
    λ a b x le stop. subst (λ (s : Server S X). (state s.store).time.stops a b x) steps stop,
  )
  steps_run first last (e ∷ events) (answer ∷ told) (m ∷ moments) w steps sound here =
      let mid = steps.0 in
      let now = steps.1.steps sound w here in
      let rest = steps_run mid last events told moments now.0 steps.2 (steps.1.history.sound sound) now.1 in
      let clock = now.1.moment in
      let began = here.moment in
      let later = now.2.later in (
        rest.0,
        rest.1,
        (
          now.0,
          clock ∙ steps.1.clock,
          happens_past Reads (state mid.store).time (state last.store).time w now.0 (event_of e.client e.event) answer rest.3 (omega (arith, clock)) now.2,
          rest.2,
        ),
        λ a b x le stop. now.3 a b x le (rest.3 a b x (omega (arith, le, clock, began, later)) stop),
      )
  steps_run first last events told moments w steps sound here = absurd steps

-- ---- a life over a store

-- these contents stand for the database that is meant
pub means_is : (contents : Contents) (db : Database) → Means (Some contents) db → Stands contents db
means_is contents db means = let same : means.0 ≡ contents = (let is = means.1 in cc) in subst (λ (c : Contents). Stands c db) same means.2

-- of a server, a stop leaves a database of where it stands
pub leaves_found : {S X : Type 0} (state : S → StoreState) (server : Server S X) (w : At)
    → ((x : Option Contents) → (state server.store).has_failed ≡ false → (state server.store).time.left x → x ≡ Some (stored (state server.store)))
    → Represents state server w → (stopped : Bool) → server.stopped ≡ stopped → LeavesFound w.standing (state server.store).time
leaves_found state server w settled here true is x left = here.left is x left
leaves_found state server w settled here false is x left =
    let works = (here.works is).1 in
    let db = w.standing.machine.committed in
    let shows = subst (λ (s : _). Shows (in_record_format_2 s (state server.store).map) server.catalogue db) (sym works.second) works.committed in
    (db, (stored (state server.store), settled x works.unfailed left, (server.catalogue, shows)), inl refl)

-- a server that stands here ends here
pub ends_at : {S X : Type 0} (state : S → StoreState) (server : Server S X) (w : At) → Represents state server w → EndsAt (state server.store) w
ends_at state server w here = record {
  counts = subst (λ (stopped : Bool). AreCounts (state server.store) stopped w.counts) (sym here.stopped) here.counts;
  works = λ stands. (here.works (sym here.stopped ∙ stands)).1.unfailed;
}

-- what was found stays, in either record format
stays : (last : Standing) (db : Database) → IsFoundAt last db → (old new : Timeline (Option Contents)) → LeavesOnly (λ x. Means x db) old new → LeavesOnly (IsFoundLeft last) old new
stays last db found old new leaves = weakened (λ x. Means x db) (IsFoundLeft last) old new (λ x means. (db, means, found)) leaves

-- what was opened begins with what it counted
begins_at : (old mid : StoreState) (db : Database) → KeepsHistory old mid → IsNumberAfter old.record_format old.number mid.number → BeginsAt old (at_start mid db).counts
begins_at old mid db history number = record {
  number = number;
  fulls = history.fulls;
  failures = history.failures;
  faults = history.faults;
}

-- until the first event a stop leaves what it leaves until the server is opened
pub until_first : (P : Option Contents → Type 0) (old mid new : Timeline (Option Contents)) → LeavesOnly P old mid → KeepsPast mid new → IsPresent mid → LeavesOnly P old (up_to mid.moment new)
until_first P old mid new leaves past present = record {
  later = leaves.later;
  past = λ a b x le stop. leaves.past a b x le (past a b x (omega (arith, le, leaves.later)) stop);
  each = λ x stop. leaves.each x (past old.moment mid.moment x (omega arith) stop);
  now = λ x stop. leaves.now x (present x (past mid.moment mid.moment x (omega arith) stop));
  before = λ a x le stop. leaves.before a x le (past a mid.moment x (omega arith) stop);
}

-- when it begins it leaves the database that was opened
begun_over : (db : Database) (old mid new : Timeline (Option Contents)) → LeavesOnly (λ x. Means x db) old mid → KeepsPast mid new → IsPresent mid
    → stops_of new mid.moment mid.moment (IsFoundAt (standing_over db))
begun_over db old mid new leaves past present x stop = (db, leaves.now x (present x (past mid.moment mid.moment x (omega arith) stop)), inl refl)

-- a server was opened over the database that the last life may have left, and answered
pub lived : {S X : Type 0} (Reads : ReadingRelation) (state : S → StoreState) (last : Standing) (old : StoreState) (server : Server S X) (db : Database) (events : List ClientEvent)
    (before after : List Answer) (store : S) (result : Result (Unit {0}) OpeningFault)
    → ((s : S) (x : Option Contents) → (state s).sound → (state s).has_failed ≡ false → (state s).time.left x → x ≡ Some (stored (state s)))
    → (state server.store).sound → KeepsHistory old (state server.store) → IsNumberAfter old.record_format old.number (state server.store).number
    → LeavesOnly (λ x. Means x db) old.time (state server.store).time → IsPresent (state server.store).time → IsFoundAt last db
    → Represents state server (at_start (state server.store) db) → Answers Reads state server events before after store result
    → Lives X Reads state last events before after old store result
lived {S} {X} Reads state last old server db events before after store (Ok x) settled sound history number leaves present found here answers =
    let begin = at_start (state server.store) db in
    let end = answers.3 in
    let out = steps_run Reads state server end events answers.0 answers.1 begin answers.5 sound here in
    let lasts = steps_sound Reads state server end events answers.0 answers.1 answers.5 sound in
    let life : IsLifeOver Reads last events answers.0 answers.1 old (state end.store) = (
      record {
        database = db;
        found = found;
        begin = begin;
        over = refl;
        until = until_first (IsFoundLeft last) old.time (state server.store).time (state end.store).time
            (stays last db found old.time (state server.store).time leaves) out.3 present;
        begun = begun_over db old.time (state server.store).time (state end.store).time leaves out.3 present;
        end = out.0;
        ran = out.2;
        ends = out.1.moment;
        leaves = leaves_found state end out.0 (λ x works left. settled end.store x lasts works left) out.1 end.stopped refl;
      },
      begins_at old (state server.store) db history number,
      ends_at state end out.0 out.1,
    ) in (
      answers.0,
      answers.1,
      answers.2,
      subst (λ (s : S). (is : IsLifeOver Reads last events answers.0 answers.1 old (state s)) × IsServed X Reads state is.0.begin events answers.0 answers.1 s) (sym answers.4)
          (life, record { first = server; stands = here; last = end; steps = answers.5; left = refl }),
    )
lived Reads state last old server db events before after store (Err (Read read.Memory)) settled sound history number leaves present found here answers =
    (answers.0, subst (λ (s : _). IsNoLife last old.time (state s).time) (sym answers.1) (stays last db found old.time (state server.store).time leaves))
lived Reads state last old server db events before after store (Err (Read read.Device)) settled sound history number leaves present found here answers = absurd answers
lived Reads state last old server db events before after store (Err (Read read.Damaged)) settled sound history number leaves present found here answers = absurd answers
lived Reads state last old server db events before after store (Err (Commit fault)) settled sound history number leaves present found here answers = absurd answers

-- no server was opened
pub not_opened : {S : Type 0} (X : Type 0) (Reads : ReadingRelation) (state : S → StoreState) (last : Standing) (old : StoreState) (mid : S) (db : Database) (events : List ClientEvent) (told : List Answer) (fault : OpeningFault)
    → KeepsDatabase db (Err fault) old (state mid) → IsFoundAt last db → HasOpeningCause fault old (state mid) → (fault ≡ Read read.Damaged → ⊥) → Lives X Reads state last events told told old mid (Err fault)
not_opened X Reads state last old mid db events told (Read read.Memory) keeps found cause sound = (refl, stays last db found old.time (state mid).time keeps.during)
not_opened X Reads state last old mid db events told (Read read.Device) keeps found cause sound = (refl, stays last db found old.time (state mid).time keeps.during)
not_opened X Reads state last old mid db events told (Read read.Damaged) keeps found cause sound = absurd (sound refl)
not_opened X Reads state last old mid db events told (Commit fault) keeps found cause sound = (cause.0, refl, stays last db found old.time (state mid).time keeps.during)

-- ---- a server that answered nothing: its store is as the opening left it

no_memory_looked : (old mid : StoreState) → HasLooked (Ok tt) old mid → HasLooked (Err (Read read.Memory)) old mid
no_memory_looked old mid looked = record { only_reads = looked.only_reads; cause = tt; failed = looked.failed }

no_device : {u : Unit {0}} → Ok u ≡ Err (Commit commit.Device) → ⊥
no_device h = cc

no_memory_keeps : (db : Database) (old mid : StoreState) → KeepsDatabase db (Ok tt) old mid → KeepsDatabase db (Err (Read read.Memory)) old mid
no_memory_keeps db old mid keeps = record {
  during = keeps.during;
  now = keeps.now;
  number = ⊎_elim (λ is. absurd (no_device is)) (λ most. inr most) keeps.number;
}

no_memory_refused : (old mid : StoreState) → (OnlyLooks old.record_format (Ok tt) → HasLooked (Ok tt) old mid)
    → (old.sound → old.has_failed ≡ false → (db : Database) → Stands (stored old) db → KeepsDatabase db (Ok tt) old mid) → IsRefused (Read read.Memory) old mid
no_memory_refused old mid looked keeps = record {
  looked = λ looks. no_memory_looked old mid (looked (looking_without_memory old.record_format looks));
  same = λ sound works db stands. no_memory_keeps db old mid (keeps sound works db stands);
  cause = λ sound. tt;
}

pub answered_refused : {S X : Type 0} (Reads : ReadingRelation) (state : S → StoreState) (old : StoreState) (server : Server S X) (events : List ClientEvent)
    (before after : List Answer) (store : S) (result : Result (Unit {0}) OpeningFault)
    → (OnlyLooks old.record_format (Ok tt) → HasLooked (Ok tt) old (state server.store))
    → (old.sound → old.has_failed ≡ false → (db : Database) → Stands (stored old) db → KeepsDatabase db (Ok tt) old (state server.store))
    → Answers Reads state server events before after store result → IfErr result (λ fault. IsRefused fault old (state store))
answered_refused Reads state old server events before after store (Ok x) looked keeps answers = tt
answered_refused Reads state old server events before after store (Err (Read read.Memory)) looked keeps answers =
    subst (λ (s : _). IsRefused (Read read.Memory) old (state s)) (sym answers.1) (no_memory_refused old (state server.store) looked keeps)
answered_refused Reads state old server events before after store (Err (Read read.Device)) looked keeps answers = absurd answers
answered_refused Reads state old server events before after store (Err (Read read.Damaged)) looked keeps answers = absurd answers
answered_refused Reads state old server events before after store (Err (Commit fault)) looked keeps answers = absurd answers

-- so what the opening left alone is left alone
pub answered_preserved : {S X : Type 0} (Reads : ReadingRelation) (state : S → StoreState) (old : StoreState) (server : Server S X) (events : List ClientEvent)
    (before after : List Answer) (store : S) (result : Result (Unit {0}) OpeningFault) (IsLeftAlone : S → Type 0) → (OnlyLooks old.record_format (Ok tt) → IsLeftAlone server.store)
    → Answers Reads state server events before after store result → IfErr result (λ fault. OnlyLooks old.record_format (Err fault) → IsLeftAlone store)
answered_preserved Reads state old server events before after store (Ok x) IsLeftAlone is answers = tt
answered_preserved Reads state old server events before after store (Err (Read read.Memory)) IsLeftAlone is answers =
    λ looks. subst (λ (s : _). IsLeftAlone s) (sym answers.1) (is (looking_without_memory old.record_format looks))
answered_preserved Reads state old server events before after store (Err (Read read.Device)) IsLeftAlone is answers = absurd answers
answered_preserved Reads state old server events before after store (Err (Read read.Damaged)) IsLeftAlone is answers = absurd answers
answered_preserved Reads state old server events before after store (Err (Commit fault)) IsLeftAlone is answers = absurd answers

-- and there are no answers
pub nothing_answered : {S X : Type 0} (Reads : ReadingRelation) (state : S → StoreState) (server : Server S X) (events : List ClientEvent)
    (before after : List Answer) (store : S) (result : Result (Unit {0}) OpeningFault)
    → Answers Reads state server events before after store result → IfErr result (λ fault. after ≡ before)
nothing_answered Reads state server events before after store (Ok x) answers = tt
nothing_answered Reads state server events before after store (Err (Read read.Memory)) answers = answers.0
nothing_answered Reads state server events before after store (Err (Read read.Device)) answers = absurd answers
nothing_answered Reads state server events before after store (Err (Read read.Damaged)) answers = absurd answers
nothing_answered Reads state server events before after store (Err (Commit fault)) answers = absurd answers
