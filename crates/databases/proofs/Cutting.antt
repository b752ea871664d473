-- A stop at any moment of a run leaves what the next life goes on from.
use Rattle.std.proofs.Common.{◌≡◌, ◌∙◌, ◌⊎◌, ◌↔◌, ◌≤◌, ◌<◌, ℕ, zero, suc, inl, inr, ⊎_elim, Bool, true, cond, List, [], ◌∷◌, ◌++◌, length, Option, Some, None, refl, sym, subst, ap, arith}
use Rattle.std.specs.Prelude.{slice_get}
use Rattle.std.proofs.lemmas.Bool.{cases_lt}
use Rattle.sector_device.specs.Timeline.{Timeline}
use Rattle.sql_types.specs.declared.state.SqlState.TheVariants.{IoError}
use Rattle.sql_types.specs.declared.answer.Answer.{Answer}
use Rattle.store.specs.Store.{Contents}
use Rattle.abstract_database.specs.Database.{Database}
use Rattle.abstract_database.specs.Machine.{Event as MachineEvent, Machine, Transition, Reading, transition, transition_to, refuses, running_transition}
use Rattle.abstract_database.specs.Runs.{TheText, ReadingRelation, Counts, Standing, At, IsTransition, IsStep, by_transition, for_memory, for_space, for_number, for_device, IsFoundAt, IsBrought, under_way_after, Happens}
use Rattle.server.specs.Standing.{event_of, stops_of}
use Rattle.databases.specs.Lives.{ClientEvent, IsFoundLeft, RanAt}
use Rattle.databases.specs.Stopping.{IsLeftAt, AreUpTo, AreAfter, StopsIn, between, during}

-- ---- a stopped machine

-- a stopped machine stays as it is
stays : (m : Machine) (event : MachineEvent Reading) → m.stopped ≡ true → (transition m event).machine ≡ m
stays m event stopped = ap (λ (b : Bool). (cond b (refuses m IoError) (running_transition m event)).machine) stopped

transition_stays : (Reads : ReadingRelation) (m : Machine) (event : MachineEvent TheText) (t : Transition) → IsTransition Reads m event t → m.stopped ≡ true → t.machine ≡ m
transition_stays Reads m event t is stopped = ap (λ (u : Transition). u.machine) is.is ∙ stays m is.as_read stopped

-- nothing is under way of a machine that has not stopped
abbrev IsSettled : Option Database → Machine → Type 0
IsSettled under_way m = (under_way ≡ None) ⊎ (m.stopped ≡ true)

stays_settled : {Reads : ReadingRelation} {old new : Counts} {m : Machine} {event : MachineEvent TheText} {answer : Answer} {after : Machine}
    (step : IsStep Reads old new m event answer after) (was now : Option Database) → now ≡ under_way_after step was → IsSettled was m → IsSettled now after
stays_settled {Reads} {m = m} {event = event} {answer = answer} {after = after} (by_transition is) was now same (inl none) = inl (same ∙ none)
stays_settled {Reads} {m = m} {event = event} {answer = answer} {after = after} (by_transition is) was now same (inr stopped) =
    inr (ap (λ (k : Machine). k.stopped) (transition_stays Reads m event (transition_to answer after) is stopped) ∙ stopped)
stays_settled (for_memory a b may) was now same settled = ⊎_elim (λ none. inl (same ∙ none)) (λ stopped. inr (ap (λ (k : Machine). k.stopped) b ∙ stopped)) settled
stays_settled (for_space a b may rises) was now same settled = ⊎_elim (λ none. inl (same ∙ none)) (λ stopped. inr (ap (λ (k : Machine). k.stopped) b ∙ stopped)) settled
stays_settled (for_number a b may greatest) was now same settled = ⊎_elim (λ none. inl (same ∙ none)) (λ stopped. inr (ap (λ (k : Machine). k.stopped) b ∙ stopped)) settled
stays_settled (for_device t is may a b failed) was now same settled = inr (ap (λ (k : Machine). k.stopped) b)

-- ---- within an event

-- where a stop within an event leads: the machine before it, and what it would bring
abbrev IsWithinStep : {Reads : ReadingRelation} {old new : Counts} {m : Machine} {event : MachineEvent TheText} {answer : Answer} {after : Machine}
    → Option Database → IsStep Reads old new m event answer after → Standing → Type 0
IsWithinStep {m = m} under_way step next = (next.machine ≡ m)
    × ((db : Database) → IsFoundAt next db ↔ (IsFoundAt (record { machine = m; under_way = under_way }) db ⊎ IsBrought step db))

-- one database more, where none was under way
one_more : (c b : Database) (under_way : Option Database) → under_way ≡ None → (db : Database)
    → ((db ≡ c) ⊎ (Some b ≡ Some db)) ↔ (((db ≡ c) ⊎ (under_way ≡ Some db)) ⊎ (db ≡ b))
one_more c b under_way none db = (
  ⊎_elim (λ is. inl (inl is)) (λ is. inr (let same : db ≡ b = cc in same)),
  ⊎_elim (⊎_elim (λ is. inl is) (λ is. let bad : None ≡ Some db = sym none ∙ is in absurd (let no : ⊥ = cc in no))) (λ is. inr (ap (λ (d : Database). Some d) (sym is))),
)

-- no database more
none_more : (c : Database) (under_way : Option Database) (Brought : Database → Type 0) (db : Database) → (Brought db → (db ≡ c) ⊎ (under_way ≡ Some db))
    → ((db ≡ c) ⊎ (under_way ≡ Some db)) ↔ (((db ≡ c) ⊎ (under_way ≡ Some db)) ⊎ Brought db)
none_more c under_way Brought db already = (λ is. inl is, ⊎_elim (λ is. is) already)

within_step : {Reads : ReadingRelation} {old new : Counts} {m : Machine} {event : MachineEvent TheText} {answer : Answer} {after : Machine}
    (under_way : Option Database) (step : IsStep Reads old new m event answer after) → IsSettled under_way m → (next : Standing) × IsWithinStep under_way step next
within_step {m = m} {after = after} under_way (by_transition is) (inl none) =
    (record { machine = m; under_way = Some after.committed }, (refl, one_more m.committed after.committed under_way none))
within_step {Reads} {m = m} {event = event} {answer = answer} {after = after} under_way (by_transition is) (inr stopped) =
    let same = transition_stays Reads m event (transition_to answer after) is stopped in
    (record { machine = m; under_way = under_way }, (refl, λ db. none_more m.committed under_way (λ d. d ≡ after.committed) db (λ brought. inl (brought ∙ ap (λ (k : Machine). k.committed) same))))
within_step {m = m} under_way (for_memory a b may) settled = (record { machine = m; under_way = under_way }, (refl, λ db. none_more m.committed under_way (λ d. ⊥) db (λ no. absurd no)))
within_step {m = m} under_way (for_space a b may rises) settled = (record { machine = m; under_way = under_way }, (refl, λ db. none_more m.committed under_way (λ d. ⊥) db (λ no. absurd no)))
within_step {m = m} under_way (for_number a b may greatest) settled = (record { machine = m; under_way = under_way }, (refl, λ db. none_more m.committed under_way (λ d. ⊥) db (λ no. absurd no)))
within_step {m = m} under_way (for_device t is may a b failed) (inl none) =
    (record { machine = m; under_way = Some t.machine.committed }, (refl, one_more m.committed t.machine.committed under_way none))
within_step {Reads} {m = m} {event = event} under_way (for_device t is may a b failed) (inr stopped) =
    let same = transition_stays Reads m event t is stopped in
    (record { machine = m; under_way = under_way }, (refl, λ db. none_more m.committed under_way (λ d. d ≡ t.machine.committed) db (λ brought. inl (brought ∙ ap (λ (k : Machine). k.committed) same))))

-- ---- within a run

module _ (Reads : ReadingRelation) (time : Timeline (Option Contents)) where
  -- moments do not go back
  pub not_before : (moment : ℕ) (end w : At) (events : List ClientEvent) (told : List Answer) (moments : List ℕ) → RanAt Reads (stops_of time) w events told moments end
      → (index : ℕ) → slice_get moments index ≡ Some moment → w.moment ≤ moment
  not_before moment end w [] [] [] ran index is = let bad : None ≡ Some moment = is in absurd (let no : ⊥ = cc in no)
  not_before moment end w (e ∷ events) (answer ∷ told) (m ∷ moments) ran zero is =
      let same : m ≡ moment = (let at : Some m ≡ Some moment = is in cc) in
      let later = ran.2.later in
      let now = ran.1 in
      omega (arith, same, later, now)
  not_before moment end w (e ∷ events) (answer ∷ told) (m ∷ moments) ran (suc index) is =
      let rest = not_before moment end ran.0 events told moments ran.3 index is in
      let later = ran.2.later in
      omega (arith, rest, later)
  not_before moment end w events told moments ran index is = absurd ran

  module _ (stop : ℕ) where
    -- what was answered later is after the stop
    all_after : (end w : At) (events : List ClientEvent) (told : List Answer) (moments : List ℕ) → RanAt Reads (stops_of time) w events told moments end → stop < w.moment → AreAfter stop moments
    all_after end w [] [] [] ran lt = tt
    all_after end w (e ∷ events) (answer ∷ told) (m ∷ moments) ran lt =
        let later = ran.2.later in
        let now = ran.1 in
        (omega (arith, lt, later, now), all_after end ran.0 events told moments ran.3 (omega (arith, lt, later)))
    all_after end w events told moments ran lt = absurd ran

    -- an event more was done before
    one_done : (w nxt : At) (e : ClientEvent) (answer : Answer) (m : ℕ) (events : List ClientEvent) (told : List Answer) (moments : List ℕ) (next : Standing) → nxt.moment ≡ m → m ≤ stop
        → Happens Reads (stops_of time) w (event_of e.client e.event) answer nxt
        → StopsIn Reads time nxt stop events told moments next → StopsIn Reads time w stop (e ∷ events) (answer ∷ told) (m ∷ moments) next
    one_done w nxt e answer m events told moments next at up happens it = record {
      done = e ∷ it.done;
      others = it.others;
      events_are = ap (λ (xs : List ClientEvent). e ∷ xs) it.events_are;
      answers = answer ∷ it.answers;
      rest = it.rest;
      told_are = ap (λ (xs : List Answer). answer ∷ xs) it.told_are;
      before = m ∷ it.before;
      after = it.after;
      moments_are = ap (λ (xs : List ℕ). m ∷ xs) it.moments_are;
      here = it.here;
      ran = (nxt, at, happens, it.ran);
      ended = (up, it.ended);
      not_ended = it.not_ended;
      leads = it.leads;
    }

    -- what a stop leaves where the last event was answered at its moment
    found_now : (w : At) → stops_of time w.moment w.moment (IsFoundAt w.standing) → w.moment ≡ stop → (x : Option Contents) → IsLeftAt time stop x → IsFoundLeft w.standing x
    found_now w now same x left = now x (left w.moment w.moment (omega (arith, same)) (omega (arith, same)))

    -- no event was done
    none_done : (w : At) (events : List ClientEvent) (told : List Answer) (moments : List ℕ) → stops_of time w.moment w.moment (IsFoundAt w.standing) → w.moment ≡ stop → AreAfter stop moments
        → (next : Standing) × StopsIn Reads time w stop events told moments next × ((x : Option Contents) → IsLeftAt time stop x → IsFoundLeft next x)
    none_done w events told moments now same later = (
      w.standing,
      record {
        done = [];
        others = events;
        events_are = refl;
        answers = [];
        rest = told;
        told_are = refl;
        before = [];
        after = moments;
        moments_are = refl;
        here = w;
        ran = refl;
        ended = tt;
        not_ended = later;
        leads = between same refl;
      },
      found_now w now same,
    )

    -- the first event is under way
    first_under_way : (w nxt : At) (e : ClientEvent) (answer : Answer) (m : ℕ) (events : List ClientEvent) (told : List Answer) (moments : List ℕ) → nxt.moment ≡ m
        → Happens Reads (stops_of time) w (event_of e.client e.event) answer nxt → IsSettled w.standing.under_way w.standing.machine → w.moment < stop → stop < nxt.moment → AreAfter stop (m ∷ moments)
        → (next : Standing) × StopsIn Reads time w stop (e ∷ events) (answer ∷ told) (m ∷ moments) next × ((x : Option Contents) → IsLeftAt time stop x → IsFoundLeft next x)
    first_under_way w nxt e answer m events told moments at happens settled from before later =
        let it = within_step w.standing.under_way happens.step settled in (
          it.0,
          record {
            done = [];
            others = e ∷ events;
            events_are = refl;
            answers = [];
            rest = answer ∷ told;
            told_are = refl;
            before = [];
            after = m ∷ moments;
            moments_are = refl;
            here = w;
            ran = refl;
            ended = tt;
            not_ended = later;
            leads = during e events answer told nxt moments refl refl (ap (λ (k : ℕ). k ∷ moments) (sym at)) happens from it.1.0 it.1.1;
          },
          λ x left. let found = happens.during x (left w.moment nxt.moment (omega (arith, from)) (omega (arith, before))) in (found.0, found.1, (it.1.1 found.0).1 found.2),
        )

    pub stops_in : (end w : At) (events : List ClientEvent) (told : List Answer) (moments : List ℕ) → RanAt Reads (stops_of time) w events told moments end
        → stops_of time w.moment w.moment (IsFoundAt w.standing) → IsSettled w.standing.under_way w.standing.machine → w.moment ≤ stop → stop ≤ end.moment
        → (next : Standing) × StopsIn Reads time w stop events told moments next × ((x : Option Contents) → IsLeftAt time stop x → IsFoundLeft next x)
    stops_in end w [] [] [] ran now settled from to =
        let ends : end.moment ≡ w.moment = ap (λ (a : At). a.moment) ran in
        none_done w [] [] [] now (omega (arith, ends, from, to)) tt
    stops_in end w (e ∷ events) (answer ∷ told) (m ∷ moments) ran now settled from to =
        let at = ran.1 in
        ⊎_elim
        (λ before.
        let later : AreAfter stop (m ∷ moments) = (omega (arith, at, before), all_after end ran.0 events told moments ran.3 before) in
        ⊎_elim
        (λ since. first_under_way w ran.0 e answer m events told moments ran.1 ran.2 settled since before later)
        (λ here. none_done w (e ∷ events) (answer ∷ told) (m ∷ moments) now (omega (arith, here, from)) later)
        (cases_lt w.moment stop))
        (λ up.
        let more = stops_in end ran.0 events told moments ran.3 ran.2.now (stays_settled ran.2.step w.standing.under_way ran.0.standing.under_way ran.2.under_way settled) up to in
        (more.0, one_done w ran.0 e answer m events told moments more.0 ran.1 (omega (arith, at, up)) ran.2 more.1, more.2))
        (cases_lt stop ran.0.moment)
    stops_in end w events told moments ran now settled from to = absurd ran

-- ---- which events are done

-- a run has as many moments as events
as_many : (Reads : ReadingRelation) (time : Timeline (Option Contents)) (end w : At) (events : List ClientEvent) (told : List Answer) (moments : List ℕ)
    → RanAt Reads (stops_of time) w events told moments end → length events ≡ length moments
as_many Reads time end w [] [] [] ran = refl
as_many Reads time end w (e ∷ events) (answer ∷ told) (m ∷ moments) ran = let rest = as_many Reads time end ran.0 events told moments ran.3 in omega (arith, rest)
as_many Reads time end w events told moments ran = absurd ran

is_after : (stop moment : ℕ) (after : List ℕ) (index : ℕ) → slice_get after index ≡ Some moment → AreAfter stop after → stop < moment
is_after stop moment [] index is later = let bad : None ≡ Some moment = is in absurd (let no : ⊥ = cc in no)
is_after stop moment (m ∷ after) zero is later = let same : m ≡ moment = (let at : Some m ≡ Some moment = is in cc) in let first = later.0 in omega (arith, same, first)
is_after stop moment (m ∷ after) (suc index) is later = is_after stop moment after index is later.1

-- a moment up to the stop stands among the first, and one after it does not
at_place : (stop moment : ℕ) (before after : List ℕ) (index : ℕ) → slice_get (before ++ after) index ≡ Some moment → AreUpTo stop before → AreAfter stop after
    → (moment ≤ stop) ↔ (index < length before)
at_place stop moment [] after index is up later =
    let past = is_after stop moment after index is later in (λ le. absurd (omega (arith, le, past)), λ lt. absurd (omega (arith, lt)))
at_place stop moment (m ∷ before) after zero is up later =
    let same : m ≡ moment = (let at : Some m ≡ Some moment = is in cc) in
    let first = up.0 in
    (λ le. omega arith, λ lt. omega (arith, same, first))
at_place stop moment (m ∷ before) after (suc index) is up later =
    let rest = at_place stop moment before after index is up.1 later in
    (λ le. let lt = rest.0 le in omega (arith, lt), λ lt. rest.1 (omega (arith, lt)))

pub told_is_done : (Reads : ReadingRelation) (time : Timeline (Option Contents)) (begin : At) (stop : ℕ) (events : List ClientEvent) (told : List Answer) (moments : List ℕ) (next : Standing)
    (stops : StopsIn Reads time begin stop events told moments next) (index moment : ℕ) → slice_get moments index ≡ Some moment → (moment ≤ stop) ↔ (index < length stops.done)
told_is_done Reads time begin stop events told moments next stops index moment is =
    let many : length stops.done ≡ length stops.before = as_many Reads time stops.here begin stops.done stops.answers stops.before stops.ran in
    let here : slice_get (stops.before ++ stops.after) index ≡ Some moment = subst (λ (ms : List ℕ). slice_get ms index ≡ Some moment) stops.moments_are is in
    let both = at_place stop moment stops.before stops.after index here stops.ended stops.not_ended in
    (λ le. let lt = both.0 le in omega (arith, many, lt), λ lt. both.1 (omega (arith, many, lt)))

pub told_is_not_done : (Reads : ReadingRelation) (time : Timeline (Option Contents)) (begin : At) (stop : ℕ) (events : List ClientEvent) (told : List Answer) (moments : List ℕ) (next : Standing)
    (stops : StopsIn Reads time begin stop events told moments next) (index moment : ℕ) → slice_get moments index ≡ Some moment → stop < moment → length stops.done ≤ index
told_is_not_done Reads time begin stop events told moments next stops index moment is later =
    ⊎_elim
    (λ lt. let up = (told_is_done Reads time begin stop events told moments next stops index moment is).1 lt in absurd (omega (arith, up, later)))
    (λ le. le)
    (cases_lt index (length stops.done))
