-- Runs go on by one event, or by another run.
use Rattle.std.proofs.Common.{◌≡◌, ◌≤◌, ℕ, List, [], ◌∷◌, ◌++◌, ◌+◌, length, Option, refl, ap, subst, arith}
use Rattle.sector_device.specs.Timeline.{Timeline}
use Rattle.sql_types.specs.declared.answer.Answer.{Answer}
use Rattle.sql_types.specs.declared.event.Event.{Event}
use Rattle.store.specs.Store.{StoreState, Contents}
use Rattle.abstract_database.specs.Machine.{Event as MachineEvent}
use Rattle.abstract_database.specs.Runs.{TheText, ReadingRelation, RanBy, Stops, At, Happens}
use Rattle.server.specs.declared.server.Server.{Server}
use Rattle.server.specs.Standing.{event_of, events_of, stops_of}
use Rattle.server.specs.Runs.{Steps, Runs}

module _ (client : ℕ) where
  events_more : (es : List Event) (e : Event) → events_of client (es ++ e ∷ []) ≡ events_of client es ++ event_of client e ∷ []
  events_more [] e = refl
  events_more (f ∷ es) e = ap (λ (l : List (MachineEvent TheText)). event_of client f ∷ l) (events_more es e)

  events_joined : (es fs : List Event) → events_of client (es ++ fs) ≡ events_of client es ++ events_of client fs
  events_joined [] fs = refl
  events_joined (e ∷ es) fs = ap (λ (l : List (MachineEvent TheText)). event_of client e ∷ l) (events_joined es fs)

module _ (Reads : ReadingRelation) where
  -- moments do not go back
  ran_later : (Leave : Stops) (w end : At) (es : List (MachineEvent TheText)) (answers : List Answer) → RanBy (Happens Reads Leave) w es answers end → w.moment ≤ end.moment
  ran_later Leave w end [] [] ran = let same : end.moment ≡ w.moment = ap (λ (z : At). z.moment) ran in omega (arith, same)
  ran_later Leave w end (e ∷ es) (a ∷ answers) ran = let first = ran.1.later in let rest = ran_later Leave ran.0 end es answers ran.2 in omega (arith, first, rest)
  ran_later Leave w end [] (a ∷ answers) ran = absurd ran
  ran_later Leave w end (e ∷ es) [] ran = absurd ran

  -- what is said of earlier moments does not grow
  ran_past : (t u : Timeline (Option Contents)) (latest : ℕ) → ((a b : ℕ) (x : Option Contents) → b ≤ latest → u.stops a b x → t.stops a b x)
      → (w end : At) (es : List (MachineEvent TheText)) (answers : List Answer) → end.moment ≤ latest
      → RanBy (Happens Reads (stops_of t)) w es answers end → RanBy (Happens Reads (stops_of u)) w es answers end
  ran_past t u latest past w end [] [] le ran = ran
  ran_past t u latest past w end (e ∷ es) (a ∷ answers) le ran =
      let next = ran.0 in
      let h = ran.1 in
      let rest = ran_later (stops_of t) next end es answers ran.2 in
      let before : next.moment ≤ latest = omega (arith, le, rest) in (
        next,
        record {
          counts = h.counts;
          step = h.step;
          under_way = h.under_way;
          later = h.later;
          during = λ x stop. h.during x (past w.moment next.moment x before stop);
          now = λ x stop. h.now x (past next.moment next.moment x before stop);
        },
        ran_past t u latest past next end es answers le ran.2,
      )
  ran_past t u latest past w end [] (a ∷ answers) le ran = absurd ran
  ran_past t u latest past w end (e ∷ es) [] le ran = absurd ran

  -- one event more
  ran_more : (Leave : Stops) (w mid end : At) (es : List (MachineEvent TheText)) (answers : List Answer) (e : MachineEvent TheText) (answer : Answer)
      → RanBy (Happens Reads Leave) w es answers mid → Happens Reads Leave mid e answer end → RanBy (Happens Reads Leave) w (es ++ e ∷ []) (answers ++ answer ∷ []) end
  ran_more Leave w mid end [] [] e answer ran more = (end, subst (λ (z : At). Happens Reads Leave z e answer end) ran more, refl)
  ran_more Leave w mid end (f ∷ es) (a ∷ answers) e answer ran more = (ran.0, ran.1, ran_more Leave ran.0 mid end es answers e answer ran.2 more)
  ran_more Leave w mid end [] (a ∷ answers) e answer ran more = absurd ran
  ran_more Leave w mid end (f ∷ es) [] e answer ran more = absurd ran

  -- another run
  ran_joined : (Leave : Stops) (w mid end : At) (es fs : List (MachineEvent TheText)) (answers others : List Answer)
      → RanBy (Happens Reads Leave) w es answers mid → RanBy (Happens Reads Leave) mid fs others end → RanBy (Happens Reads Leave) w (es ++ fs) (answers ++ others) end
  ran_joined Leave w mid end [] fs [] others ran more = subst (λ (z : At). RanBy (Happens Reads Leave) z fs others end) ran more
  ran_joined Leave w mid end (e ∷ es) fs (a ∷ answers) others ran more = (ran.0, ran.1, ran_joined Leave ran.0 mid end es fs answers others ran.2 more)
  ran_joined Leave w mid end [] fs (a ∷ answers) others ran more = absurd ran
  ran_joined Leave w mid end (e ∷ es) fs [] others ran more = absurd ran

pub length_more : {A : Type 0} (xs : List A) (x : A) → length (xs ++ x ∷ []) ≡ length xs + 1
length_more [] x = refl
length_more (y ∷ xs) x = let rest = length_more xs x in omega (arith, rest)

-- before the first event
pub runs_none : {S X : Type 0} (Reads : ReadingRelation) (state : S → StoreState) (client : ℕ) (server : Server S X) → Runs Reads state client server [] [] server
runs_none Reads state client server sound w at = (w, at, refl, λ a b x le stop. stop)

-- a run and one step more
pub runs_more : {S X : Type 0} (Reads : ReadingRelation) (state : S → StoreState) (client : ℕ) (first mid new : Server S X) (es : List Event) (told : List Answer) (e : Event) (answer : Answer)
    → ((state first.store).sound → (state mid.store).sound) → Runs Reads state client first es told mid → Steps Reads state client mid e answer new → Runs Reads state client first (es ++ e ∷ []) (told ++ answer ∷ []) new
runs_more Reads state client first mid new es told e answer lasts ran stepped sound w at =
    let before = ran sound w at in
    let now = stepped (lasts sound) before.0 before.1 in
    let old = (state mid.store).time in
    let late = (state new.store).time in
    let here = before.1.moment in
    let same : before.0.moment ≤ old.moment = omega (arith, here) in
    let passed = ran_past Reads old late old.moment now.3 w before.0 (events_of client es) told same before.2 in
    let first_later = ran_later Reads (stops_of old) w before.0 (events_of client es) told before.2 in
    let began = at.moment in
    let since : (state first.store).time.moment ≤ old.moment = omega (arith, first_later, here, began) in (
      now.0,
      now.1,
      rw (events_more client es e) (ran_more Reads (stops_of late) w before.0 now.0 (events_of client es) told (event_of client e) answer passed now.2),
      λ a b x le stop. before.3 a b x le (now.3 a b x (omega (arith, le, since)) stop),
    )

-- a run and then another
pub runs_joined : {S X : Type 0} (Reads : ReadingRelation) (state : S → StoreState) (client : ℕ) (first mid new : Server S X) (es fs : List Event) (answers others : List Answer)
    → ((state first.store).sound → (state mid.store).sound) → Runs Reads state client first es answers mid → Runs Reads state client mid fs others new → Runs Reads state client first (es ++ fs) (answers ++ others) new
runs_joined Reads state client first mid new es fs answers others lasts ran more sound w at =
    let before = ran sound w at in
    let now = more (lasts sound) before.0 before.1 in
    let old = (state mid.store).time in
    let late = (state new.store).time in
    let here = before.1.moment in
    let same : before.0.moment ≤ old.moment = omega (arith, here) in
    let passed = ran_past Reads old late old.moment now.3 w before.0 (events_of client es) answers same before.2 in
    let first_later = ran_later Reads (stops_of old) w before.0 (events_of client es) answers before.2 in
    let began = at.moment in
    let since : (state first.store).time.moment ≤ old.moment = omega (arith, first_later, here, began) in (
      now.0,
      now.1,
      rw (events_joined client es fs) (ran_joined Reads (stops_of late) w before.0 now.0 (events_of client es) (events_of client fs) answers others passed now.2),
      λ a b x le stop. before.3 a b x le (now.3 a b x (omega (arith, le, since)) stop),
    )
