-- Steps on events of many clients as a run.
use Rattle.std.proofs.Common.{◌∙◌, ◌≤◌, List, [], ◌∷◌, Option, refl, sym, subst, arith}
use Rattle.sector_device.specs.Timeline.{Timeline}
use Rattle.sql_types.specs.declared.answer.Answer.{Answer}
use Rattle.store.specs.Store.{StoreState, Contents}
use Rattle.abstract_database.specs.Machine.{Event as MachineEvent}
use Rattle.abstract_database.specs.Runs.{TheText, ReadingRelation, RanBy, Stops, At, Happens}
use Rattle.server.specs.declared.server.Server.{Server}
use Rattle.server.specs.Standing.{event_of, stops_of, Represents}
use Rattle.server.specs.Runs.{KeepsPast}
use Rattle.served_clients.specs.Taken.{Taken, TakesEach, RanEach, RunsEach, events_taken, answers_taken}

-- what happened is said of a later timeline, too
happens_past : (Reads : ReadingRelation) (t u : Timeline (Option Contents)) (w next : At) (e : MachineEvent TheText) (answer : Answer) → KeepsPast t u → next.moment ≤ t.moment
    → Happens Reads (stops_of t) w e answer next → Happens Reads (stops_of u) w e answer next
happens_past Reads t u w next e answer past le happens = record {
  counts = happens.counts;
  step = happens.step;
  under_way = happens.under_way;
  later = happens.later;
  during = λ x stop. happens.during x (past w.moment next.moment x le stop);
  now = λ x stop. happens.now x (past next.moment next.moment x le stop);
}

module _ {S X : Type 0} (Reads : ReadingRelation) (state : S → StoreState) where
  pub runs : (first last : Server S X) (ts : List Taken) (w : At) → TakesEach Reads state first ts last → (state first.store).sound → Represents state first w → RunsEach Reads state first w ts last
  runs first last [] w steps sound here = (
    w,
    subst (λ (s : Server S X). Represents state s w) (sym steps) here,
    refl,
    λ a b x le stop. subst (λ (s : Server S X). (state s.store).time.stops a b x) steps stop,
  )
  runs first last (t ∷ ts) w steps sound here =
      let mid = steps.0 in
      let now = steps.1.steps sound w here in
      let rest = runs mid last ts now.0 steps.2 (steps.1.history.sound sound) now.1 in
      let clock = now.1.moment in
      let began = here.moment in
      let later = now.2.later in (
        rest.0,
        rest.1,
        (
          now.0,
          clock ∙ steps.1.clock,
          happens_past Reads (state mid.store).time (state last.store).time w now.0 (event_of t.client t.event) t.answer rest.3 (omega (arith, clock)) now.2,
          rest.2,
        ),
        λ a b x le stop. now.3 a b x le (rest.3 a b x (omega (arith, le, clock, began, later)) stop),
      )

-- without the moments
pub ran : (Reads : ReadingRelation) (Leave : Stops) (w end : At) (ts : List Taken) → RanEach Reads Leave w ts end → RanBy (Happens Reads Leave) w (events_taken ts) (answers_taken ts) end
ran Reads Leave w end [] is = is
ran Reads Leave w end (t ∷ ts) is = (is.0, is.2, ran Reads Leave is.0 end ts is.3)
