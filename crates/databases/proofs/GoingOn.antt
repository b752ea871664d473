-- Lives follow each other, by induction over them.
use Rattle.std.proofs.Common.{◌≡◌, ℕ, ◌≤◌, ⊎_elim, inl, inr, List, [], ◌∷◌, Option, None, Some, Result, Ok, Err, refl, ap, arith}
use Rattle.std.specs.Prelude.{slice_get}
use Rattle.std.proofs.lemmas.Bool.{cases_lt}
use Rattle.sector_device.specs.Timeline.{Timeline}
use Rattle.sector_device.specs.declared.device.Device.{Ghosts}
use Rattle.sql_types.specs.declared.answer.Answer.{Answer}
use Rattle.cow_pages.specs.declared.open.OpenFault.TheVariants as pages
use Rattle.store.specs.declared.fault.Fault.TheVariants as read
use Rattle.store.specs.Store.{Contents}
use Rattle.abstract_database.specs.Runs.{ReadingRelation, Standing}
use Rattle.databases.specs.declared.fault.DatabaseFault.{DatabaseFault}
use Rattle.databases.specs.declared.fault.DatabaseFault.TheVariants.{Pages, Records}
use Rattle.recovery.specs.declared.fault.OpeningFault.TheVariants.{Read, Commit}
use Rattle.databases.specs.Lives.{ClientEvent, IsFoundLeft, IsLife, IsNoLife}
use Rattle.databases.specs.OnDevice.{records_on, LivesOn}
use Rattle.databases.specs.Stopping.{is_left_by, IsWithin, StopsAt, IsDoneAt}
use Rattle.databases.specs.Following.{Life, ArePromised, AreStopped, LeadsOn, GoOn}
use Rattle.databases.proofs.Cutting.{not_before, stops_in, told_is_done}

module _ (Reads : ReadingRelation) (last : Standing) (old new : Timeline (Option Contents)) where
  -- where a stop of a life leads, and what it leaves
  pub stopped_at : (events : List ClientEvent) (told : List Answer) (moments : List ℕ) (life : IsLife Reads last events told moments old new) (stop : Option ℕ) → IsWithin stop old new
      → (next : Standing) × StopsAt last life stop next × ((x : Option Contents) → is_left_by stop new x → IsFoundLeft next x)
  stopped_at events told moments life None within = (life.end.standing, refl, life.leaves)
  stopped_at events told moments life (Some stop) within =
      ⊎_elim
      (λ before. (last, inl (before, refl), λ x left. life.until.each x (left old.moment life.begin.moment within.0 (omega (arith, before)))))
      (λ from.
      let none : life.begin.standing.under_way ≡ None = ap (λ (s : Standing). s.under_way) life.over in
      let ends = life.ends in
      let it = stops_in Reads new stop life.end life.begin events told moments life.ran life.begun (inl none) from (omega (arith, ends, within.1)) in
      (it.0, inr (from, it.1), it.2))
      (cases_lt stop life.begin.moment)

  -- where no life began, a stop leaves what the last one may have left
  pub none_at : IsNoLife last old new → (stop : Option ℕ) → IsWithin stop old new → (x : Option Contents) → is_left_by stop new x → IsFoundLeft last x
  none_at none None within x left = none.now x left
  none_at none (Some moment) within x left = none.each x (left old.moment new.moment within.0 within.1)

-- what was told up to the stop is done
pub told_done : (Reads : ReadingRelation) (last : Standing) (old new : Timeline (Option Contents)) (events : List ClientEvent) (told : List Answer) (moments : List ℕ)
    (life : IsLife Reads last events told moments old new) (stop : ℕ) (next : Standing) → StopsAt last life (Some stop) next
    → (index moment : ℕ) → slice_get moments index ≡ Some moment → moment ≤ stop → IsDoneAt life stop index next
told_done Reads last old new events told moments life stop next (inl opening) index moment is up =
    let begun = not_before Reads new moment life.end life.begin events told moments life.ran index is in
    let before = opening.0 in
    absurd (omega (arith, begun, before, up))
told_done Reads last old new events told moments life stop next (inr stops) index moment is up =
    (stops.1, (told_is_done Reads new life.begin stop events told moments next stops.1 index moment is).0 up)

module _ {D : Type 0} (g : Ghosts D) (X : Type 0) (Reads : ReadingRelation) where
  -- where a life leads, and what its stop leaves
  abbrev Goes : Standing → Life D → Result (Unit {0}) DatabaseFault → Type 0
  Goes last life result = (next : Standing) × LeadsOn g X Reads last life result next × ((x : Option Contents) → is_left_by life.stop (records_on (g.state life.end)) x → IsFoundLeft next x)

  not_begun : (last : Standing) (life : Life D) (fault : DatabaseFault) → life.after ≡ life.before → IsNoLife last (records_on (g.state life.begin)) (records_on (g.state life.end))
      → IsWithin life.stop (records_on (g.state life.begin)) (records_on (g.state life.end)) → Goes last life (Err fault)
  not_begun last life fault same none within =
      (last, (same, none, refl), none_at Reads last (records_on (g.state life.begin)) (records_on (g.state life.end)) none life.stop within)

  leads : (last : Standing) (life : Life D) (result : Result (Unit {0}) DatabaseFault)
      → LivesOn g X Reads last life.events life.before life.after life.begin life.end result
      → IsWithin life.stop (records_on (g.state life.begin)) (records_on (g.state life.end)) → Goes last life result
  leads last life (Ok x) lives within =
      let it = stopped_at Reads last (records_on (g.state life.begin)) (records_on (g.state life.end)) life.events lives.0 lives.1 lives.3.0.0 life.stop within in
      (it.0, (lives.0, lives.1, lives.2, (lives.3.0, lives.3.1, it.1)), it.2)
  leads last life (Err (Pages pages.Memory)) lives within = not_begun last life (Pages pages.Memory) lives.0 lives.1 within
  leads last life (Err (Pages pages.Device)) lives within = not_begun last life (Pages pages.Device) lives.0 lives.1 within
  leads last life (Err (Pages pages.WrongSize)) lives within = not_begun last life (Pages pages.WrongSize) lives.1 lives.2 within
  leads last life (Err (Pages pages.NotADatabase)) lives within = absurd lives
  leads last life (Err (Pages (pages.NewerFormat format))) lives within = absurd lives
  leads last life (Err (Pages pages.Damaged)) lives within = absurd lives
  leads last life (Err (Records (Read read.Memory))) lives within = not_begun last life (Records (Read read.Memory)) lives.0 lives.1 within
  leads last life (Err (Records (Read read.Device))) lives within = not_begun last life (Records (Read read.Device)) lives.0 lives.1 within
  leads last life (Err (Records (Read read.Damaged))) lives within = absurd lives
  leads last life (Err (Records (Commit fault))) lives within = not_begun last life (Records (Commit fault)) lives.1 lives.2 within

  pub go_on : (left : Option Contents → Type 0) (lives : List (Life D)) (s : Standing) → ((x : Option Contents) → left x → IsFoundLeft s x)
      → ArePromised g X Reads lives → AreStopped g.state left lives → GoOn g X Reads s lives
  go_on left [] s found promised stopped = tt
  go_on left (life ∷ lives) s found promised stopped =
      let led = leads s life life.result (promised.0 stopped.0 s (λ x is. found x (stopped.1 x is))) stopped.2 in
      (led.0, led.1, go_on (is_left_by life.stop (records_on (g.state life.end))) lives led.0 led.2 promised.1 stopped.3)
