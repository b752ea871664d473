-- Turns of a server make lives.
use Rattle.std.proofs.Common.{◌≡◌, ◌⊎◌, ◌∙◌, ◌++◌, Option, Some, refl, sym, ap, inl, inr}
use Rattle.sql_types.specs.declared.answer.Answer.{Answer}
use Rattle.store.specs.Store.{StoreState}
use Rattle.abstract_database.specs.Database.{Database}
use Rattle.abstract_database.specs.Machine.{Event as MachineEvent, Machine}
use Rattle.abstract_database.specs.Runs.{TheText, ReadingRelation, Counts, Standing, IsFoundAt, IsStep, IsBrought, under_way_after, by_transition, for_device}
use Rattle.abstract_database.specs.Runs as step
use Rattle.talks.specs.declared.talk.Talk.{Ghosts as TalkGhosts}
use Rattle.talks.specs.declared.clients.ServedClients.{Ghosts as ClientsGhosts}
use Rattle.served_tenants.specs.Exchanges.{exchanges_of}
use Rattle.served_tenants.proofs.Making.{joined, all_steps, all_turns}
use Rattle.served_lives.specs.MadeLives.{turns_make_lives, stops_fall_between_steps}

pub lives_made : (S X T C : Type 0) (Reads : ReadingRelation) (state : S → StoreState) (t : TalkGhosts T) (k : ClientsGhosts C T) → turns_make_lives S X T C Reads state t k
lives_made S X T C Reads state t k db w over place apart old before turns new after took steps last more sound here =
    let led = all_turns Reads state t k old before turns new after took w sound here in
    let led_on = all_steps Reads state t k after new steps last more led.0 led.2 led.1 in (
      led_on.0,
      led_on.1,
      λ left found. (
        record {
          begin = w;
          over = over;
          place = place;
          apart = apart;
          done = exchanges_of Reads state t k old before turns new after took ++ steps;
          end = led_on.0;
          made = joined Reads w led.0 led_on.0 (exchanges_of Reads state t k old before turns new after took) steps led.3 led_on.3;
          left = left;
          found = found;
        },
        record { stands_at = refl; has_done = refl; has_left = refl },
        record { untold = steps; first = refl },
      ),
    )

-- what an event brings a stop behind it may leave
found_behind : (Reads : ReadingRelation) (old new : Counts) (m : Machine) (event : MachineEvent TheText) (x : Answer) (next : Standing) (was : Option Database) (s : IsStep Reads old new m event x next.machine) →
    next.under_way ≡ under_way_after s was → (db : Database) → IsBrought s db → IsFoundAt next db
found_behind Reads old new m event x next was (by_transition is) left db brought = inl brought
found_behind Reads old new m event x next was (step.for_memory e kept may) left db brought = absurd brought
found_behind Reads old new m event x next was (step.for_space e kept may rises) left db brought = absurd brought
found_behind Reads old new m event x next was (step.for_number e kept may greatest) left db brought = absurd brought
found_behind Reads old new m event x next was (for_device t is may e kept broke) left db brought = inr (left ∙ ap (λ (d : Database). Some d) (sym brought))

pub stops_between : (S X : Type 0) (Reads : ReadingRelation) (state : S → StoreState) → stops_fall_between_steps S X Reads state
stops_between S X Reads state client event answer old new made sound w here =
    let led = made sound w here in (
      led.0,
      led.1,
      record { counts = led.2.counts; step = led.2.step; under_way = led.2.under_way; later = led.2.later; during = tt; now = tt },
      λ y left. (let it = led.2.during y left in (it.0, it.1, either it.0 it.2)),
    )
  where
    either : (db : Database) → IsFoundAt w.standing db ⊎ IsBrought (made sound w here).2.step db → IsFoundAt w.standing db ⊎ IsFoundAt (made sound w here).0.standing db
    either db (inl found) = inl found
    either db (inr brought) =
        inr (found_behind Reads w.counts (made sound w here).0.counts w.standing.machine _ answer (made sound w here).0.standing w.standing.under_way (made sound w here).2.step (made sound w here).2.under_way db brought)
