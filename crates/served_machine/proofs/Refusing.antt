-- Steps that are refused for memory before they are made.
use Rattle.std.proofs.Common.{◌≡◌, ◌∙◌, ℕ, Bool, true, false, Option, Some, None, Err, refl, sym, arith}
use Rattle.sector_device.specs.Timeline.{IsPresent}
use Rattle.sql_types.specs.declared.answer.Answer.{Answer}
use Rattle.sql_types.specs.declared.answer.Answer.TheVariants.{Refused}
use Rattle.sql_types.specs.declared.event.Event.{Event}
use Rattle.sql_types.specs.declared.event.Event.TheVariants as event
use Rattle.sql_types.specs.declared.state.SqlState.TheVariants.{OutOfMemory}
use Rattle.store.specs.declared.fault.StoreFault.TheVariants.{Memory}
use Rattle.store.specs.Store.{StoreState, Contents, KeepsHistory, stored}
use Rattle.abstract_database.specs.Database.{Database}
use Rattle.abstract_database.specs.Machine.{Holder}
use Rattle.abstract_database.specs.Runs.{ReadingRelation, At, MayRunOutOfMemory}
use Rattle.server.specs.declared.server.Server.{Server}
use Rattle.server.specs.Standing.{event_of, Works, Represents}
use Rattle.server.specs.Decisions.{machine_at}
use Rattle.server.specs.Runs.{Steps}
use Rattle.server.proofs.Passing.{none_pass}
use Rattle.server.proofs.Stepping.{attempted_steps}
use Rattle.talks.specs.declared.want.Want.{Want}
use Rattle.talks.specs.declared.want.Want.TheVariants as want
use Rattle.talks.specs.declared.want.Reply.TheVariants as reply
use Rattle.talks.specs.Wants.{WantsStep, FitsWant}
use Rattle.served_machine.specs.Served.{TakesEvent, TakesStep}
use Rattle.served_machine.specs.Locks.{MayLackMemory}

false_is_not_true : (b : Bool) → b ≡ false → b ≡ true → ⊥
false_is_not_true b p q = let wrong : false ≡ true = sym p ∙ q in cc

same_history : (s : StoreState) → KeepsHistory s s
same_history s = record { sound = λ is. is; fulls = omega arith; failures = omega arith; faults = omega arith }

module _ {S X : Type 0} (Reads : ReadingRelation) (state : S → StoreState) (server : Server S X) (present : (state server.store).sound → IsPresent (state server.store).time)
    (settled : (x : Option Contents) → (state server.store).sound → (state server.store).has_failed ≡ false → (state server.store).time.left x → x ≡ Some (stored (state server.store))) (c : ℕ) where
  -- where a server stands that works
  abbrev at_work : Database → Option Holder → At
  at_work db holder = record {
    counts = record { number = (state server.store).number; fulls = (state server.store).fulls; failures = (state server.store).failures; faults = (state server.store).faults };
    moment = (state server.store).time.moment;
    standing = record { machine = machine_at db holder server.sessions.entries; under_way = None };
  }

  works_there : server.stopped ≡ false → (db : Database) (holder : Option Holder) → Works state server db holder → Represents state server (at_work db holder)
  works_there runs db holder works = record {
    moment = refl;
    counts = record { number = λ r. refl; fulls = refl; failures = refl; faults = refl };
    sessions = refl;
    stopped = sym runs;
    works = λ r. (refl, works);
    left = λ is. absurd (false_is_not_true server.stopped runs is);
  }

  memory_steps : (e : Event) → server.stopped ≡ false → ((w : At) → Represents state server w → MayRunOutOfMemory w.standing.machine (event_of c e)) → Steps Reads state c server e (Refused OutOfMemory) server
  memory_steps e runs may =
      attempted_steps Reads state c server server server e (Err Memory) (Refused OutOfMemory) refl refl present (same_history (state server.store)) runs (λ sound running db holder works. (
        may (at_work db holder) (works_there runs db holder works),
        record { sessions = refl; running = refl; runs = runs; works = works },
        none_pass (state server.store) server.catalogue db sound present (λ x left. settled x sound works.unfailed left) works.second works.committed,
      ))

  memory_takes : (e : Event) → server.stopped ≡ false → ((w : At) → Represents state server w → MayRunOutOfMemory w.standing.machine (event_of c e)) → TakesEvent Reads state c e (Refused OutOfMemory) server server
  memory_takes e runs may = record {
    history = same_history (state server.store);
    stopped = λ is. absurd (false_is_not_true server.stopped runs is);
    running = λ is. absurd (false_is_not_true server.stopped runs is);
    steps = memory_steps e runs may;
    dropped = λ told. refl;
  }

  pub refuses : (w : Want) → WantsStep w → MayLackMemory state server c w → TakesStep Reads state c w (reply.Answer (Refused OutOfMemory)) server server
  refuses (want.Event (event.Statement n text)) step may = memory_takes (event.Statement n text) may.0 (λ w at. (may.1 w at).0)
  refuses (want.Event (event.Close n)) step may = memory_takes (event.Close n) may.0 (λ w at. (may.1 w at).0)
  refuses (want.Event (event.Open n login)) step may = absurd step
  refuses (want.Open n login entry) step may = absurd may
  refuses want.Message step may = absurd step
  refuses (want.Standing n) step may = absurd step
  refuses (want.Description n text) step may = absurd step
  refuses (want.Verifier table role) step may = absurd step
  refuses (want.End late) step may = absurd step
  refuses want.OutOfMemory step may = absurd step

-- an answer fits each step
pub answer_fits : (w : Want) (a : Answer) → WantsStep w → FitsWant w (reply.Answer a)
answer_fits (want.Event e) a step = tt
answer_fits (want.Open n login entry) a step = tt
answer_fits want.Message a step = absurd step
answer_fits (want.Standing n) a step = absurd step
answer_fits (want.Description n text) a step = absurd step
answer_fits (want.Verifier table role) a step = absurd step
answer_fits (want.End late) a step = absurd step
answer_fits want.OutOfMemory a step = absurd step
