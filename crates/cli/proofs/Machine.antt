-- Over memory a script is a run of the session machine.
use Rattle.std.proofs.Common.{◌≡◌, ◌⊎◌, ◌∙◌, ◌≤◌, ℕ, true, false, List, [], ◌∷◌, refl, sym, ap, subst, inl, inr, arith}
use Rattle.std.proofs.KnownBytes.{Appends-kept}
use Rattle.std.specs.Io.KnownBytes.{Keeps}
use Rattle.sql_types.specs.declared.answer.Answer.{Answer}
use Rattle.sql_types.specs.declared.event.Event.{Event as ServerEvent}
use Rattle.store.specs.declared.memory.MemStore.{MemStore}
use Rattle.store.specs.Memory.{new_state}
use Rattle.store.specs.MemoryStore.{memory_store_state}
use Rattle.abstract_database.specs.Lists.{TheName}
use Rattle.abstract_database.specs.Database.{new_database}
use Rattle.abstract_database.specs.Machine.{Machine, Event, Transition}
use Rattle.abstract_database.specs.Runs.{TheText, ReadingRelation, Counts, Rises, NoneFalls, IsStep, by_transition, for_memory, for_space, for_number, for_device, RanBy, Stops, At, Happens}
use Rattle.server.specs.declared.server.Server.{Server}
use Rattle.server.specs.Standing.{Represents, at_start, events_of, stops_of}
use Rattle.wire.specs.declared.script_run.ScriptEnd.{ScriptEnd}
use Rattle.wire.specs.declared.script_run.ScriptEnd.TheVariants as end
use Rattle.wire.specs.declared.sink.Sink.{Ghosts as SinkGhosts}
use Rattle.wire.specs.ScriptRun.{Known, Writes, EndsAfter, EndsAsLines, EndsAt, IsScriptRun, lines_of}
use Rattle.cli.specs.Running.{IsAnswered, by_machine, refused_memory, PrintsRun}
use Rattle.cli.proofs.Lasting.{transition_lasts}

-- nothing is counted
record IsZero (c : Counts) : Type 0 where
  number : c.number ≡ 0
  fulls : c.fulls ≡ 0
  failures : c.failures ≡ 0

zero_before : (c d : Counts) → NoneFalls c d → IsZero d → IsZero c
zero_before c d falls zero = record {
  number = omega (arith, falls.number, zero.number);
  fulls = omega (arith, falls.fulls, zero.fulls);
  failures = omega (arith, falls.failures, zero.failures);
}

falls_joined : (a b c : Counts) → NoneFalls a b → NoneFalls b c → NoneFalls a c
falls_joined a b c first second = record {
  number = omega (arith, first.number, second.number);
  fulls = omega (arith, first.fulls, second.fulls);
  failures = omega (arith, first.failures, second.failures);
  faults = omega (arith, first.faults, second.faults);
}

none_falls : (c : Counts) → NoneFalls c c
none_falls c = record { number = omega arith; fulls = omega arith; failures = omega arith; faults = omega arith }

-- a count that stays at zero does not rise
no_rise : (old new : ℕ) → old ≤ new → new ≡ 0 → Rises old new → ⊥
no_rise old new falls zero rises = elim rises [ inl more ↦ absurd (omega (arith, more, falls, zero)) | inr most ↦ absurd (omega (arith, most, falls, zero)) ]

module _ (Reads : ReadingRelation) (Leave : Stops) where
  -- ---- no count falls in a run

  run_falls : (w last : At) (es : List (Event TheText)) (told : List Answer) → RanBy (Happens Reads Leave) w es told last → NoneFalls w.counts last.counts
  run_falls w last [] [] ran = subst (λ (v : At). NoneFalls w.counts v.counts) (sym ran) (none_falls w.counts)
  run_falls w last (e ∷ es) (a ∷ told) ran = falls_joined w.counts ran.0.counts last.counts ran.1.counts (run_falls ran.0 last es told ran.2)
  run_falls w last [] (a ∷ told) ran = absurd ran
  run_falls w last (e ∷ es) [] ran = absurd ran

  -- ---- where no device failed, a machine that worked works

  step_lasts : (old new : Counts) (m : Machine) (event : Event TheText) (answer : Answer) (after : Machine) → old.failures ≤ new.failures → new.failures ≡ 0 → m.stopped ≡ false → IsStep Reads old new m event answer after → after.stopped ≡ false
  step_lasts old new m event answer after falls zero works (by_transition is) = ap (λ (t : Transition). t.machine.stopped) is.is ∙ (transition_lasts m is.as_read ∙ works)
  step_lasts old new m event answer after falls zero works (for_memory a b may) = ap (λ (n : Machine). n.stopped) b ∙ works
  step_lasts old new m event answer after falls zero works (for_space a b may rises) = ap (λ (n : Machine). n.stopped) b ∙ works
  step_lasts old new m event answer after falls zero works (for_number a b may greatest) = ap (λ (n : Machine). n.stopped) b ∙ works
  step_lasts old new m event answer after falls zero works (for_device t is may a b failed) = absurd (no_rise old.failures new.failures falls zero failed.failures)

  run_lasts : (w last : At) (es : List (Event TheText)) (told : List Answer) → RanBy (Happens Reads Leave) w es told last → last.counts.failures ≡ 0 → w.standing.machine.stopped ≡ false → last.standing.machine.stopped ≡ false
  run_lasts w last [] [] ran zero works = subst (λ (v : At). v.standing.machine.stopped ≡ false) (sym ran) works
  run_lasts w last (e ∷ es) (a ∷ told) ran zero works =
      let next = ran.0 in
      let rest = run_falls next last es told ran.2 in
      let still : next.counts.failures ≡ 0 = omega (arith, rest.failures, zero) in
      run_lasts next last es told ran.2 zero (step_lasts w.counts next.counts w.standing.machine e a next.standing.machine ran.1.counts.failures still works ran.1.step)
  run_lasts w last [] (a ∷ told) ran zero works = absurd ran
  run_lasts w last (e ∷ es) [] ran zero works = absurd ran

  -- ---- where nothing is counted, each event is answered by the machine, or refused for memory

  step_answers : (old new : Counts) (m : Machine) (event : Event TheText) (answer : Answer) (after : Machine) → NoneFalls old new → IsZero new → IsStep Reads old new m event answer after → IsAnswered Reads m event answer after
  step_answers old new m event answer after falls zero (by_transition is) = by_machine is
  step_answers old new m event answer after falls zero (for_memory a b may) = refused_memory a b may
  step_answers old new m event answer after falls zero (for_space a b may rises) = absurd (no_rise old.fulls new.fulls falls.fulls zero.fulls rises)
  step_answers old new m event answer after falls zero (for_number a b may greatest) = absurd (omega (arith, falls.number, zero.number, greatest))
  step_answers old new m event answer after falls zero (for_device t is may a b failed) = absurd (no_rise old.failures new.failures falls.failures zero.failures failed.failures)

  run_answers : (w last : At) (es : List (Event TheText)) (told : List Answer) → RanBy (Happens Reads Leave) w es told last → IsZero last.counts → RanBy (IsAnswered Reads) w.standing.machine es told last.standing.machine
  run_answers w last [] [] ran zero = ap (λ (v : At). v.standing.machine) ran
  run_answers w last (e ∷ es) (a ∷ told) ran zero =
      let next = ran.0 in
      let still = zero_before next.counts last.counts (run_falls next last es told ran.2) zero in
      (next.standing.machine, step_answers w.counts next.counts w.standing.machine e a next.standing.machine ran.1.counts still ran.1.step, run_answers next last es told ran.2 zero)
  run_answers w last [] (a ∷ told) ran zero = absurd ran
  run_answers w last (e ∷ es) [] ran zero = absurd ran

-- ---- what was printed

writes_kept : (e : ScriptEnd) (before : Known) (told : List Answer) (written after : Known) → Writes e before told written → Keeps written after → Writes e before told after
writes_kept end.Done before told written after w k = Appends-kept before written after _ w k
writes_kept (end.BadLine number) before told written after w k = Appends-kept before written after _ w k
writes_kept end.Stopped before told written after w k = Appends-kept before written after _ w k
writes_kept end.Writer before told written after w k = tt
writes_kept end.Memory before told written after w k = Appends-kept before written after _ w k

printed_at : (e ending : ScriptEnd) (before : Known) (told : List Answer) (written after : Known) → (e ≡ ending) ⊎ (e ≡ end.Writer) → Writes ending before told written → Keeps written after → Writes e before told after
printed_at e ending before told written after (inl same) w k = subst (λ z. Writes z before told after) (sym same) (writes_kept ending before told written after w k)
printed_at e ending before told written after (inr writer) w k = subst (λ z. Writes z before told after) (sym writer) tt

ends_at : (e ending : ScriptEnd) (lines : List (List ℕ)) (count : ℕ) → (e ≡ ending) ⊎ (e ≡ end.Writer) → EndsAfter lines count ending → EndsAfter lines count e
ends_at e ending lines count (inl same) ends = subst (λ z. EndsAfter lines count z) (sym same) ends
ends_at e ending lines count (inr writer) ends = subst (λ z. EndsAfter lines count z) (sym writer) tt

-- a script ends as its lines did, or by its sink
ends_so : {K : Type 0} (k : SinkGhosts K) (ending : ScriptEnd) (told : K) (e : ScriptEnd) (after : K) → EndsAsLines k ending told e after → (e ≡ ending) ⊎ (e ≡ end.Writer)
ends_so k ending told e after (inl same) = inl same.0
ends_so k ending told e after (inr failed) = inr failed.0

module _ {X : Type 0} (Reads : ReadingRelation) (admin : TheName) where
  -- a server that works has not ended a script
  goes_on : (e ending : ScriptEnd) (opened server : Server MemStore X) (events : List ServerEvent) (answers : List Answer) → (e ≡ ending) ⊎ (e ≡ end.Writer) → EndsAt Reads memory_store_state ending opened events answers server
      → server.stopped ≡ false → e ≡ end.Stopped → ⊥
  goes_on e ending opened server events answers (inl same) ends goes is =
      let stops : EndsAt Reads memory_store_state end.Stopped opened events answers server = subst (λ z. EndsAt Reads memory_store_state z opened events answers server) (sym same ∙ is) ends in
      let contrary : true ≡ false = sym stops.1 ∙ goes in
      cc
  goes_on e ending opened server events answers (inr writer) ends goes is = let contrary : end.Writer ≡ end.Stopped = sym writer ∙ is in cc

  -- over the new database in memory a script prints the answers of the session machine
  pub prints_run : {K : Type 0} (k : SinkGhosts K) (opened : Server MemStore X) (script : List ℕ) (before : K) (e : ScriptEnd) (last : Server MemStore X) (after : K)
      → Represents memory_store_state opened (at_start (new_state admin) (new_database admin))
      → IsScriptRun Reads memory_store_state k opened (lines_of script) before e last after → PrintsRun Reads admin script (k.held before) e (k.held after)
  prints_run k opened script before e last after represents run =
      let start = at_start (new_state admin) (new_database admin) in
      let lines = run.ran in
      let ends = ends_so k run.ending run.told e after run.ends in
      let to = lines.ran tt start represents in
      let Leave = stops_of (memory_store_state run.server.store).time in
      let works : to.0.standing.machine.stopped ≡ false = run_lasts Reads Leave start to.0 (events_of 0 lines.events) lines.answers to.2 to.1.counts.failures refl in
      let goes : run.server.stopped ≡ false = sym to.1.stopped ∙ works in
      let zero : IsZero to.0.counts = record { number = to.1.counts.number goes; fulls = to.1.counts.fulls; failures = to.1.counts.failures } in
      record {
        count = lines.count;
        events = lines.events;
        answers = lines.answers;
        names = lines.names;
        last = to.0.standing.machine;
        requested = lines.requested;
        ran = run_answers Reads Leave start to.0 (events_of 0 lines.events) lines.answers to.2 zero;
        printed = printed_at e run.ending (k.held before) lines.answers (k.held run.told) (k.held after) ends lines.written run.kept;
        ends = ends_at e run.ending (lines_of script) lines.count ends lines.ends;
        works = goes_on e run.ending opened run.server lines.events lines.answers ends lines.ends_at goes;
      }
