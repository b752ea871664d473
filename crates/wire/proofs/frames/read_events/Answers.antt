use Rattle.std.proofs.Common.{◌≡◌, ◌+◌, ◌-◌, ℕ, List, [], ◌∷◌, ◌++◌, true, false, length, take, drop, sym, ◌∙◌, ap, subst, arith}
use Rattle.std.proofs.lemmas.List.{length-drop, take_rest}
use Rattle.sql_types.specs.declared.event.Event.{Event}
use Rattle.wire.specs.Frame.{NextFrame, next_frame}
use Rattle.wire.specs.Views.{viewed_event}
use Rattle.wire.proofs.NextFrames.{whole_size}
use Rattle.wire.proofs.Streams.{Behind, all_read, event_read}
use Rattle.wire.proofs.frames.read_events.Goals as goal

-- a slice to the end
at_rest : (bytes : List ℕ) (end : ℕ) (f : NextFrame) → f ≡ next_frame (take (length bytes - end) (drop end bytes)) → next_frame (drop end bytes) ≡ f
at_rest bytes end f is = ap next_frame (sym (take_rest bytes end)) ∙ sym is

pub returns-in-Incomplete-clause-spelled : goal.returns-in-Incomplete-clause-spelled
returns-in-Incomplete-clause-spelled c = all_read c.args.bytes.now c.loop-events.events.items c.loop-events.end false c.loop-events.invariant.read (at_rest c.args.bytes.now c.loop-events.end _ c.in-Incomplete.ensures)

pub returns-in-Bad-clause-spelled : goal.returns-in-Bad-clause-spelled
returns-in-Bad-clause-spelled c = all_read c.args.bytes.now c.loop-events.events.items c.loop-events.end true c.loop-events.invariant.read (at_rest c.args.bytes.now c.loop-events.end _ c.in-Bad.ensures)

pub overflow_add-end : goal.overflow_add-end
overflow_add-end c =
    let s = whole_size (drop c.loop-events.end c.args.bytes.now) (viewed_event c.in-Whole.event) c.in-Whole.size (at_rest c.args.bytes.now c.loop-events.end _ c.in-Whole.ensures) in
    omega (arith, s.1, length-drop c.loop-events.end c.args.bytes.now, c.loop-events.invariant.inside)

pub loop-events-smaller : goal.loop-events-smaller
loop-events-smaller c =
    let s = whole_size (drop c.loop-events.end c.args.bytes.now) (viewed_event c.in-Whole.event) c.in-Whole.size (at_rest c.args.bytes.now c.loop-events.end _ c.in-Whole.ensures) in
    omega (arith, s.0, s.1, length-drop c.loop-events.end c.args.bytes.now, c.loop-events.invariant.inside)

pub loop-events-preserved : goal.loop-events-preserved
loop-events-preserved c =
    let s = whole_size (drop c.loop-events.end c.args.bytes.now) (viewed_event c.in-Whole.event) c.in-Whole.size (at_rest c.args.bytes.now c.loop-events.end _ c.in-Whole.ensures) in
    let next = event_read c.args.bytes.now c.loop-events.events.items (viewed_event c.in-Whole.event) c.loop-events.end c.in-Whole.size c.loop-events.invariant.read (at_rest c.args.bytes.now c.loop-events.end _ c.in-Whole.ensures) in
    let event : c.in_ok-to_event-in-Whole.field-0 ≡ viewed_event c.in-Whole.event = c.in_ok-to_event-in-Whole.ensures in
    let pushed : c.push.new.self.items ≡ c.loop-events.events.items ++ (c.in_ok-to_event-in-Whole.field-0 ∷ []) = c.in_ok-push-in-Whole.ensures.items in
    record {
      inside = omega (arith, s.1, length-drop c.loop-events.end c.args.bytes.now, c.loop-events.invariant.inside);
      read = subst (λ (es : List Event). Behind c.args.bytes.now es (drop (c.loop-events.end + c.in-Whole.size) c.args.bytes.now))
          (sym (pushed ∙ ap (λ (e : Event). c.loop-events.events.items ++ (e ∷ [])) event)) next;
    }
