use Rattle.std.proofs.Common.{ℕ, List, sym, subst}
use Rattle.std.specs.Io.KnownBytes.{Appends}
use Rattle.wire.specs.Telling.{session_of}
use Rattle.wire.proofs.script_run.run_event.Goals as goal

pub returns-then-has_stopped-clause-runs : goal.returns-then-has_stopped-clause-runs
returns-then-has_stopped-clause-runs g c =
    let it = c.in-Ok.ensures.told in
    let taken = subst (λ (text : List ℕ). Appends (g.K.Sink.held c.args.sink.now) (g.K.Sink.held c.answer_event.new.sink) text) (g.met.K.TakesText.takes_text (session_of c.args.event.now) it.0.answer) it.1.taken in
    ((it.0, it.1, taken), sym c.if-has_stopped.ensures.stopped)

pub returns-clause-runs : goal.returns-clause-runs
returns-clause-runs g c =
    let it = c.in-Ok.ensures.told in
    let taken = subst (λ (text : List ℕ). Appends (g.K.Sink.held c.args.sink.now) (g.K.Sink.held c.answer_event.new.sink) text) (g.met.K.TakesText.takes_text (session_of c.args.event.now) it.0.answer) it.1.taken in
    ((it.0, it.1, taken), sym c.if-has_stopped.ensures.stopped)
