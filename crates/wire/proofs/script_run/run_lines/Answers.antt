use Rattle.std.proofs.Common.{◌+◌, ℕ, List, [], sym, refl, arith}
use Rattle.std.proofs.lemmas.List.{length-map, get_or-map}
use Rattle.std.specs.Borrow.{Bor}
use Rattle.store.proofs.Reading.{history_joined}
use Rattle.wire.specs.SessionNames.{names_of, texts_of}
use Rattle.wire.specs.ScriptRun.{progress_of}
use Rattle.wire.proofs.Running.{ends_here, goes_on_here, none_so_far, history_kept}
use Rattle.wire.proofs.script_run.run_lines.Goals as goal

pub loop-text-init : goal.loop-text-init
loop-text-init g c = record {
  counted = refl;
  history = history_kept (g.S.Map.state c.args.server.now.store);
  so_far = rw c.new-numbers.ensures (none_so_far g.X.EventHandler.Reads g.S.Map.state g.K.Sink c.args.server.now c.args.sink.now);
}

pub returns-in-Some-clause-runs : goal.returns-in-Some-clause-runs
returns-in-Some-clause-runs g c =
    ends_here g.X.EventHandler.Reads g.S.Map.state g.K.Sink c.args.server.now (progress_of (names_of c.loop-text.numbers) c.loop-text.server c.loop-text.sink)
    (progress_of (names_of c.run_line.new.numbers) c.run_line.new.server c.run_line.new.sink) (texts_of c.args.lines.now) _ c.loop-text.text-index c.loop-text.number
    c.args.sink.now c.in-Some.end c.loop-text.invariant.history c.loop-text.invariant.so_far (omega (arith, length-map c.args.lines.now (λ name. name.now)))
    (sym (get_or-map (λ (name : Bor (List ℕ)). name.now) c.args.lines.now c.loop-text.text-index (record { ref_ptr = (0, 0); now = [] }) [] (omega arith))) c.loop-text.invariant.counted c.in-Some.ensures.runs

pub loop-text-preserved : goal.loop-text-preserved
loop-text-preserved g c = record {
  counted = omega (arith, c.loop-text.invariant.counted);
  history = history_joined (g.S.Map.state c.args.server.now.store) (g.S.Map.state c.loop-text.server.store) (g.S.Map.state c.run_line.new.server.store) c.loop-text.invariant.history c.in_default.ensures.history;
  so_far = goes_on_here g.X.EventHandler.Reads g.S.Map.state g.K.Sink c.args.server.now (progress_of (names_of c.loop-text.numbers) c.loop-text.server c.loop-text.sink)
      (progress_of (names_of c.run_line.new.numbers) c.run_line.new.server c.run_line.new.sink) (texts_of c.args.lines.now) _ c.loop-text.text-index (c.loop-text.number + 1)
      c.args.sink.now c.loop-text.invariant.history c.loop-text.invariant.so_far (omega (arith, length-map c.args.lines.now (λ name. name.now)))
      (sym (get_or-map (λ (name : Bor (List ℕ)). name.now) c.args.lines.now c.loop-text.text-index (record { ref_ptr = (0, 0); now = [] }) [] (omega arith))) c.in_default.ensures.runs;
}
