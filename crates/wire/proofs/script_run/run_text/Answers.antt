use Rattle.std.proofs.Common.{◌==◌, ◌∙◌, ap, subst, arith}
use Rattle.std.proofs.lemmas.Iterator.Splits.{YieldsList-from_str_split}
use Rattle.std.proofs.lemmas.Iterator.Consumers.{map_from_collect}
use Rattle.std.proofs.lemmas.List.Splits.{length-slice_split}
use Rattle.wire.specs.SessionNames.{texts_of}
use Rattle.wire.specs.ScriptRun.{RunsLines, lines_of}
use Rattle.wire.proofs.Running.{ran_none}
use Rattle.wire.proofs.script_run.run_text.Goals as goal

pub returns-in_default-clause-runs : goal.returns-in_default-clause-runs
returns-in_default-clause-runs g c =
    ran_none g.X.EventHandler.Reads g.S.Map.state g.K.Sink c.args.server.now (lines_of c.args.script.now) c.args.sink.now (omega (arith, length-slice_split (λ byte. byte == 10) c.args.script.now))

pub returns-clause-runs : goal.returns-clause-runs
returns-clause-runs g c =
    let lines = map_from_collect _ c.collect.ensures.ran (YieldsList-from_str_split 10 c.args.script.now (omega arith) c.split.ensures.text c.split.ensures.has_more c.split.ensures.pattern) in
    let read = rw c.in-Ok.is at lines in
    subst (λ ls. RunsLines g.X.EventHandler.Reads g.S.Map.state g.K.Sink c.args.server.now ls c.args.sink.now c.run_lines.result c.run_lines.new.server c.run_lines.new.sink) (ap texts_of c.as_slice.ensures.value ∙ read) c.run_lines.ensures.runs
