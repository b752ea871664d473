use Rattle.std.proofs.Common.{refl, inl, inr}
use Rattle.wire.proofs.Closings.{within_then, leaves_none}
use Rattle.wire.proofs.script_run.run_script.Goals as goal

pub returns-in_default-clause-runs : goal.returns-in_default-clause-runs
returns-in_default-clause-runs g c = record {
  ending = c.run_text-end.result;
  server = c.run_text-end.new.server;
  told = c.run_text-end.new.sink;
  ran = c.run_text-end.ensures.runs;
  closed = λ within. c.close_sessions.ensures.closes (
      within_then g.X.EventHandler.Reads g.S.Map.state c.args.server.now c.run_text-end.new.server c.run_text-end.ensures.runs.events c.run_text-end.ensures.runs.answers c.run_text-end.ensures.history.sound
      c.run_text-end.ensures.runs.ran within
      );
  kept = c.in_default.ensures.kept;
  ends = inr (refl, c.in_default.ensures.counts, c.in_default.ensures.fails);
}

pub returns-in_default-clause-left : goal.returns-in_default-clause-left
returns-in_default-clause-left g c within =
    let then = within_then g.X.EventHandler.Reads g.S.Map.state c.args.server.now c.run_text-end.new.server c.run_text-end.ensures.runs.events c.run_text-end.ensures.runs.answers
    c.run_text-end.ensures.history.sound c.run_text-end.ensures.runs.ran within in
    leaves_none g.X.EventHandler.Reads g.S.Map.state c.run_text-end.new.server c.close_sessions.new.server then (c.close_sessions.ensures.closes then)

pub returns-clause-runs : goal.returns-clause-runs
returns-clause-runs g c = record {
  ending = c.run_text-end.result;
  server = c.run_text-end.new.server;
  told = c.run_text-end.new.sink;
  ran = c.run_text-end.ensures.runs;
  closed = λ within. c.close_sessions.ensures.closes (
      within_then g.X.EventHandler.Reads g.S.Map.state c.args.server.now c.run_text-end.new.server c.run_text-end.ensures.runs.events c.run_text-end.ensures.runs.answers c.run_text-end.ensures.history.sound
      c.run_text-end.ensures.runs.ran within
      );
  kept = c.in-Ok.ensures.kept;
  ends = inl (refl, c.in-Ok.ensures.counts, c.in-Ok.ensures.stays);
}

pub returns-clause-left : goal.returns-clause-left
returns-clause-left g c within =
    let then = within_then g.X.EventHandler.Reads g.S.Map.state c.args.server.now c.run_text-end.new.server c.run_text-end.ensures.runs.events c.run_text-end.ensures.runs.answers
    c.run_text-end.ensures.history.sound c.run_text-end.ensures.runs.ran within in
    leaves_none g.X.EventHandler.Reads g.S.Map.state c.run_text-end.new.server c.close_sessions.new.server then (c.close_sessions.ensures.closes then)
