use Rattle.std.proofs.Common.{refl, inl, inr, ap}
use Rattle.store.specs.Store.{stored}
use Rattle.cli.specs.declared.ending.Ending.TheVariants as ending
use Rattle.cli.proofs.ScriptEnds.{none_open}
use Rattle.cli.proofs.running.run_script_over.Goals as goal

pub returns-in-Err-clause-runs : goal.returns-in-Err-clause-runs
returns-in-Err-clause-runs g c = inl (record {
  fault = c.in-Err.refused.fault;
  looked = c.in-Err.ensures.read;
  same = c.in-Err.ensures.same;
  cause = c.in-Err.ensures.cause;
  damaged = c.in-Err.ensures.damaged;
  unwritten = refl;
  ends = ap ending.Fault c.from.ensures;
})

pub returns-clause-runs : goal.returns-clause-runs
returns-clause-runs g c = inr (record {
  opened = c.in-Ok.server;
  last = c.run_script-end.new.server;
  is_opened = c.in-Ok.ensures.opened;
  runs = record { end = c.run_script-end.result; ran = c.run_script-end.ensures.runs; ends = c.from-2.ensures };
  closed = λ sound. c.run_script-end.ensures.left (
      none_open g.S.Map.state (stored (g.S.Map.state c.args.store)) c.in-Ok.server (c.in-Ok.ensures.history.sound sound) (c.in-Ok.ensures.opened sound)
      );
  left_is = c.into_store.ensures;
})
