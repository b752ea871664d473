use Rattle.cli.proofs.RefusedRuns.{refusals_end}
use Rattle.cli.proofs.refusals.refusals_end_runs.Goals as goal

pub returns : goal.returns
returns g c = refusals_end g.X.EventHandler.Reads g.S.Map.state g.K.Sink g.E.Write.contents
