use Rattle.std.proofs.Common.{ℕ, List, subst}
use Rattle.std.specs.Prelude.{Ok}
use Rattle.cli.specs.ExplainedRuns.{ExplainsBytes}
use Rattle.cli.proofs.ExplainedEarlier.{explained_from}
use Rattle.cli.proofs.explained_runs.explain.Goals as goal

pub returns-in-Ok : goal.returns-in-Ok
returns-in-Ok g c =
    let old = g.Y.System.state c.args.system.now in
    let mid = g.Y.System.state c.read_script.new.system in
    let new = g.Y.System.state c.explain_bytes.new.system in
    let read = c.in-Ok.ensures in
    let done = c.explain_bytes.result in
    let from = explained_from g.row.X.Denot g.Y.Device.Device g.K.Sink g.E.Write.contents g.X.EventHandler.Reads old mid read.same read.counts c.args.out c.args.err new done c.args.run c.as_slice.result.now c.explain_bytes.ensures in
    record {
      source = Ok c.in-Ok.read;
      read = read.read;
      explains = subst (λ (bytes : List ℕ). ExplainsBytes g.row.X.Denot g.Y.Device.Device g.K.Sink g.E.Write.contents g.X.EventHandler.Reads old c.args.run bytes c.args.out c.args.err new done) c.as_slice.ensures.value from;
    }
