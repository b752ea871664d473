use Rattle.std.proofs.Common.{ℕ, List, subst}
use Rattle.std.specs.Prelude.{Ok}
use Rattle.cli.specs.declared.ending.Subject.TheVariants.{Named}
use Rattle.cli.specs.Program.{RunsBytesOver}
use Rattle.cli.proofs.Earlier.{bytes_from}
use Rattle.cli.proofs.runs.run_over_file.Goals as goal

pub returns-in-Ok : goal.returns-in-Ok
returns-in-Ok g c =
    let old = g.Y.System.state c.args.system.now in
    let mid = g.Y.System.state c.read_script.new.system in
    let new = g.Y.System.state c.run_bytes_over_file.new.system in
    let read = c.in-Ok.ensures in
    let over = bytes_from g.row.X.Denot g.Y.Device.Device g.K.Sink g.X.EventHandler.Reads old mid c.args.file.now read.same read.counts (Named c.args.file) (Named c.args.script) c.as_slice.result.now c.run_bytes_over_file.result new c.args.out.now
    c.run_bytes_over_file.new.out (g.E.Write.contents c.args.err.now) (g.E.Write.contents c.run_bytes_over_file.new.err) c.run_bytes_over_file.ensures in
    record {
      source = Ok c.in-Ok.read;
      read = read.read;
      runs = subst (λ (bytes : List ℕ). RunsBytesOver g.row.X.Denot g.Y.Device.Device g.K.Sink g.X.EventHandler.Reads old (Named c.args.file) c.args.file.now (Named c.args.script) bytes c.run_bytes_over_file.result new c.args.out.now
          c.run_bytes_over_file.new.out (g.E.Write.contents c.args.err.now) (g.E.Write.contents c.run_bytes_over_file.new.err)) c.as_slice.ensures.value over;
    }
