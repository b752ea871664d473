use Rattle.std.proofs.Common.{subst}
use Rattle.cli.specs.declared.ending.Ending.{Ending}
use Rattle.cli.specs.declared.ending.Subject.TheVariants.{Named}
use Rattle.cli.specs.Ending.{ExitsAfter}
use Rattle.cli.specs.ScriptNotes.{HasToldNotes}
use Rattle.cli.proofs.runs.run_text_over_file.Goals as goal

pub returns : goal.returns
returns g c = record {
  end = c.run_file-outcome.result;
  first = c.exit_after-exit.result;
  heard = g.E.Write.contents c.run_file-outcome.new.err;
  told = g.E.Write.contents c.exit_after-exit.new.err;
  runs = c.run_file-outcome.ensures;
  ends = subst (λ (e : Ending). ExitsAfter c.run_file-outcome.result.told (Named c.args.file) e c.exit_after-exit.result (g.E.Write.contents c.run_file-outcome.new.err) (g.E.Write.contents c.exit_after-exit.new.err))
      c.end_of_run-ending.ensures c.exit_after-exit.ensures;
  noted = subst (λ (e : Ending). HasToldNotes c.exit_after-exit.result (Named c.args.script) c.args.text.now e c.note_after.result (g.E.Write.contents c.exit_after-exit.new.err) (g.E.Write.contents c.note_after.new.err))
      c.end_of_run-ending.ensures c.note_after.ensures;
}
