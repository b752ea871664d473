use Rattle.std.proofs.Common.{refl, subst}
use Rattle.cli.specs.declared.ending.Ending.{Ending}
use Rattle.cli.specs.declared.ending.Subject.TheVariants.{Named}
use Rattle.cli.specs.Ending.{ExitsAfter}
use Rattle.cli.specs.ScriptNotes.{HasToldNotes}
use Rattle.cli.proofs.explained_runs.end_explained.Goals as goal

pub returns : goal.returns
returns g c = record {
  first = c.exit_after-exit.result;
  heard = g.E.Write.contents c.exit_after-exit.new.err;
  out = refl;
  ends = subst (λ (e : Ending). ExitsAfter c.args.sink.told c.args.about e c.exit_after-exit.result (g.E.Write.contents c.args.sink.err) (g.E.Write.contents c.exit_after-exit.new.err))
      c.explained_ending-ending.ensures c.exit_after-exit.ensures;
  noted = subst (λ (e : Ending). HasToldNotes c.exit_after-exit.result (Named c.args.sink.script) c.args.text.now e c.note_after-exit.result (g.E.Write.contents c.exit_after-exit.new.err) (g.E.Write.contents c.note_after-exit.new.err))
      c.explained_ending-ending.ensures c.note_after-exit.ensures;
}
