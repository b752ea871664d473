use Rattle.cli.proofs.program.check.Goals as goal

pub returns : goal.returns
returns g c = record {
  end = c.check_file-outcome.result;
  heard = g.E.Write.contents c.check_file-outcome.new.err;
  mid = c.check_file-outcome.new.system;
  checks = c.check_file-outcome.ensures;
  outcome = c.check_as_dump-outcome.result;
  reads = c.check_as_dump-outcome.ensures;
  ending = c.answer-ending.result;
  answered = c.answer-ending.ensures;
  ends = c.exit_after.ensures;
}
