use Rattle.cli.proofs.runs.run_text.Goals as goal

pub returns : goal.returns
returns g c = record {
  ending = c.run_in_memory-ending.result;
  first = c.exit_with-exit.result;
  heard = g.E.Write.contents c.exit_with-exit.new.err;
  runs = c.run_in_memory-ending.ensures.runs;
  ends = record { status = c.exit_with-exit.ensures.status; told = c.exit_with-exit.ensures.told; silent = c.exit_with-exit.ensures.silent };
  noted = c.note_after.ensures;
}
