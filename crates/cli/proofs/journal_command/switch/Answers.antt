use Rattle.cli.proofs.journal_command.switch.Goals as goal

pub returns : goal.returns
returns g c = record {
  switched = c.switch_journal-switched.result;
  switches = c.switch_journal-switched.ensures;
  ending = c.end_of_switch-ending.result;
  answered = c.end_of_switch-ending.ensures;
  ends = record { status = c.exit_with.ensures.status; told = c.exit_with.ensures.told; silent = c.exit_with.ensures.silent };
}
