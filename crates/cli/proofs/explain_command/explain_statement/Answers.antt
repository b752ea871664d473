use Rattle.cli.proofs.explain_command.explain_statement.Goals as goal

pub returns : goal.returns
returns g c =
    record {
      read = c.read_file-read.result;
      reads = c.read_file-read.ensures;
      ended = c.print_explanation-ending.result;
      explained = c.print_explanation-ending.ensures;
      ends = record { status = c.exit_with.ensures.status; told = c.exit_with.ensures.told; silent = c.exit_with.ensures.silent };
    }
