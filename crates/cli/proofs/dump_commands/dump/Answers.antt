use Rattle.std.proofs.Common.{subst}
use Rattle.cli.specs.declared.ending.Subject.{Subject}
use Rattle.cli.specs.Ending.{Exits}
use Rattle.cli.proofs.dump_commands.dump.Goals as goal

pub returns : goal.returns
returns g c =
    let before = g.E.Write.contents c.args.err.now in
    let after = g.E.Write.contents c.exit_with.new.err in
    record {
      dumped = c.dump_file-dumped.result;
      dumps = c.dump_file-dumped.ensures.dumps;
      ending = c.end_of_dump-ending.result;
      answered = c.end_of_dump-ending.ensures;
      ends = subst (λ (about : Subject). Exits about c.end_of_dump-ending.result c.exit_with.result before after) c.subject_of_copy.ensures
          (record { status = c.exit_with.ensures.status; told = c.exit_with.ensures.told; silent = c.exit_with.ensures.silent });
    }
