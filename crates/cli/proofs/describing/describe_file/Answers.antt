use Rattle.std.proofs.Common.{subst}
use Rattle.cli.specs.declared.ending.Subject.{Subject}
use Rattle.cli.specs.Ending.{Exits}
use Rattle.cli.proofs.describing.describe_file.Goals as goal

pub returns : goal.returns
returns g c =
    let ending = c.print_description-ending.result in
    let before = g.E.Write.contents c.args.err.now in
    let after = g.E.Write.contents c.exit_with.new.err in
    record {
      read = c.read_file-read.result;
      reads = c.read_file-read.ensures;
      ending = ending;
      described = c.print_description-ending.ensures;
      ends = subst (λ (about : Subject). Exits about ending c.exit_with.result before after) c.subject_of.ensures
          (record { status = c.exit_with.ensures.status; told = c.exit_with.ensures.told; silent = c.exit_with.ensures.silent });
    }
