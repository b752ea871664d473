use Rattle.std.proofs.Common.{subst}
use Rattle.cli.specs.declared.ending.Subject.{Subject}
use Rattle.cli.specs.Ending.{Exits}
use Rattle.cli.proofs.GivenJournals.{copied_with}
use Rattle.cli.proofs.copy_command.copy.Goals as goal

pub returns : goal.returns
returns g c =
    let copied = c.copy_file-copied.result in
    let given = c.give_journal-given.result in
    let made = c.copy_file-copied.new.system in
    let left = c.give_journal-given.new.system in
    let ending = c.end_of_copy-ending.ensures in
    let before = g.E.Write.contents c.args.err.now in
    let after = g.E.Write.contents c.exit_with.new.err in
    record {
      copied = copied;
      given = given;
      copies = copied_with g.Y.Device.Device g.Y.System.state (g.Y.System.state c.args.system.now) c.args.file.now c.args.new.now c.args.pages c.args.journal copied given made left c.copy_file-copied.ensures.copies c.give_journal-given.ensures;
      ending = c.end_of_copy-ending.result;
      answered = ending;
      ends = subst (λ (about : Subject). Exits about c.end_of_copy-ending.result c.exit_with.result before after) c.subject_of_copy.ensures
          (record { status = c.exit_with.ensures.status; told = c.exit_with.ensures.told; silent = c.exit_with.ensures.silent });
    }
