use Rattle.std.proofs.Common.{Result, subst, ap, ◌∙◌}
use Rattle.cli.specs.declared.copy_fault.CopyRefusal.{CopyRefusal}
use Rattle.cli.specs.declared.ending.Subject.{Subject}
use Rattle.cli.specs.CopyCommand.{GivesJournal, copy_subject}
use Rattle.cli.specs.Ending.{Exits}
use Rattle.cli.proofs.Restored.{restored_with}
use Rattle.cli.proofs.dump_commands.restore.Goals as goal

pub returns : goal.returns
returns g c =
    let restored = c.restore_file-restored.result in
    let given = c.give_journal-given.result in
    let made = c.restore_file-restored.new.system in
    let last = c.give_journal-given.new.system in
    let before = g.E.Write.contents c.args.err.now in
    let after = g.E.Write.contents c.exit_with.new.err in
    record {
      restored = restored;
      given = given;
      restores = restored_with g.Y.Device.Device g.Y.System.state (g.Y.System.state c.args.system.now) c.args.file.now c.args.new.now c.args.pages c.args.journal restored given made last c.restore_file-restored.ensures.restores
          (subst (λ (copied : Result (Unit {0}) CopyRefusal). GivesJournal g.Y.Device.Device g.Y.System.state c.args.journal copied made c.args.new.now given last) c.without_roles-made.ensures c.give_journal-given.ensures);
      ending = c.end_of_restore-ending.result;
      answered = c.end_of_restore-ending.ensures;
      ends = subst (λ (about : Subject). Exits about c.end_of_restore-ending.result c.exit_with.result before after)
          (c.subject_of_copy.ensures ∙ ap (λ (copied : Result (Unit {0}) CopyRefusal). copy_subject c.args.file c.args.new copied) c.without_roles-made.ensures)
          (record { status = c.exit_with.ensures.status; told = c.exit_with.ensures.told; silent = c.exit_with.ensures.silent });
    }
