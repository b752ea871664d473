use Rattle.std.proofs.Common.{◌∙◌, sym, ap}
use Rattle.store.specs.Records.{entry_at}
use Rattle.store.specs.InPieces.{changes_of}
use Rattle.store.proofs.Apart.{none_behind}
use Rattle.store.proofs.batch.Batch.find.Goals as goal

-- all changes are of lesser keys
pub returns-then-all_end_before : goal.returns-then-all_end_before
returns-then-all_end_before c = sym (none_behind c.args.key.now (changes_of c.self.inside.changes) (c.all_end_before.ensures c.if-all_end_before.true)) ∙ ap (entry_at c.args.key.now) c.self.view_is
