use Rattle.store.specs.Batch.{all_changes}
use Rattle.store.proofs.Apart.{joined_ordered}
use Rattle.store.proofs.pieces.Pieces.are_later.Goals as goal

-- all others come before the first of them
pub returns-then-all_end_before : goal.returns-then-all_end_before
returns-then-all_end_before c =
    λ is. joined_ordered c.in-Some.key.now (all_changes c.args.self.now.list.items) (all_changes c.args.pieces.now) c.args.self.now.ordered c.requires (c.all_end_before.ensures c.if-all_end_before.true) c.in-Some.ensures
