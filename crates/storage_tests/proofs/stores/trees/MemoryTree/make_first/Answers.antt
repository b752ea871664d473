use Rattle.std.proofs.Common.{subst, sym}
use Rattle.std.specs.List.{AllByRecursion}
use Rattle.store.specs.Records.{Changes, IsChangeSize}
use Rattle.kv_store.proofs.InTurn.{holds_in_piece}
use Rattle.storage_tests.proofs.stores.trees.MemoryTree.make_first.Goals as goal

pub change_first-requires-clause-sizes : goal.change_first-requires-clause-sizes
change_first-requires-clause-sizes c =
    subst (λ (cs : Changes). AllByRecursion IsChangeSize cs) (sym c.as_slice-changes.ensures)
    (holds_in_piece IsChangeSize c.pieces-piece-items.result.now c.loop-piece.piece-index c.piece-item.result c.loop-piece-test.true c.piece-item.is
    (subst (λ (cs : Changes). AllByRecursion IsChangeSize cs) (sym c.pieces-piece-items.ensures.changes) c.pieces-piece-items.ensures.sizes))
