use Rattle.std.proofs.Common.{◌∙◌, ◌++◌, ℕ, List, sym, ap, subst}
use Rattle.std.specs.List.{AllByRecursion}
use Rattle.store.specs.Records.{Changes, IsChangeSize}
use Rattle.journal.specs.Changes.{changes_then}
use Rattle.journal.proofs.RecordFormat.{one_piece_more, holds_in_piece}
use Rattle.journal.proofs.batch.push_pieces.Goals as goal

pub push_changes-requires : goal.push_changes-requires
push_changes-requires c =
    subst (λ (cs : Changes). AllByRecursion IsChangeSize cs) (sym c.as_slice.ensures)
    (holds_in_piece IsChangeSize c.args.pieces.now c.loop-piece.piece-index c.piece-item.result c.loop-piece-test.true c.piece-item.is c.requires)

pub loop-piece-preserved : goal.loop-piece-preserved
loop-piece-preserved c rest =
    let piece = c.piece-item.result in
    c.in_ok-push_changes.ensures rest
    ∙ ap (λ (cs : Changes). c.loop-piece.out.items ++ changes_then cs rest) c.as_slice.ensures
    ∙ c.loop-piece.invariant (changes_then piece rest)
    ∙ ap (λ (bytes : List ℕ). c.args.out.now.items ++ bytes) (sym (one_piece_more c.args.pieces.now c.loop-piece.piece-index piece rest c.loop-piece-test.true c.piece-item.is))
