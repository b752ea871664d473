use Rattle.std.proofs.Common.{◌≡◌, ℕ, length, take, ap, sym, ◌∙◌, arith}
use Rattle.journal_store.specs.Room.{changes_in}
use Rattle.store.specs.Records.{Changes}
use Rattle.journal_store.proofs.Counted.{counted_more, counted_all, pieces_counted}
use Rattle.journal_store.proofs.room.left_after.Goals as goal

pub loop-piece-preserved : goal.loop-piece-preserved
loop-piece-preserved c =
    let more = counted_more c.pieces-pieces.result.now c.loop-piece.piece-index c.piece-item.result c.loop-piece-test.true c.piece-item.is in
    omega (arith, more, c.loop-piece.invariant, ap (λ (xs : Changes). length xs) c.as_slice-count.ensures, c.if-count-left.false)

pub returns : goal.returns
returns c =
    let pieces = c.pieces-pieces.result.now in
    let at : c.loop-piece.piece-index ≡ length pieces = omega (arith, c.loop-piece-test.false, c.loop-piece.auto.piece-index-end) in
    let all : changes_in (take c.loop-piece.piece-index pieces) ≡ changes_in pieces = ap (λ (n : ℕ). changes_in (take n pieces)) at ∙ counted_all pieces in
    let count : length c.args.batch.now ≡ changes_in pieces = ap (λ (xs : Changes). length xs) (sym c.pieces-pieces.ensures.changes) ∙ pieces_counted pieces in
    omega (arith, c.loop-piece.invariant, all, count)
