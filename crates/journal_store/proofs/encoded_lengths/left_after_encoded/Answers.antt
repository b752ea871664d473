use Rattle.std.proofs.Common.{◌≡◌, ◌<◌, ◌+◌, ℕ, Option, sym, ap, subst, arith}
use Rattle.std.specs.Prelude.{MatchOption}
use Rattle.store.specs.Batch.{all_changes}
use Rattle.journal_store.specs.Encoded.{encoded_length}
use Rattle.journal_store.proofs.EncodedLengths.{one_piece_on}
use Rattle.journal_store.proofs.encoded_lengths.left_after_encoded.Goals as goal

pub returns-in_err-left : goal.returns-in_err-left
returns-in_err-left c =
    let on = one_piece_on c.pieces-pieces.result.now c.loop-piece.piece-index c.piece-item.result c.loop-piece-test.true c.piece-item.is in
    let piece : encoded_length c.as_slice.result.now ≡ encoded_length c.piece-item.result = ap encoded_length c.as_slice.ensures in
    let all : encoded_length (all_changes c.pieces-pieces.result.now) ≡ encoded_length c.args.batch.now = ap encoded_length c.pieces-pieces.ensures.changes in
    let more : c.args.most < encoded_length c.args.batch.now = omega (arith, on, piece, all, c.loop-piece.invariant, c.in_err-left.ensures) in
    subst (λ (left : Option ℕ). MatchOption left (c.args.most < encoded_length c.args.batch.now) (λ n. n + encoded_length c.args.batch.now ≡ c.args.most)) (sym c.from_residual.ensures) more

pub loop-piece-preserved : goal.loop-piece-preserved
loop-piece-preserved c =
    let on = one_piece_on c.pieces-pieces.result.now c.loop-piece.piece-index c.piece-item.result c.loop-piece-test.true c.piece-item.is in
    let piece : encoded_length c.as_slice.result.now ≡ encoded_length c.piece-item.result = ap encoded_length c.as_slice.ensures in
    omega (arith, on, piece, c.loop-piece.invariant, c.in_ok-left.ensures)
