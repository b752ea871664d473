use Rattle.std.proofs.Common.{◌≡◌, ◌+◌, ℕ, List, Option, None, ap, sym, ◌∙◌, subst}
use Rattle.std.specs.List.{AllByRecursion}
use Rattle.store.specs.Records.{Changes, IsOrdered, IsChangeSize, lookup}
use Rattle.transactions.specs.Views.{or_earlier}
use Rattle.transactions.proofs.Pieces.{piece_has, front_has, piece_more, ordered_parts, all_parts, unnamed_parts}
use Rattle.transactions.proofs.changes.add_list.Goals as goal

pub add_changes-requires-clause-ordered : goal.add_changes-requires-clause-ordered
add_changes-requires-clause-ordered c =
    let whole = c.pieces-pieces.ensures in
    subst IsOrdered (sym c.as_slice.ensures)
    (piece_has IsOrdered ordered_parts c.pieces-pieces.result.now c.loop-piece.piece-index c.piece-item.result c.loop-piece-test.true c.piece-item.is (subst IsOrdered (sym whole.changes) whole.ordered))

pub add_changes-requires-clause-sizes : goal.add_changes-requires-clause-sizes
add_changes-requires-clause-sizes c =
    let whole = c.pieces-pieces.ensures in
    subst (λ (cs : Changes). AllByRecursion IsChangeSize cs) (sym c.as_slice.ensures)
    (piece_has (λ cs. AllByRecursion IsChangeSize cs) (all_parts IsChangeSize) c.pieces-pieces.result.now c.loop-piece.piece-index c.piece-item.result c.loop-piece-test.true c.piece-item.is
    (subst (λ (cs : Changes). AllByRecursion IsChangeSize cs) (sym whole.changes) whole.sizes))

pub loop-piece-preserved : goal.loop-piece-preserved
loop-piece-preserved c =
    let pieces = c.pieces-pieces.result.now in
    let whole = c.pieces-pieces.ensures in
    let old = c.args.joined.now in
    let was = c.loop-piece.invariant in
    let is = c.in_ok-add_changes.ensures in
    let added = λ (key : List ℕ). piece_more key pieces c.loop-piece.piece-index c.piece-item.result old c.loop-piece.joined c.add_changes.new.joined c.loop-piece-test.true c.piece-item.is
    (subst IsOrdered (sym whole.changes) whole.ordered) (was.added key)
    (is.added key ∙ ap (λ (cs : Changes). or_earlier (lookup key cs) (lookup key c.loop-piece.joined)) c.as_slice.ensures) in
    record {
      ordered = is.order;
      added = added;
      elsewhere = λ key none.
          added key ∙ ap (λ (word : Option (Option (List ℕ))). or_earlier word (lookup key old))
          (front_has (λ cs. lookup key cs ≡ None) (unnamed_parts key) (c.loop-piece.piece-index + 1) pieces (ap (lookup key) whole.changes ∙ none));
    }

pub returns-in_err-add_changes-clause-elsewhere : goal.returns-in_err-add_changes-clause-elsewhere
returns-in_err-add_changes-clause-elsewhere c key none =
    let whole = c.pieces-pieces.ensures in
    let missing = piece_has (λ cs. lookup key cs ≡ None) (unnamed_parts key) c.pieces-pieces.result.now c.loop-piece.piece-index c.piece-item.result c.loop-piece-test.true c.piece-item.is (ap (lookup key) whole.changes ∙ none) in
    c.in_err-add_changes.ensures.elsewhere key (ap (lookup key) c.as_slice.ensures ∙ missing) ∙ c.loop-piece.invariant.elsewhere key none
