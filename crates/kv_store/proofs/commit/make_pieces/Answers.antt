use Rattle.std.proofs.Common.{Ok, Err, take, subst, sym}
use Rattle.std.specs.List.{AllByRecursion}
use Rattle.cow_pages.specs.PreservedLaws.{preserved_joined}
use Rattle.page_tree.proofs.Faults.{fails}
use Rattle.store.specs.Records.{Changes, IsChangeSize}
use Rattle.store.specs.Batch.{all_changes}
use Rattle.kv_store.specs.Batches.{applied_in_turn, MakesChanges, LacksRoom}
use Rattle.kv_store.proofs.InTurn.{makes_more, one_more_piece, holds_in_piece}
use Rattle.kv_store.proofs.Room.{lacks_later, piece_within, err_fails}
use Rattle.kv_store.proofs.commit.make_pieces.Goals as goal

pub make_changes-requires : goal.make_changes-requires
make_changes-requires g c =
    subst (λ (cs : Changes). AllByRecursion IsChangeSize cs) (sym c.as_slice.ensures)
    (holds_in_piece IsChangeSize c.args.pieces.now c.loop-piece.piece-index c.piece-item.result c.loop-piece-test.true c.piece-item.is c.requires)

pub loop-piece-preserved : goal.loop-piece-preserved
loop-piece-preserved g c = record {
  preserved = preserved_joined c.args.pages.now c.loop-piece.pages c.make_changes.new.pages c.loop-piece.invariant.preserved c.in_ok-make_changes.ensures.preserved;
  works = λ worked. c.in_ok-make_changes.ensures.works (c.loop-piece.invariant.works worked);
  made = one_more_piece c.args.pieces.now c.loop-piece.piece-index c.piece-item.result c.args.pages.now c.loop-piece.pages c.make_changes.new.pages
      c.loop-piece-test.true c.piece-item.is c.loop-piece.invariant.preserved c.loop-piece.invariant.made
      (subst (λ (cs : Changes). MakesChanges cs (Ok tt) c.loop-piece.pages c.make_changes.new.pages) c.as_slice.ensures c.in_ok-make_changes.ensures.made);
}

pub returns-in_err-make_changes-clause-preserved : goal.returns-in_err-make_changes-clause-preserved
returns-in_err-make_changes-clause-preserved g c =
    preserved_joined c.args.pages.now c.loop-piece.pages c.make_changes.new.pages c.loop-piece.invariant.preserved c.in_err-make_changes.ensures.preserved

pub returns-in_err-make_changes-clause-made : goal.returns-in_err-make_changes-clause-made
returns-in_err-make_changes-clause-made g c faithful contents represents =
    let made = all_changes (take c.loop-piece.piece-index c.args.pieces.now) in
    let fault = c.in_err-make_changes.field-0.0 in
    fails c.from_residual.result fault _ _ c.from_residual.ensures.1
    (makes_more made c.as_slice.result.now c.args.pages.now c.loop-piece.pages c.make_changes.new.pages (Err fault) c.loop-piece.invariant.preserved
    c.loop-piece.invariant.made c.in_err-make_changes.ensures.made faithful contents represents)

pub returns-in_err-make_changes-clause-room : goal.returns-in_err-make_changes-clause-room
returns-in_err-make_changes-clause-room g c faithful records represents =
    let old = c.args.pages.now in
    let now = c.loop-piece.pages in
    let made = all_changes (take c.loop-piece.piece-index c.args.pieces.now) in
    let stand = c.loop-piece.invariant.made faithful records represents in
    let piece = c.piece-item.result in
    let within = piece_within c.args.pieces.now c.loop-piece.piece-index piece c.loop-piece-test.true c.piece-item.is in
    err_fails c.from_residual.result c.in_err-make_changes.field-0.0 _ c.from_residual.ensures.1
    (λ full. lacks_later records old (all_changes c.args.pieces.now) made piece within.0 now within.1 c.loop-piece.invariant.preserved
    (subst (λ (cs : Changes). LacksRoom cs (applied_in_turn made records) now) c.as_slice.ensures (c.in_err-make_changes.ensures.room stand.0 _ stand.1 full)))
