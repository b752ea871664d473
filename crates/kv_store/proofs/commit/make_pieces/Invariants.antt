use Rattle.std.proofs.Common.{◌≡◌, false, Ok, take}
use Rattle.cow_pages.specs.Cow.{has_failed}
use Rattle.cow_pages.specs.Preserved.{IsPreserved}
use Rattle.store.specs.Batch.{all_changes}
use Rattle.kv_store.specs.Batches.{MakesChanges}
use Rattle.kv_store.proofs.commit.make_pieces.Given as goal

-- the changes of the pieces so far are made
abbrev pub invariant-loop-piece : goal.invariant-loop-piece
invariant-loop-piece g l = record {
  preserved : IsPreserved l.fn.pages l.pages;
  works : has_failed l.fn.pages ≡ false → has_failed l.pages ≡ false;
  made : MakesChanges (all_changes (take l.piece-index l.pieces)) (Ok tt) l.fn.pages l.pages;
}
