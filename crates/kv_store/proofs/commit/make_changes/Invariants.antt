use Rattle.std.proofs.Common.{◌≡◌, ◌≤◌, ◌-◌, false, Ok, length, take}
use Rattle.cow_pages.specs.Cow.{has_failed}
use Rattle.cow_pages.specs.Preserved.{IsPreserved}
use Rattle.kv_store.specs.Batches.{MakesChanges}
use Rattle.kv_store.proofs.commit.make_changes.Given as goal

-- the changes so far are made
abbrev pub invariant-loop-made : goal.invariant-loop-made
invariant-loop-made g l = record {
  inside : l.made ≤ length l.changes;
  preserved : IsPreserved l.fn.pages l.pages;
  works : has_failed l.fn.pages ≡ false → has_failed l.pages ≡ false;
  made : MakesChanges (take l.made l.changes) (Ok tt) l.fn.pages l.pages;
}

abbrev pub decreases-loop-made : goal.decreases-loop-made
decreases-loop-made g l = length l.changes - l.made
