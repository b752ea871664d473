use Rattle.std.proofs.Common.{◌∙◌, ◌++◌, ℕ, List, sym, ap}
use Rattle.store.specs.Records.{IsChangeSize}
use Rattle.journal.specs.Changes.{change_then}
use Rattle.journal.proofs.RecordFormat.{one_change_more, holds_at}
use Rattle.journal.proofs.batch.push_changes.Goals as goal

pub push_change-requires : goal.push_change-requires
push_change-requires c = holds_at IsChangeSize c.args.changes.now c.loop-change.change-index c.change-item.result c.loop-change-test.true c.change-item.is c.requires

pub loop-change-preserved : goal.loop-change-preserved
loop-change-preserved c rest =
    let change = c.change-item.result in
    c.in_ok-push_change.ensures rest
    ∙ c.loop-change.invariant (change_then change.0 change.1 rest)
    ∙ ap (λ (bytes : List ℕ). c.args.out.now.items ++ bytes) (sym (one_change_more c.args.changes.now c.loop-change.change-index change rest c.loop-change-test.true c.change-item.is))
