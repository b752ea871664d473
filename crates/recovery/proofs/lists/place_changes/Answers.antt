use Rattle.std.proofs.Common.{sym, ◌∙◌, subst}
use Rattle.entry_differences.specs.Additions.{HaveRecordSizes}
use Rattle.recovery.proofs.Placing.{sizes_after}
use Rattle.recovery.proofs.lists.place_changes.Goals as goal

pub push_differences-requires-clause-new : goal.push_differences-requires-clause-new
push_differences-requires-clause-new c =
    subst HaveRecordSizes (sym (c.as_slice.ensures.value ∙ c.in_ok-came.ensures.placed)) (sizes_after c.args.removed.now c.in_ok-came.ensures.room)
