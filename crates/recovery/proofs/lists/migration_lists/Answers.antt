use Rattle.std.proofs.Common.{sym, ◌∙◌}
use Rattle.recovery.proofs.Placing.{fault_of_first}
use Rattle.recovery.proofs.lists.migration_lists.Goals as goal

pub returns-in-Err-clause-spelled : goal.returns-in-Err-clause-spelled
returns-in-Err-clause-spelled g c = λ s.
    let old = g.S.Map.state c.args.store.now in
    fault_of_first old.record_format (sym c.record_format.ensures ∙ c.in-V1.is) c.in-Err.fault old.map (c.in-Err.ensures.spelled s)
