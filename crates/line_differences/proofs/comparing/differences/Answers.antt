use Rattle.std.proofs.Common.{◌≡◌, ◌++◌, ap, ◌∙◌}
use Rattle.entry_differences.specs.Differences.{differences, applied_in_turn}
use Rattle.line_differences.specs.Lines.{lines_of, changes_of}
use Rattle.line_differences.proofs.comparing.differences.Goals as goal

pub returns-clause-leads : goal.returns-clause-leads
returns-clause-leads c = λ old_order new_order.
    let old = lines_of c.args.old.now in
    let new = lines_of c.args.new.now in
    ap (λ cs. applied_in_turn cs old) (c.in_ok-push_differences.ensures ∙ ap (λ ds. changes_of ds ++ differences old new) c.new-found.ensures.items)
    ∙ c.differences_lead_to_records.ensures.all old new old_order new_order
