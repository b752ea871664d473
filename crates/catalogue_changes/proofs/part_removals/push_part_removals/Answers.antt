use Rattle.std.proofs.Common.{option_to_list, ap}
use Rattle.std.specs.Option.{option_copied}
use Rattle.catalogue_changes.proofs.RemovalLemmas.{parts_added}
use Rattle.catalogue_changes.proofs.part_removals.push_part_removals.Goals as goal

pub returns-in-Ok-clause-ok : goal.returns-in-Ok-clause-ok
returns-in-Ok-clause-ok g c = λ s.
    parts_added c.push_row_removals.result (g.M.Map.state c.args.map.now).map c.in-Some.table.now c.id.result (option_to_list (option_copied c.args.table))
    c.args.out.now c.push_definition_removals.new.out c.push_row_removals.new.out
    (ap (λ o. option_to_list (option_copied o)) c.in-Some.is) c.id.ensures c.in-Ok.ensures.ok (c.push_row_removals.ensures.ok s)
