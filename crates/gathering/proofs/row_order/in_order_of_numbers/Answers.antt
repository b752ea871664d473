use Rattle.std.proofs.Common.{false, rules}
use Rattle.std.specs.Ordering.{int_cmp}
use Rattle.std.proofs.lemmas.Cmp.{int_cmp_total}
use Rattle.gathering.specs.RowOrder.{key_number}
use Rattle.gathering.proofs.RowOrder.{Numbered, all_numbered, keys_rise, sorted_by_closure}
use Rattle.gathering.proofs.row_order.in_order_of_numbers.Goals as goal

pub returns : goal.returns
returns c = sorted_by_closure key_number int_cmp int_cmp_total (Numbered false) keys_rise c.args.rows.items _ (all_numbered false c.args.rows.items c.requires)
    c.in_ok-sort_by_cached_key.ensures.sorted c.in_ok-sort_by_cached_key.ensures.stable (λ h a r k called. search rules)
