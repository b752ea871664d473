use Rattle.std.proofs.Common.{true, rules}
use Rattle.std.specs.Ordering.{int_cmp}
use Rattle.std.proofs.lemmas.Cmp.{back_total, int_cmp_total, on_total}
use Rattle.gathering.specs.RowOrder.{key_number}
use Rattle.gathering.proofs.RowOrder.{Numbered, all_numbered, keys_fall, sorted_by_closure}
use Rattle.gathering.proofs.row_order.in_falling_order.Goals as goal

pub returns : goal.returns
returns c = sorted_by_closure (λ r. record { 0 = key_number r }) (λ x y. int_cmp y.0 x.0) (on_total (λ x. x.0) (back_total int_cmp_total)) (Numbered true) keys_fall c.args.rows.items _ (all_numbered true c.args.rows.items c.requires)
    c.in_ok-sort_by_cached_key.ensures.sorted c.in_ok-sort_by_cached_key.ensures.stable (λ h a r k called. search rules)
