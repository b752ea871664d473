use Rattle.gathering.specs.contracts.keyed_row.KeyedRowOrd.TheImpl.Laws as laws
use Rattle.gathering.proofs.Ordered.{sort_is}
use Rattle.gathering.proofs.row_order.in_order_of_keys.Goals as goal

pub returns : goal.returns
returns c = sort_is laws.total-law c.args.rows.items c.sort.new.self.items c.in_ok-sort.ensures.sorted c.in_ok-sort.ensures.stable
