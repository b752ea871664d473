use Rattle.std.proofs.Common.{◌≡◌, length, arith}
use Rattle.std.proofs.lemmas.Bool.Decides.{nat_tests}
use Rattle.gathering.proofs.RowOrder.{in_order_already}
use Rattle.gathering.proofs.top_rows.TopRows.into_sorted.Goals as goal

pub returns-then-sorted-len : goal.returns-then-sorted-len
returns-then-sorted-len c =
    let all : c.args.self.sorted ≡ length c.args.self.rows.items = grind (arith, nat_tests, c.if-sorted-len.true, c.len.ensures) in
    in_order_already c.args.self.sorted c.args.self.rows.items all c.args.self.ordered
