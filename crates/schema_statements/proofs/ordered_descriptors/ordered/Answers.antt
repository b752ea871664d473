use Rattle.std.proofs.Common.{◌<◌, length, sym, arith}
use Rattle.schema_statements.proofs.Orders.{few_in_order}
use Rattle.schema_statements.proofs.ordered_descriptors.ordered.Goals as goal

pub returns-then-len-lt2 : goal.returns-then-len-lt2
returns-then-len-lt2 c =
    let few : length c.args.list.items < 2 = omega (arith, c.len.ensures, c.args.list.ok.0, c.if-len-lt2.true) in
    sym (few_in_order c.args.list.items few)
