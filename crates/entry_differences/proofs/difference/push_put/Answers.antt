use Rattle.entry_differences.proofs.AddLemmas.{added_value}
use Rattle.entry_differences.proofs.difference.push_put.Goals as goal

pub returns : goal.returns
returns c =
    added_value c.put.result c.args.entry.now.0 c.key.result.now c.args.entry.now.1 c.value.result.now c.args.out.now c.put.new.self c.pieces-in_order.ensures.ordered c.key.ensures c.value.ensures
    c.put.ensures.ok
