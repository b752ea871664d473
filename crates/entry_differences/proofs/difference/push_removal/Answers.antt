use Rattle.std.proofs.Common.{None}
use Rattle.entry_differences.proofs.AddLemmas.{added}
use Rattle.entry_differences.proofs.difference.push_removal.Goals as goal

pub returns : goal.returns
returns c = added c.remove.result c.args.entry.now.0 c.key.result.now None c.args.out.now c.remove.new.self c.pieces-in_order.ensures.ordered c.key.ensures c.remove.ensures.ok
