use Rattle.std.proofs.Common.{◌∙◌}
use Rattle.storage_sizes.proofs.Numbers.{eight_are}
use Rattle.storage_sizes.proofs.key_order.number_at.Goals as goal

pub returns : goal.returns
returns c = c.from_be_bytes.ensures ∙ eight_are c.args.bytes.now c.args.at c.requires
