use Rattle.std.proofs.Common.{◌^◌, ◌<◌, arith}
use Rattle.planner.proofs.MaskBits.{not_zero}
use Rattle.planner.proofs.masks.covers_some.Goals as goal

pub returns : goal.returns
returns c = let fits : c.args.mask < 2 ^ 32 = omega arith in not_zero c.args.mask fits
