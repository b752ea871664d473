use Rattle.key_ranges.proofs.Unchanged.{ranges_lose_nothing}
use Rattle.key_ranges.proofs.laws.ranges_lose_nothing.Goals as goal

pub returns : goal.returns
returns c = ranges_lose_nothing
