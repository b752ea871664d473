use Rattle.key_ranges.proofs.Unchanged.{look_ups_lose_nothing}
use Rattle.key_ranges.proofs.laws.look_ups_lose_nothing.Goals as goal

pub returns : goal.returns
returns c = look_ups_lose_nothing
