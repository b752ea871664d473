use Rattle.key_ranges.proofs.Records.{ranges_hold_their_rows}
use Rattle.key_ranges.proofs.laws.ranges_hold_their_rows.Goals as goal

pub returns : goal.returns
returns c = ranges_hold_their_rows
