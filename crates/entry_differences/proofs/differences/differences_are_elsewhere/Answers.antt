use Rattle.entry_differences.proofs.DifferenceLemmas.{are_elsewhere}
use Rattle.entry_differences.proofs.differences.differences_are_elsewhere.Goals as goal

pub returns : goal.returns
returns c = are_elsewhere
