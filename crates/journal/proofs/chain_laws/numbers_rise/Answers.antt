use Rattle.journal.proofs.Chaining.{numbered}
use Rattle.journal.proofs.chain_laws.numbers_rise.Goals as goal

pub returns : goal.returns
returns c region image root p top new = numbered region image root p top new
