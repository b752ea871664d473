use Rattle.journal.proofs.Journals.{before_or_after}
use Rattle.journal.proofs.chain_laws.stop_during_append.Goals as goal

pub returns : goal.returns
returns c region image root room top es new = before_or_after region image root room top es new
