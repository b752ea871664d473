use Rattle.journal.proofs.Chaining.{one_chain}
use Rattle.journal.proofs.chain_laws.one_journal.Goals as goal

pub returns : goal.returns
returns c region root room es other journal also = one_chain region root 0 0 room es other journal.chain also.chain
