use Rattle.database_laws.proofs.StartLemmas.{block_started, start_warned, ends_warned}
use Rattle.database_laws.proofs.blocks.blocks_start.Goals as goal

pub returns-clause-begin : goal.returns-clause-begin
returns-clause-begin c = block_started

pub returns-clause-again : goal.returns-clause-again
returns-clause-again c = start_warned

pub returns-clause-outside : goal.returns-clause-outside
returns-clause-outside c = ends_warned
