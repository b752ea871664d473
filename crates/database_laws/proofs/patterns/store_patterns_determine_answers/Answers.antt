use Rattle.database_laws.proofs.StorePatternLemmas.{store_patterns_determine}
use Rattle.database_laws.proofs.patterns.store_patterns_determine_answers.Goals as goal

pub returns : goal.returns
returns g c = store_patterns_determine g.R.Reader.Reads g.S.Stopping.Leave g.T.Stopping.Leave
