use Rattle.database_laws.proofs.StoreRunLemmas.{long_is_own, full_is_own, close_is_own}
use Rattle.database_laws.proofs.runs.limits_come_before_the_store.Goals as goal

pub returns-clause-texts : goal.returns-clause-texts
returns-clause-texts g c = λ bound old new m after number text answer long s. long_is_own g.R.Reader.Reads old new m after answer bound number text long s

pub returns-clause-openings : goal.returns-clause-openings
returns-clause-openings g c = λ old new m after number login answer full s. full_is_own g.R.Reader.Reads old new m after answer number login full s

pub returns-clause-closes : goal.returns-clause-closes
returns-clause-closes g c = λ old new m after number answer s. close_is_own g.R.Reader.Reads old new m after answer number s
