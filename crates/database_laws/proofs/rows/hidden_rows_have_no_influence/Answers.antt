use Rattle.database_laws.proofs.WorldLemmas.{select_alike, agree_without_hidden}
use Rattle.database_laws.proofs.rows.hidden_rows_have_no_influence.Goals as goal

pub returns-clause-alike : goal.returns-clause-alike
returns-clause-alike c = λ users d e s agree on_d on_e. select_alike users d e agree on_d on_e s

pub returns-clause-gone : goal.returns-clause-gone
returns-clause-gone c = agree_without_hidden
