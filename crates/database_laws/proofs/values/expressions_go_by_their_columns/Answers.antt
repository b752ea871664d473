use Rattle.database_laws.proofs.ValueLemmas.{decided, fails_first}
use Rattle.database_laws.proofs.values.expressions_go_by_their_columns.Goals as goal

pub returns-clause-columns : goal.returns-clause-columns
returns-clause-columns c = decided

pub returns-clause-operands : goal.returns-clause-operands
returns-clause-operands c = λ cell users t a code is e. fails_first cell users code t a is e
