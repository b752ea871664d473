use Rattle.database_laws.proofs.HoldingLemmas.{column_covered, some_column_given, some_column_had}
use Rattle.database_laws.proofs.privileges.columns_have_privileges.Goals as goal

pub returns-clause-covered : goal.returns-clause-covered
returns-clause-covered c = λ db role table a index. column_covered db role table a index

pub returns-clause-some_column : goal.returns-clause-some_column
returns-clause-some_column c = λ db role table a. (some_column_given db role table a, λ h. some_column_had db role table a h.0 h.1 h.2)
