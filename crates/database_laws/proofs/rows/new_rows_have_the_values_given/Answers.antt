use Rattle.database_laws.proofs.ColumnLemmas.{found_by_name, given_values, assigned_values}
use Rattle.database_laws.proofs.rows.new_rows_have_the_values_given.Goals as goal

pub returns-clause-found : goal.returns-clause-found
returns-clause-found c = found_by_name

pub returns-clause-given : goal.returns-clause-given
returns-clause-given c = given_values

pub returns-clause-assigned : goal.returns-clause-assigned
returns-clause-assigned c = assigned_values
