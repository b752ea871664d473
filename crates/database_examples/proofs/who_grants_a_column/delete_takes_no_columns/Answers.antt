use Rattle.database_examples.proofs.who_grants_a_column.delete_takes_no_columns.Goals as goal

pub returns : goal.returns
returns c = λ read. read.each.0.form
