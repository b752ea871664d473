use Rattle.postgres_talks.proofs.Statements.{statement}
use Rattle.postgres_talks.proofs.laws.bound_statements_are_written.Goals as goal

pub returns : goal.returns
returns c = statement (record { written = c.labels_and_values_add_no_token.ensures })
