use Rattle.postgres_talks.proofs.Labelling.{as_many, no_labels, same_rows}
use Rattle.postgres_talks.proofs.laws.labels_rename_columns.Goals as goal

pub returns : goal.returns
returns c = record { as_many = as_many; same_rows = same_rows; none = no_labels }
