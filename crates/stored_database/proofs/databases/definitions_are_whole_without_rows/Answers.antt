use Rattle.stored_database.proofs.Wholeness.{whole_without_rows}
use Rattle.stored_database.proofs.databases.definitions_are_whole_without_rows.Goals as goal

pub returns : goal.returns
returns c = whole_without_rows
