use Rattle.stored_database.proofs.Wholeness.{shown_described}
use Rattle.stored_database.proofs.databases.shown_databases_are_described.Goals as goal

pub returns : goal.returns
returns c = shown_described
