use Rattle.stored_database.proofs.Spelled.{described_shown}
use Rattle.stored_database.proofs.databases.described_databases_have_records.Goals as goal

pub returns : goal.returns
returns c = described_shown
