use Rattle.stored_database.proofs.Wholeness.{standing_whole, described_whole}
use Rattle.stored_database.proofs.databases.stored_databases_are_whole.Goals as goal

pub returns : goal.returns
returns c = record { stored = standing_whole; described = described_whole }
