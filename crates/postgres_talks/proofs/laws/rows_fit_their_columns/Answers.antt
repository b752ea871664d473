use Rattle.postgres_talks.proofs.Fits.{fit_in_batches, fit_in_portals, fit_in_queries}
use Rattle.postgres_talks.proofs.laws.rows_fit_their_columns.Goals as goal

pub returns : goal.returns
returns c = record { queries = fit_in_queries; batches = fit_in_batches; portals = fit_in_portals }
