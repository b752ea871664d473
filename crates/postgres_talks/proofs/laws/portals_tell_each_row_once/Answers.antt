use Rattle.postgres_talks.proofs.Fetching.{all_told, run_once, told_once}
use Rattle.postgres_talks.proofs.laws.portals_tell_each_row_once.Goals as goal

pub returns : goal.returns
returns c = record { pieces = told_once; joined = all_told; runs_once = run_once }
