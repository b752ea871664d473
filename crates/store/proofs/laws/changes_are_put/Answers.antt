use Rattle.store.proofs.Changes.{put_applied}
use Rattle.store.proofs.laws.changes_are_put.Goals as goal

pub returns : goal.returns
returns c = put_applied
