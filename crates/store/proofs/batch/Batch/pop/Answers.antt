use Rattle.store.specs.InPieces.{changes_of}
use Rattle.store.proofs.Apart.{batch_start}
use Rattle.store.proofs.batch.Batch.pop.Goals as goal

-- keys rise still, and each size is one that a store takes
pub invariant_of-self : goal.invariant_of-self
invariant_of-self c = batch_start (changes_of c.self.inside.changes) (changes_of c.pop.new.self) _ c.pop.ensures.last c.self.invariant
