use Rattle.std.proofs.Common.{◌∙◌, sym, subst, ap, Some}
use Rattle.store.specs.Records.{Changes, changed}
use Rattle.store.specs.Batch.{IsBatch}
use Rattle.store.specs.InPieces.{changes_of}
use Rattle.store.proofs.Places.{batch_changed}
use Rattle.store.proofs.batch.Batch.record.Goals as goal

-- the change is put among the others
pub returns-clause-ok : goal.returns-clause-ok
returns-clause-ok c = c.in_ok-put.ensures.ok ∙ ap (λ (cs : Changes). changed c.args.change.0 (Some c.args.change.1) cs) c.self.view_is

-- the changes are as they were
pub invariant_of-self : goal.invariant_of-self
invariant_of-self c = subst IsBatch (sym c.in_err-put.ensures.err) c.self.invariant

-- keys rise still, and each size is one that a store takes
pub invariant_of-self-2 : goal.invariant_of-self-2
invariant_of-self-2 c = subst IsBatch (sym c.in_ok-put.ensures.ok) (batch_changed c.args.change.0 c.args.change.1 (changes_of c.self.inside.changes) c.self.invariant c.requires)
