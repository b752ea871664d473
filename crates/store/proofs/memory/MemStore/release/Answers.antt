use Rattle.std.proofs.Common.{◌∙◌, [], ap}
use Rattle.store.specs.Records.{Changes, applied}
use Rattle.store.specs.InPieces.{changes_of}
use Rattle.store.proofs.Changes.{ordered_applied}
use Rattle.store.proofs.Held.{empty_removed}
use Rattle.store.proofs.memory.MemStore.release.Goals as goal

pub invariant_of-self : goal.invariant_of-self
invariant_of-self c = record { ordered = ordered_applied (changes_of c.remove.new.self) [] tt }

-- the entry stood for no record
pub returns-then-has_empty_entry-clause-same : goal.returns-then-has_empty_entry-clause-same
returns-then-has_empty_entry-clause-same c =
    ap (λ (es : Changes). applied es []) c.remove.ensures
    ∙ empty_removed c.args.key.now (changes_of c.args.self.now.entries) c.args.self.now.entries.ordered (c.has_empty_entry.ensures c.if-has_empty_entry.true)
