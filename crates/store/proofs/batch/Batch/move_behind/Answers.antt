use Rattle.std.proofs.Common.{◌∙◌, ◌++◌, sym, subst, ap}
use Rattle.store.specs.Records.{Changes, IsOrdered}
use Rattle.store.specs.Batch.{IsBatch, all_changes}
use Rattle.store.specs.InPieces.{changes_of}
use Rattle.store.proofs.batch.Batch.move_behind.Goals as goal

pub move_behind-requires : goal.move_behind-requires
move_behind-requires c = subst (λ (cs : Changes). IsOrdered (changes_of c.args.entries.now ++ cs)) (sym c.self.view_is) c.requires

-- the changes are as they were
pub invariant_of-self : goal.invariant_of-self
invariant_of-self c = subst IsBatch (sym (ap all_changes c.in_err-move_behind.ensures.given_back)) c.self.invariant

-- or there is none any more
pub invariant_of-self-2 : goal.invariant_of-self-2
invariant_of-self-2 c = subst IsBatch (sym (ap all_changes c.in_ok-move_behind.ensures.moved)) (record { ordered = tt; sizes = tt })

pub returns-clause-ok : goal.returns-clause-ok
returns-clause-ok c = c.in_ok-move_behind.ensures.ok ∙ ap (λ (cs : Changes). changes_of c.args.entries.now ++ cs) c.self.view_is
