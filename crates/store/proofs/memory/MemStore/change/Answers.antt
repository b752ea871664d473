use Rattle.std.proofs.Common.{◌∙◌, ◌++◌, [], ap, subst}
use Rattle.store.specs.Records.{Changes, IsOrdered, applied}
use Rattle.store.specs.InPieces.{changes_of}
use Rattle.store.proofs.Changes.{ordered_applied}
use Rattle.store.proofs.Turns.{changes_in_turn}
use Rattle.store.proofs.memory.MemStore.change.Goals as goal

pub move_behind-requires : goal.move_behind-requires
move_behind-requires c = subst (λ (cs : Changes). IsOrdered (changes_of c.args.self.now.entries ++ cs)) c.pieces.ensures.changes (c.are_later.ensures c.if-not-are_later.false)

pub invariant_of-self : goal.invariant_of-self
invariant_of-self c = record { ordered = ordered_applied (changes_of c.move_behind.new.entries) [] tt }

-- changes behind all others are made after them
pub returns-clause-made : goal.returns-clause-made
returns-clause-made c =
    let es = changes_of c.args.self.now.entries in
    let rising = subst (λ (cs : Changes). IsOrdered (es ++ cs)) c.pieces.ensures.changes (c.are_later.ensures c.if-not-are_later.false) in
    ap (λ (cs : Changes). applied cs []) c.in_ok-move_behind.ensures.ok
    ∙ changes_in_turn es c.args.batch.now [] rising tt
