use Rattle.std.proofs.Common.{◌∷◌, [], ◌∙◌, sym, ap, subst}
use Rattle.store.specs.Records.{Changes, IsOrdered, applied}
use Rattle.store.specs.InPieces.{changes_of}
use Rattle.store.specs.Held.{AreHeld, records_of}
use Rattle.store.proofs.InOrder.{one_made, start_ordered}
use Rattle.store.proofs.Held.{last_held, others_held}
use Rattle.store.proofs.memory.MemStore.make_all.Goals as goal

pub make-requires : goal.make-requires
make-requires c =
    last_held c.pop.new.self c.in-Some.change (changes_of c.loop-change.self.entries)
    (subst (λ (cs : Changes). AreHeld cs (changes_of c.loop-change.self.entries)) c.in-Some.ensures.last c.loop-change.invariant.held)

-- no change is left
pub returns-clause-made : goal.returns-clause-made
returns-clause-made c =
    sym (ap (λ (cs : Changes). applied cs (records_of c.loop-change.self.entries)) c.in_default.ensures.none) ∙ c.loop-change.invariant.whole

-- the last change that is left is made, and those before it are left
pub loop-change-preserved : goal.loop-change-preserved
loop-change-preserved c =
    let rising = subst (λ (cs : Changes). IsOrdered cs) c.in-Some.ensures.last c.loop-change.invariant.rising in
    let held = subst (λ (cs : Changes). AreHeld cs (changes_of c.loop-change.self.entries)) c.in-Some.ensures.last c.loop-change.invariant.held in
    record {
      record_format = c.make.ensures.record_format ∙ c.loop-change.invariant.record_format;
      whole = one_made c.loop-change.batch c.pop.new.self c.in-Some.change (records_of c.loop-change.self.entries) _ _ c.in-Some.ensures.last c.make.ensures.made c.loop-change.invariant.whole;
      rising = start_ordered c.pop.new.self (c.in-Some.change ∷ []) rising;
      held = others_held c.pop.new.self c.in-Some.change (changes_of c.loop-change.self.entries) _ rising held c.make.ensures.elsewhere;
    }
