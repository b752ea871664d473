use Rattle.std.proofs.Common.{◌∙◌, take, sym, subst}
use Rattle.store.specs.Records.{Changes}
use Rattle.store.specs.Batch.{all_changes}
use Rattle.store.specs.InPieces.{changes_of}
use Rattle.store.specs.Held.{AreHeld}
use Rattle.store.proofs.InPieces.{all_taken_more}
use Rattle.store.proofs.Held.{all_kept, both_held}
use Rattle.store.proofs.memory.MemStore.hold_all.Goals as goal

-- those of one piece more have entries
pub loop-piece-preserved : goal.loop-piece-preserved
loop-piece-preserved c =
    let ps = c.args.pieces.now in
    let before = all_changes (take c.loop-piece.piece-index ps) in
    let new = changes_of c.hold_each.new.self.entries in
    record {
      record_format = c.hold_each.ensures.record_format ∙ c.loop-piece.invariant.record_format;
      same = c.hold_each.ensures.same ∙ c.loop-piece.invariant.same;
      held = subst (λ (cs : Changes). AreHeld cs new) (sym (all_taken_more ps c.loop-piece.piece-index c.piece-item.result c.loop-piece-test.true))
          (both_held before _ new (all_kept before (changes_of c.loop-piece.self.entries) new c.hold_each.ensures.kept c.loop-piece.invariant.held)
          (subst (λ (cs : Changes). AreHeld cs new) (c.as_slice.ensures ∙ c.piece-item.is) c.in_ok-hold_each.ensures.held));
    }
