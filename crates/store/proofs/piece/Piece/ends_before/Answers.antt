use Rattle.std.proofs.Common.{◌≡◌, ◌-◌, ◌∙◌, List, ℕ, Some, length, slice_get, sym, ap, subst}
use Rattle.std.specs.Ordering.{is_lt}
use Rattle.store.specs.Records.{Changes, key_cmp}
use Rattle.store.proofs.InPieces.{ends_by_last}
use Rattle.store.proofs.piece.Piece.ends_before.Goals as goal

-- the last change stands at the end
pub returns-in-Some : goal.returns-in-Some
returns-in-Some c =
    let there = subst (λ (es : Changes). slice_get es (length es - 1) ≡ Some c.in-Some.change.now) (c.deref.ensures.value ∙ c.self.view_is) (sym c.in-Some.ensures.value) in
    c.comes_before.ensures ∙ ap (λ (k : List ℕ). is_lt (key_cmp k c.args.key.now)) c.key.ensures ∙ sym (ends_by_last c.args.key.now c.args.self.now c.in-Some.change.now there)
