use Rattle.std.proofs.Common.{◌≡◌, ◌-◌, ◌∙◌, List, ℕ, Some, length, slice_get, sym, ap, subst}
use Rattle.store.specs.Records.{Changes}
use Rattle.store.specs.Walks.{is_within}
use Rattle.store.proofs.Stops.{within_by_last}
use Rattle.store.proofs.piece.Piece.ends_within.Goals as goal

-- the last change stands at the end
pub returns-in-Some : goal.returns-in-Some
returns-in-Some c =
    let there = subst (λ (es : Changes). slice_get es (length es - 1) ≡ Some c.in-Some.change.now) (c.deref.ensures.value ∙ c.self.view_is) (sym c.in-Some.ensures.value) in
    c.is_within.ensures ∙ ap (λ (k : List ℕ). is_within c.args.stop.now k) c.key.ensures ∙ sym (within_by_last c.args.stop.now c.args.self.now c.in-Some.change.now there)
