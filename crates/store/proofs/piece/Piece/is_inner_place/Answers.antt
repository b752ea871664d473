use Rattle.std.proofs.Common.{◌≡◌, ◌∙◌, ◌-◌, ℕ, suc, true, false, arith, sym, subst}
use Rattle.store.specs.Place.{IsPlace, has_lesser_key_at}
use Rattle.store.proofs.InOrder.{place_after_lesser}
use Rattle.store.proofs.piece.Piece.is_inner_place.Goals as goal

-- the change before the index has a lesser key, and the one at it has not
pub returns : goal.returns
returns c =
    λ is_place.
    let es = c.args.self.now in
    let not_less = sym c.has_lesser_key_at.ensures ∙ c.if-has_lesser_key_at.false in
    let less : has_lesser_key_at c.args.key.now (c.args.at - 1) es ≡ true = sym c.has_lesser_key_at-2.ensures ∙ is_place in
    let next : suc (c.args.at - 1) ≡ c.args.at = omega (arith, c.if-at-eq0.false) in (
      subst (λ (n : ℕ). IsPlace c.args.key.now n es) next (place_after_lesser c.args.key.now (c.args.at - 1) es c.requires less (subst (λ (n : ℕ). has_lesser_key_at c.args.key.now n es ≡ false) (sym next) not_less)),
      (omega (arith, c.if-at-eq0.false), omega (arith, c.if-at-len.false, c.len.ensures)),
    )
