-- What is put into a list in rising order leaves it so.
use Rattle.std.proofs.Common.{◌≡◌, cond, List, [], ◌∷◌, refl, sym, ap, ◌∙◌, inl, inr, Ordering, Less, Equal, Greater, is_lt, is_eq}
use Rattle.std.specs.Ordering.{ordering_reverse}
use Rattle.std.specs.Cmp.{IsTotalOrder}
use Rattle.abstract_database.specs.Lists.{Among, put, Rising}

module _ {X : Type 0} (cmp : X → X → Ordering) (total : IsTotalOrder cmp) where
  pub reversed : (x y : X) (o : Ordering) → cmp x y ≡ o → cmp y x ≡ ordering_reverse o
  reversed x y o e = total.antisymm y x ∙ ap ordering_reverse e

  pub before_all : (k y : X) (ys : List X) → Rising cmp (y ∷ ys) → cmp k y ≡ Less → (z : X) → Among z (y ∷ ys) → cmp k z ≡ Less
  before_all k y ys r e z (inl is) = sym (ap (cmp k) is) ∙ e
  before_all k y ys r e z (inr later) = total.trans k y z e (r.0 z later)

  module _ (joined : X → X → X) (alike : (x y z : X) → cmp x y ≡ Equal → cmp (joined y x) z ≡ cmp y z) where
    pub alike_behind : (x y z : X) → cmp x y ≡ Equal → cmp z (joined y x) ≡ cmp z y
    alike_behind x y z e = total.antisymm z (joined y x) ∙ ap ordering_reverse (alike x y z e) ∙ sym (total.antisymm z y)

    before_put_at : (o : Ordering) (x y z : X) (ys : List X) → cmp x y ≡ o → cmp z x ≡ Less → cmp z y ≡ Less → ((w : X) → Among w ys → cmp z w ≡ Less) → ((w : X) → Among w (put cmp joined x ys) → cmp z w ≡ Less) →
        (w : X) → Among w (cond (is_lt o) (x ∷ y ∷ ys) (cond (is_eq o) (joined y x ∷ ys) (y ∷ put cmp joined x ys))) → cmp z w ≡ Less
    before_put_at Less x y z ys e a b more go w (inl is) = sym (ap (cmp z) is) ∙ a
    before_put_at Less x y z ys e a b more go w (inr (inl is)) = sym (ap (cmp z) is) ∙ b
    before_put_at Less x y z ys e a b more go w (inr (inr later)) = more w later
    before_put_at Equal x y z ys e a b more go w (inl is) = sym (ap (cmp z) is) ∙ alike_behind x y z e ∙ b
    before_put_at Equal x y z ys e a b more go w (inr later) = more w later
    before_put_at Greater x y z ys e a b more go w (inl is) = sym (ap (cmp z) is) ∙ b
    before_put_at Greater x y z ys e a b more go w (inr later) = go w later

    before_put : (x z : X) (ys : List X) → cmp z x ≡ Less → ((w : X) → Among w ys → cmp z w ≡ Less) → (w : X) → Among w (put cmp joined x ys) → cmp z w ≡ Less
    before_put x z [] a more w (inl is) = sym (ap (cmp z) is) ∙ a
    before_put x z [] a more w (inr later) = absurd later
    before_put x z (y ∷ ys) a more w h =
        before_put_at (cmp x y) x y z ys refl a (more y (inl refl)) (λ v k. more v (inr k)) (before_put x z ys a (λ v k. more v (inr k))) w h

    put_rises_at : (o : Ordering) (x y : X) (ys : List X) → cmp x y ≡ o → Rising cmp (y ∷ ys) → Rising cmp (put cmp joined x ys) →
        Rising cmp (cond (is_lt o) (x ∷ y ∷ ys) (cond (is_eq o) (joined y x ∷ ys) (y ∷ put cmp joined x ys)))
    put_rises_at Less x y ys e r go = (before_all x y ys r e, r)
    put_rises_at Equal x y ys e r go = (λ w h. alike x y w e ∙ r.0 w h, r.1)
    put_rises_at Greater x y ys e r go = (before_put x y ys (reversed x y Greater e) r.0, go)

    pub put_rises : (x : X) (ys : List X) → Rising cmp ys → Rising cmp (put cmp joined x ys)
    put_rises x [] r = (λ w h. absurd h, tt)
    put_rises x (y ∷ ys) r = put_rises_at (cmp x y) x y ys refl r (put_rises x ys r.1)
