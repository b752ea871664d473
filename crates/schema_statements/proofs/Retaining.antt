-- A test that stays as it is keeps what passes it.
use Rattle.std.proofs.Common.{◌≡◌, ◌∙◌, ◌∷◌, [], Bool, true, false, cond, List, filter, length, refl, ap, subst}
use Rattle.std.specs.List.Retain.{IsFiltered, ReturnsInTurn}
use Rattle.std.specs.List.{items_where_true}

module _ {X P : Type 0} (R : P → X → Bool → P → Type 0) (test : X → Bool) (p : P) (says : (x : X) (b : Bool) (q : P) → R p x b q → (b ≡ test x) × (q ≡ p)) where
  first : (b : Bool) (bs : List Bool) (x : X) (xs : List X) → items_where_true (b ∷ bs) (x ∷ xs) ≡ cond b (x ∷ items_where_true bs xs) (items_where_true bs xs)
  first true bs x xs = refl
  first false bs x xs = refl

  kept : (bs : List Bool) (xs : List X) (q : P) → length bs ≡ length xs → ReturnsInTurn R p bs xs q → items_where_true bs xs ≡ filter test xs
  kept [] [] q e h = refl
  kept [] (x ∷ xs) q e h = cc
  kept (b ∷ bs) [] q e h = absurd h
  kept (b ∷ bs) (x ∷ xs) q e h =
      let said = says x b h.0 h.1 in
      let rest = kept bs xs q (cc) (subst (λ (j : P). ReturnsInTurn R j bs xs q) said.1 h.2) in
      first b bs x xs ∙ ap (λ (l : List X). cond b (x ∷ l) l) rest ∙ ap (λ (t : Bool). cond t (x ∷ filter test xs) (filter test xs)) said.0

  pub filtered : (xs ys : List X) → IsFiltered R p xs ys → ys ≡ filter test xs
  filtered xs ys h = h.4 ∙ kept h.0 xs h.1 h.2 h.3
