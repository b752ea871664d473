-- What is found in a list while it is gone through.
use Rattle.std.proofs.Common.{◌≡◌, ◌<◌, ◌+◌, ℕ, suc, Bool, true, false, cond, List, [], ◌∷◌, ◌++◌, filter, drop, get_or, length, sym, ap, ◌∙◌, subst, append_assoc, append-nil, add-one, inl, inr}
use Rattle.std.proofs.Math.Seq.{drop-cons}
use Rattle.abstract_database.specs.Whole.{Each}

-- what was found, and what the rest still has, is what all have
abbrev pub Finds : {Y : Type 0} → (Y → Bool) → List Y → List Y → List Y → Type 0
Finds test all rest found = found ++ filter test rest ≡ filter test all

module _ {Y : Type 0} (test : Y → Bool) (all : List Y) where
  pub takes : (y : Y) (rest found : List Y) → test y ≡ true → Finds test all (y ∷ rest) found → Finds test all rest (found ++ y ∷ [])
  takes y rest found e h =
      append_assoc found (y ∷ []) (filter test rest)
      ∙ ap (λ b. found ++ cond b (y ∷ filter test rest) (filter test rest)) (sym e)
      ∙ h

  pub passes : (y : Y) (rest found : List Y) → test y ≡ false → Finds test all (y ∷ rest) found → Finds test all rest found
  passes y rest found e h = ap (λ b. found ++ cond b (y ∷ filter test rest) (filter test rest)) (sym e) ∙ h

  pub ends : (found : List Y) → Finds test all [] found → found ≡ filter test all
  ends found h = sym (append-nil found) ∙ h

-- the rest of a slice from an element on
pub here : {X : Type 0} (xs : List X) (i : ℕ) (x : X) → x ≡ get_or xs i x → i < length xs → drop i xs ≡ x ∷ drop (i + 1) xs
here xs i x e lt = drop-cons xs i x lt ∙ ap (λ y. y ∷ drop (suc i) xs) (sym e) ∙ ap (λ n. x ∷ drop n xs) (sym (add-one i))

-- the same, where the list is gone through as a slice
module _ {Y : Type 0} (test : Y → Bool) (all slice : List Y) (same : slice ≡ all) (i : ℕ) (y : Y) (is : y ≡ get_or slice i y) (lt : i < length slice) where
  rest : drop i all ≡ y ∷ drop (i + 1) all
  rest = here all i y (is ∙ ap (λ s. get_or s i y) same) (subst (λ s. i < length s) same lt)

  pub slice_takes : (found : List Y) → test y ≡ true → Finds test all (drop i all) found → Finds test all (drop (i + 1) all) (found ++ y ∷ [])
  slice_takes found e h = takes test all y (drop (i + 1) all) found e (subst (λ r. Finds test all r found) rest h)

  pub slice_passes : (found : List Y) → test y ≡ false → Finds test all (drop i all) found → Finds test all (drop (i + 1) all) found
  slice_passes found e h = passes test all y (drop (i + 1) all) found e (subst (λ r. Finds test all r found) rest h)

-- what holds of each, and of one more
pub each_more : {X : Type 0} (P : X → Type 0) (xs : List X) (y : X) → Each P xs → P y → Each P (xs ++ y ∷ [])
each_more P [] y each one x (inl e) = subst P e one
each_more P [] y each one x (inr among) = absurd among
each_more P (z ∷ zs) y each one x (inl e) = each x (inl e)
each_more P (z ∷ zs) y each one x (inr among) = each_more P zs y (λ w k. each w (inr k)) one x among
