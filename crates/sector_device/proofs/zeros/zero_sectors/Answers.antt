use Rattle.std.proofs.Common.{◌≡◌, ℕ, List, Result, Ok, Err, IfOk, replicate, Vec, Global}
use Rattle.std.specs.Array.{AllZipBelow}
use Rattle.std.proofs.lemmas.List.Elements.{same_from_all_zip}
use Rattle.sector_device.proofs.zeros.zero_sectors.Goals as goal

copies : {V E : Type 0} (items : V → List (List ℕ)) (R : ℕ → ℕ → Type 0) (x : List ℕ) (n : ℕ) (r : Result V E) → ((a b : ℕ) → R a b → b ≡ a)
    → IfOk r (λ v. ((y : List ℕ) → AllZipBelow R x y 512 → y ≡ x) → items v ≡ replicate n x) → IfOk r (λ v. items v ≡ replicate n x)
copies items R x n (Ok v) same made = made (λ y clone. same_from_all_zip R x y clone.whole same)
copies items R x n (Err e) same made = made

pub returns : goal.returns
returns c = copies (λ (v : Vec (List ℕ) Global). v.items) _ _ _ _ (λ a b e. e) c.vec.ensures.items_if_clones_equal
