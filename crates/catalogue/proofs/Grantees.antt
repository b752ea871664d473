-- The roles among grantees.
use Rattle.std.proofs.Common.{◌≡◌, Bool, ◌&&◌, List, [], ◌∷◌, refl, ap, ◌∙◌}
use Rattle.std.specs.List.{flat_map, list_all}
use Rattle.std.proofs.lemmas.List.Folds.{list_all-append}

-- a test of all that lists have together
pub all_together : {X Y : Type 0} (test : Y → Bool) (f : X → List Y) (xs : List X) → list_all test (flat_map f xs) ≡ list_all (λ x. list_all test (f x)) xs
all_together test f [] = refl
all_together test f (x ∷ xs) = list_all-append test (f x) (flat_map f xs) ∙ ap (λ (b : Bool). list_all test (f x) && b) (all_together test f xs)
