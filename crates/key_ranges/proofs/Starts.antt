-- Bytes that begin with others.
use Rattle.std.proofs.Common.{◌≡◌, ℕ, nat_eq, ◌&&◌, List, [], ◌∷◌, refl, ap}
use Rattle.std.specs.List.{starts_with}
use Rattle.store.specs.Records.{has_prefix}

pub begins_is : (front bytes : List ℕ) → starts_with nat_eq bytes front ≡ has_prefix front bytes
begins_is [] [] = refl
begins_is [] (y ∷ bytes) = refl
begins_is (x ∷ front) [] = refl
begins_is (x ∷ front) (y ∷ bytes) = ap (λ b. nat_eq x y && b) (begins_is front bytes)
