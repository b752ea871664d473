-- Records of no rows.
use Rattle.std.proofs.Common.{◌≡◌, List, [], ◌∷◌, map, refl}

pub none_left : {X Y : Type 0} (f : X → Y) (xs : List X) → [] ≡ map f xs → xs ≡ []
none_left f [] e = refl
none_left f (x ∷ xs) e = cc
