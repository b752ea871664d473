-- What is said at several places to whoever comes while as many are served as may be.
use Rattle.std.proofs.Common.{arith, ◌≡◌, ◌<◌, ◌∷◌, [], ◌++◌, ℕ, List, length, append-nil, subst}
use Rattle.std.specs.Global.{Vec}
use Rattle.cli.specs.declared.served_place.NamedPlace.{NamedPlace}
use Rattle.cli.specs.SeveralTalks.{AreCrowdedSaid, protocols_of}

-- no place is left
pub all_said : (places left : List NamedPlace) (said : List (Vec ℕ)) → length left < 1 → ((more : List (Vec ℕ)) → AreCrowdedSaid (protocols_of left) more → AreCrowdedSaid (protocols_of places) (said ++ more)) → AreCrowdedSaid (protocols_of places) said
all_said places [] said none so = subst (λ (l : List (Vec ℕ)). AreCrowdedSaid (protocols_of places) l) (append-nil said) (so [] tt)
all_said places (p ∷ ps) said none so = absurd (omega (arith, none))
