-- A key's place in the piece in which it belongs.
use Rattle.std.proofs.Common.{◌≡◌, ℕ, zero, suc, ◌<◌, ◌≤◌, Bool, true, false, if◌then◌else◌, List, [], ◌∷◌, Option, Some, None, IsSome, is_some, refl, ap, sym, ◌∙◌, subst, arith, length, get_or, slice_get}
use Rattle.store.specs.Records.{Changes, IsOrdered, entries_where, entry_at, entry_of, is_from, lookup}
use Rattle.store.specs.Batch.{all_changes}
use Rattle.store.specs.Place.{IsPlace, has_key, has_key_at}
use Rattle.store.specs.Pieces.{AreFilled, AreLess, IsHome, IsIndex, IsInnerPlace, IsSpot, ends_before, from_place}
use Rattle.store.proofs.Turns.{end_ordered}
use Rattle.store.proofs.Places.{entry_place}
use Rattle.store.proofs.InPieces.{all_lesser, before_rest, ends_less, lesser_pieces, lookup_home, piece_ordered, same_item}
use Rattle.store.proofs.InPlaces.{inner_lesser, place_before, placed, where-lesser}

-- ---- what a key's place says

home_inside : (key : List ℕ) (piece : ℕ) (ps : List Changes) → IsHome key piece ps → piece < length ps
home_inside key piece [] home = absurd home
home_inside key zero (p ∷ ps) home = omega arith
home_inside key (suc piece) (p ∷ ps) home = let rest = home_inside key piece ps home.1 in omega arith

pub spot_home : (key : List ℕ) (piece at : ℕ) (ps : List Changes) → IsSpot key piece at ps → piece < length ps → IsHome key piece ps
spot_home key piece at [] spot inside = absurd (omega arith)
spot_home key piece at (p ∷ ps) spot inside = spot.0

pub spot_place : (key : List ℕ) (piece at : ℕ) (ps : List Changes) (d : Changes) → IsSpot key piece at ps → piece < length ps → IsPlace key at (get_or ps piece d)
spot_place key piece at [] d spot inside = absurd (omega arith)
spot_place key piece at (p ∷ ps) d spot inside = subst (λ (es : Changes). IsPlace key at es) (same_item (p ∷ ps) piece [] d inside) spot.1

-- it is in no piece only where there is none
pub spot_nowhere : (key : List ℕ) (piece at : ℕ) (ps : List Changes) → IsSpot key piece at ps → length ps ≤ piece → ps ≡ []
spot_nowhere key piece at [] spot past = refl
spot_nowhere key piece at (p ∷ ps) spot past = let inside = home_inside key piece (p ∷ ps) spot.0 in absurd (omega arith)

-- a key that has a change has its place in a piece
pub spot_inside : (key : List ℕ) (piece at : ℕ) (ps : List Changes) → IsSpot key piece at ps → IsSome (lookup key (all_changes ps)) → piece < length ps
spot_inside key piece at [] spot some = let wrong : false ≡ true = some in cc
spot_inside key piece at (p ∷ ps) spot some = home_inside key piece (p ∷ ps) spot.0

from_home : (key : List ℕ) (piece at : ℕ) (ps : List Changes) (d : Changes) → IsOrdered (all_changes ps) → IsHome key piece ps → IsPlace key at (get_or ps piece d) → from_place piece at ps ≡ entries_where (is_from key) (all_changes ps)
from_home key piece at [] d o home place = absurd home
from_home key zero at (p ∷ ps) d o home place = placed key at p (all_changes ps) place home
from_home key (suc piece) at (p ∷ ps) d o home place =
    from_home key piece at ps d (end_ordered p (all_changes ps) o) home.1 place
    ∙ sym (where-lesser key p (all_changes ps) home.0)

-- the changes from the key on stand there
pub spot_from : (key : List ℕ) (piece at : ℕ) (ps : List Changes) → IsOrdered (all_changes ps) → IsSpot key piece at ps → from_place piece at ps ≡ entries_where (is_from key) (all_changes ps)
spot_from key piece at [] o spot = refl
spot_from key piece at (p ∷ ps) o spot = from_home key piece at (p ∷ ps) [] o spot.0 spot.1

there_is : (key : List ℕ) (at : ℕ) (es : Changes) → IsOrdered es → IsPlace key at es → has_key_at key at es ≡ is_some (lookup key es)
there_is key at es o place = go (lookup key es) (has_key_at key at es) (slice_get es at) refl (entry_place key at es o place)
  where
    go : (v : Option (Option (List ℕ))) (b : Bool) (x : Option (List ℕ × Option (List ℕ))) → b ≡ has_key key x → entry_of key v ≡ (if b then x else None) → b ≡ is_some v
    go None true None h is = cc
    go None true (Some e) h is = cc
    go None false x h is = refl
    go (Some v) true x h is = refl
    go (Some v) false x h is = cc

-- whether the key has a change, by what stands there
pub spot_there : (key : List ℕ) (piece at : ℕ) (ps : List Changes) (d : Changes) → IsOrdered (all_changes ps) → IsSpot key piece at ps → piece < length ps → has_key_at key at (get_or ps piece d) ≡ is_some (lookup key (all_changes ps))
spot_there key piece at ps d o spot inside =
    there_is key at (get_or ps piece d) (piece_ordered ps piece d o inside) (spot_place key piece at ps d spot inside)
    ∙ ap (λ (v : Option (Option (List ℕ))). is_some v) (sym (lookup_home key piece ps d (spot_home key piece at ps spot inside)))

-- the key's change, by what stands there
pub spot_entry : (key : List ℕ) (piece at : ℕ) (ps : List Changes) (p : Changes) → IsOrdered (all_changes ps) → IsSpot key piece at ps → piece < length ps → p ≡ get_or ps piece p → entry_at key (all_changes ps) ≡ (if has_key_at key at p then slice_get p at else None)
spot_entry key piece at ps p o spot inside seen =
    ap (entry_of key) (lookup_home key piece ps p (spot_home key piece at ps spot inside) ∙ ap (λ (es : Changes). lookup key es) (sym seen))
    ∙ entry_place key at p (subst (λ (es : Changes). IsOrdered es) (sym seen) (piece_ordered ps piece p o inside)) (subst (λ (es : Changes). IsPlace key at es) (sym seen) (spot_place key piece at ps p spot inside))

-- ---- where a key's place is found

pub spot_made : (key : List ℕ) (piece at : ℕ) (ps : List Changes) (d : Changes) → IsHome key piece ps → piece < length ps → IsPlace key at (get_or ps piece d) → IsSpot key piece at ps
spot_made key piece at [] d home inside place = tt
spot_made key piece at (p ∷ ps) d home inside place = (home, subst (λ (es : Changes). IsPlace key at es) (same_item (p ∷ ps) piece d [] inside) place)

inner_home : (key : List ℕ) (piece at : ℕ) (ps : List Changes) (d : Changes) → IsOrdered (all_changes ps) → piece < length ps → IsInnerPlace key at (get_or ps piece d) → IsHome key piece ps
inner_home key piece at [] d o inside is = absurd (omega arith)
inner_home key zero at (p ∷ ps) d o inside is = place_before key at p (all_changes ps) is.0 is.1.1 o
inner_home key (suc piece) at (p ∷ ps) d o inside is = (
  all_lesser key p (all_changes ps) (before_rest p (all_changes ps) o) (λ k b. inner_lesser key piece at ps d (omega arith) is k b),
  inner_home key piece at ps d (end_ordered p (all_changes ps) o) (omega arith) is,
)

-- between two changes of a piece
pub inner_spot : (key : List ℕ) (piece at : ℕ) (ps : List Changes) (d : Changes) → IsOrdered (all_changes ps) → piece < length ps → IsInnerPlace key at (get_or ps piece d) → IsSpot key piece at ps
inner_spot key piece at ps d o inside is = spot_made key piece at ps d (inner_home key piece at ps d o inside is) inside is.0

end_home : (key : List ℕ) (at : ℕ) (ps : List Changes) (d : Changes) → IsOrdered (all_changes ps) → AreFilled ps → suc at ≡ length ps → ends_before key (get_or ps at d) ≡ true → IsHome key at ps
end_home key at [] d o f len ends = absurd (omega (arith, len))
end_home key zero (p ∷ []) d o f len ends = tt
end_home key zero (p ∷ q ∷ ps) d o f len ends = absurd (omega (arith, len))
end_home key (suc at) (p ∷ ps) d o f len ends =
    let rest : suc at ≡ length ps = omega (arith, len) in
    let inside : at < length ps = omega (arith, rest) in (
      all_lesser key p (all_changes ps) (before_rest p (all_changes ps) o) (λ k b. lesser_pieces key ps at d (end_ordered p (all_changes ps) o) f.1 inside ends k b),
      end_home key at ps d (end_ordered p (all_changes ps) o) f.1 rest ends,
    )

less_place : (key : List ℕ) (p : Changes) → AreLess key p → IsPlace key (length p) p
less_place key [] less = tt
less_place key (e ∷ p) less = (less.0, less_place key p less.1)

-- behind all changes
pub end_spot : (key : List ℕ) (at len : ℕ) (ps : List Changes) (d : Changes) → IsOrdered (all_changes ps) → AreFilled ps → suc at ≡ length ps → len ≡ length (get_or ps at d) → ends_before key (get_or ps at d) ≡ true → IsSpot key at len ps
end_spot key at len ps d o f all long ends =
    let inside : at < length ps = omega (arith, all) in
    let place = less_place key (get_or ps at d) (ends_less key (get_or ps at d) (piece_ordered ps at d o inside) ends) in
    spot_made key at len ps d (end_home key at ps d o f all ends) inside (subst (λ (n : ℕ). IsPlace key n (get_or ps at d)) (sym long) place)

-- a piece that does not end before the key is at its index or behind it
pub index_inside : (key : List ℕ) (at j : ℕ) (ps : List Changes) (d : Changes) → IsIndex key at ps → j < length ps → ends_before key (get_or ps j d) ≡ false → at ≤ j
index_inside key at j [] d is inside ends = absurd (omega arith)
index_inside key zero j (p ∷ ps) d is inside ends = omega arith
index_inside key (suc at) zero (p ∷ ps) d is inside ends = let wrong : true ≡ false = sym is.0 ∙ ends in cc
index_inside key (suc at) (suc j) (p ∷ ps) d is inside ends = let rest = index_inside key at j ps d is.1 (omega arith) ends in omega arith
