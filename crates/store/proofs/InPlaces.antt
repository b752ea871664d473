-- Changes in pieces: their places, and a search from one.
use Rattle.std.proofs.Common.{◌≡◌, ℕ, zero, suc, ◌+◌, ◌<◌, ◌≤◌, Bool, true, false, if◌then◌else◌, List, [], ◌∷◌, ◌++◌, Option, Some, None, add-one, refl, ap, sym, ◌∙◌, subst, arith, length, get_or, drop, slice_get}
use Rattle.std.proofs.lemmas.Option.{slice_get_read, slice_get_past}
use Rattle.std.specs.declared.cmp.Ordering.{Ordering}
use Rattle.std.specs.declared.cmp.Ordering.TheVariants.{Less, Equal, Greater}
use Rattle.store.specs.Records.{Changes, key_cmp, is_from, is_not_less, IsBefore, IsOrdered, entries_where}
use Rattle.store.specs.Batch.{all_changes}
use Rattle.store.specs.Place.{IsPlace}
use Rattle.store.specs.Pieces.{IsInnerPlace, from_place, AreLess}
use Rattle.store.proofs.Changes.{key_trans, same_key, after, reversed, before_trans}
use Rattle.std.proofs.Math.Seq.{drop-nil}
use Rattle.store.proofs.Places.{entries_from_place}
use Rattle.store.proofs.InPieces.{before_end, lesser_is_out}

-- ---- places

where-append : (key : List ℕ) (xs ys : Changes) → entries_where (is_from key) (xs ++ ys) ≡ entries_where (is_from key) xs ++ entries_where (is_from key) ys
where-append key [] ys = refl
where-append key (x ∷ xs) ys = cases (is_from key x.0) (where-append key xs ys)
  where
    cases : (b : Bool) → entries_where (is_from key) (xs ++ ys) ≡ entries_where (is_from key) xs ++ entries_where (is_from key) ys
        → (if b then x ∷ entries_where (is_from key) (xs ++ ys) else entries_where (is_from key) (xs ++ ys)) ≡ (if b then x ∷ entries_where (is_from key) xs else entries_where (is_from key) xs) ++ entries_where (is_from key) ys
    cases true later = ap (λ (es : Changes). x ∷ es) later
    cases false later = later

pub where-lesser : (key : List ℕ) (p rest : Changes) → AreLess key p → entries_where (is_from key) (p ++ rest) ≡ entries_where (is_from key) rest
where-lesser key [] rest all = refl
where-lesser key (e ∷ p) rest all = rw (lesser_is_out key e.0 all.0) (where-lesser key p rest all.1)

where-greater : (key : List ℕ) (es : Changes) → IsBefore key es → entries_where (is_from key) es ≡ es
where-greater key [] b = refl
where-greater key (e ∷ es) b = rw (ap is_not_less (after key e.0 b.0)) (ap (λ (xs : Changes). e ∷ xs) (where-greater key es b.1))

-- the changes from a key's place in its piece on
pub placed : (key : List ℕ) (at : ℕ) (p rest : Changes) → IsPlace key at p → IsBefore key rest → drop at p ++ rest ≡ entries_where (is_from key) (p ++ rest)
placed key at p rest is b =
    sym (ap (λ (es : Changes). es ++ rest) (entries_from_place key at p is))
    ∙ sym (ap (λ (es : Changes). entries_where (is_from key) p ++ es) (where-greater key rest b))
    ∙ sym (where-append key p rest)

-- a key that is not after one of a piece comes before what is behind the piece
pub place_before : (key : List ℕ) (at : ℕ) (p rest : Changes) → IsPlace key at p → at < length p → IsOrdered (p ++ rest) → IsBefore key rest
place_before key at [] rest is inside o = absurd (omega arith)
place_before key zero (e ∷ p) rest is inside o = go (key_cmp e.0 key) refl
  where
    b : IsBefore e.0 rest
    b = before_end e.0 p rest o.0

    go : (r : Ordering) → r ≡ key_cmp e.0 key → IsBefore key rest
    go Less c = let wrong : false ≡ true = ap is_not_less c ∙ is.0 in cc
    go Equal c = subst (λ (k : List ℕ). IsBefore k rest) (same_key e.0 key (sym c)) b
    go Greater c = before_trans key e.0 rest (reversed e.0 key (sym c)) b
place_before key (suc at) (e ∷ p) rest is inside o = place_before key at p rest is.1 (omega arith) o.1

-- what comes before all pieces, one of which has a lesser key, comes before the key
pub inner_lesser : (key : List ℕ) (piece at : ℕ) (ps : List Changes) (d : Changes) → piece < length ps → IsInnerPlace key at (get_or ps piece d) → (k : List ℕ) → IsBefore k (all_changes ps) → key_cmp k key ≡ Less
inner_lesser key piece at [] d inside is k b = absurd (omega arith)
inner_lesser key zero zero (p ∷ ps) d inside is k b = absurd (omega (arith, is.1.0))
inner_lesser key zero (suc at) ([] ∷ ps) d inside is k b = absurd is.0
inner_lesser key zero (suc at) ((e ∷ p) ∷ ps) d inside is k b = key_trans k e.0 key b.0 is.0.0
inner_lesser key (suc piece) at (p ∷ ps) d inside is k b = inner_lesser key piece at ps d (omega arith) is k (before_end k p (all_changes ps) b)

-- ---- steps from place to place

-- the change at a place is the first from it on
pub place_step : (piece at : ℕ) (ps : List Changes) (d : Changes) (c : List ℕ × Option (List ℕ)) → piece < length ps → slice_get (get_or ps piece d) at ≡ Some c → from_place piece at ps ≡ c ∷ from_place piece (at + 1) ps
place_step piece at [] d c inside is = absurd (omega arith)
place_step zero at (p ∷ ps) d c inside is = ap (λ (es : Changes). es ++ all_changes ps) (one at p is ∙ ap (λ (n : ℕ). c ∷ drop n p) (sym (add-one at)))
  where
    one : (i : ℕ) (es : Changes) → slice_get es i ≡ Some c → drop i es ≡ c ∷ drop (suc i) es
    one i [] h = cc
    one zero (e ∷ es) h = let same : e ≡ c = cc in ap (λ (x : List ℕ × Option (List ℕ)). x ∷ es) same
    one (suc i) (e ∷ es) h = one i es h
place_step (suc piece) at (p ∷ ps) d c inside is = place_step piece at ps d c (omega arith) is

-- behind the last change of a piece the next piece begins
pub piece_step : (piece at : ℕ) (ps : List Changes) (d : Changes) → piece < length ps → slice_get (get_or ps piece d) at ≡ None → from_place piece at ps ≡ from_place (piece + 1) 0 ps
piece_step piece at [] d inside is = absurd (omega arith)
piece_step zero at (p ∷ ps) d inside is = ap (λ (es : Changes). es ++ all_changes ps) (none at p is) ∙ start ps ∙ sym (ap (λ (n : ℕ). from_place n 0 (p ∷ ps)) (add-one 0))
  where
    none : (i : ℕ) (es : Changes) → slice_get es i ≡ None → drop i es ≡ []
    none i [] h = drop-nil i
    none zero (e ∷ es) h = cc
    none (suc i) (e ∷ es) h = none i es h

    start : (qs : List Changes) → all_changes qs ≡ from_place 0 0 qs
    start [] = refl
    start (q ∷ qs) = refl
piece_step (suc piece) at (p ∷ ps) d inside is =
    piece_step piece at ps d (omega arith) is ∙ sym (ap (λ (n : ℕ). from_place n 0 (p ∷ ps)) (add-one (suc piece)) ∙ sym (ap (λ (n : ℕ). from_place n 0 ps) (add-one piece)))

pub past_all : (piece at : ℕ) (ps : List Changes) → length ps ≤ piece → from_place piece at ps ≡ []
past_all piece at [] past = refl
past_all zero at (p ∷ ps) past = absurd (omega arith)
past_all (suc piece) at (p ∷ ps) past = past_all piece at ps (omega arith)

-- ---- a search for the first change that puts a value

-- the change that is read at a place is the first from it on
pub one_read : (piece at : ℕ) (ps : List Changes) (seen changes : Changes) (c : List ℕ × Option (List ℕ)) → piece < length ps → seen ≡ get_or ps piece seen → changes ≡ seen → at < length changes → c ≡ get_or changes at c → from_place piece at ps ≡ c ∷ from_place piece (at + 1) ps
one_read piece at ps seen changes c inside is same within read =
    place_step piece at ps seen c inside (subst (λ (p : Changes). slice_get p at ≡ Some c) (same ∙ is) (slice_get_read changes (length changes) at c refl within read))

-- past the last change that is read of a piece the next one begins
pub next_read : (piece at : ℕ) (ps : List Changes) (seen changes : Changes) → piece < length ps → seen ≡ get_or ps piece seen → changes ≡ seen → length changes ≤ at → from_place piece at ps ≡ from_place (piece + 1) 0 ps
next_read piece at ps seen changes inside is same past =
    piece_step piece at ps seen inside (subst (λ (p : Changes). slice_get p at ≡ None) (same ∙ is) (slice_get_past changes at past))
