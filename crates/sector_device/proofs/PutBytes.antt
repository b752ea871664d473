-- Bytes that are put in a file, and the sectors of it.
use Rattle.std.proofs.Common.{◌≡◌, ◌≢◌, ◌<◌, ◌≤◌, ◌+◌, ◌*◌, ◌-◌, refl, inl, inr, ⊎_elim, ℕ, List, ◌++◌, length, take, drop, sym, ◌∙◌, ap, arith, append_assoc, length-append, length-drop}
use Rattle.std.proofs.lemmas.Bool.{cases_lt}
use Rattle.std.proofs.lemmas.List.{drop-drop, drop-take, take-take, drop-append-le, take-append-le, take-append-drop, length-take-le}
use Rattle.std.proofs.lemmas.Slice.{drop-append-drop}
use Rattle.std.proofs.Math.Seq.{drop-append_seam, take-append_seam}
use Rattle.sector_device.specs.RawFile.{put}
use Rattle.sector_device.specs.FileState.{sector_of}
use Rattle.sector_device.specs.FilePage.{page_bytes_at, HasPartsOf}
use Rattle.sector_device.specs.Page.{IsOutside}

-- a part of the front does not see what follows
front : (n p : ℕ) (xs ys : List ℕ) → p + n ≤ length xs → take n (drop p (xs ++ ys)) ≡ take n (drop p xs)
front n p xs ys within =
    let after : n ≤ length (drop p xs) = omega (arith, length-drop p xs, within) in
    let within_front : p ≤ length xs = omega (arith, within) in
    ap (λ (l : List ℕ). take n l) (drop-append-le p xs ys within_front) ∙ take-append-le n (drop p xs) ys after

-- the part itself
put_same : (n o : ℕ) (new xs : List ℕ) → length new ≡ n → o ≤ length xs → take n (drop o (put o new xs)) ≡ new
put_same n o new xs long within =
    let rest = drop (o + length new) xs in
    let before : length (take o xs) ≡ o = length-take-le o xs within in
    let opened : drop o (take o xs ++ (new ++ rest)) ≡ new ++ rest
    = ap (λ (k : ℕ). drop k (take o xs ++ (new ++ rest))) (sym before) ∙ drop-append_seam (take o xs) (new ++ rest) in
    ap (λ (l : List ℕ). take n (drop o l)) (append_assoc (take o xs) new rest) ∙ ap (λ (l : List ℕ). take n l) opened
    ∙ ap (λ (k : ℕ). take k (new ++ rest)) (sym long) ∙ take-append_seam new rest

-- a part before it
put_before : (n o p : ℕ) (new xs : List ℕ) → p + n ≤ o → o ≤ length xs → take n (drop p (put o new xs)) ≡ take n (drop p xs)
put_before n o p new xs before within =
    let rest = drop (o + length new) xs in
    let long : length (take o xs) ≡ o = length-take-le o xs within in
    let inside : p + n ≤ length (take o xs) = omega (arith, long, before) in
    ap (λ (l : List ℕ). take n (drop p l)) (append_assoc (take o xs) new rest)
    ∙ front n p (take o xs) (new ++ rest) inside ∙ sym (front n p (take o xs) (drop o xs) inside)
    ∙ ap (λ (l : List ℕ). take n (drop p l)) (take-append-drop o xs)

-- a part after it
put_after : (n o p : ℕ) (new xs : List ℕ) → o + length new ≤ p → o ≤ length xs → take n (drop p (put o new xs)) ≡ take n (drop p xs)
put_after n o p new xs after within =
    let long : length (take o xs ++ new) ≡ o + length new = omega (arith, length-append (take o xs) new, length-take-le o xs within) in
    ap (λ (l : List ℕ). take n l) (drop-append-drop (o + length new) xs (take o xs ++ new) p after long)

-- the sector that is written
pub sector_of-put : (s : ℕ) (new xs : List ℕ) → length new ≡ 512 → 512 * s + 512 ≤ length xs → sector_of s (put (512 * s) new xs) ≡ new
sector_of-put s new xs long within = put_same 512 (512 * s) new xs long (omega (arith, within))

-- another one
pub sector_of-put_other : (s t : ℕ) (new xs : List ℕ) → length new ≡ 512 → 512 * s + 512 ≤ length xs → t ≢ s → sector_of t (put (512 * s) new xs) ≡ sector_of t xs
sector_of-put_other s t new xs long within other = ⊎_elim
    (λ below. put_before 512 (512 * s) (512 * t) new xs (omega (arith, below)) (omega (arith, within)))
    (λ above. let higher : 512 * s + length new ≤ 512 * t = omega (arith, long, above, other) in put_after 512 (512 * s) (512 * t) new xs higher (omega (arith, within)))
    (cases_lt t s)

-- a sector of a page that is written
pub sector_of-put_page : (first k : ℕ) (page xs : List ℕ) → k < 8 → length page ≡ 4096 → 512 * first + 4096 ≤ length xs → sector_of (first + k) (put (512 * first) page xs) ≡ sector_of k page
sector_of-put_page first k page xs lt long within =
    let o = 512 * first in
    let rest = drop (o + length page) xs in
    let place : 512 * (first + k) ≡ o + 512 * k = omega arith in
    let before : length (take o xs) ≡ o = length-take-le o xs (omega (arith, within)) in
    let opened : drop o (put o page xs) ≡ page ++ rest
    = ap (λ (l : List ℕ). drop o l) (append_assoc (take o xs) page rest)
    ∙ ap (λ (i : ℕ). drop i (take o xs ++ (page ++ rest))) (sym before) ∙ drop-append_seam (take o xs) (page ++ rest) in
    ap (λ (i : ℕ). take 512 (drop i (put o page xs))) place ∙ ap (λ (l : List ℕ). take 512 l) (sym (drop-drop (512 * k) o (put o page xs)))
    ∙ ap (λ (l : List ℕ). take 512 (drop (512 * k) l)) opened ∙ front 512 (512 * k) page rest (omega (arith, lt, long))

-- a sector outside it
pub sector_of-put_page_outside : (first s : ℕ) (page xs : List ℕ) → length page ≡ 4096 → 512 * first + 4096 ≤ length xs → IsOutside first 8 s → sector_of s (put (512 * first) page xs) ≡ sector_of s xs
sector_of-put_page_outside first s page xs long within outside = ⊎_elim
    (λ below. put_before 512 (512 * first) (512 * s) page xs (omega (arith, below)) (omega (arith, within)))
    (λ above. let higher : 512 * first + length page ≤ 512 * s = omega (arith, long, above) in put_after 512 (512 * first) (512 * s) page xs higher (omega (arith, within)))
    outside

-- a sector of a page that is read
pub sector_of-page : (first k : ℕ) (xs : List ℕ) → k < 8 → sector_of (first + k) xs ≡ sector_of k (page_bytes_at (512 * first) xs)
sector_of-page first k xs lt =
    let o = 512 * first in
    let more = 4096 - 512 * k in
    let place : 512 * (first + k) ≡ o + 512 * k = omega arith in
    let whole : 4096 ≡ 512 * k + more = omega (arith, lt) in
    let wide : 512 ≤ more = omega (arith, lt) in
    ap (λ (i : ℕ). take 512 (drop i xs)) place ∙ ap (λ (l : List ℕ). take 512 l) (sym (drop-drop (512 * k) o xs))
    ∙ sym (take-take 512 more (drop (512 * k) (drop o xs)) wide)
    ∙ ap (λ (l : List ℕ). take 512 l) (sym (drop-take (512 * k) more (drop o xs)))
    ∙ ap (λ (i : ℕ). take 512 (drop (512 * k) (take i (drop o xs)))) (sym whole)

-- bytes that a page is written into have its parts
pub put_has_parts : (first : ℕ) (page xs : List ℕ) → length page ≡ 4096 → 512 * first + 4096 ≤ length xs → HasPartsOf first page xs (put (512 * first) page xs)
put_has_parts first page xs long within = record {
  length = omega (
    arith,
    long,
    within,
    length-append (take (512 * first) xs ++ page) (drop (512 * first + length page) xs),
    length-append (take (512 * first) xs) page,
    length-take-le (512 * first) xs (omega (arith, within)),
    length-drop (512 * first + length page) xs,
  );
  each = λ s. ⊎_elim
      (λ below. inl (sector_of-put_page_outside first s page xs long within (inl below)))
      (λ from. ⊎_elim
      (λ here. let part = s - first in
      let place : s ≡ first + part = omega (arith, from) in
      let inside : part < 8 = omega (arith, from, here) in
      inr (record { part = part; within = inside; place = place; is = ap (λ (t : ℕ). sector_of t (put (512 * first) page xs)) place ∙ sector_of-put_page first part page xs inside long within }))
      (λ above. inl (sector_of-put_page_outside first s page xs long within (inr above)))
      (cases_lt s (first + 8)))
      (cases_lt s first);
}

-- and so do bytes in which nothing is written
pub same_has_parts : (first : ℕ) (page xs : List ℕ) → HasPartsOf first page xs xs
same_has_parts first page xs = record { length = refl; each = λ s. inl refl }
