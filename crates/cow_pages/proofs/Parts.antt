-- The parts of a map, one for each map page.
use Rattle.std.proofs.Common.{◌≡◌, ℕ, zero, suc, ◌+◌, ◌*◌, ◌-◌, ◌<◌, ◌≤◌, List, [], ◌∷◌, ◌++◌, length, take, drop, get_or, replicate, refl, sym, ap, ◌∙◌, arith, inl, inr}
use Rattle.std.proofs.Math.Seq.{take-add, drop-append_seam}
use Rattle.std.proofs.Math.ListN.{get_or-append}
use Rattle.std.proofs.lemmas.Bool.{cases_lt}
use Rattle.std.proofs.lemmas.List.{drop-drop, drop-append-le, take-append-le, take_all, length-drop, length-append, get_or-take, get_or_past, length-take-le, get_or-drop, ext_get_or, get_or-append-add}
use Rattle.page_roots.specs.MapPage.{entries_in, map_of}
use Rattle.cow_pages.specs.Held.{part_of, AreSpelled}

-- what is appended leaves the parts before it
pub part_before : (xs ys : List ℕ) (i j : ℕ) → 1024 * i ≤ length xs → j < i → part_of (xs ++ ys) j ≡ part_of xs j
part_before xs ys i j count lt =
    let dropped : drop (1024 * j) (xs ++ ys) ≡ drop (1024 * j) xs ++ ys = drop-append-le (1024 * j) xs ys (omega (arith, count, lt)) in
    let enough : 1024 ≤ length (drop (1024 * j) xs) = omega (arith, count, lt, length-drop (1024 * j) xs) in
    ap (λ (l : List ℕ). take 1024 l) dropped ∙ take-append-le 1024 (drop (1024 * j) xs) ys enough

-- and is the next part itself
pub part_here : (xs ys : List ℕ) (i : ℕ) → length xs ≡ 1024 * i → length ys ≡ 1024 → part_of (xs ++ ys) i ≡ ys
part_here xs ys i count whole =
    ap (λ (n : ℕ). take 1024 (drop n (xs ++ ys))) (sym count) ∙ ap (λ (l : List ℕ). take 1024 l) (drop-append_seam xs ys) ∙ take_all 1024 ys (omega (arith, whole))

-- map pages that hold the parts of some entries hold, joined, the front of them
map_joined : (page : ℕ → List ℕ) (maps entries : List ℕ) → ((j : ℕ) → j < length maps → entries_in (page (get_or maps j 0)) ≡ part_of entries j)
    → map_of page maps ≡ take (1024 * length maps) entries
map_joined page [] entries each = refl
map_joined page (m ∷ maps) entries each =
    let here : entries_in (page m) ≡ take 1024 entries = each 0 (omega arith) in
    let rest : map_of page maps ≡ take (1024 * length maps) (drop 1024 entries) = map_joined page maps (drop 1024 entries) (λ j lt.
    let further : 1024 + 1024 * j ≡ 1024 * suc j = omega arith in
    each (suc j) (omega (arith, lt)) ∙ ap (λ (i : ℕ). take 1024 (drop i entries)) (sym further) ∙ ap (λ (l : List ℕ). take 1024 l) (sym (drop-drop (1024 * j) 1024 entries))) in
    let whole : 1024 + 1024 * length maps ≡ 1024 * length (m ∷ maps) = omega arith in
    ap (λ (l : List ℕ). l ++ map_of page maps) here ∙ ap (λ (l : List ℕ). take 1024 entries ++ l) rest
    ∙ sym (take-add 1024 (1024 * length maps) entries) ∙ ap (λ (i : ℕ). take i entries) whole

pub map_whole : (page : ℕ → List ℕ) (maps entries : List ℕ) → ((j : ℕ) → j < length maps → entries_in (page (get_or maps j 0)) ≡ part_of entries j)
    → length entries ≡ 1024 * length maps → map_of page maps ≡ entries
map_whole page maps entries each count = map_joined page maps entries each ∙ take_all (1024 * length maps) entries (omega (arith, count))

-- what map pages spell is their map, entry by entry
pub spelled_map : (page : ℕ → List ℕ) (maps entries : List ℕ) → AreSpelled page maps entries
    → (l : ℕ) → get_or (map_of page maps) l 0 ≡ get_or entries l 0
spelled_map page maps entries spelled l =
    let whole = map_joined page maps entries spelled.each in
    ap (λ (xs : List ℕ). get_or xs l 0) whole ∙ elim (cases_lt l (1024 * length maps)) [
      | inl lt ↦ get_or-take (1024 * length maps) entries l 0 lt
      | inr past ↦ get_or_past (take (1024 * length maps) entries) l 0 (omega (arith, past, length-take-le (1024 * length maps) entries spelled.enough)) ∙ sym (spelled.beyond l past)
    ]

-- zeros after the entries name no page
pub padded_same : (entries : List ℕ) (n l : ℕ) → get_or (entries ++ replicate n zero) l 0 ≡ get_or entries l 0
padded_same entries n l = elim (cases_lt l (length entries)) [
  | inl lt ↦ get_or-append entries (replicate n zero) 0 l lt
  | inr past ↦
      let at : l ≡ length entries + (l - length entries) = omega arith in
      ap (λ (i : ℕ). get_or (entries ++ replicate n zero) i 0) at ∙ get_or-append-add entries (replicate n zero) (l - length entries) 0
      ∙ zero_there n (l - length entries) ∙ sym (get_or_past entries l 0 past)
]
  where
    zero_there : (n l : ℕ) → get_or (replicate n zero) l zero ≡ zero
    zero_there zero l = refl
    zero_there (suc n) zero = refl
    zero_there (suc n) (suc l) = zero_there n l

pub padded_spelled : (page : ℕ → List ℕ) (maps entries : List ℕ) (n : ℕ) → length entries ≡ 1024 * length maps
    → ((j : ℕ) → j < length maps → entries_in (page (get_or maps j 0)) ≡ part_of entries j) → AreSpelled page maps (entries ++ replicate n zero)
padded_spelled page maps entries n count each = record {
  each = λ j lt. each j lt ∙ sym (part_before entries (replicate n zero) (length maps) j (omega (arith, count)) lt);
  enough = omega (arith, count, length-append entries (replicate n zero));
  beyond = λ l past. padded_same entries n l ∙ get_or_past entries l 0 (omega (arith, past, count));
}

-- entries of a part
pub part_entry : (entries : List ℕ) (j i : ℕ) → i < 1024 → get_or (part_of entries j) i 0 ≡ get_or entries (1024 * j + i) 0
part_entry entries j i lt = get_or-take 1024 (drop (1024 * j) entries) i 0 lt ∙ get_or-drop (1024 * j) entries i 0

pub part_length : (entries : List ℕ) (j : ℕ) → 1024 * j + 1024 ≤ length entries → length (part_of entries j) ≡ 1024
part_length entries j enough = length-take-le 1024 (drop (1024 * j) entries) (omega (arith, enough, length-drop (1024 * j) entries))

-- parts of the same entries are the same
pub parts_same : (xs ys : List ℕ) (j : ℕ) → 1024 * j + 1024 ≤ length xs → length xs ≡ length ys → ((k : ℕ) → 1024 * j ≤ k → k < 1024 * j + 1024 → get_or xs k 0 ≡ get_or ys k 0)
    → part_of xs j ≡ part_of ys j
parts_same xs ys j enough count same = ext_get_or 0 (part_of xs j) (part_of ys j)
    (part_length xs j enough ∙ sym (part_length ys j (omega (arith, enough, count))))
    (λ i lt. let inside : i < 1024 = omega (arith, lt, part_length xs j enough) in
    part_entry xs j i inside ∙ same (1024 * j + i) (omega arith) (omega (arith, inside)) ∙ sym (part_entry ys j i inside))

pub parts_differ : (xs ys : List ℕ) (j k : ℕ) → 1024 * j ≤ k → k < 1024 * j + 1024 → (get_or xs k 0 ≡ get_or ys k 0 → ⊥) → part_of xs j ≡ part_of ys j → ⊥
parts_differ xs ys j k least lt differ same =
    let at : 1024 * j + (k - 1024 * j) ≡ k = omega (arith, least) in
    let inside : k - 1024 * j < 1024 = omega (arith, least, lt) in
    differ (ap (λ (n : ℕ). get_or xs n 0) (sym at) ∙ sym (part_entry xs j (k - 1024 * j) inside) ∙ ap (λ (l : List ℕ). get_or l (k - 1024 * j) 0) same
    ∙ part_entry ys j (k - 1024 * j) inside ∙ ap (λ (n : ℕ). get_or ys n 0) at)
