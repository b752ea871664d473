-- The bytes of a record, cut into parts.
use Rattle.std.proofs.Common.{◌≡◌, ℕ, zero, suc, ◌+◌, ◌*◌, ◌/◌, ◌%◌, ◌<◌, ◌≤◌, ◌^◌, List, [], ◌∷◌, ◌++◌, length, take, drop, get_or, refl, sym, ap, ◌∙◌, arith, inl, inr}
use Rattle.std.proofs.lemmas.Bool.{cases_lt}
use Rattle.std.proofs.lemmas.List.{drop-drop, take-append-le, drop-append-le, take_all, length-drop, length-take-le}
use Rattle.journal.specs.Chain.{Part, Holds, part_of}
use Rattle.journal.specs.Sectors.{sector_bytes, sector_at}
use Rattle.journal.specs.Records.{parts_of, entry_of}
use Rattle.journal.proofs.Written.{sector_back}

pub length-parts_of : (count : ℕ) (bytes : List ℕ) → length (parts_of count bytes) ≡ count
length-parts_of zero bytes = refl
length-parts_of (suc count) bytes = ap suc (length-parts_of count (drop 488 bytes))

pub part-parts_of : (count i : ℕ) (bytes : List ℕ) → i < count → get_or (parts_of count bytes) i [] ≡ take 488 (drop (488 * i) bytes)
part-parts_of zero i bytes lt = absurd (omega (arith, lt))
part-parts_of (suc count) zero bytes lt = refl
part-parts_of (suc count) (suc i) bytes lt =
    let place : 488 + 488 * i ≡ 488 * suc i = omega arith in
    part-parts_of count i (drop 488 bytes) (omega (arith, lt))
    ∙ ap (take 488) (drop-drop (488 * i) 488 bytes ∙ ap (λ (n : ℕ). drop n bytes) place)

-- one part more
pub parts_more : (count : ℕ) (bytes part : List ℕ) → length bytes ≡ 488 * count → length part ≡ 488 → parts_of (suc count) (bytes ++ part) ≡ parts_of count bytes ++ part ∷ []
parts_more zero [] part long is = ap (λ (p : List ℕ). p ∷ []) (take_all 488 part (omega (arith, is)))
parts_more zero (b ∷ bytes) part long is = absurd (omega (arith, long))
parts_more (suc count) bytes part long is =
    let first : take 488 (bytes ++ part) ≡ take 488 bytes = take-append-le 488 bytes part (omega (arith, long)) in
    let behind : drop 488 (bytes ++ part) ≡ drop 488 bytes ++ part = drop-append-le 488 bytes part (omega (arith, long)) in
    let rest = parts_more count (drop 488 bytes) part (omega (arith, long, length-drop 488 bytes)) is in
    ap (λ (p : List ℕ). p ∷ parts_of (suc count) (drop 488 (bytes ++ part))) first
    ∙ ap (λ (bs : List ℕ). take 488 bytes ∷ parts_of (suc count) bs) behind
    ∙ ap (λ (ps : List (List ℕ)). take 488 bytes ∷ ps) rest

same_part : (part other : Part) → part.root ≡ other.root → part.number ≡ other.number → part.index ≡ other.index → part.count ≡ other.count → part.bytes ≡ other.bytes → part ≡ other
same_part part other root number index count bytes = rw (root, number, index, count, bytes) refl

-- a part of the record with these bytes
pub part_is : (root number i count : ℕ) (bytes part : List ℕ) → count ≡ length bytes / 488 → i < count → part ≡ take 488 (drop (488 * i) bytes)
    → record { root = root; number = number; index = i; count = count; bytes = part } ≡ part_of root (entry_of number bytes) i
part_is root number i count bytes part all inside is =
    same_part (record { root = root; number = number; index = i; count = count; bytes = part }) (part_of root (entry_of number bytes) i) refl refl refl
    (all ∙ sym (length-parts_of (length bytes / 488) bytes))
    (is ∙ sym (part-parts_of (length bytes / 488) i bytes (omega (arith, inside, all))))

-- it is read from its sector
pub part_read : (room root number i : ℕ) (bytes : List ℕ) → 1 ≤ root → root < 2 ^ 64 → number < 2 ^ 64 → length bytes % 488 ≡ 0 → length bytes / 488 < 2 ^ 16
    → length bytes / 488 ≤ room → i < length bytes / 488 → sector_at room (sector_bytes (part_of root (entry_of number bytes) i)) ≡ Holds (part_of root (entry_of number bytes) i)
part_read room root number i bytes first root_fits number_fits whole short fits inside =
    let count = length-parts_of (length bytes / 488) bytes in
    let is = part-parts_of (length bytes / 488) i bytes inside in
    let room_left : 488 ≤ length (drop (488 * i) bytes) = omega (arith, length-drop (488 * i) bytes, whole, inside) in
    sector_back room (part_of root (entry_of number bytes) i) (record {
      first = first;
      in_range = record { inside = omega (arith, inside, count); fits = omega (arith, fits, count) };
      long = ap (λ (bs : List ℕ). length bs) is ∙ length-take-le 488 (drop (488 * i) bytes) room_left;
      root_fits = root_fits;
      number_fits = number_fits;
      count_fits = omega (arith, short, count);
    })

-- one sector more
at_front : (xs : List (List ℕ)) (x : List ℕ) (i : ℕ) → i < length xs → get_or (xs ++ x ∷ []) i [] ≡ get_or xs i []
at_front [] x i lt = absurd (omega (arith, lt))
at_front (y ∷ xs) x zero lt = refl
at_front (y ∷ xs) x (suc i) lt = at_front xs x i (omega (arith, lt))

at_end : (xs : List (List ℕ)) (x : List ℕ) (i : ℕ) → length xs ≡ i → get_or (xs ++ x ∷ []) i [] ≡ x
at_end [] x zero is = refl
at_end [] x (suc i) is = absurd (omega (arith, is))
at_end (y ∷ xs) x zero is = absurd (omega (arith, is))
at_end (y ∷ xs) x (suc i) is = at_end xs x i (omega (arith, is))

pub sectors_more : (sectors : List (List ℕ)) (x : List ℕ) (count : ℕ) (want : ℕ → List ℕ) → length sectors ≡ count → ((i : ℕ) → i < count → get_or sectors i [] ≡ want i) → x ≡ want count
    → (i : ℕ) → i < count + 1 → get_or (sectors ++ x ∷ []) i [] ≡ want i
sectors_more sectors x count want long before is i lt = elim (cases_lt i count) [
  | inl less ↦ at_front sectors x i (omega (arith, less, long)) ∙ before i less
  | inr last ↦ let same : i ≡ count = omega (arith, last, lt) in at_end sectors x i (omega (arith, long, same)) ∙ is ∙ ap want (sym same)
]
