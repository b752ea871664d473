-- A part is read where the bytes are its spelling and it may be in the journal, and nowhere else.
use Rattle.std.proofs.Common.{◌≡◌, ◌↔◌, ℕ, Bool, true, false, cond, ◌&&◌, leb, ltb, List, ◌++◌, length, take, drop, refl, sym, ap, subst, ◌∙◌, arith}
use Rattle.std.specs.Str.{bytes_eq}
use Rattle.std.proofs.lemmas.Slice.Eq.{bytes_eq-Decides}
use Rattle.std.proofs.lemmas.Bool.{leb-true, ltb-true}
use Rattle.std.proofs.lemmas.List.{length-drop, take-append-drop}
use Rattle.byteorder.specs.Endian.{big_number, big_bytes}
use Rattle.byteorder.specs.Numbers.{big_from-lt}
use Rattle.journal.specs.Chain.{Part, Sector, Blank, Holds, Malformed}
use Rattle.journal.specs.Sectors.{magic, zeros, sector_bytes, IsPart, begins_with_magic, part_at, may_be, sector_at}
use Rattle.journal.proofs.Numbers.{IsBytes, IsBytes-drop, two_at, eight_at}
use Rattle.journal.proofs.Written.{sector_back, blank_at}

-- both parts of a test that is met
both : (a b : Bool) → (a && b) ≡ true → (a ≡ true) × (b ≡ true)
both true b is = (refl, is)
both false b is = absurd cc

-- bytes with the magic are the spelling of the part whose fields stand in them
respelled : (bytes : List ℕ) → IsBytes bytes → length bytes ≡ 512 → begins_with_magic bytes ≡ true → bytes ≡ sector_bytes (part_at bytes)
unfolding sector_bytes part_at
respelled bytes fit is marked =
    let front : take 4 bytes ≡ magic = (bytes_eq-Decides (take 4 bytes) magic).0 marked in
    let root = eight_at 4 bytes fit (omega arith) in
    let number = eight_at 12 bytes fit (omega arith) in
    let index = two_at 20 bytes fit (omega arith) in
    let count = two_at 22 bytes fit (omega arith) in
    let from_count : drop 22 bytes ≡ big_bytes 2 (big_number 2 (drop 22 bytes)) ++ drop 24 bytes = count in
    let from_index : drop 20 bytes ≡ big_bytes 2 (big_number 2 (drop 20 bytes)) ++ (big_bytes 2 (big_number 2 (drop 22 bytes)) ++ drop 24 bytes)
    = index ∙ ap (λ (rest : List ℕ). big_bytes 2 (big_number 2 (drop 20 bytes)) ++ rest) from_count in
    let from_number : drop 12 bytes ≡ big_bytes 8 (big_number 8 (drop 12 bytes)) ++ (big_bytes 2 (big_number 2 (drop 20 bytes)) ++ (big_bytes 2 (big_number 2 (drop 22 bytes)) ++ drop 24 bytes))
    = number ∙ ap (λ (rest : List ℕ). big_bytes 8 (big_number 8 (drop 12 bytes)) ++ rest) from_index in
    let from_root : drop 4 bytes ≡ big_bytes 8 (big_number 8 (drop 4 bytes)) ++ (big_bytes 8 (big_number 8 (drop 12 bytes)) ++ (big_bytes 2 (big_number 2 (drop 20 bytes))
    ++ (big_bytes 2 (big_number 2 (drop 22 bytes)) ++ drop 24 bytes)))
    = root ∙ ap (λ (rest : List ℕ). big_bytes 8 (big_number 8 (drop 4 bytes)) ++ rest) from_number in
    sym (take-append-drop 4 bytes) ∙ ap (λ (start : List ℕ). start ++ drop 4 bytes) front ∙ ap (λ (rest : List ℕ). magic ++ rest) from_root

-- a part is found only past both tests
past_tests : (empty may : Bool) (found part : Part) → cond empty Blank (cond may (Holds found) Malformed) ≡ Holds part → (may ≡ true) × (found ≡ part)
past_tests true may found part is = absurd cc
past_tests false true found part is = (refl, cc)
past_tests false false found part is = absurd cc

not_blank : (empty may : Bool) (found : Part) → cond empty Blank (cond may (Holds found) Malformed) ≡ Blank → empty ≡ true
not_blank true may found is = refl
not_blank false true found is = absurd cc
not_blank false false found is = absurd cc

fields_fit : (room : ℕ) (bytes : List ℕ) → IsBytes bytes → length bytes ≡ 512 → may_be room (part_at bytes) ≡ true → IsPart room (part_at bytes)
unfolding part_at
fields_fit room bytes fit is may =
    let root : ℕ = big_number 8 (drop 4 bytes) in
    let index : ℕ = big_number 2 (drop 20 bytes) in
    let count : ℕ = big_number 2 (drop 22 bytes) in
    let some = both (leb 1 root) (ltb index count && leb count room) may in
    let range = both (ltb index count) (leb count room) some.1 in
    record {
      first = leb-true _ _ some.0;
      in_range = record { inside = ltb-true _ _ range.0; fits = leb-true _ _ range.1 };
      long = omega (arith, length-drop 24 bytes);
      root_fits = big_from-lt 0 8 (drop 4 bytes) (IsBytes-drop 4 bytes fit);
      number_fits = big_from-lt 0 8 (drop 12 bytes) (IsBytes-drop 12 bytes fit);
      count_fits = big_from-lt 0 2 (drop 22 bytes) (IsBytes-drop 22 bytes fit);
    }

found_only : (room : ℕ) (bytes : List ℕ) (part : Part) → IsBytes bytes → length bytes ≡ 512 → sector_at room bytes ≡ Holds part → IsPart room part × (bytes ≡ sector_bytes part)
unfolding sector_at
found_only room bytes part fit is found =
    let past = past_tests (bytes_eq bytes zeros) (begins_with_magic bytes && may_be room (part_at bytes)) (part_at bytes) part found in
    let tests = both (begins_with_magic bytes) (may_be room (part_at bytes)) past.0 in
    (subst (IsPart room) past.1 (fields_fit room bytes fit is tests.1), respelled bytes fit is tests.0 ∙ ap sector_bytes past.1)

blank_only : (room : ℕ) (bytes : List ℕ) → sector_at room bytes ≡ Blank → bytes ≡ zeros
unfolding sector_at
blank_only room bytes is = (bytes_eq-Decides bytes zeros).0 (not_blank (bytes_eq bytes zeros) (begins_with_magic bytes && may_be room (part_at bytes)) (part_at bytes) is)

-- both directions, for what is read
pub found_where : (room : ℕ) (bytes : List ℕ) (read : Sector) → IsBytes bytes → length bytes ≡ 512 → read ≡ sector_at room bytes
    → (part : Part) → (read ≡ Holds part) ↔ (IsPart room part × (bytes ≡ sector_bytes part))
found_where room bytes read fit count is part = (
  λ found. found_only room bytes part fit count (sym is ∙ found),
  λ spelled. is ∙ ap (sector_at room) spelled.1 ∙ sector_back room part spelled.0,
)

pub blank_where : (room : ℕ) (bytes : List ℕ) (read : Sector) → read ≡ sector_at room bytes → (read ≡ Blank) ↔ (bytes ≡ zeros)
blank_where room bytes read is = (
  λ blank. blank_only room bytes (sym is ∙ blank),
  λ same. is ∙ blank_at room bytes ((bytes_eq-Decides bytes zeros).1 same),
)

-- the bytes of a part that is read stand behind its tag
held_fields : (room : ℕ) (bytes : List ℕ) (part : Part) → sector_at room bytes ≡ Holds part → part_at bytes ≡ part
unfolding sector_at
held_fields room bytes part is = (past_tests (bytes_eq bytes zeros) (begins_with_magic bytes && may_be room (part_at bytes)) (part_at bytes) part is).1

pub held_bytes : (room : ℕ) (bytes : List ℕ) (part : Part) → sector_at room bytes ≡ Holds part → part.bytes ≡ drop 24 bytes
unfolding part_at
held_bytes room bytes part is = sym (ap (λ (p : Part). p.bytes) (held_fields room bytes part is))
