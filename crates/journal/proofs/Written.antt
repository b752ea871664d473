-- A sector, written field by field, and read again.
use Rattle.std.proofs.Common.{◌≡◌, ℕ, ◌+◌, ◌-◌, ◌<◌, ◌≤◌, true, false, List, ◌++◌, length, take, drop, replicate, refl, sym, ap, ◌∙◌, arith}
use Rattle.std.specs.Str.{bytes_eq}
use Rattle.std.proofs.lemmas.List.{take_at, drop-drop, drop_at, drop-replicate}
use Rattle.std.proofs.lemmas.Bool.{le-leb, lt-ltb}
use Rattle.byteorder.specs.Endian.{big_number, big_bytes}
use Rattle.byteorder.specs.Numbers.{big_number-reads_back}
use Rattle.journal.specs.Chain.{Part, Blank, Holds, Malformed}
use Rattle.journal.specs.Sectors.{magic, zeros, sector_bytes, IsPart, begins_with_magic, part_at, may_be, sector_at}

-- one field more is written, at the front of the zeros
field_written : (old new front part : List ℕ) (place n k : ℕ) → old ≡ front ++ replicate k 0 → length front ≡ place
    → new ≡ take place old ++ (part ++ drop (place + n) old) → new ≡ front ++ (part ++ replicate (k - n) 0)
field_written old new front part place n k was count written =
    let zeros_left : List ℕ = replicate k 0 in
    let preserved : take place old ≡ front = rw was (take_at front zeros_left place count) in
    let rest : drop (place + n) old ≡ replicate (k - n) 0 = rw was (sym (drop-drop n place (front ++ zeros_left)) ∙ ap (drop n) (drop_at front zeros_left place count) ∙ drop-replicate n k 0) in
    rw (written, preserved, rest) refl

-- the five writes of a sector
pub sector_written : (part : Part) (b0 b1 b2 b3 b4 b5 : List ℕ) → b0 ≡ magic ++ replicate 508 0
    → b1 ≡ take 4 b0 ++ (big_bytes 8 part.root ++ drop 12 b0)
    → b2 ≡ take 12 b1 ++ (big_bytes 8 part.number ++ drop 20 b1)
    → b3 ≡ take 20 b2 ++ (big_bytes 2 part.index ++ drop 22 b2)
    → b4 ≡ take 22 b3 ++ (big_bytes 2 part.count ++ drop 24 b3)
    → b5 ≡ take 24 b4 ++ part.bytes
    → b5 ≡ sector_bytes part
unfolding sector_bytes
sector_written part b0 b1 b2 b3 b4 b5 e0 e1 e2 e3 e4 e5 =
    let f1 = field_written b0 b1 magic (big_bytes 8 part.root) 4 8 508 e0 refl e1 in
    let front1 : List ℕ = magic ++ big_bytes 8 part.root in
    let f2 = field_written b1 b2 front1 (big_bytes 8 part.number) 12 8 500 f1 refl e2 in
    let front2 : List ℕ = front1 ++ big_bytes 8 part.number in
    let f3 = field_written b2 b3 front2 (big_bytes 2 part.index) 20 2 492 f2 refl e3 in
    let front3 : List ℕ = front2 ++ big_bytes 2 part.index in
    let f4 = field_written b3 b4 front3 (big_bytes 2 part.count) 22 2 490 f3 refl e4 in
    let front4 : List ℕ = front3 ++ big_bytes 2 part.count in
    let preserved : take 24 b4 ≡ front4 = ap (take 24) f4 ∙ take_at front4 (replicate 488 0) 24 refl in
    e5 ∙ ap (λ (front : List ℕ). front ++ part.bytes) preserved

-- the fields stand where they were written
root_back : (room : ℕ) (part : Part) → IsPart room part → big_number 8 (drop 4 (sector_bytes part)) ≡ part.root
unfolding sector_bytes
root_back room part is = big_number-reads_back 8 part.root (big_bytes 8 part.number ++ (big_bytes 2 part.index ++ (big_bytes 2 part.count ++ part.bytes))) is.root_fits

number_back : (room : ℕ) (part : Part) → IsPart room part → big_number 8 (drop 12 (sector_bytes part)) ≡ part.number
unfolding sector_bytes
number_back room part is = big_number-reads_back 8 part.number (big_bytes 2 part.index ++ (big_bytes 2 part.count ++ part.bytes)) is.number_fits

index_back : (room : ℕ) (part : Part) → IsPart room part → big_number 2 (drop 20 (sector_bytes part)) ≡ part.index
unfolding sector_bytes
index_back room part is = big_number-reads_back 2 part.index (big_bytes 2 part.count ++ part.bytes) (omega (arith, is.in_range.inside, is.count_fits))

count_back : (room : ℕ) (part : Part) → IsPart room part → big_number 2 (drop 22 (sector_bytes part)) ≡ part.count
unfolding sector_bytes
count_back room part is = big_number-reads_back 2 part.count part.bytes is.count_fits

bytes_back : (part : Part) → drop 24 (sector_bytes part) ≡ part.bytes
unfolding sector_bytes
bytes_back part = refl

-- parts that say the same are the same
same_part : (part other : Part) → part.root ≡ other.root → part.number ≡ other.number → part.index ≡ other.index → part.count ≡ other.count → part.bytes ≡ other.bytes → part ≡ other
same_part part other root number index count bytes = rw (root, number, index, count, bytes) refl

part_back : (room : ℕ) (part : Part) → IsPart room part → part_at (sector_bytes part) ≡ part
unfolding part_at
part_back room part is = same_part _ _ (root_back room part is) (number_back room part is) (index_back room part is) (count_back room part is) (bytes_back part)

-- what a sector of these bytes says
pub blank_at : (room : ℕ) (bytes : List ℕ) → bytes_eq bytes zeros ≡ true → sector_at room bytes ≡ Blank
unfolding sector_at
blank_at room bytes is = rw is refl

pub held_at : (room : ℕ) (bytes : List ℕ) → bytes_eq bytes zeros ≡ false → begins_with_magic bytes ≡ true → may_be room (part_at bytes) ≡ true → sector_at room bytes ≡ Holds (part_at bytes)
unfolding sector_at
held_at room bytes some marked may = rw (some, marked, may) refl

pub unmarked_at : (room : ℕ) (bytes : List ℕ) → bytes_eq bytes zeros ≡ false → begins_with_magic bytes ≡ false → sector_at room bytes ≡ Malformed
unfolding sector_at
unmarked_at room bytes some unmarked = rw (some, unmarked) refl

pub unfit_at : (room : ℕ) (bytes : List ℕ) → bytes_eq bytes zeros ≡ false → begins_with_magic bytes ≡ true → may_be room (part_at bytes) ≡ false → sector_at room bytes ≡ Malformed
unfolding sector_at
unfit_at room bytes some marked unfit = rw (some, marked, unfit) refl

-- a part that may be in the journal is not zero, and has the magic
not_zeros : (part : Part) → bytes_eq (sector_bytes part) zeros ≡ false
unfolding sector_bytes
not_zeros part = refl

marked : (part : Part) → begins_with_magic (sector_bytes part) ≡ true
unfolding sector_bytes
marked part = refl

pub may_where : (room : ℕ) (part : Part) → 1 ≤ part.root → part.index < part.count → part.count ≤ room → may_be room part ≡ true
may_where room part first inside fits = rw (le-leb 1 part.root first, lt-ltb part.index part.count inside, le-leb part.count room fits) refl

-- it is read from its bytes
pub sector_back : (room : ℕ) (part : Part) → IsPart room part → sector_at room (sector_bytes part) ≡ Holds part
sector_back room part is =
    let back = part_back room part is in
    let may : may_be room (part_at (sector_bytes part)) ≡ true
    = ap (may_be room) back ∙ may_where room part is.first is.in_range.inside is.in_range.fits in
    held_at room (sector_bytes part) (not_zeros part) (marked part) may ∙ ap Holds back
