-- The spelling of a root, written field by field, and read again.
use Rattle.std.proofs.Common.{◌≡◌, ℕ, ◌+◌, ◌*◌, ◌-◌, ◌<◌, ◌^◌, true, false, List, [], ◌∷◌, ◌++◌, length, take, drop, replicate, refl, sym, ap, ◌∙◌, arith}
use Rattle.std.specs.Str.{bytes_eq}
use Rattle.std.proofs.lemmas.List.{take_at, drop-drop, drop_at, drop-replicate}
use Rattle.std.proofs.lemmas.Slice.Eq.{bytes_eq-Decides}
use Rattle.std.proofs.lemmas.Bool.{le-leb, eq-eqb}
use Rattle.byteorder.specs.Endian.{big_number, big_bytes}
use Rattle.byteorder.specs.Numbers.{big_number-reads_back}
use Rattle.page_roots.specs.declared.format.Format.{Format}
use Rattle.page_roots.specs.declared.format.Format.TheVariants.{One, Two, Three}
use Rattle.page_roots.specs.Formats.{number_of, format_in}
use Rattle.page_roots.specs.Numbers.{bytes_of_numbers, numbers_in}
use Rattle.page_roots.specs.Root.{RootFields, IsRootOf, home, magic, root_bytes}
use Rattle.page_roots.specs.Sector.{root_at, zeros, fields_in, may_stand, maps_named}
use Rattle.page_roots.specs.declared.sector.RootSector.TheVariants.{Empty, Found, Malformed}
use Rattle.page_roots.proofs.Numbers.{numbers_in-bytes_of_numbers}

-- one field more is written, at the front of the zeros
field_written : (old new front part : List ℕ) (place n k : ℕ) → old ≡ front ++ replicate k 0 → length front ≡ place
    → new ≡ take place old ++ (part ++ drop (place + n) old) → new ≡ front ++ (part ++ replicate (k - n) 0)
field_written old new front part place n k was count written =
    let zeros_left : List ℕ = replicate k 0 in
    let preserved : take place old ≡ front = rw was (take_at front zeros_left place count) in
    let rest : drop (place + n) old ≡ replicate (k - n) 0 = rw was (sym (drop-drop n place (front ++ zeros_left)) ∙ ap (drop n) (drop_at front zeros_left place count) ∙ drop-replicate n k 0) in
    rw (written, preserved, rest) refl

-- the four writes of a root
pub root_written : (root : RootFields) (format count : ℕ) (b0 b1 b2 b3 b4 : List ℕ) → number_of root.format ≡ format → length root.maps ≡ count
    → b0 ≡ magic ++ replicate 504 0
    → b1 ≡ take 8 b0 ++ (bytes_of_numbers (format ∷ root.pages ∷ []) ++ drop 16 b0)
    → b2 ≡ take 16 b1 ++ (big_bytes 8 root.number ++ drop 24 b1)
    → b3 ≡ take 24 b2 ++ (bytes_of_numbers (count ∷ []) ++ drop 28 b2)
    → b4 ≡ take 28 b3 ++ (bytes_of_numbers root.maps ++ drop (28 + 4 * length root.maps) b3)
    → b4 ≡ root_bytes root
unfolding root_bytes
root_written root format count b0 b1 b2 b3 b4 names is e0 e1 e2 e3 e4 =
    let f1 = field_written b0 b1 magic (bytes_of_numbers (format ∷ root.pages ∷ [])) 8 8 504 e0 refl e1 in
    let front1 : List ℕ = magic ++ bytes_of_numbers (format ∷ root.pages ∷ []) in
    let f2 = field_written b1 b2 front1 (big_bytes 8 root.number) 16 8 496 f1 refl e2 in
    let front2 : List ℕ = front1 ++ big_bytes 8 root.number in
    let f3 = field_written b2 b3 front2 (bytes_of_numbers (count ∷ [])) 24 4 488 f2 refl e3 in
    let front3 : List ℕ = front2 ++ bytes_of_numbers (count ∷ []) in
    field_written b3 b4 front3 (bytes_of_numbers root.maps) 28 (4 * length root.maps) 484 f3 refl e4
    ∙ ap (λ (n : ℕ). front2 ++ (bytes_of_numbers (n ∷ []) ++ (bytes_of_numbers root.maps ++ replicate (484 - 4 * length root.maps) 0))) (sym is)
    ∙ ap (λ (f : ℕ). magic ++ (bytes_of_numbers (f ∷ root.pages ∷ []) ++ (big_bytes 8 root.number
    ++ (bytes_of_numbers (length root.maps ∷ []) ++ (bytes_of_numbers root.maps ++ replicate (484 - 4 * length root.maps) 0))))) (sym names)

-- roots that say the same are the same
pub same_fields : (root other : RootFields) → root.format ≡ other.format → root.number ≡ other.number → root.pages ≡ other.pages → root.maps ≡ other.maps → root ≡ other
same_fields root other format number pages maps =
    ap (λ (f : Format). let r : RootFields = record { format = f; number = root.number; pages = root.pages; maps = root.maps } in r) format
    ∙ ap (λ (n : ℕ). let r : RootFields = record { format = other.format; number = n; pages = root.pages; maps = root.maps } in r) number
    ∙ ap (λ (n : ℕ). let r : RootFields = record { format = other.format; number = other.number; pages = n; maps = root.maps } in r) pages
    ∙ ap (λ (ns : List ℕ). let r : RootFields = record { format = other.format; number = other.number; pages = other.pages; maps = ns } in r) maps

-- the fields stand where they were written
pub count-root_bytes : (sector : ℕ) (root : RootFields) → IsRootOf sector root → maps_named (root_bytes root) ≡ length root.maps
unfolding root_bytes
count-root_bytes sector root is = big_number-reads_back 4 (length root.maps) (bytes_of_numbers root.maps ++ replicate (484 - 4 * length root.maps) 0) (omega (arith, is.most_maps))

pub number-root_bytes : (sector : ℕ) (root : RootFields) → IsRootOf sector root → big_number 8 (drop 16 (root_bytes root)) ≡ root.number
unfolding root_bytes
number-root_bytes sector root is = big_number-reads_back 8 root.number (big_bytes 4 (length root.maps) ++ (bytes_of_numbers root.maps ++ replicate (484 - 4 * length root.maps) 0)) is.number_fits

-- each format is read from its number
format_read : (format : Format) → format_in (number_of format) ≡ format
format_read One = refl
format_read Two = refl
format_read Three = refl

small_number : (format : Format) → number_of format < 2 ^ 32
small_number One = omega arith
small_number Two = omega arith
small_number Three = omega arith

format-root_bytes : (root : RootFields) → format_in (big_number 4 (drop 8 (root_bytes root))) ≡ root.format
unfolding root_bytes
format-root_bytes root =
    let rest : List ℕ = big_bytes 4 root.pages ++ (big_bytes 8 root.number ++ (big_bytes 4 (length root.maps) ++ (bytes_of_numbers root.maps ++ replicate (484 - 4 * length root.maps) 0))) in
    ap format_in (big_number-reads_back 4 (number_of root.format) rest (small_number root.format)) ∙ format_read root.format

pages-root_bytes : (sector : ℕ) (root : RootFields) → IsRootOf sector root → big_number 4 (drop 12 (root_bytes root)) ≡ root.pages
unfolding root_bytes
pages-root_bytes sector root is = big_number-reads_back 4 root.pages (big_bytes 8 root.number ++ (big_bytes 4 (length root.maps) ++ (bytes_of_numbers root.maps ++ replicate (484 - 4 * length root.maps) 0))) is.pages_fit

maps-root_bytes : (sector : ℕ) (root : RootFields) → IsRootOf sector root → numbers_in (length root.maps) (drop 28 (root_bytes root)) ≡ root.maps
unfolding root_bytes
maps-root_bytes sector root is = numbers_in-bytes_of_numbers root.maps (replicate (484 - 4 * length root.maps) 0) is.maps_fit

fields_in-root_bytes : (sector : ℕ) (root : RootFields) → IsRootOf sector root → fields_in (root_bytes root) ≡ root
unfolding fields_in
fields_in-root_bytes sector root is = same_fields _ _ (format-root_bytes root) (number-root_bytes sector root is) (pages-root_bytes sector root is) (rw (count-root_bytes sector root is) (maps-root_bytes sector root is))

-- no root is spelled by zeros
not_zeros : (root : RootFields) → bytes_eq (root_bytes root) zeros ≡ false
unfolding root_bytes
not_zeros root = refl

-- what a sector of these bytes says
pub empty_at : (sector : ℕ) (bytes : List ℕ) → bytes_eq bytes zeros ≡ true → root_at sector bytes ≡ Empty
unfolding root_at
empty_at sector bytes is = rw is refl

pub found_at : (sector : ℕ) (bytes : List ℕ) → bytes_eq bytes zeros ≡ false → may_stand sector bytes ≡ true
    → bytes_eq bytes (root_bytes (fields_in bytes)) ≡ true → root_at sector bytes ≡ Found (fields_in bytes)
unfolding root_at
found_at sector bytes some may spelled = rw (some, may, spelled) refl

pub unfit_at : (sector : ℕ) (bytes : List ℕ) → bytes_eq bytes zeros ≡ false → may_stand sector bytes ≡ false → root_at sector bytes ≡ Malformed
unfolding root_at
unfit_at sector bytes some unfit = rw (some, unfit) refl

pub misspelled_at : (sector : ℕ) (bytes : List ℕ) → bytes_eq bytes zeros ≡ false → may_stand sector bytes ≡ true
    → bytes_eq bytes (root_bytes (fields_in bytes)) ≡ false → root_at sector bytes ≡ Malformed
unfolding root_at
misspelled_at sector bytes some may misspelled = rw (some, may, misspelled) refl

-- a root that may stand in a sector is read from its bytes
pub root_at-root_bytes : (sector : ℕ) (root : RootFields) → IsRootOf sector root → root_at sector (root_bytes root) ≡ Found root
root_at-root_bytes sector root is =
    let fields = fields_in-root_bytes sector root is in
    let count = count-root_bytes sector root is in
    let number = number-root_bytes sector root is in
    let may : may_stand sector (root_bytes root) ≡ true =
    rw (count, number, le-leb 1 (length root.maps) is.some_maps, le-leb (length root.maps) 64 is.most_maps, le-leb 1 root.number is.first, eq-eqb (home root.number) sector is.parity) refl in
    let again : root_bytes root ≡ root_bytes (fields_in (root_bytes root)) = ap root_bytes (sym fields) in
    found_at sector (root_bytes root) (not_zeros root) may ((bytes_eq-Decides _ _).1 again) ∙ ap Found fields
