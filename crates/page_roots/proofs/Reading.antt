-- A root is read where the bytes are its spelling and it may stand there, and nowhere else.
use Rattle.std.proofs.Common.{◌≡◌, ◌↔◌, ℕ, ◌≤◌, Bool, true, false, cond, ◌&&◌, leb, eqb, List, length, take, drop, refl, sym, ap, subst, ◌∙◌, arith}
use Rattle.std.specs.Str.{bytes_eq}
use Rattle.std.proofs.lemmas.Slice.Eq.{bytes_eq-Decides}
use Rattle.std.proofs.lemmas.Bool.{leb-true, le-leb, eqb-true, eq-eqb}
use Rattle.std.proofs.lemmas.List.{length-drop}
use Rattle.byteorder.specs.Endian.{big_number}
use Rattle.byteorder.specs.Numbers.{big_from-lt}
use Rattle.page_roots.specs.Root.{RootFields, IsRootOf, home, magic, root_bytes}
use Rattle.page_roots.specs.Sector.{root_at, zeros, fields_in, may_stand, maps_named}
use Rattle.page_roots.specs.declared.sector.RootSector.{RootSector}
use Rattle.page_roots.specs.declared.sector.RootSector.TheVariants.{Empty, Found, Malformed}
use Rattle.page_roots.proofs.Numbers.{IsBytes, IsBytes-drop, length-numbers_in, numbers_in-fit}
use Rattle.page_roots.proofs.Spelled.{root_at-root_bytes}

-- both parts of a test that is met
pub both : (a b : Bool) → (a && b) ≡ true → (a ≡ true) × (b ≡ true)
both true b is = (refl, is)
both false b is = absurd cc

-- a root is found only past both tests
pub past_tests : (empty may : Bool) (found root : RootFields) → cond empty Empty (cond may (Found found) Malformed) ≡ Found root → (may ≡ true) × (found ≡ root)
past_tests true may found root is = absurd cc
past_tests false true found root is = (refl, cc)
past_tests false false found root is = absurd cc

-- the fields of a root that may stand in its sector
fields_stand : (sector : ℕ) (bytes : List ℕ) → IsBytes bytes → length bytes ≡ 512 → may_stand sector bytes ≡ true → IsRootOf sector (fields_in bytes)
unfolding fields_in
fields_stand sector bytes fit count may =
    let count_is : ℕ = maps_named bytes in
    let number_is : ℕ = big_number 8 (drop 16 bytes) in
    let some = both (leb 1 count_is) (leb count_is 64 && (leb 1 number_is && eqb (home number_is) sector)) may in
    let most = both (leb count_is 64) (leb 1 number_is && eqb (home number_is) sector) some.1 in
    let last = both (leb 1 number_is) (eqb (home number_is) sector) most.1 in
    let maps = length-numbers_in (maps_named bytes) (drop 28 bytes) (omega (arith, leb-true _ _ most.0, length-drop 28 bytes)) in
    record {
      first = leb-true _ _ last.0;
      parity = eqb-true _ _ last.1;
      some_maps = omega (arith, maps, leb-true _ _ some.0);
      most_maps = omega (arith, maps, leb-true _ _ most.0);
      number_fits = big_from-lt 0 8 (drop 16 bytes) (IsBytes-drop 16 bytes fit);
      pages_fit = big_from-lt 0 4 (drop 12 bytes) (IsBytes-drop 12 bytes fit);
      maps_fit = numbers_in-fit (maps_named bytes) (drop 28 bytes) (IsBytes-drop 28 bytes fit);
    }

found_only : (sector : ℕ) (bytes : List ℕ) (root : RootFields) → IsBytes bytes → length bytes ≡ 512 → root_at sector bytes ≡ Found root
    → IsRootOf sector root × (bytes ≡ root_bytes root)
unfolding root_at
found_only sector bytes root fit count found =
    let past = past_tests (bytes_eq bytes zeros) (may_stand sector bytes && bytes_eq bytes (root_bytes (fields_in bytes))) (fields_in bytes) root found in
    let tests = both (may_stand sector bytes) (bytes_eq bytes (root_bytes (fields_in bytes))) past.0 in
    let spelled : bytes ≡ root_bytes (fields_in bytes) = (bytes_eq-Decides bytes (root_bytes (fields_in bytes))).0 tests.1 in
    (subst (IsRootOf sector) past.1 (fields_stand sector bytes fit count tests.0), spelled ∙ ap root_bytes past.1)

-- both directions, for what is read
pub found_where : (sector : ℕ) (bytes : List ℕ) (read : RootSector) → IsBytes bytes → length bytes ≡ 512 → read ≡ root_at sector bytes
    → (root : RootFields) → (read ≡ Found root) ↔ (IsRootOf sector root × (bytes ≡ root_bytes root))
found_where sector bytes read fit count is root = (
  λ found. found_only sector bytes root fit count (sym is ∙ found),
  λ spelled. is ∙ ap (root_at sector) spelled.1 ∙ root_at-root_bytes sector root spelled.0,
)

-- what the code tests is what may stand
pub may_where : (sector : ℕ) (bytes : List ℕ) (count number : ℕ) → count ≡ maps_named bytes → number ≡ big_number 8 (drop 16 bytes)
    → 1 ≤ count → count ≤ 64 → 1 ≤ number → home number ≡ sector → may_stand sector bytes ≡ true
may_where sector bytes count number count_is number_is some most first parity =
    rw (← count_is, ← number_is, le-leb 1 count some, le-leb count 64 most, le-leb 1 number first, eq-eqb (home number) sector parity) refl

-- a sector that holds a root begins with the magic
front_is_magic : (root : RootFields) → take 8 (root_bytes root) ≡ magic
unfolding root_bytes
front_is_magic root = refl

pub found_has_magic : (sector : ℕ) (bytes : List ℕ) (read : RootSector) → IsBytes bytes → length bytes ≡ 512 → read ≡ root_at sector bytes
    → (root : RootFields) → read ≡ Found root → take 8 bytes ≡ magic
found_has_magic sector bytes read fit count is root found = ap (take 8) (found_only sector bytes root fit count (sym is ∙ found)).1 ∙ front_is_magic root
