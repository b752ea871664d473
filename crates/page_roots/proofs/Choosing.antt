-- The root that is chosen is the one of greater number in its own sector.
use Rattle.std.proofs.Common.{◌≡◌, ◌≢◌, ◌↔◌, ◌⊎◌, ℕ, ◌+◌, ◌<◌, Bool, true, false, cond, leb, eqb, ltb, ◌&&◌, Option, Some, List, drop, refl, sym, ap, subst, ◌∙◌, arith, inl, inr}
use Rattle.std.specs.Str.{bytes_eq}
use Rattle.std.proofs.lemmas.Bool.{cases_lt, eqb-true, lt-ltb, le-ltb, ltb-true, ltb-false}
use Rattle.byteorder.specs.Endian.{big_number}
use Rattle.page_roots.specs.Root.{RootFields, home, root_bytes}
use Rattle.page_roots.specs.Sector.{root_at, zeros, fields_in, may_stand, maps_named}
use Rattle.page_roots.specs.Chosen.{IsOlder, IsChosen, chosen}
use Rattle.page_roots.specs.declared.sector.RootSector.{RootSector}
use Rattle.page_roots.specs.declared.sector.RootSector.TheVariants.{Empty, Found, Malformed}
use Rattle.page_roots.proofs.Reading.{both, past_tests}

-- a root that is found stands in the sector of its number
pub parity_of : (sector : ℕ) (bytes : List ℕ) (root : RootFields) → root_at sector bytes ≡ Found root → home root.number ≡ sector
unfolding root_at fields_in
parity_of sector bytes root found =
    let count : ℕ = maps_named bytes in
    let number : ℕ = big_number 8 (drop 16 bytes) in
    let past = past_tests (bytes_eq bytes zeros) (may_stand sector bytes && bytes_eq bytes (root_bytes (fields_in bytes))) (fields_in bytes) root found in
    let tests = both (may_stand sector bytes) (bytes_eq bytes (root_bytes (fields_in bytes))) past.0 in
    let some = both (leb 1 count) (leb count 64 && (leb 1 number && eqb (home number) sector)) tests.0 in
    let most = both (leb count 64) (leb 1 number && eqb (home number) sector) some.1 in
    let last = both (leb 1 number) (eqb (home number) sector) most.1 in
    subst (λ (r : RootFields). home r.number ≡ sector) past.1 (eqb-true (home number) sector last.1)

-- each of the two is chosen where the other one is older
even_chosen : (odd : RootSector) (root : RootFields) → IsOlder odd root.number → chosen (Found root) odd ≡ Some root
even_chosen Empty root older = refl
even_chosen (Found next) root older = rw (lt-ltb next.number root.number older) refl
even_chosen Malformed root older = absurd older

odd_chosen : (even : RootSector) (root : RootFields) → IsOlder even root.number → chosen even (Found root) ≡ Some root
odd_chosen Empty root older = refl
odd_chosen (Found next) root older = rw (le-ltb root.number next.number (omega (arith, older))) refl
odd_chosen Malformed root older = absurd older

-- the side that was chosen
abbrev IsSide : RootSector → RootSector → RootFields → Type 0
IsSide here other root = (here ≡ Found root) × IsOlder other root.number

choice_of : (first : Bool) (root next other : RootFields) → cond first (Some root) (Some next) ≡ Some other → ((first ≡ true) × (root ≡ other)) ⊎ ((first ≡ false) × (next ≡ other))
choice_of true root next other is = inl (refl, cc)
choice_of false root next other is = inr (refl, cc)

side_of : (even odd : RootSector) (root : RootFields) → ((a b : RootFields) → even ≡ Found a → odd ≡ Found b → a.number ≢ b.number) → chosen even odd ≡ Some root
    → IsSide even odd root ⊎ IsSide odd even root
side_of Malformed odd root apart is = absurd cc
side_of Empty Malformed root apart is = absurd cc
side_of (Found a) Malformed root apart is = absurd cc
side_of Empty Empty root apart is = absurd cc
side_of Empty (Found b) root apart is = inr (cc, tt)
side_of (Found a) Empty root apart is = inl (cc, tt)
side_of (Found a) (Found b) root apart is =
    elim (choice_of (ltb b.number a.number) a b root is) [
      | inl left ↦ inl (ap Found left.1, subst (λ (r : RootFields). b.number < r.number) left.1 (ltb-true b.number a.number left.0))
      | inr right ↦
          let differ = apart a b refl refl in
          inr (ap Found right.1, subst (λ (r : RootFields). a.number < r.number) right.1 (omega (arith, ltb-false b.number a.number right.0)))
    ]

-- a root in the sector of its number is the chosen one where the other sector is older
stands_chosen : (image : ℕ → List ℕ) (root : RootFields) (here other : ℕ) → home root.number ≡ here → home (root.number + 1) ≡ other
    → root_at here (image here) ≡ Found root → IsOlder (root_at other (image other)) root.number → IsChosen image root
stands_chosen image root here other here_is other_is found older = record {
  here = rw here_is found;
  other = rw other_is older;
}

pub chosen_where : (image : ℕ → List ℕ) (root : RootFields) → (chosen (root_at 0 (image 0)) (root_at 1 (image 1)) ≡ Some root) ↔ IsChosen image root
chosen_where image root = (
  λ is.
      let apart : (a b : RootFields) → root_at 0 (image 0) ≡ Found a → root_at 1 (image 1) ≡ Found b → a.number ≢ b.number = λ a b even odd same.
      let zero_is = parity_of 0 (image 0) a even in
      let one_is = parity_of 1 (image 1) b odd in
      let equal : home a.number ≡ home b.number = ap home same in
      omega arith in
      elim (side_of (root_at 0 (image 0)) (root_at 1 (image 1)) root apart is) [
        | inl side ↦ let even = parity_of 0 (image 0) root side.0 in stands_chosen image root 0 1 even (omega (arith, even)) side.0 side.1
        | inr side ↦ let odd = parity_of 1 (image 1) root side.0 in stands_chosen image root 1 0 odd (omega (arith, odd)) side.0 side.1
      ],
  λ is.
      elim (cases_lt (home root.number) 1) [
        | inl even ↦
            let here_is : home root.number ≡ 0 = omega arith in
            let other_is : home (root.number + 1) ≡ 1 = omega arith in
            let found : root_at 0 (image 0) ≡ Found root = rw here_is at is.here in
            let older : IsOlder (root_at 1 (image 1)) root.number = rw other_is at is.other in
            rw found (even_chosen (root_at 1 (image 1)) root older)
        | inr odd ↦
            let here_is : home root.number ≡ 1 = omega arith in
            let other_is : home (root.number + 1) ≡ 0 = omega arith in
            let found : root_at 1 (image 1) ≡ Found root = rw here_is at is.here in
            let older : IsOlder (root_at 0 (image 0)) root.number = rw other_is at is.other in
            rw found (odd_chosen (root_at 0 (image 0)) root older)
      ],
)

-- both directions, for what was chosen of two root sectors
pub chosen_of : (even odd : RootSector) (result : Option RootFields) → result ≡ chosen even odd → (image : ℕ → List ℕ) → root_at 0 (image 0) ≡ even → root_at 1 (image 1) ≡ odd
    → (root : RootFields) → (result ≡ Some root) ↔ IsChosen image root
chosen_of even odd result is image even_is odd_is root =
    let same : chosen (root_at 0 (image 0)) (root_at 1 (image 1)) ≡ result = rw (even_is, odd_is) (sym is) in
    (λ found. (chosen_where image root).0 (same ∙ found), λ stands. sym same ∙ (chosen_where image root).1 stands)

-- there is one root at most
pub chosen_once : (image : ℕ → List ℕ) (root other : RootFields) → IsChosen image root → IsChosen image other → root ≡ other
chosen_once image root other is also = let e = sym ((chosen_where image root).1 is) ∙ (chosen_where image other).1 also in cc
