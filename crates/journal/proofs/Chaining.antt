-- Chains of records: they are read in one way, and what a write of a record leaves of them.
use Rattle.std.proofs.Common.{◌≡◌, ◌≤◌, ◌<◌, ◌⊎◌, ◌+◌, ◌-◌, ◌++◌, ℕ, zero, suc, List, [], ◌∷◌, length, refl, sym, ap, ◌∙◌, subst, arith, inl, inr}
use Rattle.std.proofs.lemmas.Bool.{cases_lt}
use Rattle.std.proofs.lemmas.List.{ext_get_or}
use Rattle.journal.specs.Chain.{Part, Holds, Region, Entry, part_of, HoldsParts, IsWhole, Chains, end_of}
use Rattle.journal.specs.Journal.{NumbersUpTo, MayHoldParts}

-- a sector holds one part
pub one_part : (part other : Part) → Holds part ≡ Holds other → part ≡ other
one_part part other is = cc

pub end_later : (p : ℕ) (es : List Entry) → p ≤ end_of p es
end_later p [] = omega arith
end_later p (e ∷ es) = omega (arith, end_later (p + length e.parts) es)

pub end_with : (p : ℕ) (es : List Entry) (new : Entry) → end_of p (es ++ new ∷ []) ≡ end_of p es + length new.parts
end_with p [] new = refl
end_with p (e ∷ es) new = end_with (p + length e.parts) es new

entry_is : (e other : Entry) → e.number ≡ other.number → e.parts ≡ other.parts → e ≡ other
entry_is e other number parts = rw number (rw parts refl)

-- two whole records at one place are one
one_whole : (region : Region) (root last p room : ℕ) (e other : Entry) → IsWhole region root last p room e → IsWhole region root last p room other → e ≡ other
one_whole region root last p room e other whole also =
    let same : (i : ℕ) → i < length e.parts → i < length other.parts → part_of root e i ≡ part_of root other i
    = λ i lt less. one_part _ _ (sym (whole.holds i lt) ∙ also.holds i less) in
    let first : part_of root e 0 ≡ part_of root other 0 = same 0 (omega (arith, whole.some)) (omega (arith, also.some)) in
    let count_is : length e.parts ≡ length other.parts = ap (λ (part : Part). part.count) first in
    entry_is e other (ap (λ (part : Part). part.number) first)
    (ext_get_or [] e.parts other.parts count_is (λ i lt. ap (λ (part : Part). part.bytes) (same i lt (omega (arith, lt, count_is)))))

-- a chain is read in one way
pub one_chain : (region : Region) (root last p room : ℕ) (es other : List Entry) → Chains region root last p room es → Chains region root last p room other → es ≡ other
one_chain region root last p room [] [] chain also = refl
one_chain region root last p room [] (e ∷ es) chain also = absurd (chain e also.0)
one_chain region root last p room (e ∷ es) [] chain also = absurd (also e chain.0)
one_chain region root last p room (e ∷ es) (f ∷ fs) chain also =
    let same : e ≡ f = one_whole region root last p room e f chain.0 also.0 in
    let rest : Chains region root e.number (p + length e.parts) (room - length e.parts) fs
    = subst (λ (x : Entry). Chains region root x.number (p + length x.parts) (room - length x.parts) fs) (sym same) also.1 in
    rw same (ap (λ (xs : List Entry). f ∷ xs) (one_chain region root e.number (p + length e.parts) (room - length e.parts) es fs chain.1 rest))

-- While a record of a root is written from p on under a number above all of the old sectors.
module _ (old image : Region) (root p top : ℕ) (new : Entry) (few : NumbersUpTo top old) (above : top < new.number) (may : MayHoldParts old root p new image) where
  -- no sector has a number above that of the record
  pub numbered : NumbersUpTo new.number image
  numbered q part is = elim (may q) [
    | inl same ↦ omega (arith, few q part (sym same ∙ is), above)
    | inr there ↦ let e : new.number ≡ part.number = ap (λ (x : Part). x.number) (one_part _ _ (sym there.1 ∙ is)) in omega (arith, e)
  ]

  -- a part with a number that is not above the top was there before
  was_there : (q : ℕ) (part : Part) → part.number ≤ top → image q ≡ Holds part → old q ≡ Holds part
  was_there q part low is = elim (may q) [
    | inl same ↦ sym same ∙ is
    | inr there ↦
        let e : new.number ≡ part.number = ap (λ (x : Part). x.number) (one_part _ _ (sym there.1 ∙ is)) in
        absurd (omega (arith, e, low, above))
  ]

  -- a part of the record that is there has its own index
  at_index : (i j : ℕ) → p + i ≡ p + j → image (p + i) ≡ Holds (part_of root new j) → image (p + i) ≡ Holds (part_of root new i)
  at_index i j same is = let e : j ≡ i = omega (arith, same) in subst (λ (k : ℕ). image (p + i) ≡ Holds (part_of root new k)) e is

  one_more : (m : ℕ) → ((i : ℕ) → i < m → image (p + i) ≡ Holds (part_of root new i)) → image (p + m) ≡ Holds (part_of root new m)
      → (i : ℕ) → i < suc m → image (p + i) ≡ Holds (part_of root new i)
  one_more m so_far here i lt = elim (cases_lt i m) [
    | inl before ↦ so_far i before
    | inr after ↦ let e : m ≡ i = omega (arith, after, lt) in subst (λ (k : ℕ). image (p + k) ≡ Holds (part_of root new k)) e here
  ]

  -- the first parts of the record are all there, or one of their sectors is as it was
  pub some_old : (m : ℕ) → m ≤ length new.parts → ((i : ℕ) → i < m → image (p + i) ≡ Holds (part_of root new i)) ⊎ ((i : ℕ) × (i < length new.parts) × (image (p + i) ≡ old (p + i)))
  some_old zero le = inl (λ i lt. absurd (omega (arith, lt)))
  some_old (suc m) le = elim (some_old m (omega (arith, le))) [
    | inr found ↦ inr found
    | inl so_far ↦ elim (may (p + m)) [
      | inl same ↦ inr (m, omega (arith, le), same)
      | inr there ↦ inl (one_more m so_far (at_index m there.0.index there.0.place there.1))
    ]
  ]

  -- behind the record no other begins: its number is above all numbers there
  none_behind : (room : ℕ) (e : Entry) → IsWhole image root new.number (p + length new.parts) room e → ⊥
  none_behind room e whole =
      let here = numbered (p + length new.parts + 0) (part_of root e 0) (whole.holds 0 (omega (arith, whole.some))) in
      omega (arith, here, whole.rises)

  -- where not all of the record is there, no other is whole where it begins
  none_yet : (last room : ℕ) → ((e : Entry) → IsWhole old root last p room e → ⊥) → (i : ℕ) → i < length new.parts → image (p + i) ≡ old (p + i)
      → (e : Entry) → IsWhole image root last p room e → ⊥
  none_yet last room none i inside same e whole = elim (may (p + 0)) [
    | inl first_same ↦
        let low = few (p + 0) (part_of root e 0) (sym first_same ∙ whole.holds 0 (omega (arith, whole.some))) in
        none e (record {
          rises = whole.rises;
          some = whole.some;
          fits = whole.fits;
          holds = λ j lt. was_there (p + j) (part_of root e j) low (whole.holds j lt);
        })
    | inr there ↦
        let is : part_of root new there.0.index ≡ part_of root e 0 = one_part _ _ (sym there.1 ∙ whole.holds 0 (omega (arith, whole.some))) in
        let number_is : new.number ≡ e.number = ap (λ (part : Part). part.number) is in
        let count_is : length new.parts ≡ length e.parts = ap (λ (part : Part). part.count) is in
        let low = few (p + i) (part_of root e i) (sym same ∙ whole.holds i (omega (arith, inside, count_is))) in
        omega (arith, low, number_is, above)
  ]

  -- a record before it is as it was
  whole_still : (last q room : ℕ) (e : Entry) → q + length e.parts ≤ p → IsWhole old root last q room e → IsWhole image root last q room e
  whole_still last q room e before whole = record {
    rises = whole.rises;
    some = whole.some;
    fits = whole.fits;
    holds = λ i lt. elim (may (q + i)) [
      | inl same ↦ same ∙ whole.holds i lt
      | inr there ↦ absurd (omega (arith, there.0.place, before, lt))
    ];
  }

  -- the number of the last record is above no other
  pub last_below : (last q room : ℕ) (e : Entry) → IsWhole old root last q room e → e.number ≤ top
  last_below last q room e whole = few (q + 0) (part_of root e 0) (whole.holds 0 (omega (arith, whole.some)))

  -- with all parts there, the record is the last one
  pub chain_with : (last q room : ℕ) (es : List Entry) → end_of q es ≡ p → last ≤ top → Chains old root last q room es → 1 ≤ length new.parts
      → p + length new.parts ≤ q + room → HoldsParts image root p new → Chains image root last q room (es ++ new ∷ [])
  chain_with last q room [] at low chain some fits all = (
    record { rises = omega (arith, low, above); some = some; fits = omega (arith, fits, at); holds = subst (λ (s : ℕ). HoldsParts image root s new) (sym at) all },
    subst (λ (s : ℕ). (e : Entry) → IsWhole image root new.number (s + length new.parts) (room - length new.parts) e → ⊥) (sym at) (none_behind (room - length new.parts)),
  )
  chain_with last q room (e ∷ es) at low chain some fits all = (
    whole_still last q room e (omega (arith, at, end_later (q + length e.parts) es)) chain.0,
    chain_with e.number (q + length e.parts) (room - length e.parts) es at (last_below last q room e chain.0) chain.1 some (omega (arith, fits, chain.0.fits)) all,
  )

  -- with one of its sectors as it was, the records are those before
  pub chain_without : (last q room : ℕ) (es : List Entry) → end_of q es ≡ p → Chains old root last q room es
      → (i : ℕ) → i < length new.parts → image (p + i) ≡ old (p + i) → Chains image root last q room es
  chain_without last q room [] at chain i inside same =
      let none : (e : Entry) → IsWhole old root last p room e → ⊥ = subst (λ (s : ℕ). (e : Entry) → IsWhole old root last s room e → ⊥) at chain in
      subst (λ (s : ℕ). (e : Entry) → IsWhole image root last s room e → ⊥) (sym at) (none_yet last room none i inside same)
  chain_without last q room (e ∷ es) at chain i inside same = (
    whole_still last q room e (omega (arith, at, end_later (q + length e.parts) es)) chain.0,
    chain_without e.number (q + length e.parts) (room - length e.parts) es at chain.1 i inside same,
  )
