-- More logical pages than physical ones cannot each have one of its own.
use Rattle.std.proofs.Common.{◌≡◌, ◌≢◌, ◌<◌, ◌≤◌, ◌-◌, ℕ, zero, suc, Bool, true, false, cond, eqb, List, get_or, refl, sym, ◌∙◌, arith, inl, inr}
use Rattle.std.proofs.lemmas.Bool.{cases_eq, eq-eqb, eqb-true}
use Rattle.page_allocator.specs.TakenPages.{TakenPages}
use Rattle.cow_pages.specs.PageMap.{IsConsistent}

-- the greatest one is given up for another
abbrev moved : ℕ → ℕ → ℕ → ℕ
moved greatest other index = cond (eqb index greatest) other index

moved_same : (greatest other index : ℕ) → index ≡ greatest → moved greatest other index ≡ other
moved_same greatest other index is = rw (eq-eqb index greatest is) refl

moved_apart : (greatest other index : ℕ) → index ≢ greatest → moved greatest other index ≡ index
moved_apart greatest other index apart = by_test (eqb index greatest) refl
  where
    by_test : (b : Bool) → eqb index greatest ≡ b → cond (eqb index greatest) other index ≡ index
    by_test true is = absurd (apart (eqb-true index greatest is))
    by_test false is = rw is refl

pub too_many : (n : ℕ) (index : ℕ → ℕ) → ((i : ℕ) → i ≤ n → index i < n) → ((i j : ℕ) → i ≤ n → j ≤ n → index i ≡ index j → i ≡ j) → ⊥
too_many zero index inside differ = omega (arith, inside 0 (omega arith))
too_many (suc n) index inside differ =
    too_many n (λ i. moved n (index (suc n)) (index i))
    (λ i le. elim (cases_eq (index i) n) [
      | inl same ↦ omega (arith, moved_same n (index (suc n)) (index i) same, inside (suc n) (omega arith), not_last i le same)
      | inr apart ↦ omega (arith, moved_apart n (index (suc n)) (index i) apart, inside i (omega (arith, le)), apart)
    ])
    (λ i j i_le j_le same. elim (cases_eq (index i) n) [
      | inl i_last ↦ elim (cases_eq (index j) n) [
        | inl j_last ↦ differ i j (omega (arith, i_le)) (omega (arith, j_le)) (i_last ∙ sym j_last)
        | inr j_apart ↦
            let clash = differ (suc n) j (omega arith) (omega (arith, j_le)) (sym (moved_same n (index (suc n)) (index i) i_last) ∙ same ∙ moved_apart n (index (suc n)) (index j) j_apart) in
            absurd (omega (arith, clash, j_le))
      ]
      | inr i_apart ↦ elim (cases_eq (index j) n) [
        | inl j_last ↦
            let clash = differ i (suc n) (omega (arith, i_le)) (omega arith) (sym (moved_apart n (index (suc n)) (index i) i_apart) ∙ same ∙ moved_same n (index (suc n)) (index j) j_last) in
            absurd (omega (arith, clash, i_le))
        | inr j_apart ↦ differ i j (omega (arith, i_le)) (omega (arith, j_le)) (sym (moved_apart n (index (suc n)) (index i) i_apart) ∙ same ∙ moved_apart n (index (suc n)) (index j) j_apart)
      ]
    ])
  where
    not_last : (i : ℕ) → i ≤ n → index i ≡ n → index (suc n) ≢ n
    not_last i le same last = let clash = differ i (suc n) (omega (arith, le)) (omega arith) (same ∙ sym last) in omega (arith, clash, le)

-- so some logical page is not in use
pub some_unused : (pages : ℕ) (maps durable reserved working : List ℕ) (marks : TakenPages) → IsConsistent pages maps durable reserved working marks
    → ((l : ℕ) → l < 65536 → 0 < get_or working l 0) → ⊥
some_unused pages maps durable reserved working marks old used =
    too_many 65535 (λ l. get_or working l 0 - 1)
    (λ i le. omega (arith, used i (omega (arith, le)), old.inside i, old.most))
    (λ i j i_le j_le same. old.differ i j (used i (omega (arith, i_le))) (omega (arith, same, used i (omega (arith, i_le)), used j (omega (arith, j_le)))))
