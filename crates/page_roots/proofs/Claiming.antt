-- The pages that are named are claimed one after the other.
use Rattle.std.proofs.Common.{◌≡◌, ◌≢◌, ◌⊎◌, ℕ, ◌+◌, ◌<◌, Bool, true, false, List, length, get_or, refl, sym, ap, ◌∙◌, arith, inl, inr}
use Rattle.std.proofs.Math.ListN.{set, length-set}
use Rattle.std.proofs.lemmas.Bool.{cases_eq, cases_lt}
use Rattle.std.proofs.lemmas.List.{get_or-set_same, get_or-set_other, get_or_past}
use Rattle.page_roots.specs.Claims.{CanClaim, IsClaimed}

-- the first pages that are named are claimed
pub record IsClaimedTo (old : List Bool) (named : List ℕ) (now : List Bool) (i : ℕ) : Type 0 where
  pub preserved : (page : ℕ) → get_or old page true ≡ true → get_or now page true ≡ true
  pub each : (l : ℕ) → l < i → 0 < get_or named l 0 → get_or now (get_or named l 0) true ≡ true
  pub only : (page : ℕ) → get_or now page true ≡ true → (get_or old page true ≡ true) ⊎ ((l : ℕ) × (l < i) × (get_or named l 0 ≡ page) × (0 < page))
  pub free : (l : ℕ) → l < i → 0 < get_or named l 0 → get_or old (get_or named l 0) true ≡ false
  pub differ : (l k : ℕ) → l < i → k < i → 0 < get_or named l 0 → get_or named l 0 ≡ get_or named k 0 → l ≡ k

-- a page that is claimed
abbrev IsMarked : List Bool → ℕ → Type 0
IsMarked marks page = get_or marks page true ≡ true

pub marked_or_not : (b : Bool) → (b ≡ true) ⊎ (b ≡ false)
marked_or_not true = inl refl
marked_or_not false = inr refl

-- one page more is marked
marked_same : (marks : List Bool) (page : ℕ) → get_or (set marks page true) page true ≡ true
marked_same marks page = elim (cases_lt page (length marks)) [
  | inl lt ↦ get_or-set_same marks page true true lt
  | inr past ↦ get_or_past (set marks page true) page true (omega (arith, length-set marks page true))
]

claim_preserves : (marks : List Bool) (page other : ℕ) → IsMarked marks other → IsMarked (set marks page true) other
claim_preserves marks page other is = elim (cases_eq other page) [
  | inl same ↦ ap (λ (p : ℕ). get_or (set marks page true) p true) same ∙ marked_same marks page
  | inr apart ↦ get_or-set_other marks page other true true apart ∙ is
]

claim_adds : (marks : List Bool) (page other : ℕ) → IsMarked (set marks page true) other → (other ≡ page) ⊎ IsMarked marks other
claim_adds marks page other is = elim (cases_eq other page) [
  | inl same ↦ inl same
  | inr apart ↦ inr (sym (get_or-set_other marks page other true true apart) ∙ is)
]

-- nothing is claimed at the start
pub claimed_none : (old : List Bool) (named : List ℕ) → IsClaimedTo old named old 0
claimed_none old named = record {
  preserved = λ page is. is;
  each = λ l lt. absurd (omega arith);
  only = λ page is. inl is;
  free = λ l lt. absurd (omega arith);
  differ = λ l k lt. absurd (omega arith);
}

-- a 0 names no page
pub claimed_zero : (old : List Bool) (named : List ℕ) (now : List Bool) (i : ℕ) → get_or named i 0 ≡ 0 → IsClaimedTo old named now i → IsClaimedTo old named now (i + 1)
claimed_zero old named now i none so_far = record {
  preserved = so_far.preserved;
  each = λ l lt some. so_far.each l (below l i lt (λ is. let e : get_or named l 0 ≡ get_or named i 0 = ap (λ (k : ℕ). get_or named k 0) is in omega arith)) some;
  only = λ page is. elim (so_far.only page is) [
    | inl was ↦ inl was
    | inr at ↦ inr (at.0, omega (arith, at.1), at.2, at.3)
  ];
  free = λ l lt some. so_far.free l (below l i lt (λ is. let e : get_or named l 0 ≡ get_or named i 0 = ap (λ (k : ℕ). get_or named k 0) is in omega arith)) some;
  differ = λ l k l_lt k_lt some same. so_far.differ l k
      (below l i l_lt (λ is. let e : get_or named l 0 ≡ get_or named i 0 = ap (λ (k : ℕ). get_or named k 0) is in omega arith))
      (below k i k_lt (λ is. let e : get_or named k 0 ≡ get_or named i 0 = ap (λ (n : ℕ). get_or named n 0) is in omega arith)) some same;
}
  where
    below : (l i : ℕ) → l < i + 1 → l ≢ i → l < i
    below l i lt apart = omega arith

-- a page that was not claimed is claimed
pub claimed_more : (old : List Bool) (named : List ℕ) (now : List Bool) (i page : ℕ) → get_or named i 0 ≡ page → 0 < page → get_or now page true ≡ false
    → IsClaimedTo old named now i → IsClaimedTo old named (set now page true) (i + 1)
claimed_more old named now i page is some unclaimed so_far = record {
  preserved = λ p was. claim_preserves now page p (so_far.preserved p was);
  each = λ l lt named_some. elim (cases_lt l i) [
    | inl before ↦ claim_preserves now page (get_or named l 0) (so_far.each l before named_some)
    | inr at ↦ ap (λ (p : ℕ). get_or (set now page true) p true) (ap (λ (k : ℕ). get_or named k 0) (let e : l ≡ i = omega arith in e) ∙ is) ∙ marked_same now page
  ];
  only = λ p known. elim (claim_adds now page p known) [
    | inl same ↦ inr (i, omega arith, is ∙ sym same, omega arith)
    | inr was ↦ elim (so_far.only p was) [
      | inl before ↦ inl before
      | inr at ↦ inr (at.0, omega (arith, at.1), at.2, at.3)
    ]
  ];
  free = λ l lt named_some. elim (cases_lt l i) [
    | inl before ↦ so_far.free l before named_some
    | inr at ↦
        let here : get_or named l 0 ≡ page = ap (λ (k : ℕ). get_or named k 0) (let e : l ≡ i = omega arith in e) ∙ is in
        elim (marked_or_not (get_or old (get_or named l 0) true)) [
          | inl was ↦ let again = so_far.preserved (get_or named l 0) was in let clash : true ≡ false = sym again ∙ ap (λ (p : ℕ). get_or now p true) here ∙ unclaimed in absurd cc
          | inr free ↦ free
        ]
  ];
  differ = λ l k l_lt k_lt named_some same. elim (cases_lt l i) [
    | inl l_before ↦ elim (cases_lt k i) [
      | inl k_before ↦ so_far.differ l k l_before k_before named_some same
      | inr k_at ↦
          let here : get_or named l 0 ≡ page = same ∙ ap (λ (n : ℕ). get_or named n 0) (let e : k ≡ i = omega arith in e) ∙ is in
          let clash : true ≡ false = sym (so_far.each l l_before named_some) ∙ ap (λ (p : ℕ). get_or now p true) here ∙ unclaimed in
          absurd cc
    ]
    | inr l_at ↦ elim (cases_lt k i) [
      | inl k_before ↦
          let here : get_or named k 0 ≡ page = sym same ∙ ap (λ (n : ℕ). get_or named n 0) (let e : l ≡ i = omega arith in e) ∙ is in
          let named_k : 0 < get_or named k 0 = omega arith in
          let clash : true ≡ false = sym (so_far.each k k_before named_k) ∙ ap (λ (p : ℕ). get_or now p true) here ∙ unclaimed in
          absurd cc
      | inr k_at ↦ omega arith
    ]
  ];
}

-- where a page is claimed already, not all can be claimed
pub cannot_claim : (old : List Bool) (named : List ℕ) (now : List Bool) (i page : ℕ) → get_or named i 0 ≡ page → 0 < page → get_or now page true ≡ true
    → IsClaimedTo old named now i → CanClaim old named → ⊥
cannot_claim old named now i page is some known so_far can =
    elim (so_far.only page known) [
      | inl was ↦ let clash : false ≡ true = sym (can.free i (omega arith)) ∙ ap (λ (p : ℕ). get_or old p true) is ∙ was in absurd cc
      | inr at ↦ let same = can.differ at.0 i (omega (arith, at.2, at.3)) (at.2 ∙ sym is) in omega (arith, at.1)
    ]

-- what is not 0 stands in the list
pub within : (named : List ℕ) (l : ℕ) → 0 < get_or named l 0 → l < length named
within named l some = elim (cases_lt l (length named)) [
  | inl lt ↦ lt
  | inr past ↦ let none = get_or_past named l 0 past in absurd (omega arith)
]

-- past the last one all are claimed
pub can_claim : (old : List Bool) (named : List ℕ) (now : List Bool) → IsClaimedTo old named now (length named) → CanClaim old named
can_claim old named now so_far = record {
  free = λ l some. so_far.free l (within named l some) some;
  differ = λ l k some same. so_far.differ l k (within named l some) (within named k (omega arith)) some same;
}

pub all_claimed : (old : List Bool) (named : List ℕ) (now : List Bool) → IsClaimedTo old named now (length named) → IsClaimed old named now
all_claimed old named now so_far = record {
  preserved = so_far.preserved;
  each = λ l some. so_far.each l (within named l some) some;
  only = λ page is. elim (so_far.only page is) [
    | inl was ↦ inl was
    | inr at ↦ inr (at.0, at.2, at.3)
  ];
}
