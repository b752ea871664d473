-- The pages that are named are taken one after the other.
use Rattle.std.proofs.Common.{◌≡◌, ◌⊎◌, ◌↔◌, ℕ, zero, suc, ◌+◌, ◌-◌, ◌<◌, ◌≤◌, true, false, List, [], ◌∷◌, length, replicate, get_or, refl, sym, ap, ◌∙◌, arith, inl, inr}
use Rattle.std.proofs.Math.ListN.{set, length-set}
use Rattle.std.proofs.lemmas.Bool.{cases_eq, cases_lt}
use Rattle.std.proofs.lemmas.List.{get_or-set_same, get_or-set_other, get_or_past, get_or_default}
use Rattle.page_roots.specs.Reach.{IsPage, is_reached}
use Rattle.page_allocator.specs.TakenPages.{TakenPages, IsTaken, AreReached}
use Rattle.cow_pages.proofs.Taken.{reached_so}

-- the first pages that are named are taken
pub record IsProtectedTo (old : TakenPages) (named : List ℕ) (now : TakenPages) (i : ℕ) : Type 0 where
  pub count : length now ≡ length old
  pub preserved : (page : ℕ) → 1 ≤ page → page < length old → IsTaken old page → IsTaken now page
  pub each : (page l : ℕ) → 1 ≤ page → page < length old → l < i → get_or named l 0 ≡ page → IsTaken now page
  pub only : (page : ℕ) → 1 ≤ page → page < length old → IsTaken now page → IsTaken old page ⊎ ((l : ℕ) × (l < i) × (get_or named l 0 ≡ page))

pub protected_none : (old : TakenPages) (named : List ℕ) → IsProtectedTo old named old 0
protected_none old named = record {
  count = refl;
  preserved = λ page some inside is. is;
  each = λ page l some inside lt. absurd (omega arith);
  only = λ page some inside is. inl is;
}

pub protected_more : (old : TakenPages) (named : List ℕ) (now : TakenPages) (i : ℕ) → IsProtectedTo old named now i → IsProtectedTo old named (set now (get_or named i 0) true) (i + 1)
protected_more old named now i so_far = record {
  count = length-set now (get_or named i 0) true ∙ so_far.count;
  preserved = λ page some inside is. stays page inside (so_far.preserved page some inside is);
  each = λ page l some inside lt at. elim (cases_lt l i) [
    | inl before ↦ stays page inside (so_far.each page l some inside before at)
    | inr here ↦
        let last : l ≡ i = omega arith in
        let is : page ≡ get_or named i 0 = sym at ∙ ap (λ (k : ℕ). get_or named k 0) last in
        comes page inside is
  ];
  only = λ page some inside is. elim (cases_eq page (get_or named i 0)) [
    | inl same ↦ inr (i, omega arith, sym same)
    | inr apart ↦ elim (so_far.only page some inside (sym (get_or-set_other now (get_or named i 0) page true false apart) ∙ is)) [
      | inl was ↦ inl was
      | inr at ↦ inr (at.0, omega (arith, at.1), at.2)
    ]
  ];
}
  where
    comes : (page : ℕ) → page < length old → page ≡ get_or named i 0 → IsTaken (set now (get_or named i 0) true) page
    comes page inside is = ap (λ (p : ℕ). get_or (set now (get_or named i 0) true) p false) is ∙ get_or-set_same now (get_or named i 0) true false (omega (arith, so_far.count, inside, is))

    stays : (page : ℕ) → page < length old → IsTaken now page → IsTaken (set now (get_or named i 0) true) page
    stays page inside is = elim (cases_eq page (get_or named i 0)) [
      | inl same ↦ comes page inside same
      | inr apart ↦ get_or-set_other now (get_or named i 0) page true false apart ∙ is
    ]

past_end : (named : List ℕ) (l page : ℕ) → get_or named l 0 ≡ page → 1 ≤ page → l < length named
past_end named l page at some = elim (cases_lt l (length named)) [
  | inl lt ↦ lt
  | inr past ↦ absurd (omega (arith, get_or_past named l 0 past))
]

-- all of them are
pub protected_all : (old : TakenPages) (named : List ℕ) (now : TakenPages) (i : ℕ) → length named ≤ i → IsProtectedTo old named now i → (page : ℕ) → 1 ≤ page → page < length old
    → (IsTaken now page ↔ (IsTaken old page ⊎ IsPage named page))
protected_all old named now i whole so_far page some inside = (
  λ is. elim (so_far.only page some inside is) [
    | inl was ↦ inl was
    | inr at ↦ inr (at.0, at.2, some)
  ],
  λ is. elim is [
    | inl was ↦ so_far.preserved page some inside was
    | inr at ↦ so_far.each page at.0 some inside (omega (arith, past_end named at.0 page at.1 some)) at.1
  ],
)

-- at first none is taken
none_taken : (pages page : ℕ) → 1 ≤ page → IsTaken (true ∷ replicate pages false) page → ⊥
none_taken pages page some is = none pages (page - 1) (ap (λ (k : ℕ). get_or (true ∷ replicate pages false) k false) (let e : suc (page - 1) ≡ page = omega arith in e) ∙ is)
  where
    none : (n k : ℕ) → get_or (replicate n false) k false ≡ true → ⊥
    none zero k is = cc
    none (suc n) zero is = cc
    none (suc n) (suc k) is = none n k is

pub reserved : (pages : ℕ) (maps entries : List ℕ) (first second third : TakenPages) → first ≡ true ∷ replicate (pages - 1) false
    → length second ≡ length first → length third ≡ length second
    → ((page : ℕ) → 1 ≤ page → page < length first → (IsTaken second page ↔ (IsTaken first page ⊎ IsPage maps page)))
    → ((page : ℕ) → 1 ≤ page → page < length second → (IsTaken third page ↔ (IsTaken second page ⊎ IsPage entries page)))
    → AreReached third (is_reached maps entries) (is_reached [] entries)
reserved pages maps entries first second third first_is second_count third_count after_maps after_entries =
    reached_so third maps entries [] entries
    (λ page one inside at. elim at [
      | inl here ↦ (after_entries page one (omega (arith, third_count, inside))).1 (inl ((after_maps page one (omega (arith, third_count, second_count, inside))).1
          (inr (here.0, get_or_default maps here.0 0 page here.1 ∙ here.2, one))))
      | inr here ↦ (after_entries page one (omega (arith, third_count, inside))).1 (inr here)
    ])
    (λ page one inside at. elim at [
      | inl here ↦ absurd (omega (arith, here.1))
      | inr here ↦ (after_entries page one (omega (arith, third_count, inside))).1 (inr here)
    ])
    (λ page one inside is. elim ((after_entries page one (omega (arith, third_count, inside))).0 is) [
      | inl was ↦ elim ((after_maps page one (omega (arith, third_count, second_count, inside))).0 was) [
        | inl never ↦ absurd (none_taken (pages - 1) page one (ap (λ (m : TakenPages). get_or m page false) (sym first_is) ∙ never))
        | inr at ↦ inl (inl (at.0, past_end maps at.0 page at.1 one, get_or_default maps at.0 page 0 (past_end maps at.0 page at.1 one) ∙ at.1))
      ]
      | inr at ↦ inr (inr at)
    ])
