-- The maps, as pages for map pages are taken and given back, and as the next root becomes the durable one.
use Rattle.std.proofs.Common.{◌≡◌, ◌≢◌, ℕ, ◌<◌, ◌≤◌, true, false, List, length, get_or, refl, sym, ap, subst, ◌∙◌, arith, inl, inr}
use Rattle.std.proofs.Math.ListN.{set, length-set}
use Rattle.std.proofs.lemmas.Bool.{cases_eq, cases_lt}
use Rattle.std.proofs.lemmas.List.{get_or-set_same, get_or-set_other, set-get_or, get_or_past, get_or_default}
use Rattle.std.specs.Prelude.{Contains}
use Rattle.page_roots.specs.Reach.{InReach}
use Rattle.page_allocator.specs.TakenPages.{TakenPages, IsTaken, IsFree}
use Rattle.cow_pages.specs.PageMap.{IsConsistent}
use Rattle.cow_pages.proofs.Taken.{reached_so}
use Rattle.cow_pages.proofs.Consistency.{marked_same, marked_other, not_both, in_reach_taken, in_working_taken, in_either}

-- an element at its index, with 0 after the end
pub found_at : (xs : List ℕ) (x : ℕ) → Contains xs x → (k : ℕ) × (k < length xs) × (get_or xs k 0 ≡ x)
found_at xs x at = (at.0, at.1, get_or_default xs at.0 0 x at.1 ∙ at.2)

pub at_index : (xs : List ℕ) (k x : ℕ) → get_or xs k 0 ≡ x → 1 ≤ x → Contains xs x
at_index xs k x is some = elim (cases_lt k (length xs)) [
  | inl lt ↦ (k, lt, get_or_default xs k x 0 lt ∙ is)
  | inr past ↦ absurd (omega (arith, is, some, get_or_past xs k 0 past))
]

module _ (pages : ℕ) (maps durable reserved working : List ℕ) (marks : TakenPages) (old : IsConsistent pages maps durable reserved working marks) where
  mark_inside : (page : ℕ) → page < pages → page < length marks
  mark_inside page lt = omega (arith, lt, old.marks_count)

  module _ (j : ℕ) (within : j < 64) where
    here : (page : ℕ) → get_or (set reserved j page) j 0 ≡ page
    here page = get_or-set_same reserved j page 0 (omega (arith, within, old.reserved_count))

    there : (page k : ℕ) → k ≢ j → get_or (set reserved j page) k 0 ≡ get_or reserved k 0
    there page k other = get_or-set_other reserved j k page 0 other

    at_here : (page k : ℕ) → k ≡ j → get_or (set reserved j page) k 0 ≡ page
    at_here page k is = ap (λ (n : ℕ). get_or (set reserved j page) n 0) is ∙ here page

    -- a free page is taken for a map page
    module _ (page : ℕ) (some : 1 ≤ page) (lt : page < pages) (free : IsFree marks page) (none : get_or reserved j 0 ≡ 0) where
      not_reached : InReach maps durable page → ⊥
      not_reached at = not_both marks page (mark_inside page lt) free (in_reach_taken pages maps durable reserved working marks old page at)

      not_worked : InReach reserved working page → ⊥
      not_worked at = not_both marks page (mark_inside page lt) free (in_working_taken pages maps durable reserved working marks old page some lt at)

      preserved : (p : ℕ) → IsTaken marks p → IsTaken (set marks page true) p
      preserved p is = elim (cases_eq p page) [
        | inl same ↦ ap (λ (n : ℕ). get_or (set marks page true) n false) same ∙ marked_same marks page true (mark_inside page lt)
        | inr apart ↦ marked_other marks page p true apart ∙ is
      ]

      pub consistent_reserved : IsConsistent pages maps durable (set reserved j page) working (set marks page true)
      consistent_reserved = record {
        least = old.least;
        most = old.most;
        durable_count = old.durable_count;
        working_count = old.working_count;
        reserved_count = length-set reserved j page ∙ old.reserved_count;
        sound = old.sound;
        inside = old.inside;
        differ = old.differ;
        fresh = old.fresh;
        reserved_inside = λ k. elim (cases_eq k j) [
          | inl is ↦ omega (arith, at_here page k is, lt)
          | inr other ↦ omega (arith, there page k other, old.reserved_inside k)
        ];
        reserved_differ = λ a b positive same. elim (cases_eq a j) [
          | inl a_is ↦ elim (cases_eq b j) [
            | inl b_is ↦ a_is ∙ sym b_is
            | inr b_other ↦ absurd (not_worked (inl (at_index reserved b page (sym (there page b b_other) ∙ sym same ∙ at_here page a a_is) some)))
          ]
          | inr a_other ↦ elim (cases_eq b j) [
            | inl b_is ↦ absurd (not_worked (inl (at_index reserved a page (sym (there page a a_other) ∙ same ∙ at_here page b b_is) some)))
            | inr b_other ↦ old.reserved_differ a b (omega (arith, positive, there page a a_other)) (sym (there page a a_other) ∙ same ∙ there page b b_other)
          ]
        ];
        reserved_apart = λ k positive at. elim (cases_eq k j) [
          | inl is ↦ not_reached (subst (λ (p : ℕ). InReach maps durable p) (at_here page k is) at)
          | inr other ↦ old.reserved_apart k (omega (arith, positive, there page k other)) (subst (λ (p : ℕ). InReach maps durable p) (there page k other) at)
        ];
        reserved_unnamed = λ k l positive same. elim (cases_eq k j) [
          | inl is ↦ not_worked (inr (l, same ∙ at_here page k is, some))
          | inr other ↦ old.reserved_unnamed k l (omega (arith, positive, there page k other)) (same ∙ there page k other)
        ];
        marks_count = length-set marks page true ∙ old.marks_count;
        taken = reached_so (set marks page true) maps durable (set reserved j page) working
            (λ p one inside at. preserved p (in_reach_taken pages maps durable reserved working marks old p at))
            (λ p one inside at. elim at [
              | inl contains ↦
                  let found = found_at (set reserved j page) p contains in
                  elim (cases_eq found.0 j) [
                    | inl is ↦ ap (λ (n : ℕ). get_or (set marks page true) n false) (sym found.2 ∙ at_here page found.0 is) ∙ marked_same marks page true (mark_inside page lt)
                    | inr other ↦ preserved p (in_working_taken pages maps durable reserved working marks old p one (in_pages p inside) (inl (at_index reserved found.0 p (sym (there page found.0 other) ∙ found.2) one)))
                  ]
              | inr named ↦ preserved p (in_working_taken pages maps durable reserved working marks old p one (in_pages p inside) (inr named))
            ])
            (λ p one inside is. elim (cases_eq p page) [
              | inl same ↦ inr (inl (at_index (set reserved j page) j p (here page ∙ sym same) one))
              | inr apart ↦ elim (in_either pages maps durable reserved working marks old p one (in_pages p inside) (sym (marked_other marks page p true apart) ∙ is)) [
                | inl reach ↦ inl reach
                | inr work ↦ elim work [
                  | inl contains ↦
                      let found = found_at reserved p contains in
                      elim (cases_eq found.0 j) [
                        | inl at ↦ absurd (omega (arith, one, none, found.2, ap (λ (n : ℕ). get_or reserved n 0) at))
                        | inr other ↦ inr (inl (at_index (set reserved j page) found.0 p (there page found.0 other ∙ found.2) one))
                      ]
                  | inr named ↦ inr (inr named)
                ]
              ]
            ]);
      }
        where
          in_pages : (p : ℕ) → p < length (set marks page true) → p < pages
          in_pages p inside = omega (arith, inside, length-set marks page true, old.marks_count)

    -- where no page was taken, nothing changes
    pub consistent_unchanged : get_or reserved j 0 ≡ 0 → IsConsistent pages maps durable (set reserved j 0) working marks
    consistent_unchanged none =
        subst (λ (r : List ℕ). IsConsistent pages maps durable r working marks) (sym (set-get_or reserved j 0) ∙ ap (λ (n : ℕ). set reserved j n) none) old

    left_over : (k page : ℕ) → get_or (set reserved j 0) k 0 ≡ page → 0 < page → (k ≢ j) × (get_or reserved k 0 ≡ page)
    left_over k page is some = elim (cases_eq k j) [
      | inl at ↦ absurd (omega (arith, at_here 0 k at, is, some))
      | inr other ↦ (other, sym (there 0 k other) ∙ is)
    ]

    -- the page of a map page is given back
    pub consistent_unreserved : 0 < get_or reserved j 0 → IsConsistent pages maps durable (set reserved j 0) working (set marks (get_or reserved j 0) false)
    consistent_unreserved positive =
        let page = get_or reserved j 0 in
        let stays : (p : ℕ) → p ≢ page → IsTaken marks p → IsTaken (set marks page false) p = λ p other is. marked_other marks page p false other ∙ is in
        record {
          least = old.least;
          most = old.most;
          durable_count = old.durable_count;
          working_count = old.working_count;
          reserved_count = length-set reserved j 0 ∙ old.reserved_count;
          sound = old.sound;
          inside = old.inside;
          differ = old.differ;
          fresh = old.fresh;
          reserved_inside = λ k. elim (cases_eq k j) [
            | inl is ↦ omega (arith, at_here 0 k is, old.least)
            | inr other ↦ omega (arith, there 0 k other, old.reserved_inside k)
          ];
          reserved_differ = λ a b some same.
              let one = left_over a (get_or (set reserved j 0) a 0) refl some in
              let two = left_over b (get_or (set reserved j 0) a 0) (sym same) some in
              old.reserved_differ a b (omega (arith, one.1, some)) (one.1 ∙ sym two.1);
          reserved_apart = λ k some at.
              let one = left_over k (get_or (set reserved j 0) k 0) refl some in
              old.reserved_apart k (omega (arith, one.1, some)) (subst (λ (p : ℕ). InReach maps durable p) (sym one.1) at);
          reserved_unnamed = λ k l some same.
              let one = left_over k (get_or (set reserved j 0) k 0) refl some in
              old.reserved_unnamed k l (omega (arith, one.1, some)) (same ∙ sym one.1);
          marks_count = length-set marks page false ∙ old.marks_count;
          taken = reached_so (set marks page false) maps durable (set reserved j 0) working
              (λ p one inside at. stays p (λ same. old.reserved_apart j positive (subst (λ (n : ℕ). InReach maps durable n) same at)) (in_reach_taken pages maps durable reserved working marks old p at))
              (λ p one inside at. elim at [
                | inl contains ↦
                    let found = found_at (set reserved j 0) p contains in
                    let left = left_over found.0 p found.2 one in
                    stays p (λ same. left.0 (old.reserved_differ found.0 j (omega (arith, left.1, one)) (left.1 ∙ same)))
                    (in_working_taken pages maps durable reserved working marks old p one (in_pages p inside) (inl (at_index reserved found.0 p left.1 one)))
                | inr named ↦ stays p (λ same. old.reserved_unnamed j named.0 positive (named.1 ∙ same)) (in_working_taken pages maps durable reserved working marks old p one (in_pages p inside) (inr named))
              ])
              (λ p one inside is. elim (cases_eq p page) [
                | inl same ↦
                    let e : true ≡ false = sym is ∙ ap (λ (n : ℕ). get_or (set marks page false) n false) same ∙ marked_same marks page false (mark_inside page (old.reserved_inside j)) in
                    absurd cc
                | inr other ↦ elim (in_either pages maps durable reserved working marks old p one (in_pages p inside) (sym (marked_other marks page p false other) ∙ is)) [
                  | inl reach ↦ inl reach
                  | inr work ↦ elim work [
                    | inl contains ↦
                        let found = found_at reserved p contains in
                        elim (cases_eq found.0 j) [
                          | inl at ↦ absurd (other (sym found.2 ∙ ap (λ (n : ℕ). get_or reserved n 0) at))
                          | inr apart ↦ inr (inl (at_index (set reserved j 0) found.0 p (there 0 found.0 apart ∙ found.2) one))
                        ]
                    | inr named ↦ inr (inr named)
                  ]
                ]
              ]);
        }
      where
        in_pages : (p : ℕ) → p < length (set marks (get_or reserved j 0) false) → p < pages
        in_pages p inside = omega (arith, inside, length-set marks (get_or reserved j 0) false, old.marks_count)
