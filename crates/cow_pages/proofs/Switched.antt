-- The next root becomes the durable one: the working map is the durable one now, and the pages of the old one are given back.
use Rattle.std.proofs.Common.{◌≡◌, ℕ, ◌<◌, List, length, get_or, refl, sym, ap, subst, ◌∙◌, arith, inl, inr}
use Rattle.std.proofs.lemmas.Bool.{cases_eq, cases_lt}
use Rattle.page_roots.specs.Reach.{IsSound, InReach}
use Rattle.page_allocator.specs.TakenPages.{TakenPages}
use Rattle.cow_pages.specs.PageMap.{IsConsistent, IsNext, AreReplaced}
use Rattle.cow_pages.proofs.Taken.{reached_so}
use Rattle.cow_pages.proofs.Consistency.{in_reach_taken, in_working_taken, in_either}
use Rattle.cow_pages.proofs.Reserving.{found_at, at_index}

module _ (pages : ℕ) (maps durable reserved working : List ℕ) (marks : TakenPages) (old : IsConsistent pages maps durable reserved working marks)
    (next : List ℕ) (is_next : IsNext maps reserved next) (used : 0 < get_or working 0 0) where
  map_reach : (j : ℕ) → j < length maps → InReach maps durable (get_or maps j 0)
  map_reach j lt = inl (at_index maps j (get_or maps j 0) refl (old.sound.maps_inside j lt).0)

  entry_reach : (l : ℕ) → 0 < get_or durable l 0 → InReach maps durable (get_or durable l 0)
  entry_reach l some = inr (l, refl, some)

  -- a page of the working map that is in the durable reach is the durable page of that logical page
  shared : (k : ℕ) → 0 < get_or working k 0 → InReach maps durable (get_or working k 0) → get_or working k 0 ≡ get_or durable k 0
  shared k some reach = elim (cases_eq (get_or working k 0) (get_or durable k 0)) [
    | inl same ↦ same
    | inr apart ↦ absurd (old.fresh k some apart reach)
  ]

  -- no durable map page is a page of the working map
  map_unnamed : (j l : ℕ) → j < length maps → get_or working l 0 ≡ get_or maps j 0 → ⊥
  map_unnamed j l lt same =
      let some : 0 < get_or working l 0 = omega (arith, same, (old.sound.maps_inside j lt).0) in
      let durable_is = shared l some (subst (λ (p : ℕ). InReach maps durable p) (sym same) (map_reach j lt)) in
      old.sound.apart j l lt (omega (arith, some, durable_is)) (sym same ∙ durable_is)

  pub next_sound : IsSound pages next working
  next_sound = record {
    first_in_use = used;
    maps_inside = λ j lt. elim (is_next.each j lt) [
      | inl new ↦ (omega (arith, new.0, new.1), omega (arith, new.1, old.reserved_inside j))
      | inr preserved ↦ let inside = old.sound.maps_inside j preserved.1 in (omega (arith, preserved.2, inside.0), omega (arith, preserved.2, inside.1))
    ];
    entries_inside = old.inside;
    maps_differ = λ j k j_lt k_lt same. elim (is_next.each j j_lt) [
      | inl new ↦ elim (is_next.each k k_lt) [
        | inl other ↦ old.reserved_differ j k new.0 (sym new.1 ∙ same ∙ other.1)
        | inr preserved ↦ absurd (old.reserved_apart j new.0 (subst (λ (p : ℕ). InReach maps durable p) (sym preserved.2 ∙ sym same ∙ new.1) (map_reach k preserved.1)))
      ]
      | inr preserved ↦ elim (is_next.each k k_lt) [
        | inl new ↦ absurd (old.reserved_apart k new.0 (subst (λ (p : ℕ). InReach maps durable p) (sym preserved.2 ∙ same ∙ new.1) (map_reach j preserved.1)))
        | inr other ↦ old.sound.maps_differ j k preserved.1 other.1 (sym preserved.2 ∙ same ∙ other.2)
      ]
    ];
    entries_differ = old.differ;
    apart = λ j l lt some same. elim (is_next.each j lt) [
      | inl new ↦ old.reserved_unnamed j l new.0 (sym same ∙ new.1)
      | inr preserved ↦ map_unnamed j l preserved.1 (sym same ∙ preserved.2)
    ];
  }

  module _ (replaced : List ℕ) (are_replaced : AreReplaced maps reserved replaced) where
    -- what the new durable root reaches of the old one
    replaced_is : (j : ℕ) → 0 < get_or replaced j 0 → (0 < get_or reserved j 0) × (j < length maps) × (get_or replaced j 0 ≡ get_or maps j 0)
    replaced_is j some = elim (are_replaced.each j) [
      | inl is ↦ is
      | inr none ↦ absurd (omega (arith, some, none.0))
    ]

    pub consistent_switched : IsConsistent pages next working replaced durable marks
    consistent_switched = record {
      least = old.least;
      most = old.most;
      durable_count = old.working_count;
      working_count = old.durable_count;
      reserved_count = are_replaced.count;
      sound = next_sound;
      inside = old.sound.entries_inside;
      differ = old.sound.entries_differ;
      fresh = λ l some apart reach. elim reach [
        | inl contains ↦
            let found = found_at next (get_or durable l 0) contains in
            elim (is_next.each found.0 found.1) [
              | inl new ↦ old.reserved_apart found.0 new.0 (subst (λ (p : ℕ). InReach maps durable p) (sym found.2 ∙ new.1) (entry_reach l some))
              | inr preserved ↦ old.sound.apart found.0 l preserved.1 some (sym preserved.2 ∙ found.2)
            ]
        | inr named ↦
            let positive : 0 < get_or working named.0 0 = omega (arith, named.1, some) in
            let same = shared named.0 positive (subst (λ (p : ℕ). InReach maps durable p) (sym named.1) (entry_reach l some)) in
            let at = old.sound.entries_differ named.0 l (omega (arith, positive, same)) (sym same ∙ named.1) in
            apart (sym named.1 ∙ ap (λ (n : ℕ). get_or working n 0) at)
      ];
      reserved_inside = λ j. elim (are_replaced.each j) [
        | inl is ↦ omega (arith, is.2, (old.sound.maps_inside j is.1).1)
        | inr none ↦ omega (arith, none.0, old.least)
      ];
      reserved_differ = λ j k some same.
          let one = replaced_is j some in
          let two = replaced_is k (omega (arith, some, same)) in
          old.sound.maps_differ j k one.1 two.1 (sym one.2 ∙ same ∙ two.2);
      reserved_apart = λ j some reach.
          let one = replaced_is j some in
          elim reach [
            | inl contains ↦
                let found = found_at next (get_or replaced j 0) contains in
                elim (is_next.each found.0 found.1) [
                  | inl new ↦ old.reserved_apart found.0 new.0 (subst (λ (p : ℕ). InReach maps durable p) (sym one.2 ∙ sym found.2 ∙ new.1) (map_reach j one.1))
                  | inr preserved ↦
                      let same = old.sound.maps_differ found.0 j preserved.1 one.1 (sym preserved.2 ∙ found.2 ∙ one.2) in
                      omega (arith, one.0, preserved.0, ap (λ (n : ℕ). get_or reserved n 0) same)
                ]
            | inr named ↦ map_unnamed j named.0 one.1 (named.1 ∙ one.2)
          ];
      reserved_unnamed = λ j l some same.
          let one = replaced_is j some in
          old.sound.apart j l one.1 (omega (arith, some, same)) (sym one.2 ∙ sym same);
      marks_count = old.marks_count;
      taken = reached_so marks next working replaced durable
          (λ p one inside at. elim at [
            | inl contains ↦
                let found = found_at next p contains in
                elim (is_next.each found.0 found.1) [
                  | inl new ↦ in_working_taken pages maps durable reserved working marks old p one (in_pages p inside) (inl (at_index reserved found.0 p (sym new.1 ∙ found.2) one))
                  | inr preserved ↦ in_reach_taken pages maps durable reserved working marks old p (inl (at_index maps found.0 p (sym preserved.2 ∙ found.2) one))
                ]
            | inr named ↦ in_working_taken pages maps durable reserved working marks old p one (in_pages p inside) (inr named)
          ])
          (λ p one inside at. elim at [
            | inl contains ↦
                let found = found_at replaced p contains in
                let was = replaced_is found.0 (omega (arith, found.2, one)) in
                in_reach_taken pages maps durable reserved working marks old p (inl (at_index maps found.0 p (sym was.2 ∙ found.2) one))
            | inr named ↦ in_reach_taken pages maps durable reserved working marks old p (inr named)
          ])
          (λ p one inside is. elim (in_either pages maps durable reserved working marks old p one (in_pages p inside) is) [
            | inl reach ↦ elim reach [
              | inl contains ↦
                  let found = found_at maps p contains in
                  elim (are_replaced.each found.0) [
                    | inl new ↦ inr (inl (at_index replaced found.0 p (new.2 ∙ found.2) one))
                    | inr none ↦ elim (is_next.each found.0 (omega (arith, found.1, is_next.least))) [
                      | inl new ↦ elim none.1 [
                        | inl unreserved ↦ absurd (omega (arith, new.0, unreserved))
                        | inr past ↦ absurd (omega (arith, past, found.1))
                      ]
                      | inr preserved ↦ inl (inl (at_index next found.0 p (preserved.2 ∙ found.2) one))
                    ]
                  ]
              | inr named ↦ inr (inr named)
            ]
            | inr work ↦ elim work [
              | inl contains ↦
                  let found = found_at reserved p contains in
                  elim (cases_lt found.0 (length next)) [
                    | inl lt ↦ elim (is_next.each found.0 lt) [
                      | inl new ↦ inl (inl (at_index next found.0 p (new.1 ∙ found.2) one))
                      | inr preserved ↦ absurd (omega (arith, preserved.0, found.2, one))
                    ]
                    | inr past ↦ absurd (omega (arith, is_next.beyond found.0 past, found.2, one))
                  ]
              | inr named ↦ inl (inr named)
            ]
          ]);
    }
      where
        in_pages : (p : ℕ) → p < length marks → p < pages
        in_pages p inside = omega (arith, inside, old.marks_count)
