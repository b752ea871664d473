-- Which pages are taken, and which are after one page is taken or given back.
use Rattle.std.proofs.Common.{◌≡◌, ◌||◌, ◌≢◌, ◌<◌, ◌≤◌, ◌+◌, ◌-◌, ℕ, zero, suc, Bool, true, false, leb, List, ◌∷◌, length, get_or, replicate, refl, sym, ap, subst, ◌∙◌, inl, inr, arith}
use Rattle.std.proofs.Math.ListN.{set, length-set}
use Rattle.std.proofs.lemmas.Bool.{cases_lt, cases_eq, leb-true, leb-false, le-leb, lt-leb}
use Rattle.std.proofs.lemmas.List.{ext_get_or, get_or-map, get_or_default, get_or_past, get_or-set_same, get_or-set_other, get_or-replicate, set-get_or, length-map, length-replicate}
use Rattle.page_allocator.specs.TakenPages.{TakenPages, IsTaken, IsFree, IsFull, AreReached, with_taken, with_free}
use Rattle.page_allocator.specs.Order.{AreInverse, IsFreeFirst, taken_pages}

-- there is one entry for each page
pub count_of_pages : (free : ℕ) (places : List ℕ) → length (taken_pages free places) ≡ length places
count_of_pages free places = length-map places (λ place. leb free place)

-- whether a page is taken is told by its place
taken_at : (free : ℕ) (places : List ℕ) (p : ℕ) (d : Bool) → p < length places → get_or (taken_pages free places) p d ≡ leb free (get_or places p 0)
taken_at free places p d lt = get_or-map (λ place. leb free place) places p 0 d lt

-- a taken page is taken again
taken_stays : (taken : List Bool) (p : ℕ) → get_or taken p true ≡ true → taken ≡ with_taken taken p
taken_stays taken p is = sym (set-get_or taken p true) ∙ ap (λ (is_taken_now : Bool). set taken p is_taken_now) is

-- a page that is taken stands behind the free ones
pub record IsBehind (free : ℕ) (places : List ℕ) (p : ℕ) : Type 0 where
  pub inside : p < length places
  pub place : free ≤ get_or places p 0

pub taken_is_behind : (free : ℕ) (places : List ℕ) (p : ℕ) → IsTaken (taken_pages free places) p → IsBehind free places p
taken_is_behind free places p taken =
    elim (cases_lt p (length places)) [
      | inl lt ↦ record { inside = lt; place = leb-true _ _ (sym (taken_at free places p false lt) ∙ taken) }
      | inr le ↦ let past : get_or (taken_pages free places) p false ≡ false = get_or_past (taken_pages free places) p false (omega (arith, count_of_pages free places)) in absurd (cc)
    ]

-- a free page stands among the first ones
pub record IsAmong (free : ℕ) (places : List ℕ) (p : ℕ) : Type 0 where
  pub inside : p < length places
  pub place : get_or places p 0 < free

pub free_is_among : (free : ℕ) (places : List ℕ) (p : ℕ) → IsFree (taken_pages free places) p → IsAmong free places p
free_is_among free places p is_free =
    elim (cases_lt p (length places)) [
      | inl lt ↦ record { inside = lt; place = leb-false _ _ (sym (taken_at free places p true lt) ∙ is_free) }
      | inr le ↦ let past : get_or (taken_pages free places) p true ≡ true = get_or_past (taken_pages free places) p true (omega (arith, count_of_pages free places)) in absurd (cc)
    ]

pub among_is_free : (free : ℕ) (places : List ℕ) (p : ℕ) → p < length places → get_or places p 0 < free → IsFree (taken_pages free places) p
among_is_free free places p lt low = taken_at free places p true lt ∙ lt-leb _ _ low

-- to take what is no free page changes nothing
pub past_stays : (free : ℕ) (places : List ℕ) (p : ℕ) → length places ≤ p → taken_pages free places ≡ with_taken (taken_pages free places) p
past_stays free places p past = taken_stays (taken_pages free places) p (get_or_past (taken_pages free places) p true (omega (arith, count_of_pages free places)))

pub behind_stays : (free : ℕ) (places : List ℕ) (p : ℕ) → p < length places → free ≤ get_or places p 0 → taken_pages free places ≡ with_taken (taken_pages free places) p
behind_stays free places p lt behind = taken_stays (taken_pages free places) p (taken_at free places p true lt ∙ le-leb _ _ behind)

-- one page is taken or freed, and each other page stays as it is
marks_changed : (free now : ℕ) (places new_places : List ℕ) (page : ℕ) (is_taken_now : Bool) → length new_places ≡ length places → page < length places
    → leb now (get_or new_places page 0) ≡ is_taken_now
    → ((p : ℕ) → p < length places → p ≢ page → leb now (get_or new_places p 0) ≡ leb free (get_or places p 0))
    → taken_pages now new_places ≡ set (taken_pages free places) page is_taken_now
marks_changed free now places new_places page is_taken_now count lt here others =
    let old_count = count_of_pages free places in
    let new_count = count_of_pages now new_places in
    let set_count = length-set (taken_pages free places) page is_taken_now in
    ext_get_or true (taken_pages now new_places) (set (taken_pages free places) page is_taken_now) (omega (arith, old_count, new_count, set_count)) (λ p below.
    let inside : p < length places = omega (arith, new_count) in
    let new_inside : p < length new_places = omega (arith, new_count) in
    taken_at now new_places p true new_inside ∙ elim (cases_eq p page) [
      | inl is ↦ rw (is, here) (sym (get_or-set_same (taken_pages free places) page is_taken_now true (omega (arith, old_count))))
      | inr other ↦ others p inside other ∙ sym (taken_at free places p true inside) ∙ sym (get_or-set_other (taken_pages free places) page p is_taken_now true other)
    ])

-- the last of the free pages
pub record IsNext (order places : List ℕ) (free page : ℕ) : Type 0 where
  pub low : 1 ≤ page
  pub inside : page < length places
  pub place : get_or places page 0 ≡ free - 1

pub next_free : (order places : List ℕ) (free : ℕ) → IsFreeFirst order places free → 0 < free → IsNext order places free (get_or order (free - 1) 0)
next_free order places free kept some =
    let below : get_or places 0 0 < length order = kept.inverse.place_inside 0 (kept.some) in
    let at : free - 1 < length order = omega (arith, kept.roots) in
    let place : get_or places (get_or order (free - 1) 0) 0 ≡ free - 1 = kept.inverse.place_of_page (free - 1) at in
    record {
      low = elim (cases_lt 0 (get_or order (free - 1) 0)) [
        | inl lt ↦ omega arith
        | inr le ↦ let zero_is : get_or order (free - 1) 0 ≡ 0 = omega arith in let same : get_or places 0 0 ≡ free - 1 = sym (ap (λ (p : ℕ). get_or places p 0) zero_is) ∙ place in absurd (omega (arith, kept.roots))
      ];
      inside = omega (arith, kept.inverse.page_inside (free - 1) at, kept.inverse.count);
      place = place;
    }

-- where no page is free, each page behind page 0 is taken, and only there
pub full_is : (places : List ℕ) (free : ℕ) → free ≡ 0 → IsFull (taken_pages free places)
full_is places free none page low lt =
    let inside : page < length places = omega (arith, count_of_pages free places) in
    taken_at free places page false inside ∙ le-leb _ _ (omega arith)

pub some_free : (places : List ℕ) (free : ℕ) (taken : TakenPages) → taken_pages free places ≡ taken → (IsFull taken → ⊥) → 1 ≤ free
some_free places free taken view_is not_full = elim (cases_lt 0 free) [
  | inl some ↦ some
  | inr none ↦ absurd (not_full (subst IsFull view_is (full_is places free (omega arith))))
]

pub full_only : (order places : List ℕ) (free : ℕ) → IsFreeFirst order places free → 0 < free → IsFull (taken_pages free places) → ⊥
full_only order places free kept some full =
    let next = next_free order places free kept some in
    let behind = taken_is_behind free places (get_or order (free - 1) 0) (full (get_or order (free - 1) 0) next.low (omega (arith, next.inside, count_of_pages free places))) in
    omega (arith, next.place, behind.place)

-- the page that stands at a place
at_place : (order places : List ℕ) → AreInverse order places → (place p : ℕ) → p < length places → get_or places p 0 ≡ place → p ≡ get_or order place 0
at_place order places inverse place p lt is = sym (inverse.page_at_place p (omega (arith, inverse.count))) ∙ ap (λ (i : ℕ). get_or order i 0) is

-- the last of the free pages is taken
pub record IsTakenNext (order places : List ℕ) (free page : ℕ) : Type 0 where
  pub low : 1 ≤ page
  pub inside : page < length (taken_pages free places)
  pub was_free : IsFree (taken_pages free places) page
  pub taken : taken_pages (free - 1) places ≡ with_taken (taken_pages free places) page

pub taken_next : (order places : List ℕ) (free page : ℕ) → IsFreeFirst order places free → 0 < free → page ≡ get_or order (free - 1) page → IsTakenNext order places free page
taken_next order places free page kept some is =
    let first : get_or places 0 0 < length order = kept.inverse.place_inside 0 kept.some in
    let at : free - 1 < length order = omega (arith, kept.roots) in
    let named : get_or order (free - 1) 0 ≡ page = get_or_default order (free - 1) 0 page at ∙ sym is in
    let next = subst (IsNext order places free) named (next_free order places free kept some) in
    record {
      low = next.low;
      inside = omega (arith, next.inside, count_of_pages free places);
      was_free = among_is_free free places page next.inside (omega (arith, next.place));
      taken = marks_changed free (free - 1) places places page true refl next.inside (le-leb _ _ (omega (arith, next.place))) (λ p inside other.
          let apart : get_or places p 0 ≢ free - 1 = λ same. other (at_place order places kept.inverse (free - 1) p inside same ∙ named) in
          elim (cases_lt (get_or places p 0) free) [
            | inl lt ↦ lt-leb _ _ (omega arith) ∙ sym (lt-leb _ _ lt)
            | inr le ↦ le-leb _ _ (omega arith) ∙ sym (le-leb _ _ le)
          ]);
    }

-- what is left by a page that moved to a place, where the page at that place moved to the first one's
pub record IsExchanged (order places new_places : List ℕ) (page place : ℕ) : Type 0 where
  pub count : length new_places ≡ length places
  pub here : get_or new_places page 0 ≡ place
  pub other : get_or new_places (get_or order place 0) 0 ≡ get_or places page 0
  pub others : (p : ℕ) → p ≢ page → p ≢ get_or order place 0 → get_or new_places p 0 ≡ get_or places p 0

-- a page is given back: it moves to the first place behind the free ones
pub record IsGiven (order places new_order new_places : List ℕ) (free page : ℕ) : Type 0 where
  pub kept : IsFreeFirst new_order new_places (free + 1)
  pub taken : taken_pages (free + 1) new_places ≡ with_free (taken_pages free places) page

pub given : (order places new_order new_places : List ℕ) (free page : ℕ) → IsFreeFirst order places free → AreInverse new_order new_places → length new_order ≡ length order
    → 1 ≤ page → IsBehind free places page → IsExchanged order places new_places page free → IsGiven order places new_order new_places free page
given order places new_order new_places free page kept inverse count low behind moved =
    let within : get_or places page 0 < length order = kept.inverse.place_inside page (omega (arith, behind.inside, kept.inverse.count)) in
    let boundary : free < length order = omega (arith, behind.place) in
    let stays : (p : ℕ) → p < length places → p ≢ page → leb (free + 1) (get_or new_places p 0) ≡ leb free (get_or places p 0) = λ p inside other.
    elim (cases_eq p (get_or order free 0)) [
      | inl is ↦
          let now : get_or new_places p 0 ≡ get_or places page 0 = ap (λ (q : ℕ). get_or new_places q 0) is ∙ moved.other in
          let was : get_or places p 0 ≡ free = ap (λ (q : ℕ). get_or places q 0) is ∙ kept.inverse.place_of_page free boundary in
          let apart : get_or places page 0 ≢ free = λ same. other (is ∙ sym (at_place order places kept.inverse free page behind.inside same)) in
          le-leb _ _ (omega (arith, behind.place)) ∙ sym (le-leb _ _ (omega arith))
      | inr else ↦
          let now : get_or new_places p 0 ≡ get_or places p 0 = moved.others p other else in
          elim (cases_lt (get_or places p 0) free) [
            | inl lt ↦ lt-leb _ _ (omega arith) ∙ sym (lt-leb _ _ lt)
            | inr le ↦
                let apart : get_or places p 0 ≢ free = λ same. else (at_place order places kept.inverse free p inside same) in
                le-leb _ _ (omega arith) ∙ sym (le-leb _ _ le)
          ]
    ] in
    record {
      kept = record {
        inverse = inverse;
        some = omega (arith, kept.some);
        roots = leb-true _ _ (stays 0 (omega (arith, behind.inside)) (λ same. omega arith) ∙ le-leb _ _ kept.roots);
      };
      taken = marks_changed free (free + 1) places new_places page false moved.count behind.inside (lt-leb _ _ (omega (arith, moved.here))) stays;
    }

-- a free page is taken: it moves to the last place of the free ones
pub record IsProtected (order places new_order new_places : List ℕ) (free page : ℕ) : Type 0 where
  pub kept : IsFreeFirst new_order new_places (free - 1)
  pub taken : taken_pages (free - 1) new_places ≡ with_taken (taken_pages free places) page

pub protected : (order places new_order new_places : List ℕ) (free page : ℕ) → IsFreeFirst order places free → AreInverse new_order new_places → length new_order ≡ length order
    → IsAmong free places page → IsExchanged order places new_places page (free - 1) → IsProtected order places new_order new_places free page
protected order places new_order new_places free page kept inverse count among moved =
    let first : get_or places 0 0 < length order = kept.inverse.place_inside 0 kept.some in
    let boundary : free - 1 < length order = omega (arith, kept.roots) in
    let stays : (p : ℕ) → p < length places → p ≢ page → leb (free - 1) (get_or new_places p 0) ≡ leb free (get_or places p 0) = λ p inside other.
    elim (cases_eq p (get_or order (free - 1) 0)) [
      | inl is ↦
          let now : get_or new_places p 0 ≡ get_or places page 0 = ap (λ (q : ℕ). get_or new_places q 0) is ∙ moved.other in
          let was : get_or places p 0 ≡ free - 1 = ap (λ (q : ℕ). get_or places q 0) is ∙ kept.inverse.place_of_page (free - 1) boundary in
          let apart : get_or places page 0 ≢ free - 1 = λ same. other (is ∙ sym (at_place order places kept.inverse (free - 1) page among.inside same)) in
          lt-leb _ _ (omega (arith, among.place)) ∙ sym (lt-leb _ _ (omega (arith, among.place)))
      | inr else ↦
          let now : get_or new_places p 0 ≡ get_or places p 0 = moved.others p other else in
          let apart : get_or places p 0 ≢ free - 1 = λ same. else (at_place order places kept.inverse (free - 1) p inside same) in
          elim (cases_lt (get_or places p 0) free) [
            | inl lt ↦ lt-leb _ _ (omega arith) ∙ sym (lt-leb _ _ lt)
            | inr le ↦ le-leb _ _ (omega arith) ∙ sym (le-leb _ _ le)
          ]
    ] in
    let root_apart : zero ≢ page = λ same. let place : get_or places 0 0 ≡ get_or places page 0 = ap (λ (q : ℕ). get_or places q 0) same in omega (arith, kept.roots, among.place) in
    record {
      kept = record {
        inverse = inverse;
        some = omega (arith, kept.some);
        roots = leb-true _ _ (stays 0 (omega (arith, kept.some, kept.inverse.count)) root_apart ∙ le-leb _ _ kept.roots);
      };
      taken = marks_changed free (free - 1) places new_places page true moved.count among.inside (le-leb _ _ (omega (arith, moved.here))) stays;
    }

-- the pages from the last one down to page 0
pub record IsDescending (order : List ℕ) (pages : ℕ) : Type 0 where
  pub count : length order ≡ pages
  pub each : (i : ℕ) → i < pages → get_or order i 0 + (i + 1) ≡ pages

-- a new device: each page is free but page 0
pub fresh_kept : (order places : List ℕ) (pages : ℕ) → 1 ≤ pages → pages ≤ 65536 → IsDescending order pages → IsDescending places pages → IsFreeFirst order places (pages - 1)
fresh_kept order places pages some most down same = record {
  inverse = record {
    count = omega (arith, down.count, same.count);
    most = omega (arith, down.count);
    page_inside = λ i lt. omega (arith, down.count, down.each i (omega (arith, down.count)));
    place_inside = λ p lt. omega (arith, down.count, same.each p (omega (arith, down.count)));
    place_of_page = λ i lt.
        let here = down.each i (omega (arith, down.count)) in
        omega (arith, here, same.each (get_or order i 0) (omega (arith, here)));
    page_at_place = λ p lt.
        let here = same.each p (omega (arith, down.count)) in
        omega (arith, here, down.each (get_or places p 0) (omega (arith, here)));
  };
  some = omega (arith, down.count);
  roots = omega (arith, same.each 0 (omega arith));
}

pub fresh_pages : (places : List ℕ) (pages : ℕ) → 1 ≤ pages → IsDescending places pages → taken_pages (pages - 1) places ≡ true ∷ replicate (pages - 1) false
fresh_pages places pages some down =
    ext_get_or true (taken_pages (pages - 1) places) (true ∷ replicate (pages - 1) false) (omega (arith, count_of_pages (pages - 1) places, down.count, length-replicate (pages - 1) false)) (λ p below.
    let inside : p < pages = omega (arith, count_of_pages (pages - 1) places, down.count) in
    taken_at (pages - 1) places p true (omega (arith, down.count)) ∙ fresh_mark (pages - 1) (get_or places p 0) p (omega (arith, down.each p inside)))
  where
    fresh_mark : (free place p : ℕ) → place + p ≡ free → leb free place ≡ get_or (true ∷ replicate free false) p true
    fresh_mark free place zero is = le-leb _ _ (omega arith)
    fresh_mark free place (suc p) is = lt-leb _ _ (omega arith) ∙ sym (get_or-replicate free p false true (omega arith))

-- a free page is in neither reach
neither : (a b : Bool) → (a || b) ≡ false → (a ≡ false) × (b ≡ false)
neither true b is = absurd cc
neither false b is = (refl, is)

pub free_apart : (taken : TakenPages) (durable working : ℕ → Bool) (page : ℕ) → 1 ≤ page → page < length taken → AreReached taken durable working
    → IsFree taken page → (durable page ≡ false) × (working page ≡ false)
free_apart taken durable working page low lt reached is_free =
    neither (durable page) (working page) (sym (reached page low lt) ∙ get_or_default taken page false true lt ∙ is_free)
