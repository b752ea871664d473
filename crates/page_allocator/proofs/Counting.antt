-- How many pages are free.
use Rattle.std.proofs.Common.{◌≡◌, ◌<◌, ◌≤◌, ℕ, List, length, inl, inr, take, get_or, sym, ap, ◌∙◌, arith}
use Rattle.std.proofs.lemmas.Bool.{cases_lt}
use Rattle.std.proofs.lemmas.List.{get_or-take, get_or_default, length-take-le}
use Rattle.page_allocator.specs.TakenPages.{HasFree}
use Rattle.page_allocator.specs.Order.{IsFreeFirst, taken_pages}
use Rattle.page_allocator.proofs.Changes.{among_is_free, free_is_among}

-- the first pages of the order are those that are free
pub first_are_free : (order places : List ℕ) (free : ℕ) → IsFreeFirst order places free → HasFree free (taken_pages free places)
first_are_free order places free kept =
    let first : get_or places 0 0 < length order = kept.inverse.place_inside 0 kept.some in
    let within : free ≤ length order = omega (arith, kept.roots, first) in
    let long : length (take free order) ≡ free = length-take-le free order within in
    let same : (i : ℕ) → i < length (take free order) → get_or (take free order) i 0 ≡ get_or order i 0 = λ i lt. get_or-take free order i 0 (omega (arith, lt, long)) in
    let place : (i : ℕ) → i < length (take free order) → get_or places (get_or (take free order) i 0) 0 ≡ i
    = λ i lt. ap (λ (p : ℕ). get_or places p 0) (same i lt) ∙ kept.inverse.place_of_page i (omega (arith, lt, long, within)) in (
      take free order,
      long,
      record {
        some = λ i lt. elim (cases_lt 0 (get_or (take free order) i 0)) [
          | inl above ↦ omega (arith, above)
          | inr none ↦
              let zero_is : get_or (take free order) i 0 ≡ 0 = omega (arith, none) in
              let at_root : get_or places 0 0 ≡ i = sym (ap (λ (p : ℕ). get_or places p 0) zero_is) ∙ place i lt in
              absurd (omega (arith, kept.roots, at_root, lt, long))
        ];
        each = λ i lt. among_is_free free places (get_or (take free order) i 0)
            (omega (arith, same i lt, kept.inverse.page_inside i (omega (arith, lt, long, within)), kept.inverse.count)) (omega (arith, place i lt, lt, long));
        differ = λ i j lt lower is. sym (place i lt) ∙ (ap (λ (p : ℕ). get_or places p 0) is ∙ place j lower);
        all = λ page is.
            let among = free_is_among free places page is in
            let at : get_or places page 0 < length (take free order) = omega (arith, among.place, long) in (
              get_or places page 0,
              at,
              get_or_default (take free order) (get_or places page 0) page 0 at
                  ∙ (same (get_or places page 0) at ∙ kept.inverse.page_at_place page (omega (arith, among.inside, kept.inverse.count))),
            );
      },
    )
