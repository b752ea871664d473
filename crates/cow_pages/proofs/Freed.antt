-- The pages that the allocator has free are those in neither reach.
use Rattle.std.proofs.Common.{◌≡◌, ◌<◌, ◌≤◌, ℕ, Bool, true, false, length, get_or, refl, ◌∙◌, inl, inr, arith}
use Rattle.std.proofs.lemmas.Bool.{cases_lt}
use Rattle.std.proofs.lemmas.List.{get_or_default, get_or_past}
use Rattle.std.specs.Prelude.{Contains}
use Rattle.sector_device.specs.declared.device.Device.{Ghosts}
use Rattle.page_allocator.specs.TakenPages.{TakenPages, IsFree as IsFreeIn, HasFree}
use Rattle.cow_pages.specs.declared.cow.CowPages.{CowPages}
use Rattle.cow_pages.specs.Cow.{IsFree}
use Rattle.cow_pages.specs.Free.{HasFreePages}
use Rattle.cow_pages.proofs.Taken.{reach_taken, working_taken, taken_only}

-- a test has failed, or passed
which : (b : Bool) → (b ≡ true → b ≡ false) → b ≡ false
which true then = then refl
which false then = refl

module _ {D : Type 0} {g : Ghosts D} (p : CowPages D g) where
  abbrev marks : TakenPages
  marks = p.map.allocator

  count : length marks ≡ p.map.root.pages
  count = p.map.consistent.marks_count

  inside : (page : ℕ) → IsFreeIn marks page → page < length marks
  inside page is = elim (cases_lt page (length marks)) [
    | inl lt ↦ lt
    | inr past ↦ let taken : get_or marks page true ≡ true = get_or_past marks page true past in absurd (cc)
  ]

  not_taken : (page : ℕ) → IsFreeIn marks page → get_or marks page false ≡ true → ⊥
  not_taken page is taken =
      let same : get_or marks page false ≡ get_or marks page true = get_or_default marks page false true (inside page is) in
      absurd (cc)

  is_free : (page : ℕ) → 1 ≤ page → IsFreeIn marks page → IsFree p page
  is_free page some is = record {
    some = some;
    inside = omega (arith, inside page is, count);
    apart = λ at. not_taken page is (reach_taken marks p.map.root.maps p.map.durable.items p.map.reserved p.map.working.items p.map.consistent.taken page some (inside page is) at);
    unnamed = λ named. not_taken page is (working_taken marks p.map.root.maps p.map.durable.items p.map.reserved p.map.working.items p.map.consistent.taken page some (inside page is) (inr named));
  }

  -- nothing is reserved
  unreserved : (page : ℕ) → 1 ≤ page → Contains p.map.reserved page → ⊥
  unreserved page some (k, lt, is) =
      let here : get_or p.map.reserved k page ≡ get_or p.map.reserved k 0 = get_or_default p.map.reserved k page 0 lt in
      omega (arith, some, here, is, p.idle k)

  is_marked : (page : ℕ) → IsFree p page → IsFreeIn marks page
  is_marked page free =
      let within : page < length marks = omega (arith, free.inside, count) in
      which (get_or marks page true) (λ taken.
      elim (taken_only marks p.map.root.maps p.map.durable.items p.map.reserved p.map.working.items p.map.consistent.taken page free.some within
      (get_or_default marks page false true within ∙ taken)) [
        | inl at ↦ absurd (free.apart at)
        | inr (inl reserved) ↦ absurd (unreserved page free.some reserved)
        | inr (inr named) ↦ absurd (free.unnamed named)
      ])

  pub has_free : (free : ℕ) → HasFree free marks → HasFreePages free p
  has_free free (pages, long, are) = (
    pages,
    long,
    record {
      each = λ i lt. is_free (get_or pages i 0) (are.some i lt) (are.each i lt);
      differ = are.differ;
      all = λ page is. are.all page (is_marked page is);
    },
  )
