-- The parts of the working map that have changed, and the logical pages below the first that may be unused.
use Rattle.std.proofs.Common.{◌≡◌, ◌≢◌, ℕ, ◌+◌, ◌*◌, ◌/◌, ◌%◌, ◌<◌, ◌≤◌, Bool, true, false, List, length, min, get_or, refl, sym, ap, ◌∙◌, arith, inl, inr}
use Rattle.std.proofs.Math.ListN.{set, length-set}
use Rattle.std.proofs.lemmas.Bool.{cases_eq}
use Rattle.std.proofs.lemmas.List.{get_or-set_same, get_or-set_other, ext_get_or}
use Rattle.cow_pages.specs.Held.{part_of}
use Rattle.cow_pages.specs.declared.spans.Span.{Span}
use Rattle.cow_pages.specs.PageMap.{AreChangedParts, IsOutside, DiffersWithin, EndsWith, IsUsedBelow}
use Rattle.cow_pages.proofs.Parts.{parts_same, part_entry}

-- where both maps are the same one
pub changed_first : (entries : List ℕ) (changed_parts : List Bool) → length changed_parts ≡ 64 → AreChangedParts entries entries changed_parts
changed_first entries changed_parts count = record { count = count; same = λ j l none least lt. refl }

-- an entry is in one part alone
other_part : (j l : ℕ) → j ≢ l / 1024 → 1024 * j ≤ l → l < 1024 * j + 1024 → ⊥
other_part j l apart least lt = apart (omega (arith, least, lt))

-- the changed parts, with one changed more or less
mark_here : (changed_parts : List Bool) (index j : ℕ) (mark : Bool) → index < length changed_parts → j ≡ index → get_or (set changed_parts index mark) j false ≡ mark
mark_here changed_parts index j mark inside is = ap (λ (n : ℕ). get_or (set changed_parts index mark) n false) is ∙ get_or-set_same changed_parts index mark false inside

mark_there : (changed_parts : List Bool) (index j : ℕ) (mark : Bool) → j ≢ index → get_or (set changed_parts index mark) j false ≡ false → get_or changed_parts j false ≡ false
mark_there changed_parts index j mark apart none = sym (get_or-set_other changed_parts index j mark false apart) ∙ none

module _ (durable working : List ℕ) (changed_parts : List Bool) (old : AreChangedParts durable working changed_parts) where
  -- an entry changes, and with it its part
  pub changed_more : (l page : ℕ) → l < 65536 → AreChangedParts durable (set working l page) (set changed_parts (l / 1024) true)
  changed_more l page within = record {
    count = length-set changed_parts (l / 1024) true ∙ old.count;
    same = λ j k none least lt. elim (cases_eq j (l / 1024)) [
      | inl is ↦
          let e : true ≡ false = sym (mark_here changed_parts (l / 1024) j true (omega (arith, within, old.count)) is) ∙ none in
          absurd cc
      | inr apart ↦
          get_or-set_other working l k page 0 (λ at. other_part j l apart (omega (arith, least, at)) (omega (arith, lt, at)))
          ∙ old.same j k (mark_there changed_parts (l / 1024) j true apart none) least lt
    ];
  }

  -- a part that has the durable entries again has not changed
  pub changed_less : (index : ℕ) → ((l : ℕ) → 1024 * index ≤ l → l < 1024 * index + 1024 → get_or working l 0 ≡ get_or durable l 0)
      → AreChangedParts durable working (set changed_parts index false)
  changed_less index restored = record {
    count = length-set changed_parts index false ∙ old.count;
    same = λ j l none least lt. elim (cases_eq j index) [
      | inl is ↦ restored l (omega (arith, least, is)) (omega (arith, lt, is))
      | inr apart ↦ old.same j l (mark_there changed_parts index j false apart none) least lt
    ];
  }

  -- an entry is the durable one again
  pub changed_restored : (l : ℕ) → l < length working → AreChangedParts durable (set working l (get_or durable l 0)) changed_parts
  changed_restored l inside = record {
    count = old.count;
    same = λ j k none least lt. elim (cases_eq k l) [
      | inl is ↦
          ap (λ (n : ℕ). get_or (set working l (get_or durable l 0)) n 0) is ∙ get_or-set_same working l (get_or durable l 0) 0 inside
          ∙ ap (λ (n : ℕ). get_or durable n 0) (sym is)
      | inr other ↦ get_or-set_other working l k (get_or durable l 0) 0 other ∙ old.same j k none least lt
    ];
  }

  -- the maps are exchanged
  pub changed_swapped : AreChangedParts working durable changed_parts
  changed_swapped = record { count = old.count; same = λ j l none least lt. sym (old.same j l none least lt) }

  -- a part that has not changed
  pub unchanged_part : (index : ℕ) → index < 64 → length working ≡ 65536 → length durable ≡ 65536 → get_or changed_parts index false ≡ false
      → part_of working index ≡ part_of durable index
  unchanged_part index inside count durable_count none =
      parts_same working durable index (omega (arith, inside, count)) (count ∙ sym durable_count) (λ l least lt. old.same index l none least lt)

-- an entry changes, and a span includes it
pub within_more : (old new : Span) (durable working : List ℕ) (l page : ℕ) → DiffersWithin old durable working
    → ((k : ℕ) → IsOutside new k → IsOutside old k × (k ≢ l)) → DiffersWithin new durable (set working l page)
within_more old new durable working l page within more k outside =
    let is = more k outside in
    get_or-set_other working l k page 0 is.1 ∙ within k is.0

-- an entry is the durable one again
pub within_restored : (span : Span) (durable working : List ℕ) (l : ℕ) → DiffersWithin span durable working → l < length working
    → DiffersWithin span durable (set working l (get_or durable l 0))
within_restored span durable working l within inside k outside = elim (cases_eq k l) [
  | inl is ↦
      ap (λ (n : ℕ). get_or (set working l (get_or durable l 0)) n 0) is ∙ get_or-set_same working l (get_or durable l 0) 0 inside
      ∙ ap (λ (n : ℕ). get_or durable n 0) (sym is)
  | inr other ↦ get_or-set_other working l k (get_or durable l 0) 0 other ∙ within k outside
]

-- a part after the durable map pages in which none is in use
pub unchanged_after : (maps durable working : List ℕ) (changed_parts : List Bool) (index l : ℕ) → AreChangedParts durable working changed_parts → EndsWith maps durable
    → length maps ≤ index → get_or changed_parts index false ≡ false → 1024 * index ≤ l → l < 1024 * index + 1024 → get_or working l 0 ≡ 0
unchanged_after maps durable working changed_parts index l parts ended after none least lt = parts.same index l none least lt ∙ ended l (omega (arith, after, least))

-- maps are the same where each of their parts is
pub parts_whole : (xs ys : List ℕ) → length xs ≡ 65536 → length ys ≡ 65536 → ((j : ℕ) → j < 64 → part_of xs j ≡ part_of ys j) → xs ≡ ys
parts_whole xs ys count same_count each = ext_get_or 0 xs ys (count ∙ sym same_count) (λ l lt.
    let at : 1024 * (l / 1024) + l % 1024 ≡ l = omega arith in
    let inside : l % 1024 < 1024 = omega arith in
    let index : l / 1024 < 64 = omega (arith, lt, count) in
    ap (λ (n : ℕ). get_or xs n 0) (sym at) ∙ sym (part_entry xs (l / 1024) (l % 1024) inside)
    ∙ ap (λ (part : List ℕ). get_or part (l % 1024) 0) (each (l / 1024) index)
    ∙ part_entry ys (l / 1024) (l % 1024) inside ∙ ap (λ (n : ℕ). get_or ys n 0) at)

-- a logical page gets a page
pub used_more : (entries : List ℕ) (end l page : ℕ) → IsUsedBelow entries end → l < length entries → 1 ≤ page → IsUsedBelow (set entries l page) end
used_more entries end l page used inside some k below = elim (cases_eq k l) [
  | inl is ↦ omega (arith, some, ap (λ (n : ℕ). get_or (set entries l page) n 0) is, get_or-set_same entries l page 0 inside)
  | inr other ↦ omega (arith, used k below, get_or-set_other entries l k page 0 other)
]

-- a logical page is left without one
pub used_less : (entries : List ℕ) (end l : ℕ) → IsUsedBelow entries end → IsUsedBelow (set entries l 0) (min end l)
used_less entries end l used k below =
    omega (arith, used k (omega (arith, below)), get_or-set_other entries l k 0 0 (omega (arith, below)))

-- a logical page that has none gets one, or none again
pub used_again : (entries : List ℕ) (end l page : ℕ) → IsUsedBelow entries end → get_or entries l 0 ≡ 0 → IsUsedBelow (set entries l page) end
used_again entries end l page used none k below = elim (cases_eq k l) [
  | inl is ↦ absurd (omega (arith, used k below, none, ap (λ (n : ℕ). get_or entries n 0) is))
  | inr other ↦ omega (arith, used k below, get_or-set_other entries l k page 0 other)
]
