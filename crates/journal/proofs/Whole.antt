-- Whole records in sectors that were read.
use Rattle.std.proofs.Common.{◌≡◌, ◌⊎◌, inl, inr, ◌<◌, ◌≤◌, ◌+◌, ◌-◌, [], ℕ, List, length, take, drop, get_or, ◌∙◌, arith, refl, ap, sym, subst}
use Rattle.std.proofs.lemmas.Bool.{lt-ltb, le-ltb}
use Rattle.std.proofs.lemmas.List.{get_or-map, get_or-take, get_or-drop, length-map, length-take-le, length-drop}
use Rattle.journal.specs.Chain.{Part, Blank, Holds, Entry, part_of, IsWhole}
use Rattle.journal.proofs.Chaining.{one_part}
use Rattle.journal.specs.Sectors.{sector_at}
use Rattle.journal.proofs.SectorsRead.{held_bytes}
use Rattle.journal.specs.declared.sector.SectorTag.{SectorTag}
use Rattle.journal.specs.Reading.{region_of, part_under, parts_at, entry_in, BeginsWith, IsRecordAt}

pub inside_of : (room : ℕ) (sectors : List (List ℕ)) (q : ℕ) → q < room → region_of room sectors q ≡ sector_at room (get_or sectors q [])
inside_of room sectors q lt = rw (lt-ltb q room lt) refl

pub outside_of : (room : ℕ) (sectors : List (List ℕ)) (q : ℕ) → room ≤ q → region_of room sectors q ≡ Blank
outside_of room sectors q le = rw (le-ltb q room le) refl

module _ (root last room : ℕ) (sectors : List (List ℕ)) (place : ℕ) (long : length sectors ≡ room) where
  -- a sector of a run of them
  run_is : (count i : ℕ) → i < count → get_or (take count (drop place sectors)) i [] ≡ get_or sectors (place + i) []
  run_is count i lt = get_or-take count (drop place sectors) i [] lt ∙ get_or-drop place sectors i []

  run_long : (count : ℕ) → count ≤ room - place → length (take count (drop place sectors)) ≡ count
  run_long count fits = length-take-le count (drop place sectors) (omega (arith, fits, long, length-drop place sectors))

  pub parts_long : (count : ℕ) → count ≤ room - place → length (parts_at count place sectors) ≡ count
  parts_long count fits = length-map (take count (drop place sectors)) (λ (sector : List ℕ). drop 24 sector) ∙ run_long count fits

  part_bytes_are : (count i : ℕ) → count ≤ room - place → i < count → get_or (parts_at count place sectors) i [] ≡ drop 24 (get_or sectors (place + i) [])
  part_bytes_are count i fits lt =
      get_or-map (λ (sector : List ℕ). drop 24 sector) (take count (drop place sectors)) i [] [] (omega (arith, lt, run_long count fits))
      ∙ ap (λ (sector : List ℕ). drop 24 sector) (run_is count i lt)

  -- the sectors of a run hold the parts of the record of a tag
  pub whole_there : (tag : SectorTag) → BeginsWith root room tag (get_or sectors place []) → last < tag.number → tag.count ≤ room - place
      → ((i : ℕ) → i < length (take tag.count (drop place sectors)) → sector_at room (get_or (take tag.count (drop place sectors)) i [])
      ≡ Holds (part_under tag i (drop 24 (get_or (take tag.count (drop place sectors)) i []))))
      → IsRecordAt root last room sectors place tag
  whole_there tag begins rises fits all = record {
    some = begins.some;
    fits = fits;
    whole = record {
      rises = rises;
      some = omega (arith, begins.some, parts_long tag.count fits);
      fits = omega (arith, fits, parts_long tag.count fits);
      holds = λ i lt.
          let inside : i < tag.count = omega (arith, lt, parts_long tag.count fits) in
          let here = all i (omega (arith, inside, run_long tag.count fits)) in
          let same : part_under tag i (drop 24 (get_or (take tag.count (drop place sectors)) i [])) ≡ part_of root (entry_in tag.number tag.count place sectors) i
          = rw (begins.of_root, parts_long tag.count fits, part_bytes_are tag.count i fits inside, run_is tag.count i inside) refl in
          inside_of room sectors (place + i) (omega (arith, inside, fits))
          ∙ ap (λ (sector : List ℕ). sector_at room sector) (sym (run_is tag.count i inside)) ∙ here ∙ ap (λ (part : Part). Holds part) same;
    };
  }

  -- what a sector says of a whole record that begins here
  part_there : (e : Entry) → IsWhole (region_of room sectors) root last place (room - place) e → (i : ℕ) → i < length e.parts → sector_at room (get_or sectors (place + i) []) ≡ Holds (part_of root e i)
  part_there e whole i lt = sym (inside_of room sectors (place + i) (omega (arith, lt, whole.fits))) ∙ whole.holds i lt

  -- none begins past the last sector
  pub none_past : room ≤ place → (e : Entry) → IsWhole (region_of room sectors) root last place (room - place) e → ⊥
  none_past past e whole = omega (arith, past, whole.some, whole.fits)

  pub begins_here : (e : Entry) → IsWhole (region_of room sectors) root last place (room - place) e → sector_at room (get_or sectors place []) ≡ Holds (part_of root e 0)
  begins_here e whole =
      let same : place + 0 ≡ place = omega arith in
      ap (λ (s : ℕ). sector_at room (get_or sectors s [])) (sym same) ∙ part_there e whole 0 (omega (arith, whole.some))

  -- a whole record that begins here has the tag of its first sector, its number is above the last one, and it has room
  tag_is : (tag : SectorTag) → BeginsWith root room tag (get_or sectors place []) → (e : Entry) → IsWhole (region_of room sectors) root last place (room - place) e
      → (e.number ≡ tag.number) × (length e.parts ≡ tag.count)
  tag_is tag begins e whole =
      let same : part_of root e 0 ≡ part_under tag 0 (drop 24 (get_or sectors place [])) = one_part _ _ (sym (begins_here e whole) ∙ begins.is) in
      (ap (λ (part : Part). part.number) same, ap (λ (part : Part). part.count) same)

  pub none_low : (tag : SectorTag) → BeginsWith root room tag (get_or sectors place []) → tag.number ≤ last ⊎ room - place < tag.count
      → (e : Entry) → IsWhole (region_of room sectors) root last place (room - place) e → ⊥
  none_low tag begins (inl low) e whole = let same = tag_is tag begins e whole in omega (arith, low, same.0, whole.rises)
  none_low tag begins (inr wide) e whole = let same = tag_is tag begins e whole in omega (arith, wide, same.1, whole.fits)

  -- where one of its sectors does not hold its part, no record is whole
  pub parts_held : (tag : SectorTag) → BeginsWith root room tag (get_or sectors place []) → tag.count ≤ room - place → (e : Entry) → IsWhole (region_of room sectors) root last place (room - place) e
      → (i : ℕ) → i < length (take tag.count (drop place sectors)) → sector_at room (get_or (take tag.count (drop place sectors)) i [])
      ≡ Holds (part_under tag i (drop 24 (get_or (take tag.count (drop place sectors)) i [])))
  parts_held tag begins fits e whole i lt =
      let same = tag_is tag begins e whole in
      let inside : i < tag.count = omega (arith, lt, run_long tag.count fits) in
      let here = part_there e whole i (omega (arith, inside, same.1)) in
      let bytes_are : get_or e.parts i [] ≡ drop 24 (get_or sectors (place + i) []) = held_bytes room (get_or sectors (place + i) []) (part_of root e i) here in
      let is : part_of root e i ≡ part_under tag i (drop 24 (get_or sectors (place + i) [])) = rw (same.0, same.1, bytes_are, begins.of_root) refl in
      subst (λ (sector : List ℕ). sector_at room sector ≡ Holds (part_under tag i (drop 24 sector))) (sym (run_is tag.count i inside)) (here ∙ ap (λ (part : Part). Holds part) is)
