-- A page that is written as it was read but for some of its sectors: these sectors are written.
use Rattle.std.proofs.Common.{◌≡◌, ◌⊎◌, inl, inr, ◌<◌, ◌≤◌, ◌+◌, ◌-◌, ℕ, List, [], length, get_or, ◌∙◌, arith, ap, sym, subst, refl}
use Rattle.std.proofs.lemmas.Bool.{cases_lt}
use Rattle.sector_device.specs.Timeline.{LeavesOnly, joined, weakened}
use Rattle.sector_device.proofs.Runs.{goes_on}
use Rattle.sector_device.specs.Device.{DeviceState, timeline, IsLeft, OnlyReads}
use Rattle.sector_device.specs.FileState.{sector_of}
use Rattle.sector_device.specs.Page.{HoldsPage, IsPart, MayHoldParts, ReadsPage, WritesPage, IsOutside}
use Rattle.sector_device.specs.Sectors.{IsSectorOf, MayHoldSectors, WritesSectors, HoldsSectors}

-- a read writes no sector
pub none_written : (first : ℕ) (sectors : List (List ℕ)) (old mid : DeviceState) → ReadsPage old mid → WritesSectors first sectors old mid
none_written first sectors old mid reads = record {
  content = λ s. inl (reads.content s);
  left = λ s c now. inl (reads.left s c now);
  any_moment = weakened (IsLeft old) (MayHoldSectors first sectors old) (timeline old) (timeline mid) (λ image left s inside. inl (left s inside)) reads.any_moment;
}

module _ (first : ℕ) (sectors : List (List ℕ)) (read bytes : List ℕ) (old mid new : DeviceState) (reads : ReadsPage old mid) (holds : HoldsPage 0 read old.content)
    (others : (k : ℕ) → IsOutside first (length sectors) k → sector_of k bytes ≡ sector_of k read)
    (written : (i : ℕ) → i < length sectors → sector_of (first + i) bytes ≡ get_or sectors i [])
    (same_size : mid.sectors ≡ old.sectors) (there : (s : ℕ) → s < old.sectors → old.left s (old.content s)) (room : 8 ≤ old.sectors) (writes : WritesPage 0 bytes mid new) where
  as_read : (s : ℕ) (c : List ℕ) (part : IsPart 0 bytes s c) → IsOutside first (length sectors) part.part → c ≡ old.content s
  as_read s c part outside =
      let place : 0 + part.part ≡ s = omega (arith, part.place) in
      part.is ∙ others part.part outside ∙ sym (holds part.part part.within) ∙ ap (λ (t : ℕ). old.content t) place

  of_part : (s : ℕ) (c : List ℕ) → IsPart 0 bytes s c → (c ≡ old.content s) ⊎ IsSectorOf first sectors s c
  of_part s c part = elim (cases_lt part.part first) [
    | inl below ↦ inl (as_read s c part (inl below))
    | inr above ↦ elim (cases_lt part.part (first + length sectors)) [
      | inr beyond ↦ inl (as_read s c part (inr (omega (arith, beyond))))
      | inl inside ↦
          let index : first + (part.part - first) ≡ part.part = omega (arith, above) in
          inr (record {
            index = part.part - first;
            within = omega (arith, above, inside);
            place = omega (arith, part.place, above);
            is = part.is ∙ ap (λ (k : ℕ). sector_of k bytes) (sym index) ∙ written (part.part - first) (omega (arith, above, inside));
          })
    ]
  ]

  left_of_part : (s : ℕ) (c : List ℕ) → IsPart 0 bytes s c → old.left s c ⊎ IsSectorOf first sectors s c
  left_of_part s c part = elim (of_part s c part) [
    | inl same ↦ inl (subst (λ (x : List ℕ). old.left s x) (sym same) (there s (omega (arith, part.place, part.within, room))))
    | inr is ↦ inr is
  ]

  pub page_writes_sectors : WritesSectors first sectors old new
  page_writes_sectors = record {
    content = λ s. elim (writes.content s) [ inl same ↦ inl (same ∙ reads.content s) | inr part ↦ of_part s (new.content s) part ];
    left = λ s c now. elim (writes.left s c now) [ inl before ↦ inl (reads.left s c before) | inr part ↦ left_of_part s c part ];
    any_moment = joined (MayHoldSectors first sectors old) (timeline old) (timeline mid) (timeline new)
        (weakened (IsLeft old) (MayHoldSectors first sectors old) (timeline old) (timeline mid) (λ image left s inside. inl (left s inside)) reads.any_moment)
        (weakened (MayHoldParts 0 bytes mid) (MayHoldSectors first sectors old) (timeline mid) (timeline new)
        (λ image may s inside. elim (may s (omega (arith, inside, same_size))) [ inl before ↦ inl (reads.left s (image s) before) | inr part ↦ left_of_part s (image s) part ])
        writes.any_moment);
  }

-- and a sync behind it
pub synced_sectors : (first : ℕ) (sectors : List (List ℕ)) (old mid new : DeviceState) → new.sectors ≡ old.sectors → WritesSectors first sectors old mid → OnlyReads mid new
    → WritesSectors first sectors old new
synced_sectors first sectors old mid new same writes sync = record {
  content = λ s. subst (λ (c : List ℕ). (c ≡ old.content s) ⊎ IsSectorOf first sectors s c) (sym (sync.content s)) (writes.content s);
  left = λ s c now. writes.left s c (sync.left s c now);
  any_moment = goes_on (MayHoldSectors first sectors old) (timeline old) (timeline mid) (timeline new) writes.any_moment sync.time
      (λ image left s inside. writes.left s (image s) (sync.left s (image s) (left s (omega (arith, inside, same)))));
}
