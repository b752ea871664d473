-- Sectors written one after the other: one more is written, and the others are left alone.
use Rattle.std.proofs.Common.{◌≡◌, ◌⊎◌, ⊎_elim, inl, inr, ◌<◌, ◌≤◌, ◌+◌, ℕ, List, [], length, get_or, ◌∙◌, arith, refl, ap, sym, subst}
use Rattle.std.proofs.lemmas.Bool.{cases_eq}
use Rattle.sector_device.specs.Timeline.{IsPresent, LeavesOnly}
use Rattle.sector_device.proofs.Runs.{started, goes_on}
use Rattle.sector_device.specs.Device.{DeviceState, timeline, IsLeft, KeepsHistory, Writes, OnlyReads}
use Rattle.sector_device.specs.Page.{IsAlone, IsOutside}
use Rattle.sector_device.specs.Sectors.{IsSectorOf, MayHoldSectors, WritesSectors}

-- no sector is written yet
pub none_written : (first : ℕ) (sectors : List (List ℕ)) (d : DeviceState) → IsPresent (timeline d) → WritesSectors first sectors d d
none_written first sectors d present = record {
  content = λ s. inl refl;
  left = λ s c now. inl now;
  any_moment = started (MayHoldSectors first sectors d) (timeline d) present (λ image left s inside. inl (left s inside));
}

module _ (first part : ℕ) (sectors : List (List ℕ)) (sector : List ℕ) (old mid new : DeviceState) (within : part < length sectors) (is : sector ≡ get_or sectors part []) (writes : Writes (first + part) sector mid new)
    (so_far : WritesSectors first sectors old mid) where
  content_more : (s : ℕ) → (new.content s ≡ old.content s) ⊎ IsSectorOf first sectors s (new.content s)
  content_more s = ⊎_elim
      (λ same. ⊎_elim (λ before. inl (same ∙ before)) (λ written. inr (record { index = written.index; within = written.within; place = written.place; is = same ∙ written.is })) (so_far.content s))
      (λ written. inr written)
      (⊎_elim
      (λ here. ⊎_elim
      (λ written. inr (record { index = part; within = within; place = here; is = ap (λ (t : ℕ). new.content t) here ∙ written ∙ is }))
      (λ same. inl (ap (λ (t : ℕ). new.content t) here ∙ same ∙ ap (λ (t : ℕ). mid.content t) (sym here)))
      writes.content)
      (λ other. inl (writes.others s other))
      (cases_eq s (first + part)))

  left_more : (s : ℕ) (c : List ℕ) → new.left s c → old.left s c ⊎ IsSectorOf first sectors s c
  left_more s c now = ⊎_elim (λ before. so_far.left s c before) (λ written. inr written)
      (⊎_elim
      (λ here. ⊎_elim
      (λ before. inl (subst (λ (t : ℕ). mid.left t c) (sym here) before))
      (λ written. inr (record { index = part; within = within; place = here; is = written ∙ is }))
      (writes.left c (subst (λ (t : ℕ). new.left t c) here now)))
      (λ other. inl (writes.others_left s c other now))
      (cases_eq s (first + part)))

-- one sector more is written
pub write_more : (first part : ℕ) (sectors : List (List ℕ)) (sector : List ℕ) (old mid new : DeviceState) → part < length sectors → sector ≡ get_or sectors part []
    → KeepsHistory old mid → KeepsHistory mid new → Writes (first + part) sector mid new → WritesSectors first sectors old mid → WritesSectors first sectors old new
write_more first part sectors sector old mid new within is history next writes so_far = record {
  content = content_more first part sectors sector old mid new within is writes so_far;
  left = left_more first part sectors sector old mid new within is writes so_far;
  any_moment = goes_on (MayHoldSectors first sectors old) (timeline old) (timeline mid) (timeline new) so_far.any_moment writes.time
      (λ image left s inside. left_more first part sectors sector old mid new within is writes so_far s (image s) (left s (omega (arith, inside, history.sectors, next.sectors))));
}

-- a sector outside is none of them
not_inside : (first : ℕ) (sectors : List (List ℕ)) (s : ℕ) (content : List ℕ) → IsOutside first (length sectors) s → IsSectorOf first sectors s content → ⊥
not_inside first sectors s content outside part = ⊎_elim (λ below. omega (arith, below, part.place)) (λ above. omega (arith, above, part.place, part.within)) outside

-- and is left alone, also by a call that writes nothing behind them
pub alone_outside : (first : ℕ) (sectors : List (List ℕ)) (old new : DeviceState) → WritesSectors first sectors old new → (s : ℕ) → IsOutside first (length sectors) s → IsAlone old new s
alone_outside first sectors old new writes s outside = record {
  content = ⊎_elim (λ same. same) (λ part. absurd (not_inside first sectors s (new.content s) outside part)) (writes.content s);
  left = λ c now. ⊎_elim (λ before. before) (λ part. absurd (not_inside first sectors s c outside part)) (writes.left s c now);
}

pub alone_synced : (first : ℕ) (sectors : List (List ℕ)) (old mid new : DeviceState) → WritesSectors first sectors old mid → OnlyReads mid new → (s : ℕ) → IsOutside first (length sectors) s → IsAlone old new s
alone_synced first sectors old mid new writes reads s outside =
    let before = alone_outside first sectors old mid writes s outside in
    record { content = reads.content s ∙ before.content; left = λ c now. before.left c (reads.left s c now) }

-- a stop during the sync, too, leaves what it was or what is written
pub may_synced : (first : ℕ) (sectors : List (List ℕ)) (old mid new : DeviceState) → WritesSectors first sectors old mid → OnlyReads mid new → new.sectors ≡ old.sectors
    → LeavesOnly (MayHoldSectors first sectors old) (timeline old) (timeline new)
may_synced first sectors old mid new writes reads same =
    goes_on (MayHoldSectors first sectors old) (timeline old) (timeline mid) (timeline new) writes.any_moment reads.time
    (λ image left s lt. writes.left s (image s) (reads.left s (image s) (left s (omega (arith, lt, same)))))
