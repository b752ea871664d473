-- One sector more of a page is written or read.
use Rattle.std.proofs.Common.{◌≡◌, ◌⊎◌, ⊎_elim, inl, inr, ◌<◌, ◌+◌, ℕ, List, ◌∙◌, arith, refl, ap, sym, subst}
use Rattle.std.proofs.lemmas.Bool.{cases_eq}
use Rattle.sector_device.specs.Timeline.{IsPresent}
use Rattle.sector_device.proofs.Runs.{started, goes_on}
use Rattle.sector_device.specs.Device.{DeviceState, timeline, IsLeft, KeepsHistory, OnlyReads, Writes}
use Rattle.sector_device.specs.FileState.{sector_of}
use Rattle.sector_device.specs.Page.{IsPart, MayHoldParts, WritesPage, ReadsPage}

-- no sector is written yet
pub none_written : (first : ℕ) (bytes : List ℕ) (d : DeviceState) → IsPresent (timeline d) → WritesPage first bytes d d
none_written first bytes d present = record {
  content = λ s. inl refl;
  left = λ s c now. inl now;
  any_moment = started (MayHoldParts first bytes d) (timeline d) present (λ image left s inside. inl (left s inside));
}

-- none is read yet
pub none_read : (d : DeviceState) → IsPresent (timeline d) → ReadsPage d d
none_read d present = record {
  content = λ s. refl;
  left = λ s c now. now;
  any_moment = started (IsLeft d) (timeline d) present (λ image left. left);
}

module _ (first part : ℕ) (bytes sector : List ℕ) (old mid new : DeviceState) (within : part < 8) (is : sector ≡ sector_of part bytes) (writes : Writes (first + part) sector mid new)
    (so_far : WritesPage first bytes old mid) where
  content_more : (s : ℕ) → (new.content s ≡ old.content s) ⊎ IsPart first bytes s (new.content s)
  content_more s = ⊎_elim
      (λ same. ⊎_elim (λ before. inl (same ∙ before)) (λ written. inr (record { part = written.part; within = written.within; place = written.place; is = same ∙ written.is })) (so_far.content s))
      (λ written. inr written)
      (⊎_elim
      (λ here. ⊎_elim
      (λ written. inr (record { part = part; within = within; place = here; is = ap (λ (t : ℕ). new.content t) here ∙ written ∙ is }))
      (λ same. inl (ap (λ (t : ℕ). new.content t) here ∙ same ∙ ap (λ (t : ℕ). mid.content t) (sym here)))
      writes.content)
      (λ other. inl (writes.others s other))
      (cases_eq s (first + part)))

  left_more : (s : ℕ) (c : List ℕ) → new.left s c → old.left s c ⊎ IsPart first bytes s c
  left_more s c now = ⊎_elim (λ before. so_far.left s c before) (λ written. inr written)
      (⊎_elim
      (λ here. ⊎_elim
      (λ before. inl (subst (λ (t : ℕ). mid.left t c) (sym here) before))
      (λ written. inr (record { part = part; within = within; place = here; is = written ∙ is }))
      (writes.left c (subst (λ (t : ℕ). new.left t c) here now)))
      (λ other. inl (writes.others_left s c other now))
      (cases_eq s (first + part)))

-- one sector more is written
pub write_more : (first part : ℕ) (bytes sector : List ℕ) (old mid new : DeviceState) → part < 8 → sector ≡ sector_of part bytes
    → KeepsHistory old mid → KeepsHistory mid new → Writes (first + part) sector mid new → WritesPage first bytes old mid → WritesPage first bytes old new
write_more first part bytes sector old mid new within is history next writes so_far = record {
  content = content_more first part bytes sector old mid new within is writes so_far;
  left = left_more first part bytes sector old mid new within is writes so_far;
  any_moment = goes_on (MayHoldParts first bytes old) (timeline old) (timeline mid) (timeline new) so_far.any_moment writes.time
      (λ image left s inside. left_more first part bytes sector old mid new within is writes so_far s (image s) (left s (omega (arith, inside, history.sectors, next.sectors))));
}

-- one sector more is read
pub read_more : (old mid new : DeviceState) → KeepsHistory old mid → KeepsHistory mid new → OnlyReads mid new → ReadsPage old mid → ReadsPage old new
read_more old mid new history next only_reads so_far = record {
  content = λ s. only_reads.content s ∙ so_far.content s;
  left = λ s c now. so_far.left s c (only_reads.left s c now);
  any_moment = goes_on (IsLeft old) (timeline old) (timeline mid) (timeline new) so_far.any_moment only_reads.time
      (λ image left s inside. so_far.left s (image s) (only_reads.left s (image s) (left s (omega (arith, inside, history.sectors, next.sectors)))));
}
