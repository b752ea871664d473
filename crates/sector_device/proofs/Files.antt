-- A device over a file does what the file does.
use Rattle.std.proofs.Common.{◌≡◌, ◌⊎◌, ◌≤◌, ◌+◌, ◌*◌, ⊎_elim, inl, inr, ℕ, List, length, refl, ◌∙◌, ap, arith}
use Rattle.sector_device.specs.Timeline.{Elapses, IsPresent}
use Rattle.sector_device.specs.Device.{timeline, IsLeft, KeepsHistory, OnlyReads, Writes}
use Rattle.sector_device.specs.Page.{IsPart, MayHoldParts, WritesPage, ReadsPage}
use Rattle.sector_device.specs.FilePage.{FileWritesPage}
use Rattle.sector_device.specs.RawFile.{FileState, FileOnlyReads, FileWrites}
use Rattle.sector_device.specs.FileState.{sector_of, file_device}
use Rattle.sector_device.proofs.Devices.{plain_history}
use Rattle.sector_device.proofs.Runs.{once}
use Rattle.sector_device.proofs.PutBytes.{sector_of-put, sector_of-put_other, same_has_parts}

module _ (was_faithful is_faithful : Type 0) (old new : FileState) (sectors failures failures' : ℕ) where
  pub elapses : Elapses old.time new.time → Elapses (timeline (file_device was_faithful old sectors failures)) (timeline (file_device is_faithful new sectors failures'))
  elapses time = record {
    later = time.later;
    past = λ a b image le stop. (stop.0, time.past a b stop.0 le stop.1, stop.2);
    adds = λ a image le stop. ⊎_elim (λ was. inl (stop.0, was, stop.2)) (λ left. inr (λ s inside. (stop.0, left, stop.2 s inside))) (time.adds a stop.0 le stop.1);
  }

  -- what every call leaves alone
  pub file_history : (was_faithful → is_faithful) → (is_faithful → was_faithful) → failures ≤ failures' → (was_faithful → Elapses old.time new.time)
      → KeepsHistory (file_device was_faithful old sectors failures) (file_device is_faithful new sectors failures')
  file_history forth back rises time = plain_history _ _ (λ s none. none) (λ s none. none) refl forth back rises (λ is. elapses (time is))

  -- a call that writes nothing
  pub only_reads : FileOnlyReads old new → OnlyReads (file_device was_faithful old sectors failures) (file_device is_faithful new sectors failures')
  only_reads file = record {
    content = λ s. ap (λ (xs : List ℕ). sector_of s xs) file.bytes;
    left = λ s c left. (left.0, file.left left.0 left.1, left.2);
    time = elapses file.time;
  }

  -- a write of a sector
  pub writes : (sector : ℕ) (bytes : List ℕ) → length bytes ≡ 512 → 512 * sector + 512 ≤ length old.bytes → ((x : List ℕ) → old.time.left x → length x ≡ length old.bytes)
      → FileWrites (512 * sector) bytes old new → Writes sector bytes (file_device was_faithful old sectors failures) (file_device is_faithful new sectors failures')
  writes sector bytes long within keeps file = record {
    content = ⊎_elim
        (λ put. inl (ap (λ (xs : List ℕ). sector_of sector xs) put ∙ sector_of-put sector bytes old.bytes long within))
        (λ same. inr (ap (λ (xs : List ℕ). sector_of sector xs) same))
        file.bytes;
    left = λ c left. let was = file.left left.0 left.1 in ⊎_elim
        (λ same. inl (was.0, was.1, left.2 ∙ ap (λ (xs : List ℕ). sector_of sector xs) same))
        (λ put. inr (left.2 ∙ ap (λ (xs : List ℕ). sector_of sector xs) put ∙ sector_of-put sector bytes was.0 long (omega (arith, within, keeps was.0 was.1))))
        was.2;
    others = λ s other. ⊎_elim
        (λ put. ap (λ (xs : List ℕ). sector_of s xs) put ∙ sector_of-put_other sector s bytes old.bytes long within other)
        (λ same. ap (λ (xs : List ℕ). sector_of s xs) same)
        file.bytes;
    others_left = λ s c other left. let was = file.left left.0 left.1 in ⊎_elim
        (λ same. (was.0, was.1, left.2 ∙ ap (λ (xs : List ℕ). sector_of s xs) same))
        (λ put. (was.0, was.1, left.2 ∙ ap (λ (xs : List ℕ). sector_of s xs) put ∙ sector_of-put_other sector s bytes was.0 long (omega (arith, within, keeps was.0 was.1)) other))
        was.2;
    time = elapses file.time;
  }

  -- of the present moment no more is said than what a stop may leave now, where that is so of the file
  present : IsPresent old.time → IsPresent (timeline (file_device was_faithful old sectors failures))
  present now image stop s inside = (stop.0, now stop.0 stop.1, stop.2 s inside)

  -- a read of a page
  pub reads_page : IsPresent old.time → FileOnlyReads old new → ReadsPage (file_device was_faithful old sectors failures) (file_device is_faithful new sectors failures')
  reads_page now file = record {
    content = (only_reads file).content;
    left = (only_reads file).left;
    any_moment = once (IsLeft (file_device was_faithful old sectors failures)) (timeline (file_device was_faithful old sectors failures)) (timeline (file_device is_faithful new sectors failures')) (present now)
        (λ image before. before) (elapses file.time) (λ image left s inside. (only_reads file).left s (image s) (left s inside));
  }

  -- a write of a page
  pub writes_page : (first : ℕ) (page : List ℕ) → IsPresent old.time → FileWritesPage first page old new
      → WritesPage first page (file_device was_faithful old sectors failures) (file_device is_faithful new sectors failures')
  writes_page first page now file =
      let left : (s : ℕ) (c : List ℕ) → (file_device is_faithful new sectors failures').left s c → (file_device was_faithful old sectors failures).left s c ⊎ IsPart first page s c
      = λ s c left. let was = file.left left.0 left.1 in ⊎_elim
      (λ same. inl (was.0, was.1, left.2 ∙ same))
      (λ written. inr (record { part = written.part; within = written.within; place = written.place; is = left.2 ∙ written.is }))
      (was.2.each s) in
      record {
        content = λ s. file.bytes.each s;
        left = left;
        any_moment = once (MayHoldParts first page (file_device was_faithful old sectors failures)) (timeline (file_device was_faithful old sectors failures)) (timeline (file_device is_faithful new sectors failures')) (present now)
            (λ image before s inside. inl (before s inside)) (elapses file.time) (λ image after s inside. left s (image s) (after s inside));
      }

pub no_time : (file : FileState) → Elapses file.time file.time
no_time file = record { later = omega arith; past = λ a b x le stop. stop; adds = λ a x le stop. inl stop }

-- no call of the file is made
pub none_written : (offset : ℕ) (sector : List ℕ) (file : FileState) → FileWrites offset sector file file
none_written offset sector file = record { bytes = inr refl; left = λ x left. (x, left, inl refl); time = no_time file }

-- nor of a page's bytes
pub no_page_written : (first : ℕ) (page : List ℕ) (file : FileState) → FileWritesPage first page file file
no_page_written first page file = record { bytes = same_has_parts first page file.bytes; left = λ x left. (x, left, same_has_parts first page x); time = no_time file }

pub none_read : (file : FileState) → FileOnlyReads file file
none_read file = record { bytes = refl; left = λ x left. left; time = no_time file }
