-- A page is written apart from the sectors beside.
use Rattle.std.proofs.Common.{◌≡◌, ◌<◌, ◌+◌, ℕ, List, inl, inr, ⊎_elim, arith, subst}
use Rattle.sector_device.specs.Device.{DeviceState, KeepsHistory, IsBehindRoots}
use Rattle.sector_device.specs.Page.{IsPart, WritesPage}
use Rattle.sector_device.specs.Beside.{guarded_state}

-- a sector beside is no part of the page
not_part : (first s : ℕ) (bytes content : List ℕ) → ((k : ℕ) → k < 8 → IsBehindRoots (first + k) → ⊥) → IsBehindRoots s → IsPart first bytes s content → ⊥
not_part first s bytes content apart behind part = apart part.part part.within (let P : ℕ → Type 0 = IsBehindRoots in subst P part.place behind)

pub guarded_writes_page : (d e : DeviceState) (first : ℕ) (bytes : List ℕ) → ((k : ℕ) → k < 8 → IsBehindRoots (first + k) → ⊥) → KeepsHistory d e → (d.faithful → WritesPage first bytes d e)
    → KeepsHistory (guarded_state d) (guarded_state e)
guarded_writes_page d e first bytes apart history writes = record {
  sectors = history.sectors;
  faithful = history.faithful;
  was_faithful = history.was_faithful;
  failures = history.failures;
  same_beside = λ s. (λ is. is, λ is. is);
  beside = λ is.
      let alone : (s : ℕ) (c : List ℕ) → IsBehindRoots s → e.left s c → d.left s c
      = λ s c behind left. ⊎_elim (λ was. was) (λ part. absurd (not_part first s bytes c apart behind part)) ((writes is).left s c left) in
      record {
        content = λ s behind. ⊎_elim (λ same. same) (λ part. absurd (not_part first s bytes (e.content s) apart behind part)) ((writes is).content s);
        left = λ s c behind left. alone s c behind left;
        any_moment = record {
          later = (writes is).any_moment.later;
          past = (writes is).any_moment.past;
          now = λ image left s inside behind. alone s (image s) behind (left s (omega (arith, inside, history.sectors)));
          before = λ a image le stop. ⊎_elim (λ was. inl was)
              (λ may. inr (λ s inside behind. ⊎_elim (λ was. was) (λ part. absurd (not_part first s bytes (image s) apart behind part)) (may s inside)))
              ((writes is).any_moment.before a image le stop);
        };
      };
}
