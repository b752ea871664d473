-- Laws of devices.
use Rattle.std.proofs.Common.{◌≡◌, ◌≤◌, ℕ, List, arith, inl, inr, ⊎_elim}
use Rattle.sector_device.specs.Timeline.{Elapses, LeavesOnly, IsPresent}
use Rattle.sector_device.specs.Device.{DeviceState, IsLeft, KeepsHistory, OnlyReads, timeline}
use Rattle.sector_device.proofs.Runs.{once}

-- a stop during a call that writes nothing, or after it, leaves what it might have left before
pub read_leaves : (old new : DeviceState) → IsPresent (timeline old) → KeepsHistory old new → OnlyReads old new → LeavesOnly (IsLeft old) (timeline old) (timeline new)
read_leaves old new present history only_reads =
    once (IsLeft old) (timeline old) (timeline new) present (λ image left. left) only_reads.time
    (λ image left s inside. only_reads.left s (image s) (left s (omega (arith, inside, history.sectors))))

-- a call of a device that keeps nothing beside
pub plain_history : (old new : DeviceState) → ((s : ℕ) → old.beside s → ⊥) → ((s : ℕ) → new.beside s → ⊥) → new.sectors ≡ old.sectors → (old.faithful → new.faithful) → (new.faithful → old.faithful)
    → old.failures ≤ new.failures → (old.faithful → Elapses (timeline old) (timeline new)) → KeepsHistory old new
plain_history old new none none_now sectors faithful was_faithful rises time = record {
  sectors = sectors;
  faithful = faithful;
  was_faithful = was_faithful;
  failures = rises;
  same_beside = λ s. (λ is. absurd (none s is), λ is. absurd (none_now s is));
  beside = λ is. record {
    content = λ s beside. absurd (none s beside);
    left = λ s c beside left. absurd (none s beside);
    any_moment = record {
      later = (time is).later;
      past = (time is).past;
      now = λ image left s inside beside. absurd (none s beside);
      before = λ a image le stop. ⊎_elim (λ was. inl was) (λ left. inr (λ s inside beside. absurd (none s beside))) ((time is).adds a image le stop);
    };
  };
}
