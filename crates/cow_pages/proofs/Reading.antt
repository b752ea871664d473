-- Calls that write nothing, one after the other.
use Rattle.std.proofs.Common.{◌≡◌, ℕ, refl, ◌∙◌, arith}
use Rattle.sector_device.specs.Timeline.{LeavesOnly, IsPresent}
use Rattle.sector_device.proofs.Runs.{started}
use Rattle.sector_device.proofs.Devices.{read_leaves}
use Rattle.sector_device.specs.Device.{DeviceState, IsLeft, IsSynced, KeepsHistory, OnlyReads, timeline}
use Rattle.sector_device.specs.Page.{IsAlone}
use Rattle.cow_pages.specs.Held.{KeepsContent}

-- before the first call
pub reads_none : (d : DeviceState) → IsPresent (timeline d) → KeepsContent d d
reads_none d present = record {
  content = λ s. refl;
  left = λ s c now. now;
  leaves = started (IsLeft d) (timeline d) present (λ image left. left);
}

-- calls that leave every sector alone
pub reads_alone : (old new : DeviceState) → ((s : ℕ) → IsAlone old new s) → LeavesOnly (IsLeft old) (timeline old) (timeline new) → KeepsContent old new
reads_alone old new alone leaves = record { content = λ s. (alone s).content; left = λ s. (alone s).left; leaves = leaves }

-- a call that writes nothing
pub reads_only : (old new : DeviceState) → IsPresent (timeline old) → KeepsHistory old new → OnlyReads old new → KeepsContent old new
reads_only old new present history only = record { content = only.content; left = only.left; leaves = read_leaves old new present history only }

-- what is synced stays so
pub synced_along : (old new : DeviceState) → KeepsHistory old new → KeepsContent old new → IsSynced old → IsSynced new
synced_along old new history reads synced s inside c now =
    synced s (omega (arith, inside, history.sectors)) c (reads.left s c now) ∙ back s
  where
    back : (s : ℕ) → old.content s ≡ new.content s
    back s = let e = reads.content s in cc
