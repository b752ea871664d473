-- What clearing the sectors behind the root sectors does.
use Rattle.std.specs.Prelude.{◌≡◌, ◌⊎◌, ◌<◌, ℕ, List}
use Rattle.sector_device.specs.Timeline.{LeavesOnly}
use Rattle.sector_device.specs.Device.{DeviceState, Image, IsSynced, IsBehindRoots, timeline}
use Rattle.journal.specs.Sectors.{zeros}

-- in each sector what a stop might have left, or, behind the root sectors, zeros
abbrev pub MayBeCleared : DeviceState → Image → Type 0
MayBeCleared d image = (s : ℕ) → s < d.sectors → d.left s (image s) ⊎ (IsBehindRoots s × (image s ≡ zeros))

-- the sectors behind the root sectors are cleared, or some of them, and each other sector is left alone
pub record ClearsSome (old new : DeviceState) : Type 0 where
  pub content : (s : ℕ) → (new.content s ≡ old.content s) ⊎ (IsBehindRoots s × (new.content s ≡ zeros))
  pub left : (s : ℕ) (c : List ℕ) → new.left s c → old.left s c ⊎ (IsBehindRoots s × (c ≡ zeros))
  pub any_moment : LeavesOnly (MayBeCleared old) (timeline old) (timeline new)

-- they are all cleared, and a stop leaves the content alone
pub record IsCleared (d : DeviceState) : Type 0 where
  pub cleared : (s : ℕ) → IsBehindRoots s → d.content s ≡ zeros
  pub synced : IsSynced d
