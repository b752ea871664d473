-- A device that keeps its history: what it holds after a list of calls.
use Rattle.std.specs.Prelude.{◌≡◌, ◌≤◌, ◌<◌, ◌⊎◌, ◌==◌, if◌then◌else◌, ℕ, List, [], ◌∷◌, length, take, replicate}
use Rattle.storage_sizes.specs.Sizes.{sector_size}
use Rattle.sector_device.specs.Device.{DeviceState, Image}
use Rattle.sector_device.specs.declared.call.Call.{Call}
use Rattle.sector_device.specs.declared.call.Call.TheVariants.{Read, Write, Sync}

-- what the sectors hold at one moment, and what a stop at that moment may leave in them
pub record Held : Type 1 where
  pub content : ℕ → List ℕ
  pub left : ℕ → List ℕ → Type 0

-- zeros, synced
abbrev pub zeros : Held
zeros = record { content = λ s. replicate sector_size 0; left = λ s c. c ≡ replicate sector_size 0 }

-- a write adds one content to its sector, and a sync that succeeds leaves the last ones alone
abbrev pub changed : Held → Call → Held
changed held Read = held
changed held (Write sector bytes) = record {
  content = λ s. if s == sector then bytes else held.content s;
  left = λ s c. held.left s c ⊎ ((s ≡ sector) × (c ≡ bytes));
}
changed held Sync = record { content = held.content; left = λ s c. c ≡ held.content s }

-- the same of a list of calls, the first of them first
abbrev pub changed_by : Held → List Call → Held
changed_by held [] = held
changed_by held (call ∷ calls) = changed_by (changed held call) calls

-- what a new device holds after these calls
abbrev pub after : List Call → Held
after calls = changed_by zeros calls

-- a stop after these calls may leave this image
abbrev pub MayLeave : ℕ → List Call → Image → Type 0
MayLeave sectors calls image = (s : ℕ) → s < sectors → (after calls).left s (image s)

-- no sync among these calls has succeeded
abbrev pub HasNoSync : List Call → Type 0
HasNoSync [] = Unit {0}
HasNoSync (Read ∷ calls) = HasNoSync calls
HasNoSync (Write sector bytes ∷ calls) = HasNoSync calls
HasNoSync (Sync ∷ calls) = ⊥

-- Its moment is the count of its calls: a stop at a moment between two leaves what it may leave after so many of them.
abbrev pub history_state : ℕ → List Call → ℕ → DeviceState
history_state sectors calls failures = record {
  faithful = Unit {0};
  sectors = sectors;
  content = (after calls).content;
  left = (after calls).left;
  moment = length calls;
  stops = λ first last image. (k : ℕ) × (first ≤ k) × (k ≤ last) × (k ≤ length calls) × MayLeave sectors (take k calls) image;
  failures = failures;
  beside = λ s. ⊥;
}
