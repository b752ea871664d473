-- What a device of sectors is to the code above it, and what its calls do.
use Rattle.std.specs.Prelude.{◌<◌, ◌≡◌, ◌≢◌, ◌↔◌, ◌⊎◌, ℕ, ◌≤◌, ◌^◌, ◌-◌, List}
use Rattle.std.proofs.Common.{◌∙◌, arith, refl}
use Rattle.storage_sizes.specs.Sizes.{sectors_per_page}
use Rattle.sector_device.specs.Timeline.{Timeline, Elapses, Passes, passes_none, passes_joined}

-- what a stop leaves: the content of each sector
abbrev pub Image : Type 0
Image = ℕ → List ℕ

-- A device at one moment.
pub record DeviceState : Type 1 where
  -- it does what this file says: always so of a device in memory, and a premise of a real one
  pub faithful : Type 0
  -- how many sectors it has
  pub sectors : ℕ
  -- the last content written to a sector, which a read gives
  pub content : ℕ → List ℕ
  -- what a stop now may leave in a sector
  pub left : ℕ → List ℕ → Type 0
  -- its clock, which no call sets back
  pub moment : ℕ
  -- the images that a stop at some moment from the first to the second may leave
  pub stops : ℕ → ℕ → Image → Type 0
  -- how often it has failed, up to 2 ^ 64 - 1
  pub failures : ℕ
  -- the sectors that it keeps beside: no caller writes them as it does the others
  pub beside : ℕ → Type 0

-- a stop now may leave this: in each sector one of its contents, whatever is left in the others
abbrev pub IsLeft : DeviceState → Image → Type 0
IsLeft d image = (s : ℕ) → s < d.sectors → d.left s (image s)

-- what stops leave of a device over time
abbrev pub timeline : DeviceState → Timeline Image
timeline d = record { moment = d.moment; stops = d.stops; left = IsLeft d }

-- the sectors that may be kept beside: those of the first page behind the two root sectors
abbrev pub IsBehindRoots : ℕ → Type 0
IsBehindRoots s = (2 ≤ s) × (s < sectors_per_page)

-- in each sector beside what a stop might have left
abbrev pub AgreesBeside : DeviceState → Image → Type 0
AgreesBeside d image = (s : ℕ) → s < d.sectors → d.beside s → d.left s (image s)

-- the sectors beside are left alone: their contents are the same, and a stop at any moment leaves no more in them than before
pub record LeavesBeside (old new : DeviceState) : Type 0 where
  pub content : (s : ℕ) → old.beside s → new.content s ≡ old.content s
  pub left : (s : ℕ) (c : List ℕ) → old.beside s → new.left s c → old.left s c
  pub any_moment : Passes (AgreesBeside old) (timeline old) (timeline new)

-- what every call leaves alone, faithful or not
pub record KeepsHistory (old new : DeviceState) : Type 0 where
  pub sectors : new.sectors ≡ old.sectors
  pub faithful : old.faithful → new.faithful
  pub was_faithful : new.faithful → old.faithful
  pub failures : old.failures ≤ new.failures
  pub same_beside : (s : ℕ) → old.beside s ↔ new.beside s
  pub beside : old.faithful → LeavesBeside old new

-- and what a write of the sectors beside leaves alone
pub record KeepsSize (old new : DeviceState) : Type 0 where
  pub sectors : new.sectors ≡ old.sectors
  pub faithful : old.faithful → new.faithful
  pub was_faithful : new.faithful → old.faithful
  pub failures : old.failures ≤ new.failures
  pub same_beside : (s : ℕ) → old.beside s ↔ new.beside s

-- no call at all
pub history_none : (d : DeviceState) → KeepsHistory d d
history_none d = record {
  sectors = refl;
  faithful = λ is. is;
  was_faithful = λ is. is;
  failures = omega arith;
  same_beside = λ s. (λ is. is, λ is. is);
  beside = λ faithful. record {
    content = λ s is. refl;
    left = λ s c is left. left;
    any_moment = passes_none (AgreesBeside d) (timeline d) (λ image left s inside is. left s inside);
  };
}

beside_joined : (old mid new : DeviceState) → mid.sectors ≡ old.sectors → ((s : ℕ) → old.beside s → mid.beside s) → LeavesBeside old mid → LeavesBeside mid new → LeavesBeside old new
beside_joined old mid new sectors is_beside first second = record {
  content = λ s is. second.content s (is_beside s is) ∙ first.content s is;
  left = λ s c is left. first.left s c is (second.left s c (is_beside s is) left);
  any_moment = passes_joined (AgreesBeside old) (AgreesBeside mid) (timeline old) (timeline mid) (timeline new)
      (λ image agrees s inside is. first.left s (image s) is (agrees s (omega (arith, inside, sectors)) (is_beside s is))) first.any_moment second.any_moment;
}

-- two calls, one after the other, leave that alone, too: ghost members of traits above cite it
pub history_joined : (old mid new : DeviceState) → KeepsHistory old mid → KeepsHistory mid new → KeepsHistory old new
history_joined old mid new first second = record {
  sectors = second.sectors ∙ first.sectors;
  faithful = λ is. second.faithful (first.faithful is);
  was_faithful = λ is. first.was_faithful (second.was_faithful is);
  failures = omega (arith, first.failures, second.failures);
  same_beside = λ s. (λ is. (second.same_beside s).0 ((first.same_beside s).0 is), λ is. (first.same_beside s).1 ((second.same_beside s).1 is));
  beside = λ is. beside_joined old mid new first.sectors (λ s was. (first.same_beside s).0 was) (first.beside is) (second.beside (first.faithful is));
}

-- the count of failures rose in the call, or stood at its end
abbrev pub HasFailed : DeviceState → DeviceState → Type 0
HasFailed old new = (old.failures < new.failures) ⊎ (old.failures ≡ 2 ^ 64 - 1)

-- a call that writes nothing
pub record OnlyReads (old new : DeviceState) : Type 0 where
  pub content : (s : ℕ) → new.content s ≡ old.content s
  pub left : (s : ℕ) (c : List ℕ) → new.left s c → old.left s c
  pub time : Elapses (timeline old) (timeline new)

-- a write of these bytes to a sector, whether it succeeds or not
pub record Writes (sector : ℕ) (bytes : List ℕ) (old new : DeviceState) : Type 0 where
  pub content : (new.content sector ≡ bytes) ⊎ (new.content sector ≡ old.content sector)
  pub left : (c : List ℕ) → new.left sector c → old.left sector c ⊎ (c ≡ bytes)
  pub others : (s : ℕ) → s ≢ sector → new.content s ≡ old.content s
  pub others_left : (s : ℕ) (c : List ℕ) → s ≢ sector → new.left s c → old.left s c
  pub time : Elapses (timeline old) (timeline new)

-- a stop leaves the content and nothing else in this sector
abbrev pub IsFixed : DeviceState → ℕ → Type 0
IsFixed d s = (c : List ℕ) → d.left s c → c ≡ d.content s

-- a stop leaves the content and nothing else in any sector
abbrev pub IsSynced : DeviceState → Type 0
IsSynced d = (s : ℕ) → s < d.sectors → IsFixed d s
