-- What emptying a root sector does where it says that there is a journal.
use Rattle.std.specs.Prelude.{◌≡◌, ◌⊎◌, ◌+◌, ◌<◌, ℕ, List, false, Result, MatchResult}
use Rattle.sector_device.specs.Timeline.{LeavesOnly}
use Rattle.sector_device.specs.Device.{DeviceState, Image, HasFailed, IsSynced, KeepsHistory, timeline}
use Rattle.page_roots.specs.Formats.{has_journal}
use Rattle.page_roots.specs.Root.{home}
use Rattle.page_roots.specs.Sector.{root_at}
use Rattle.page_roots.specs.declared.sector.RootSector.{RootSector}
use Rattle.page_roots.specs.declared.sector.RootSector.TheVariants.{Empty, Found, Malformed}
use Rattle.cow_pages.specs.Held.{KeepsContent}
use Rattle.store.specs.declared.fault.StoreFault.TheVariants.{Device}
use Rattle.journal_store.specs.declared.switch_fault.SwitchFault.{SwitchFault}
use Rattle.journal_store.specs.declared.switch_fault.SwitchFault.TheVariants.{Refused}

-- a root sector that is empty, or whose root says that there is no journal
abbrev pub SaysNoJournal : RootSector → Type 0
SaysNoJournal Empty = Unit {0}
SaysNoJournal (Found root) = has_journal root.format ≡ false
SaysNoJournal Malformed = ⊥

-- neither root sector says that there is a journal, so that a program that knows of none reads both
abbrev pub HasNoJournalRoot : Image → Type 0
HasNoJournalRoot image = (s : ℕ) → s < 2 → SaysNoJournal (root_at s (image s))

-- in each sector what a stop might have left, or in this one an empty root sector
abbrev pub MayBeEmptied : ℕ → DeviceState → Image → Type 0
MayBeEmptied sector d image = (s : ℕ) → s < d.sectors → d.left s (image s) ⊎ ((s ≡ sector) × (root_at sector (image s) ≡ Empty))

-- this root sector is emptied or left as it is, and each other sector is left alone
pub record EmptiesSector (sector : ℕ) (old new : DeviceState) : Type 0 where
  pub content : (s : ℕ) → (new.content s ≡ old.content s) ⊎ ((s ≡ sector) × (root_at sector (new.content s) ≡ Empty))
  pub left : (s : ℕ) (c : List ℕ) → new.left s c → old.left s c ⊎ ((s ≡ sector) × (root_at sector c ≡ Empty))
  pub any_moment : LeavesOnly (MayBeEmptied sector old) (timeline old) (timeline new)

-- a stop leaves the content alone, in which this root sector says of no journal; where it said of none before, nothing was written
pub record IsRid (sector : ℕ) (old new : DeviceState) : Type 0 where
  pub synced : IsSynced new
  pub says : SaysNoJournal (root_at sector (new.content sector))
  pub unwritten : SaysNoJournal (root_at sector (old.content sector)) → KeepsContent old new

-- the root sector beside that of the root of this number is emptied, if it says that there is a journal
pub record RidsOfOlder (number : ℕ) (result : Result ℕ SwitchFault) (old new : DeviceState) : Type 0 where
  pub history : KeepsHistory old new
  pub empties : old.faithful → EmptiesSector (home (number + 1)) old new
  pub outcome : old.faithful → MatchResult result (λ n. (n ≡ number) × IsRid (home (number + 1)) old new) (λ fault. (fault ≡ Refused Device) × HasFailed old new)
