-- A dump on a device.
use Rattle.std.specs.Prelude.{◌≡◌, ◌<◌, ◌≤◌, ◌+◌, ◌*◌, ◌-◌, ◌/◌, ◌%◌, ℕ, List, [], ◌∷◌, ◌++◌, Option, Some, None, length, replicate}
use Rattle.std.specs.List.{flat_map, range_with_len}
use Rattle.sha2.specs.Hashers.{Holds256}
use Rattle.sector_device.specs.Device.{DeviceState, Image}
use Rattle.store.specs.Records.{Changes}
use Rattle.dumps.specs.Form.{TheDump, IsBlock, IsDump, Follows, ending}
use Rattle.dumps.specs.declared.place.DumpPlace.{DumpPlace}

-- the bytes of so many sectors from one on
abbrev pub bytes_from : Image → ℕ → ℕ → List ℕ
bytes_from image first count = flat_map image (range_with_len first count)

-- whole pages from one on, to the last of so many sectors
pub record HasWholePages (sectors : ℕ) (image : Image) (page : ℕ) : Type 0 where
  pub pages : sectors % 8 ≡ 0
  pub sized : length (bytes_from image (8 * page) (sectors - 8 * page)) ≡ 512 * (sectors - 8 * page)

-- all bytes of a device are this dump
pub record IsDumpOn (sectors : ℕ) (image : Image) (dump : TheDump) : Type 0 where
  pub whole : HasWholePages sectors image 0
  pub is : IsDump (bytes_from image 0 sectors) dump

abbrev pub HoldsDump : DeviceState → TheDump → Type 0
HoldsDump d dump = IsDumpOn d.sectors d.content dump

-- the first page of the device, as far as it goes, has zeros alone
abbrev pub BeginsWithZeros : DeviceState → Type 0
BeginsWithZeros d = (s : ℕ) → s < 8 → s < d.sectors → d.content s ≡ replicate 512 0

-- behind these bytes, in which so many lists are, the rest of the sectors are these lists and the end
pub record DumpGoesOn (sectors : ℕ) (image : Image) (page : ℕ) (before : List ℕ) (count : ℕ) (lists : List Changes) : Type 0 where
  pub whole : HasWholePages sectors image page
  pub follows : Follows before count lists (bytes_from image (8 * page) (sectors - 8 * page))

-- one list was read or written at a place, behind these bytes: its block is there, and the place is behind it
pub record HasList (sectors : ℕ) (image : Image) (before : List ℕ) (changes : Changes) (old new : DumpPlace) : Type 0 where
  pub block : List ℕ
  pub is : IsBlock block changes
  pub pages : ℕ
  pub there : bytes_from image (8 * old.page) (8 * pages) ≡ block
  pub long : length block ≡ 4096 * pages
  pub page : new.page ≡ old.page + pages
  pub inside : 8 * new.page ≤ sectors
  pub lists : new.lists ≡ old.lists + 1
  pub hashed : Holds256 new.hasher (before ++ block)

-- the end was read or written at a place, behind these bytes, and nothing is behind it
pub record HasEnd (sectors : ℕ) (image : Image) (before : List ℕ) (place : DumpPlace) : Type 0 where
  pub there : bytes_from image (8 * place.page) 8 ≡ ending place.lists before
  pub last : place.page + 1 ≡ sectors / 8

-- what was read behind these bytes: a list, or the end
abbrev pub IsNextPart : ℕ → Image → List ℕ → DumpPlace → Option Changes → DumpPlace → Type 0
IsNextPart sectors image before old (Some changes) new = HasList sectors image before changes old new
IsNextPart sectors image before old None new = HasEnd sectors image before old

-- what goes on behind what was read: behind a list the others, where it is the first; and nothing behind the end
abbrev pub LeavesToRead : ℕ → Image → List ℕ → List Changes → Option Changes → DumpPlace → Type 0
LeavesToRead sectors image before lists None new = lists ≡ []
LeavesToRead sectors image before lists (Some changes) new =
    (block : List ℕ) × (rest : List Changes) × (lists ≡ changes ∷ rest) × Holds256 new.hasher (before ++ block) × DumpGoesOn sectors image new.page (before ++ block) new.lists rest
