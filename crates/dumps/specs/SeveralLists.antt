-- Lists of a dump that were read or written one after the other.
use Rattle.std.specs.Prelude.{◌≡◌, ◌≤◌, ◌*◌, ◌-◌, ℕ, List, ◌++◌, length}
use Rattle.sha2.specs.Hashers.{Holds256}
use Rattle.sector_device.specs.Device.{Image}
use Rattle.store.specs.Records.{Changes}
use Rattle.dumps.specs.Form.{Follows}
use Rattle.dumps.specs.OnDevice.{DumpGoesOn, HasEnd, bytes_from}
use Rattle.dumps.specs.declared.place.DumpPlace.{DumpPlace}

-- From one place to another there are the blocks of these lists: what follows the second place, with them before it, follows the first.
pub record HasLists (sectors : ℕ) (image : Image) (before after : List ℕ) (lists : List Changes) (old new : DumpPlace) : Type 0 where
  pub later : old.page ≤ new.page
  pub inside : 8 * new.page ≤ sectors
  pub hashed : Holds256 new.hasher after
  pub long : length (bytes_from image (8 * old.page) (8 * (new.page - old.page))) ≡ 4096 * (new.page - old.page)
  pub follows : (rest : List Changes) (bytes : List ℕ) → Follows after new.lists rest bytes → Follows before old.lists (lists ++ rest) (bytes_from image (8 * old.page) (8 * (new.page - old.page)) ++ bytes)

-- from a place on there are these lists, behind these bytes, and then the end; and no others are there
pub record HasAllLists (sectors : ℕ) (image : Image) (before : List ℕ) (lists : List Changes) (place : DumpPlace) : Type 0 where
  pub after : List ℕ
  pub last : DumpPlace
  pub has : HasLists sectors image before after lists place last
  pub end : HasEnd sectors image after last
  pub only : (others : List Changes) → DumpGoesOn sectors image place.page before place.lists others → others ≡ lists
