-- A journal on a device, in sectors from a first one on.
use Rattle.std.specs.Prelude.{◌<◌, ◌≤◌, ◌≡◌, ◌⊎◌, ◌+◌, ◌++◌, ◌∷◌, [], ℕ, List, length, get_or, nat_lt, if◌then◌else◌}
use Rattle.sector_device.specs.Device.{DeviceState, Image, IsFixed, IsLeft}
use Rattle.journal.specs.Chain.{Region, Entry, Blank, Holds, part_of, end_of}
use Rattle.journal.specs.Journal.{IsJournal, NumbersUpTo, CanFollow}
use Rattle.journal.specs.Sectors.{sector_at}

-- what the sectors of an image say, so many of them, by their places from the first on
abbrev pub region_in : ℕ → ℕ → Image → Region
region_in start room image q = if nat_lt q room then sector_at room (image (start + q)) else Blank

-- an image has the journal of a root, with these records
abbrev pub HasJournal : ℕ → ℕ → ℕ → List Entry → Image → Type 0
HasJournal start room root es image = IsJournal (region_in start room image) root room es

-- A device holds the journal of a root: a stop leaves its sectors as they are, and no number in them, of whatever root, is above
-- the top.
pub record HoldsJournal (start room root top : ℕ) (es : List Entry) (d : DeviceState) : Type 0 where
  pub inside : start + room ≤ d.sectors
  pub fixed : (q : ℕ) → q < room → IsFixed d (start + q)
  pub journal : HasJournal start room root es d.content
  pub few : NumbersUpTo top (region_in start room d.content)

-- these sectors, written from this one on, are a record that may follow those of the journal
pub record CanAppend (start room root top : ℕ) (es : List Entry) (new : Entry) (first : ℕ) (sectors : List (List ℕ)) (d : DeviceState) : Type 0 where
  pub holds : HoldsJournal start room root top es d
  pub follows : CanFollow room top es new
  pub place : first ≡ start + end_of 0 es
  pub count : length sectors ≡ length new.parts
  pub spelled : (i : ℕ) → i < length sectors → sector_at room (get_or sectors i []) ≡ Holds (part_of root new i)

-- a stop leaves the records before, or these and the new one
abbrev pub HasEither : ℕ → ℕ → ℕ → List Entry → Entry → Image → Type 0
HasEither start room root es new image = HasJournal start room root es image ⊎ HasJournal start room root (es ++ new ∷ []) image

-- a record was appended: a stop leaves it and those before it, and the device holds the journal with it
pub record IsAppended (start room root : ℕ) (es : List Entry) (new : Entry) (d : DeviceState) : Type 0 where
  pub left : (image : Image) → IsLeft d image → HasJournal start room root (es ++ new ∷ []) image
  pub holds : HoldsJournal start room root new.number (es ++ new ∷ []) d
