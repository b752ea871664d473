-- The format of a file that a later program made.
use Rattle.std.specs.Prelude.{◌≡◌, ◌<◌, ◌==◌, ◌&&◌, ◌||◌, ℕ, List, Bool, true, false, not, Option, Some, None, drop, nat_le, if◌then◌else◌}
use Rattle.byteorder.specs.Endian.{big_number}
use Rattle.page_roots.specs.Root.{home}
use Rattle.page_roots.specs.Sector.{root_at, begins_with_magic}
use Rattle.page_roots.specs.declared.sector.RootSector.{RootSector}
use Rattle.page_roots.specs.declared.sector.RootSector.TheVariants.{Empty, Found, Malformed}

-- the format and the number that a root sector says, where a root of any format has them
abbrev pub format_said : List ℕ → ℕ
format_said bytes = big_number 4 (drop 8 bytes)

abbrev pub number_said : List ℕ → ℕ
number_said bytes = big_number 8 (drop 16 bytes)

-- the bytes begin as a root of this sector does, and say a format above the known ones
abbrev pub is_later : ℕ → List ℕ → Bool
is_later sector bytes = begins_with_magic bytes && (nat_le 4 (format_said bytes) && (home (number_said bytes) == sector))

-- a root of a known format
abbrev pub is_known : RootSector → Bool
is_known Empty = false
is_known (Found root) = true
is_known Malformed = false

-- the sector has a root, of a known format or of a later one, and not of a smaller number than this
abbrev pub has_newer : ℕ → List ℕ → ℕ → Bool
has_newer sector bytes number = (is_later sector bytes || is_known (root_at sector bytes)) && nat_le number (number_said bytes)

-- The format of the later root, where one of the two root sectors begins as one and the other has no newer root.
abbrev pub later_format : List ℕ → List ℕ → Option ℕ
later_format even odd =
    if is_later 0 even && not (has_newer 1 odd (number_said even)) then Some (format_said even)
    else (if is_later 1 odd && not (has_newer 0 even (number_said odd)) then Some (format_said odd) else None)

-- a root of a known format that the sector holds has a smaller number
abbrev pub HasNoNewer : RootSector → ℕ → Type 0
HasNoNewer Empty number = Unit {0}
HasNoNewer (Found root) number = root.number < number
HasNoNewer Malformed number = Unit {0}

-- this sector begins as a root of this format, a later one, and a known root of the other sector is older
pub record NamesLater (sector : ℕ) (bytes : List ℕ) (other : RootSector) (format : ℕ) : Type 0 where
  pub later : is_later sector bytes ≡ true
  pub said : format_said bytes ≡ format
  pub newest : HasNoNewer other (number_said bytes)
