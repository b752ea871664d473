-- The sizes of src/lib.rt, for definitions. Each has a name there, too.
use Rattle.std.specs.Prelude.{ℕ}

-- the bytes of a sector
abbrev pub sector_size : ℕ
sector_size = 512

-- the sectors of a page
abbrev pub sectors_per_page : ℕ
sectors_per_page = 8

-- the bytes of a page
abbrev pub page_size : ℕ
page_size = 4096

-- the most pages of a device
abbrev pub max_pages : ℕ
max_pages = 65536

-- the most bytes of a record's key
abbrev pub max_key_length : ℕ
max_key_length = 205

-- the most bytes of a record's value
abbrev pub max_value_length : ℕ
max_value_length = 1200
