-- The bytes of a dump: a head, the lists of changes one after the other, and an end. Each part fills whole pages of 4,096 bytes, and
-- numbers are big-endian.
use Rattle.std.specs.Prelude.{◌≡◌, ◌<◌, ◌^◌, ◌+◌, ◌-◌, ◌%◌, ℕ, List, [], ◌∷◌, ◌++◌, None, codes, length, replicate}
use Rattle.byteorder.specs.Endian.{big_bytes}
use Rattle.sha2.specs.Sha256.{sha256}
use Rattle.store.specs.Records.{Changes, entry_at}
use Rattle.journal.specs.Changes.{Spells}

-- What a dump says: the number of the last commit of its database, and lists of changes, which make its records one after the other.
pub record TheDump : Type 0 where
  pub number : ℕ
  pub lists : List Changes

-- how many zeros fill so many bytes up to whole pages
abbrev pub fill : ℕ → ℕ
fill count = (4096 - count % 4096) % 4096

-- bytes, and zeros up to whole pages
unfoldable pub in_pages : List ℕ → List ℕ
in_pages bytes = bytes ++ replicate (fill (length bytes)) 0

-- the fields of the head: what each dump begins with, the version of its form, the record format of its records, and the commit number
unfoldable pub fields : ℕ → List ℕ
fields number = codes "GUARDDB-DUMP" ++ (big_bytes 4 1 ++ (big_bytes 4 2 ++ big_bytes 8 number))

unfoldable pub head : ℕ → List ℕ
head number = in_pages (fields number)

-- the bytes of one list: a 1, the length of what spells its changes, and that itself
unfoldable pub block_of : List ℕ → List ℕ
block_of spelled = in_pages (1 ∷ (big_bytes 4 (length spelled) ++ spelled))

-- these bytes are those of one list, which says nothing of the key that marks a copy that is not whole
pub record IsBlock (bytes : List ℕ) (changes : Changes) : Type 0 where
  pub spelled : List ℕ
  pub spells : Spells spelled changes
  pub short : length spelled < 2 ^ 26
  pub unmarked : entry_at (0 ∷ []) changes ≡ None
  pub is : bytes ≡ block_of spelled

-- the end: a 0, the count of the lists, and the SHA-256 of all that comes before it
unfoldable pub ending : ℕ → List ℕ → List ℕ
ending count before = in_pages (0 ∷ (big_bytes 8 count ++ sha256 before))

-- what follows these bytes, in which so many lists are: the blocks of these lists, and the end
abbrev pub Follows : List ℕ → ℕ → List Changes → List ℕ → Type 0
Follows before count [] bytes = bytes ≡ ending count before
Follows before count (changes ∷ lists) bytes =
    (block : List ℕ) × (later : List ℕ) × IsBlock block changes × (bytes ≡ block ++ later) × Follows (before ++ block) (count + 1) lists later

-- these bytes are this dump
pub record IsDump (bytes : List ℕ) (dump : TheDump) : Type 0 where
  pub fits : dump.number < 2 ^ 64
  pub later : List ℕ
  pub is : bytes ≡ head dump.number ++ later
  pub follows : Follows (head dump.number) 0 dump.lists later
