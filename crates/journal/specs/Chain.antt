-- The sectors of a journal: each holds a part of a record, under a tag. The records that are whole in them.
use Rattle.std.specs.Prelude.{◌≡◌, ◌≤◌, ◌<◌, ◌+◌, ◌-◌, ℕ, List, [], ◌∷◌, length, get_or}

-- a part of a record: its tag, and its bytes
pub record Part : Type 0 where
  -- the number of the root whose pages the record follows
  pub root : ℕ
  -- the number of the record, the index of the part, and how many parts the record has
  pub number : ℕ
  pub index : ℕ
  pub count : ℕ
  pub bytes : List ℕ

-- what a sector says: nothing, a part, or neither
pub data Sector : Type 0 where
  Blank : Sector
  Holds : Part → Sector
  Malformed : Sector

-- the sectors, by their places from 0 on
abbrev pub Region : Type 0
Region = ℕ → Sector

-- a record: its number, and the bytes of its parts
pub record Entry : Type 0 where
  pub number : ℕ
  pub parts : List (List ℕ)

-- the part of a record at an index
abbrev pub part_of : ℕ → Entry → ℕ → Part
part_of root e i = record { root = root; number = e.number; index = i; count = length e.parts; bytes = get_or e.parts i [] }

-- all parts of a record are there, from a place on
abbrev pub HoldsParts : Region → ℕ → ℕ → Entry → Type 0
HoldsParts region root p e = (i : ℕ) → i < length e.parts → region (p + i) ≡ Holds (part_of root e i)

-- a whole record of a root begins at a place, where so much room is left; it comes after the record of the last number
pub record IsWhole (region : Region) (root last p room : ℕ) (e : Entry) : Type 0 where
  pub rises : last < e.number
  pub some : 1 ≤ length e.parts
  pub fits : length e.parts ≤ room
  pub holds : HoldsParts region root p e

-- The records of a root from a place on, after the record of the last number: one whole record after the other, until
-- none begins.
abbrev pub Chains : Region → ℕ → ℕ → ℕ → ℕ → List Entry → Type 0
Chains region root last p room [] = (e : Entry) → IsWhole region root last p room e → ⊥
Chains region root last p room (e ∷ es) = IsWhole region root last p room e
    × Chains region root e.number (p + length e.parts) (room - length e.parts) es

-- where records end that begin at a place
abbrev pub end_of : ℕ → List Entry → ℕ
end_of p [] = p
end_of p (e ∷ es) = end_of (p + length e.parts) es
