-- A journal: the chain of its records, and no fault in any sector. What a write of a record may leave of it.
use Rattle.std.specs.Prelude.{◌≡◌, ◌≤◌, ◌<◌, ◌⊎◌, ◌+◌, ℕ, List, length}
use Rattle.journal.specs.Chain.{Part, Sector, Blank, Holds, Malformed, Region, Entry, part_of, Chains, end_of}

-- a part of a record that has room in so many sectors
pub record IsInRange (room : ℕ) (part : Part) : Type 0 where
  pub inside : part.index < part.count
  pub fits : part.count ≤ room

-- A part that may stand at a place, where the records of the root end at another: it is in range, its root is this one or
-- an earlier one, and behind the end no record of this root begins. A record that a stop cut off may begin at the end, and
-- leave other parts behind it.
pub record MayStand (root room finish q : ℕ) (part : Part) : Type 0 where
  pub in_range : IsInRange room part
  pub no_later_root : part.root ≤ root
  pub none_begins : finish < q → part.root ≡ root → 1 ≤ part.index

-- a sector without fault: it is blank, or a part that may stand there
abbrev pub IsSound : ℕ → ℕ → ℕ → ℕ → Sector → Type 0
IsSound root room finish q Blank = Unit {0}
IsSound root room finish q (Holds part) = MayStand root room finish q part
IsSound root room finish q Malformed = ⊥

-- The sectors are the journal of a root, with these records. Where a sector has a fault they are no journal.
pub record IsJournal (region : Region) (root room : ℕ) (es : List Entry) : Type 0 where
  pub chain : Chains region root 0 0 room es
  pub sound : (q : ℕ) → IsSound root room (end_of 0 es) q (region q)

-- no part, of any root, has a greater number
abbrev pub NumbersUpTo : ℕ → Region → Type 0
NumbersUpTo top region = (q : ℕ) (part : Part) → region q ≡ Holds part → part.number ≤ top

-- the greatest number of any part, or 0 where there is none
pub record IsGreatest (top : ℕ) (region : Region) : Type 0 where
  pub up_to : NumbersUpTo top region
  pub reached : (top ≡ 0) ⊎ ((q : ℕ) × (part : Part) × (region q ≡ Holds part) × (part.number ≡ top))

-- a record may be written behind these: its number is above all numbers, and there is room for its parts
pub record CanFollow (room top : ℕ) (es : List Entry) (new : Entry) : Type 0 where
  pub above : top < new.number
  pub some : 1 ≤ length new.parts
  pub fits : end_of 0 es + length new.parts ≤ room

-- a place of a record that begins at p
pub record IsPlaceOf (p : ℕ) (e : Entry) (q : ℕ) : Type 0 where
  pub index : ℕ
  pub inside : index < length e.parts
  pub place : q ≡ p + index

-- each sector says what it said, or holds its part of a record of this root that is written from p on
abbrev pub MayHoldParts : Region → ℕ → ℕ → Entry → Region → Type 0
MayHoldParts old root p e image = (q : ℕ) → (image q ≡ old q) ⊎ ((at : IsPlaceOf p e q) × (image q ≡ Holds (part_of root e at.index)))
