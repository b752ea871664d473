-- The entries of a store in memory.
use Rattle.std.specs.Prelude.{[], IsSome}
use Rattle.std.specs.List.{AllByRecursion}
use Rattle.store.specs.Records.{Changes, Records, applied, lookup}
use Rattle.store.specs.InPieces.{changes_of}
use Rattle.store.specs.declared.pieces.Pieces.{Pieces}

-- the records that entries stand for: one with no value stands for none
abbrev pub records_of : Pieces → Records
records_of entries = applied (changes_of entries) []

-- each of these changes that puts a value has an entry
abbrev pub AreHeld : Changes → Changes → Type 0
AreHeld changes entries = AllByRecursion (λ c. IsSome c.1 → IsSome (lookup c.0 entries)) changes
