-- What a batch is.
use Rattle.std.specs.Prelude.{ℕ, Bool, true, false, List, [], ◌∷◌, ◌++◌, Option, Some, None, drop}
use Rattle.std.specs.List.{AllByRecursion}
use Rattle.store.specs.Records.{Changes, IsOrdered, IsChangeSize}

-- the value behind so many bytes, where one is put
abbrev pub value_behind : Bool → ℕ → List ℕ → Option (List ℕ)
value_behind false at bytes = None
value_behind true at bytes = Some (drop at bytes)

-- changes of keys that rise, each of a size that a store takes
pub record IsBatch (cs : Changes) : Type 0 where
  pub ordered : IsOrdered cs
  pub sizes : AllByRecursion IsChangeSize cs

-- the changes of pieces, those of the first piece first
abbrev pub all_changes : List Changes → Changes
all_changes [] = []
all_changes (piece ∷ pieces) = piece ++ all_changes pieces
