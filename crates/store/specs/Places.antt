-- Places among changes in pieces, between which a walk over a store in memory goes.
use Rattle.std.specs.Prelude.{◌≡◌, ◌-◌, ◌≤◌, ℕ, get_or, List, [], Option, Some, slice_get}
use Rattle.store.specs.declared.pieces.Pieces.{Pieces}
use Rattle.store.specs.declared.pieces.Place.{Place}
use Rattle.store.specs.Records.{Record, Records}
use Rattle.store.specs.Pieces.{from_place, puts}

-- what is ahead of a place
abbrev pub ahead_in : Pieces → Place → Records
ahead_in entries place = puts (from_place place.piece place.at entries.list.items)

-- the change before a place
abbrev pub change_before : Pieces → Place → Option (List ℕ × Option (List ℕ))
change_before entries place = slice_get (get_or entries.list.items place.piece []) (place.at - 1)

-- a step to this place found this entry
abbrev pub IsFoundAt : Pieces → Place → Record → Type 0
IsFoundAt entries place e = (1 ≤ place.at) × (change_before entries place ≡ Some (e.0, Some e.1))
