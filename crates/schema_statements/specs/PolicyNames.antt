-- A name that may stand in a place.
use Rattle.std.specs.Prelude.{Bool, false, bytes_eq, Option, None, Some}
use Rattle.abstract_database.specs.Lists.{TheName}

-- whether there is one, and it is this name
abbrev pub is_this : TheName → Option TheName → Bool
is_this name None = false
is_this name (Some other) = bytes_eq other name
