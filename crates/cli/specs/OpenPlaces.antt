-- What is told of places where no passwords are asked for.
use Rattle.std.specs.Prelude.{◌++◌, ℕ, Bool, true, false, List, [], ◌∷◌, Option, Some, None, codes, decimal}
use Rattle.cli.specs.declared.served_place.NamedPlace.{NamedPlace}
use Rattle.cli.specs.declared.served_place.PlaceDoor.{PlaceDoor}
use Rattle.cli.specs.declared.served_place.PlaceDoor.TheVariants.{Anyone, Only, Passwords}
use Rattle.cli.specs.declared.served_place.ServedPlace.{ServedPlace}
use Rattle.systems.specs.declared.place.ListenPlace.{ListenPlace}
use Rattle.systems.specs.declared.place.ListenPlace.TheVariants.{Port, Socket, PostgresFolder, Each}

abbrev pub port_of : ListenPlace → Option ℕ
port_of (Port port) = Some port
port_of (Socket path) = None
port_of (PostgresFolder folder) = None
port_of (Each places) = None

-- a port that lets in anyone
abbrev pub port_for_anyone : PlaceDoor → ListenPlace → Option ℕ
port_for_anyone Anyone place = port_of place
port_for_anyone (Only role) place = None
port_for_anyone (Passwords table mock) place = None

abbrev pub told_port : Bool → PlaceDoor → ListenPlace → Option ℕ
told_port true door place = port_for_anyone door place
told_port false door place = None

-- a port that lets in anyone, and of which that is told
abbrev pub open_port : ServedPlace → Option ℕ
open_port served = told_port served.tells_open served.door served.place

abbrev pub line_of : Option ℕ → List ℕ
line_of None = []
line_of (Some port) = codes "guarddb: no passwords are asked for at 127.0.0.1:" ++ (decimal port ++ codes "\n")

-- that no passwords are asked for there
abbrev pub open_line : ServedPlace → List ℕ
open_line served = line_of (open_port served)

-- a line for each, in their order
abbrev pub open_lines : List NamedPlace → List ℕ
open_lines [] = []
open_lines (p ∷ places) = open_line p.served ++ open_lines places

-- a place by itself
abbrev pub named_by_itself : ServedPlace → NamedPlace
named_by_itself served = record { served = served; no_superuser = false }

abbrev pub by_itself : ServedPlace → List NamedPlace
by_itself served = named_by_itself served ∷ []
