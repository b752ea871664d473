-- Places to listen at, as they are named.
use Rattle.std.specs.Prelude.{◌≡◌, ◌≢◌, ◌++◌, ℕ, List, [], ◌∷◌, map, codes}
use Rattle.std.specs.List.{AllByRecursion}
use Rattle.systems.specs.declared.place.ListenPlace.{ListenPlace}
use Rattle.systems.specs.declared.place.ListenPlace.TheVariants.{Port, Socket, PostgresFolder, Each}
use Rattle.systems.specs.declared.place.OnePlace.{OnePlace}
use Rattle.systems.specs.declared.place.OnePlace.TheVariants as one

-- a port of this machine, or a socket by the path of its file
pub data SinglePlace : Type 0 where
  APort : ℕ → SinglePlace
  ASocket : List ℕ → SinglePlace

-- one of these, or several at once
pub data ThePlace : Type 0 where
  ThePort : ℕ → ThePlace
  TheSocket : List ℕ → ThePlace
  TheEach : List SinglePlace → ThePlace

-- where PostgreSQL's clients look in a folder for the socket of a server at port 5432
abbrev pub postgres_socket : List ℕ → List ℕ
postgres_socket folder = folder ++ codes "/.s.PGSQL.5432"

abbrev pub single : OnePlace → SinglePlace
single (one.Port port) = APort port
single (one.Socket path access) = ASocket path.now
single (one.PostgresFolder folder access) = ASocket (postgres_socket folder.now)

-- one of several places, as one at which a server listens alone
abbrev pub alone : OnePlace → ListenPlace
alone (one.Port port) = Port port
alone (one.Socket path access) = Socket path
alone (one.PostgresFolder folder access) = PostgresFolder folder

abbrev pub the_place : ListenPlace → ThePlace
the_place (Port port) = ThePort port
the_place (Socket path) = TheSocket path.now
the_place (PostgresFolder folder) = TheSocket (postgres_socket folder.now)
the_place (Each places) = TheEach (map single places.now)

-- a port for a port, and of sockets and of several places those that were asked for
abbrev pub IsOfKind : ThePlace → ThePlace → Type 0
IsOfKind (ThePort asked) (ThePort port) = Unit {0}
IsOfKind (ThePort asked) _ = ⊥
IsOfKind (TheSocket asked) (TheSocket path) = path ≡ asked
IsOfKind (TheSocket asked) _ = ⊥
IsOfKind (TheEach asked) (TheEach places) = places ≡ asked
IsOfKind (TheEach asked) _ = ⊥

-- the place that was asked for; for port 0 it may be any port
abbrev pub IsBoundFor : ThePlace → ThePlace → Type 0
IsBoundFor (ThePort asked) (ThePort port) = asked ≢ 0 → port ≡ asked
IsBoundFor (ThePort asked) _ = ⊥
IsBoundFor (TheSocket asked) (TheSocket path) = path ≡ asked
IsBoundFor (TheSocket asked) _ = ⊥
IsBoundFor (TheEach asked) (TheEach places) = places ≡ asked
IsBoundFor (TheEach asked) _ = ⊥

-- ---- places that have nothing to do with each other

abbrev pub parts : ThePlace → List SinglePlace
parts (ThePort port) = APort port ∷ []
parts (TheSocket path) = ASocket path ∷ []
parts (TheEach places) = places

-- it is another place, and neither is a part of the other
abbrev pub IsPlaceApart : ThePlace → ThePlace → Type 0
IsPlaceApart one other = (one ≢ other) × AllByRecursion (λ p. AllByRecursion (λ q. p ≢ q) (parts other)) (parts one)
