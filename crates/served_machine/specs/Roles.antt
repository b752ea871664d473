-- Which roles the committed database of a server has.
use Rattle.std.specs.Prelude.{◌≡◌, true, false}
use Rattle.store.specs.Store.{StoreState}
use Rattle.abstract_database.specs.Lists.{TheName}
use Rattle.abstract_database.specs.Database.{has_role}
use Rattle.abstract_database.specs.Runs.{At}
use Rattle.server.specs.declared.server.Server.{Server}
use Rattle.server.specs.Standing.{Represents}

-- wherever the server stands, its committed database has a role of this name
abbrev pub IsCommittedRole : {S X : Type 0} → (S → StoreState) → Server S X → TheName → Type 0
IsCommittedRole state server role = (w : At) → Represents state server w → has_role w.standing.machine.committed role ≡ true

-- it has none
abbrev pub IsNoCommittedRole : {S X : Type 0} → (S → StoreState) → Server S X → TheName → Type 0
IsNoCommittedRole state server role = (w : At) → Represents state server w → has_role w.standing.machine.committed role ≡ false
