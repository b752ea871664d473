-- Roles that are dropped, and sessions that are open for them.
use Rattle.std.specs.Prelude.{◌≡◌, ◌==◌, ◌&&◌, ℕ, Bool, true, false, not}
use Rattle.std.specs.List.{list_any}
use Rattle.abstract_database.specs.Lists.{TheName}
use Rattle.abstract_database.specs.Database.{has_role}
use Rattle.abstract_database.specs.Machine.{client_of}
use Rattle.stored_database.specs.Definitions.{database_of}
use Rattle.server.specs.declared.server.Server.{Server}

-- the definitions of the committed database stay as they are, or the server tells that they may have changed
abbrev pub KeepsDefinitions : {S X : Type 0} → Server S X → Server S X → Type 0
KeepsDefinitions old new = new.may_have_dropped ≡ false → new.catalogue ≡ old.catalogue

-- the committed database has no role of this name; a server that has stopped lacks none
abbrev pub lacks_role : {S X : Type 0} → Server S X → TheName → Bool
lacks_role server role = not server.stopped && not (has_role (database_of server.catalogue) role)

-- of this client a session is open for a role that is lacked
abbrev pub has_lost_role : {S X : Type 0} → Server S X → ℕ → Bool
has_lost_role server client = list_any (λ e. (client_of e.0 == client) && lacks_role server e.1.login) server.sessions.entries
