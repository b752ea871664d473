-- Who may open a session.
use Rattle.std.specs.Prelude.{Bool, true, false, not, ◌&&◌, bytes_eq}
use Rattle.abstract_database.specs.Lists.{TheName}
use Rattle.abstract_database.specs.Database.{Database}
use Rattle.server.specs.Superusers.{may_become_superuser}
use Rattle.talks.specs.declared.want.Way.{Way}
use Rattle.talks.specs.declared.want.Way.TheVariants.{Anyone, Only, ByTable}
use Rattle.talks.specs.declared.want.SessionEntry.{SessionEntry}

-- a way of entry is for the role of this name; by no table of passwords anybody is admitted yet
abbrev pub is_way_of : Way → TheName → Bool
is_way_of Anyone login = true
is_way_of (Only name) login = bytes_eq name login
is_way_of (ByTable place) login = false

-- so asked for, a session may be opened over this database for the role of this name. A place that admits no superuser admits no role either from
-- which SET ROLE leads to one
abbrev pub admits : Database → SessionEntry → TheName → Bool
admits db entry login = is_way_of entry.way login && not (entry.no_superuser && may_become_superuser db login)
