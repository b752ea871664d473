-- Who may become a superuser.
use Rattle.std.specs.Prelude.{Bool, ◌&&◌}
use Rattle.std.specs.List.{list_any}
use Rattle.abstract_database.specs.Lists.{TheName}
use Rattle.abstract_database.specs.Database.{Database, has_role}
use Rattle.abstract_database.specs.Roles.{may_set_role}

-- a role of this name, from which SET ROLE leads to a superuser: itself, or another that it may set
abbrev pub may_become_superuser : Database → TheName → Bool
may_become_superuser db login = has_role db login && list_any (λ s. s.attributes.superuser && may_set_role db login s.name) db.roles
