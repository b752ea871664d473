-- What the choice of a grantor looks at.
use Rattle.std.specs.Prelude.{false, if◌then◌else◌, List, [], ◌∷◌, Option, Some, None}
use Rattle.std.specs.Borrow.{Bor}
use Rattle.abstract_database.specs.Lists.{TheName, has_name, lesser}
use Rattle.abstract_database.specs.Database.{Database, TableOf}
use Rattle.grant_graph.specs.declared.acting.Grants.{Grants}

-- a database of these roles, memberships and descriptors
abbrev pub database_of : Grants → Database
database_of g = record { roles = g.roles.now; memberships = g.memberships.now; tables = []; descriptors = g.descriptors.now; policies = [] }

-- a table of this name and owner
abbrev pub table_of : TheName → TheName → TableOf
table_of name owner = record { name = name; owner = owner; layout = record { columns = []; key = [] }; row_security = false; forced = false }

abbrev pub lent_names : Option (Bor TheName) → List TheName
lent_names None = []
lent_names (Some name) = name.now ∷ []

-- the lesser of the best so far and a holder, if it is one of these roles
abbrev pub least_with : List TheName → Option TheName → Option TheName → Option TheName
least_with roles None best = best
least_with roles (Some name) best = if has_name name roles then Some (lesser name best) else best
