-- The record of a new database stands for it.
use Rattle.std.proofs.Common.{[], refl, subst, inl, inr, arith}
use Rattle.sql_types.specs.Name.{IsUtf8Name}
use Rattle.store.specs.Memory.{new_records}
use Rattle.abstract_database.specs.Lists.{TheName}
use Rattle.abstract_database.specs.Database.{new_database}
use Rattle.abstract_database.specs.Whole.{Each, IsWholeRole, HasWholeDefinitions}
use Rattle.stored_database.specs.Definitions.{Definitions, database_of}
use Rattle.stored_database.specs.Records.{Define, StandsFor}

abbrev new_definitions : TheName → Definitions
new_definitions admin = record { roles = (new_database admin).roles; memberships = []; tables = [] }

one_named : (admin : TheName) → IsUtf8Name admin → Each IsWholeRole (new_database admin).roles
one_named admin named r (inl is) = subst IsWholeRole is named
one_named admin named r (inr later) = absurd later

new_whole : (admin : TheName) → IsUtf8Name admin → HasWholeDefinitions (database_of (new_definitions admin))
new_whole admin named = record {
  order = record { roles = ((λ r h. absurd h), tt); memberships = tt; tables = tt; descriptors = tt; policies = tt };
  roles = record { roles = one_named admin named; memberships = λ m h. absurd h };
  tables = record { tables = λ t h. absurd h; few = omega arith };
  descriptors = record { descriptors = λ d h. absurd h; for_tables = λ d h. absurd h; owners = λ t h. absurd h };
  policies = record { policies = λ p h. absurd h; of_tables = λ p h. absurd h };
}

new_defined : (admin : TheName) → IsUtf8Name admin → Define (new_records admin) (new_definitions admin)
new_defined admin named = record {
  held = record { roles = refl; memberships = refl; tables = refl; of_tables = λ t h. absurd h };
  no_other = refl;
  valid = record { whole = new_whole admin named; tables = λ t h. absurd h; ids = refl; conditions = λ c h. absurd h };
}

pub new_stands : (admin : TheName) → IsUtf8Name admin → StandsFor (new_records admin) (new_database admin)
new_stands admin named =
    (new_definitions admin, record { defined = new_defined admin named; rows = []; held = tt; no_other_row = refl; is = refl; whole_rows = λ t h. absurd h })
