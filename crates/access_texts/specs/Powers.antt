-- What is told of the powers of roles over the whole database.
use Rattle.std.specs.Prelude.{ℕ, List, [], ◌∷◌, map, flat_map, codes}
use Rattle.std.specs.Borrow.{Bor}
use Rattle.abstract_database.specs.Lists.{TheName}
use Rattle.stored_database.specs.Definitions.{TableDefinition}
use Rattle.table_access.specs.declared.acting.SettableRole.{SettableRole}
use Rattle.table_access.specs.declared.powers.RolePowers.{RolePowers}
use Rattle.section_texts.specs.Sections.{RowOf, SectionOf, text, flag, names, ways}
use Rattle.access_texts.specs.Cells.{way_in}

abbrev pub owned_names : List (Bor TableDefinition) → List (List ℕ)
owned_names tables = map (λ t. t.now.definition.name) tables

-- a role with its attributes and the tables that it owns
abbrev pub role_row : RolePowers → RowOf
role_row x =
    text x.role.now.name ∷ flag x.role.now.attributes.superuser ∷ flag x.role.now.attributes.login ∷ flag x.role.now.attributes.bypass_rls
    ∷ names (owned_names x.owns.items) ∷ []

abbrev pub role_section : List RolePowers → SectionOf
role_section xs = record {
  name = codes "roles";
  columns = codes "role" ∷ codes "superuser" ∷ codes "login" ∷ codes "bypassrls" ∷ codes "owns" ∷ [];
  keys = 1;
  rows = map role_row xs;
}

-- a role as another one, with the attributes of that, and by which memberships
abbrev pub becoming_row : TheName → SettableRole → RowOf
becoming_row role s =
    text role ∷ text s.role.now.name ∷ flag s.role.now.attributes.superuser ∷ flag s.role.now.attributes.bypass_rls
    ∷ ways (map way_in (map (λ m. m.now) s.memberships.items)) ∷ []

abbrev pub becoming_rows : RolePowers → List RowOf
becoming_rows x = map (becoming_row x.role.now.name) x.others.items

abbrev pub becoming_section : List RolePowers → SectionOf
becoming_section xs = record {
  name = codes "may become";
  columns = codes "role" ∷ codes "as" ∷ codes "superuser" ∷ codes "bypassrls" ∷ codes "by" ∷ [];
  keys = 2;
  rows = flat_map becoming_rows xs;
}
