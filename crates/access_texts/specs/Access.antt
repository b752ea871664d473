-- What is told of who may do what with tables.
use Rattle.std.specs.Prelude.{List, [], ◌∷◌, ◌++◌, map, flat_map, find, bytes_eq, codes, if◌then◌else◌, Bool, Option, Some, None}
use Rattle.sql_ast.specs.declared.privilege.Action.{Action}
use Rattle.sql_ast.specs.declared.privilege.Action.TheVariants.{Select, Insert, Update, Delete}
use Rattle.sql_ast.specs.declared.role.Membership.{Membership}
use Rattle.abstract_database.specs.Lists.{TheName}
use Rattle.abstract_database.specs.Database.{TableOf}
use Rattle.stored_database.specs.Definitions.{Definitions}
use Rattle.descriptions.specs.Descriptions.{InEach}
use Rattle.table_access.specs.declared.action.ActionAccess.{ActionAccess}
use Rattle.table_access.specs.declared.action.HeldGrant.{HeldGrant}
use Rattle.table_access.specs.declared.role.RoleAccess.{RoleAccess}
use Rattle.table_access.specs.declared.acting.SettableRole.{SettableRole}
use Rattle.table_access.specs.declared.acting.SettableRoles.{SettableRoles}
use Rattle.table_access.specs.Accesses.{IsAccessTo}
use Rattle.section_texts.specs.Sections.{RowOf, SectionOf, text, flag, ways}
use Rattle.access_texts.specs.declared.each_table.AccessOfTable.{AccessOfTable}
use Rattle.access_texts.specs.Words.{action_word, column_cell, grantee_cell, grantor_cell}
use Rattle.access_texts.specs.Cells.{columns_cell, policies_cell, way_in}

-- this is what each role has of the table, in each database of the definitions
abbrev pub StandsForTable : Definitions → AccessOfTable → Type 0
StandsForTable d x = InEach d x.table.now (λ db. IsAccessTo db x.table.now.definition x.access)

-- ---- what a role may do, by itself or as another one

-- a role, as which one it acts, and by which memberships it does, none where it is itself; of the one as which it acts, what it has for an action
abbrev pub action_row : TableOf → TheName → List Membership → RoleAccess → Action → ActionAccess → RowOf
action_row t role by x a y =
    text t.name ∷ text role ∷ text x.role.now.name ∷ text (action_word a) ∷ columns_cell t y
    ∷ policies_cell x.is_guarded (map (λ p. p.now) y.policies.items) ∷ flag y.names_user ∷ ways (map way_in by) ∷ []

-- a row where it has the action
abbrev pub action_rows : TableOf → TheName → List Membership → RoleAccess → Action → ActionAccess → List RowOf
action_rows t role by x a y = if y.is_allowed then action_row t role by x a y ∷ [] else []

abbrev pub role_rows : TableOf → TheName → List Membership → RoleAccess → List RowOf
role_rows t role by x =
    action_rows t role by x Select x.select
    ++ (action_rows t role by x Insert x.insert ++ (action_rows t role by x Update x.update ++ action_rows t role by x Delete x.delete))

-- a role by itself
abbrev pub own_rows : TableOf → RoleAccess → List RowOf
own_rows t x = role_rows t x.role.now.name [] x

abbrev pub is_of_role : TheName → RoleAccess → Bool
is_of_role name x = bytes_eq x.role.now.name name

abbrev pub found_rows : TableOf → TheName → List Membership → Option RoleAccess → List RowOf
found_rows t role by None = []
found_rows t role by (Some x) = role_rows t role by x

-- a role as another one, of which this is found among what all have
abbrev pub settable_rows : TableOf → List RoleAccess → TheName → SettableRole → List RowOf
settable_rows t all role s = found_rows t role (map (λ m. m.now) s.memberships.items) (find (is_of_role s.role.now.name) all)

abbrev pub acting_rows : TableOf → List RoleAccess → SettableRoles → List RowOf
acting_rows t all y = flat_map (settable_rows t all y.role.now.name) y.others.items

-- each role by itself, and then as others
abbrev pub access_rows : AccessOfTable → List RowOf
access_rows x =
    flat_map (own_rows x.table.now.definition) x.access.roles.items
    ++ flat_map (acting_rows x.table.now.definition x.access.roles.items) x.access.acting.items

abbrev pub access_section : List AccessOfTable → SectionOf
access_section xs = record {
  name = codes "access";
  columns = codes "table" ∷ codes "role" ∷ codes "as" ∷ codes "action" ∷ codes "columns" ∷ codes "policies" ∷ codes "asks who acts" ∷ codes "by" ∷ [];
  keys = 4;
  rows = flat_map access_rows xs;
}

-- ---- by which grants

abbrev pub grant_row : TableOf → TheName → Action → HeldGrant → RowOf
grant_row t role a g =
    text t.name ∷ text role ∷ text (action_word a) ∷ column_cell t.layout.columns g.descriptor.now.column ∷ grantee_cell g.descriptor.now.grantee
    ∷ grantor_cell g.descriptor.now.grantor ∷ flag g.descriptor.now.grantable ∷ ways (map way_in (map (λ m. m.now) g.memberships.items)) ∷ []

abbrev pub action_grants : TableOf → TheName → Action → ActionAccess → List RowOf
action_grants t role a y = map (grant_row t role a) y.grants.items

abbrev pub role_grants : TableOf → RoleAccess → List RowOf
role_grants t x =
    action_grants t x.role.now.name Select x.select
    ++ (action_grants t x.role.now.name Insert x.insert ++ (action_grants t x.role.now.name Update x.update ++ action_grants t x.role.now.name Delete x.delete))

abbrev pub grant_rows : AccessOfTable → List RowOf
grant_rows x = flat_map (role_grants x.table.now.definition) x.access.roles.items

abbrev pub grant_section : List AccessOfTable → SectionOf
grant_section xs = record {
  name = codes "grants";
  columns = codes "table" ∷ codes "role" ∷ codes "action" ∷ codes "column" ∷ codes "to" ∷ codes "by" ∷ codes "grant option" ∷ codes "through" ∷ [];
  keys = 6;
  rows = flat_map grant_rows xs;
}
