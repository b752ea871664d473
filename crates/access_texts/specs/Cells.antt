-- Cells of names and memberships.
use Rattle.std.specs.Prelude.{ℕ, Bool, List, [], ◌∷◌, map, flat_map, if◌then◌else◌, Option, Some, None}
use Rattle.std.specs.List.{slice_get}
use Rattle.sql_ast.specs.declared.columns.Column.{Column}
use Rattle.sql_ast.specs.declared.policy.Policy.{Policy}
use Rattle.sql_ast.specs.declared.policy.PolicyRoles.{PolicyRoles}
use Rattle.sql_ast.specs.declared.policy.PolicyRoles.TheVariants as roles
use Rattle.sql_ast.specs.declared.role.Membership.{Membership}
use Rattle.abstract_database.specs.Database.{TableOf}
use Rattle.table_access.specs.declared.action.ActionAccess.{ActionAccess}
use Rattle.section_texts.specs.Sections.{CellOf, names, everyone, absent}

abbrev pub name_of_found : Option Column → List (List ℕ)
name_of_found None = []
name_of_found (Some c) = c.name ∷ []

abbrev pub name_at : List Column → ℕ → List (List ℕ)
name_at columns i = name_of_found (slice_get columns i)

-- the names of the columns of these indices
abbrev pub names_at : List Column → List ℕ → List (List ℕ)
names_at columns indices = flat_map (name_at columns) indices

-- the columns on which a role has an action: nothing for the whole table
abbrev pub columns_cell : TableOf → ActionAccess → CellOf
columns_cell t x = if x.on_table then absent else names (names_at t.layout.columns x.columns.items)

abbrev pub policy_name : Policy → List ℕ
policy_name p = p.name

-- the policies under which it has it: nothing where row security does not concern the role
abbrev pub policies_cell : Bool → List Policy → CellOf
policies_cell is_guarded policies = if is_guarded then names (map policy_name policies) else absent

abbrev pub roles_cell : PolicyRoles → CellOf
roles_cell roles.Public = everyone
roles_cell (roles.Only named) = names named

-- a membership as its member and the role that it is in
abbrev pub way_in : Membership → List ℕ × List ℕ
way_in m = (m.member, m.role)
