-- The rights of a role on a table and its columns, and the needs that they meet.
use Rattle.std.specs.Prelude.{◌≡◌, ℕ, ◌+◌, ◌<◌, nat_eq, nat_lt, ◌||◌, ◌&&◌, Bool, true, List, [], ◌∷◌, ◌++◌, Option, None, Some, option_to_list}
use Rattle.std.specs.List.{list_any, range_with_len}
use Rattle.sql_ast.specs.declared.privilege.Action.{Action}
use Rattle.sql_ast.specs.declared.privilege.Action.TheVariants as action
use Rattle.sql_ast.specs.declared.privilege.Descriptor.{Descriptor}
use Rattle.sql_ast.specs.declared.privilege.Grantee.{Grantee}
use Rattle.sql_ast.specs.declared.privilege.Grantee.TheVariants as grantee
use Rattle.sql_ast.specs.declared.scope.ColumnIndex.{ColumnIndex}
use Rattle.sql_ast.specs.Term.{Term}
use Rattle.abstract_database.specs.Lists.{TheName, has_name}
use Rattle.abstract_database.specs.Database.{TableOf, same_action}
use Rattle.abstract_database.specs.Needs.{Need, privilege, some_column, on_columns, on_columns_or_one, columns_read}
use Rattle.abstract_database.specs.Privileges.{on_table}
use Rattle.abstract_database.specs.Roles.{is_superuser, is_in}
use Rattle.stored_database.specs.Definitions.{TableDefinition, Definitions, database_of}
use Rattle.catalogue.specs.Grants.{bit_of, has_bit, gives_bit}
use Rattle.planner.specs.declared.rights.Rights.{Rights}

-- these are the roles that the role is in
abbrev pub AreItsRoles : Definitions → TheName → List TheName → Type 0
AreItsRoles d role roles = (s : TheName) → has_name s roles ≡ is_in d.memberships role s

-- these are the rights of the role
pub record AreRightsOf (d : Definitions) (role : TheName) (r : Rights) : Type 0 where
  pub superuser : r.is_superuser ≡ is_superuser (database_of d) role
  pub roles : AreItsRoles d role r.roles

-- whether the grantee is PUBLIC or one of these roles
abbrev pub is_one : List TheName → Grantee → Bool
is_one roles grantee.Public = true
is_one roles (grantee.Role name) = has_name name roles

-- ---- the table and its columns as bits: bit 0 is the table's, bit i + 1 that of the column of index i

-- whether the descriptor gives one with these rights the action on what has the bit
abbrev pub gives : Rights → Action → ℕ → Descriptor → Bool
gives r a n e = same_action e.action a && nat_eq (bit_of e.column) n && is_one r.roles e.grantee

-- whether one with these rights has the action on what has the bit
abbrev pub has : Rights → Action → TableDefinition → ℕ → Bool
has r a t n = r.is_superuser || list_any (gives r a n) t.descriptors

-- the mask says what the descriptors give one of these roles for the action
abbrev pub IsGivenToAny : List Descriptor → Action → List TheName → ℕ → Type 0
IsGivenToAny ds a roles mask = (n : ℕ) → n < 32 → has_bit mask n ≡ list_any (λ role. list_any (gives_bit a role n) ds) roles

-- the mask says what one with these rights has
abbrev pub IsHeld : Rights → Action → TableDefinition → ℕ → Type 0
IsHeld r a t mask = (n : ℕ) → n < 32 → has_bit mask n ≡ has r a t n

-- what is had by the bits: a column, with the whole table or alone; a table, or at least one of its columns
abbrev pub covers : (ℕ → Bool) → ℕ → Bool
covers bit column = bit 0 || (nat_lt column 31 && bit (column + 1))

abbrev pub covers_some : (ℕ → Bool) → Bool
covers_some bit = list_any bit (range_with_len 0 32)

abbrev pub covers_whole_or : (ℕ → Bool) → Option ℕ → Bool
covers_whole_or bit None = bit 0
covers_whole_or bit (Some column) = covers bit column

-- ---- needs

-- whether one with these rights has what is needed of this table
abbrev pub meets : Rights → TableDefinition → Need → Bool
meets r t (privilege name p) = covers_whole_or (has r p.action t) p.column
meets r t (some_column name a) = covers_some (has r a t)

-- what is needed to write rows of a table: the action on these columns, or on one at least where there are none; DELETE on the whole table
abbrev pub needs_of_write : Action → TheName → List ℕ → List Need
needs_of_write action.Delete name columns = privilege name (on_table action.Delete) ∷ []
needs_of_write a name columns = on_columns_or_one name a columns

-- and SELECT on the columns that new values and WHERE read
abbrev pub needs_of_change : Action → TableOf → List ℕ → List (Term ColumnIndex) → Option (Term ColumnIndex) → List Need
needs_of_change a table columns values condition =
    needs_of_write a table.name columns ++ on_columns table.name action.Select (columns_read 0 (values ++ option_to_list condition))
