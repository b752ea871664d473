-- What is asked of a table's owner is the same in each database of the definitions.
use Rattle.std.proofs.Common.{◌≡◌, ℕ, suc, Bool, true, false, cond, List, [], ◌∷◌, map, length, find, Option, Some, Result, Ok, Err, refl, sym, ap, ◌∙◌, arith}
use Rattle.std.specs.Option.{option_map}
use Rattle.sql_types.specs.Row.{Row}
use Rattle.sql_types.specs.declared.state.SqlState.{SqlState}
use Rattle.sql_types.specs.declared.state.SqlState.TheVariants.{UndefinedTable, InsufficientPrivilege}
use Rattle.expressions.specs.Meaning.{UserNames}
use Rattle.expressions.specs.Stages.{◌>>=◌, require}
use Rattle.abstract_database.specs.Lists.{TheName, found_or}
use Rattle.abstract_database.specs.Database.{TableOf, Table, Database, is_table_named, definition_named}
use Rattle.abstract_database.specs.Roles.{acts_as_owner}
use Rattle.abstract_database.specs.Checks.{find_definition, require_owner}
use Rattle.stored_database.specs.Definitions.{TableDefinition, Definitions, table_with, tables_with, database_with, database_of}
use Rattle.stored_database.specs.Valid.{Describes}
use Rattle.catalogue.specs.Lookups.{is_definition_named}
use Rattle.schema_statements.specs.Owners.{owned}

abbrev definition_in : Option TableDefinition → Option TableOf
definition_in o = option_map (λ (t : TableDefinition). t.definition) o

-- what is said of the table of a name, with rows
with_rows : (name : TheName) (ts : List TableDefinition) (rows : List (List Row)) → length rows ≡ length ts →
    option_map (λ (t : Table). t.definition) (find (is_table_named name) (tables_with ts rows)) ≡ definition_in (find (is_definition_named name) ts)
with_rows name [] rows e = refl
with_rows name (t ∷ ts) [] e = cc
with_rows name (t ∷ ts) (r ∷ rows) e = go (is_definition_named name t) (with_rows name ts rows (one_less (length rows) (length ts) e)) where
  one_less : (m n : ℕ) → suc m ≡ suc n → m ≡ n
  one_less m n h = omega (arith, h)

  go : (b : Bool) → option_map (λ (x : Table). x.definition) (find (is_table_named name) (tables_with ts rows)) ≡ definition_in (find (is_definition_named name) ts)
      → option_map (λ (x : Table). x.definition) (cond b (Some (table_with t r)) (find (is_table_named name) (tables_with ts rows))) ≡ definition_in (cond b (Some t) (find (is_definition_named name) ts))
  go true later = refl
  go false later = later

-- and without any
without_rows : (name : TheName) (ts : List TableDefinition) →
    option_map (λ (t : Table). t.definition) (find (is_table_named name) (map (λ (t : TableDefinition). table_with t []) ts)) ≡ definition_in (find (is_definition_named name) ts)
without_rows name [] = refl
without_rows name (t ∷ ts) = go (is_definition_named name t) (without_rows name ts) where
  go : (b : Bool) → option_map (λ (x : Table). x.definition) (find (is_table_named name) (map (λ (u : TableDefinition). table_with u []) ts)) ≡ definition_in (find (is_definition_named name) ts)
      → option_map (λ (x : Table). x.definition) (cond b (Some (table_with t [])) (find (is_table_named name) (map (λ (u : TableDefinition). table_with u []) ts))) ≡ definition_in (cond b (Some t) (find (is_definition_named name) ts))
  go true later = refl
  go false later = later

pub found_alike : (d : Definitions) (db : Database) (name : TheName) → Describes d db → definition_named db name ≡ definition_in (find (is_definition_named name) d.tables)
found_alike d db name h = ap (λ (x : Database). definition_named x name) h.is ∙ with_rows name d.tables h.rows h.each_table

abbrev pub owner_found : Definitions → TheName → Option TableOf → Result (Unit {0}) SqlState
owner_found d current o = found_or UndefinedTable o >>= λ (table : TableOf). require (acts_as_owner (database_of d) current table.owner) InsufficientPrivilege

pub owned_is : (d : Definitions) (current name : TheName) (o : Option TableDefinition) → find (is_definition_named name) d.tables ≡ o → owned d current name ≡ owner_found d current (definition_in o)
owned_is d current name o is = ap (owner_found d current) (without_rows name d.tables ∙ ap definition_in is)

pub owned_alike : (d : Definitions) (db : Database) (users : UserNames) (current name : TheName) → Describes d db → users.current ≡ current →
    (find_definition db name >>= λ (table : TableOf). require_owner db users table) ≡ owned d current name
owned_alike d db users current name h by =
    ap (λ (x : Database). found_or UndefinedTable (definition_named db name) >>= λ (table : TableOf). require (acts_as_owner x users.current table.owner) InsufficientPrivilege) h.is
    ∙ ap (λ (n : TheName). found_or UndefinedTable (definition_named db name) >>= λ (table : TableOf). require (acts_as_owner (database_with d h.rows) n table.owner) InsufficientPrivilege) by
    ∙ ap (owner_found d current) (found_alike d db name h ∙ sym (without_rows name d.tables))

-- what is found of the owner
module _ (d : Definitions) (current : TheName) (t : TableDefinition) (owner : TheName) (b : Bool) (is_owner : owner ≡ t.definition.owner) (is : b ≡ acts_as_owner (database_of d) current owner) where
  by_owner : owner_found d current (Some t.definition) ≡ require b InsufficientPrivilege
  by_owner = ap (λ n. require (acts_as_owner (database_of d) current n) InsufficientPrivilege) (sym is_owner) ∙ ap (λ x. require x InsufficientPrivilege) (sym is)

  pub owner_may : b ≡ true → owner_found d current (Some t.definition) ≡ Ok tt
  owner_may e = by_owner ∙ ap (λ x. require x InsufficientPrivilege) e

  pub owner_may_not : b ≡ false → owner_found d current (Some t.definition) ≡ Err InsufficientPrivilege
  owner_may_not e = by_owner ∙ ap (λ x. require x InsufficientPrivilege) e
