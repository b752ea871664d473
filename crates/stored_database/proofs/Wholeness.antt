-- What valid definitions say of a database holds of it with its rows.
use Rattle.std.proofs.Common.{◌≡◌, ◌≤◌, ℕ, suc, List, [], ◌∷◌, map, length, refl, ap, sym, ◌∙◌, subst, Less, arith}
use Rattle.std.proofs.lemmas.List.{length-map}
use Rattle.sql_types.specs.Row.{Row}
use Rattle.sql_ast.specs.declared.privilege.Descriptor.{Descriptor}
use Rattle.sql_ast.specs.declared.policy.Policy.{Policy}
use Rattle.store.specs.Records.{Records}
use Rattle.abstract_database.specs.Lists.{Among, Rising, name_cmp}
use Rattle.abstract_database.specs.Database.{TableOf, Table, Database, table_cmp}
use Rattle.abstract_database.specs.Whole.{Each, OneOf, IsWholeTable, IsDescriptorOf, HasOwnerDescriptors, IsPolicyOf, HasWholeDefinitions, IsWhole, max_tables}
use Rattle.stored_database.specs.Definitions.{TableDefinition, Definitions, table_with, tables_with, database_with, database_of}
use Rattle.stored_database.specs.Valid.{Describes}
use Rattle.stored_database.specs.Records.{HoldRows, Shows, StandsFor}
use Rattle.stored_database.proofs.Lists.{into_map, of_map}

abbrev pub said_of : List Table → List TableOf
said_of tables = map (λ (t : Table). t.definition) tables

-- a table of another list of tables of which the same is said
found_again : (xs ys : List Table) → said_of xs ≡ said_of ys → (y : Table) → Among y ys → (x : Table) × Among x xs × (x.definition ≡ y.definition)
found_again xs ys same y among =
    of_map (λ (t : Table). t.definition) xs y.definition (subst (λ (ts : List TableOf). Among y.definition ts) (sym same) (into_map (λ (t : Table). t.definition) ys y among))

each_again : (P : TableOf → Type 0) (xs ys : List Table) → said_of xs ≡ said_of ys → Each (λ (t : Table). P t.definition) xs → Each (λ (t : Table). P t.definition) ys
each_again P xs ys same h y among = let found = found_again xs ys same y among in subst P found.2 (h found.0 found.1)

one_again : (P : TableOf → Type 0) (xs ys : List Table) → said_of xs ≡ said_of ys → OneOf (λ (t : Table). P t.definition) xs → OneOf (λ (t : Table). P t.definition) ys
one_again P xs ys same h = let found = found_again ys xs (sym same) h.0 h.1 in (found.0, found.1, subst P (sym found.2) h.2)

rising_again : (xs ys : List Table) → said_of xs ≡ said_of ys → Rising table_cmp xs → Rising table_cmp ys
rising_again [] [] same h = tt
rising_again [] (y ∷ ys) same h = cc
rising_again (x ∷ xs) [] same h = cc
rising_again (x ∷ xs) (y ∷ ys) same h =
    let heads : x.definition ≡ y.definition = cc in
    let tails : said_of xs ≡ said_of ys = cc in (
      each_again (λ (t : TableOf). name_cmp y.definition.name t.name ≡ Less) xs ys tails
          (subst (λ (u : TableOf). Each (λ (t : Table). name_cmp u.name t.definition.name ≡ Less) xs) heads h.0),
      rising_again xs ys tails h.1,
    )

-- the same definitions with other rows
module _ (db : Database) (us : List Table) (same : said_of db.tables ≡ said_of us) where
  few_again : length db.tables ≤ max_tables → length us ≤ max_tables
  few_again h = subst (λ (n : ℕ). n ≤ max_tables) (sym (length-map db.tables (λ (t : Table). t.definition)) ∙ ap length same ∙ length-map us (λ (t : Table). t.definition)) h

  pub whole_again : HasWholeDefinitions db → HasWholeDefinitions (record db { tables = us })
  whole_again h = record {
    order = record {
      roles = h.order.roles;
      memberships = h.order.memberships;
      tables = rising_again db.tables us same h.order.tables;
      descriptors = h.order.descriptors;
      policies = h.order.policies;
    };
    roles = record { roles = h.roles.roles; memberships = h.roles.memberships };
    tables = record { tables = each_again (IsWholeTable db.roles) db.tables us same h.tables.tables; few = few_again h.tables.few };
    descriptors = record {
      descriptors = h.descriptors.descriptors;
      for_tables = λ (d : Descriptor) among. one_again (λ (t : TableOf). IsDescriptorOf t d) db.tables us same (h.descriptors.for_tables d among);
      owners = each_again (HasOwnerDescriptors db.descriptors) db.tables us same h.descriptors.owners;
    };
    policies = record {
      policies = h.policies.policies;
      of_tables = λ (p : Policy) among. one_again (λ (t : TableOf). IsPolicyOf t p) db.tables us same (h.policies.of_tables p among);
    };
  }

-- tables with rows are said to be what they are without
said_without_rows : (ts : List TableDefinition) (rows : List (List Row)) → length rows ≡ length ts → said_of (map (λ (t : TableDefinition). table_with t []) ts) ≡ said_of (tables_with ts rows)
said_without_rows [] [] n = refl
said_without_rows [] (r ∷ rows) n = absurd (omega (arith, n))
said_without_rows (t ∷ ts) [] n = absurd (omega (arith, n))
said_without_rows (t ∷ ts) (r ∷ rows) n = ap (λ (zs : List TableOf). t.definition ∷ zs) (said_without_rows ts rows (omega (arith, n)))

pub described_whole : (d : Definitions) (db : Database) → Describes d db → IsWhole db
described_whole d db s = record {
  definitions = subst HasWholeDefinitions (sym s.is) (whole_again (database_of d) (tables_with d.tables s.rows) (said_without_rows d.tables s.rows s.each_table) s.valid.whole);
  rows = s.whole_rows;
}

-- each table has its rows
pub as_many : (records : Records) (ts : List TableDefinition) (rows : List (List Row)) → HoldRows records ts rows → length rows ≡ length ts
as_many records [] [] h = refl
as_many records [] (r ∷ rows) h = absurd h
as_many records (t ∷ ts) [] h = absurd h
as_many records (t ∷ ts) (r ∷ rows) h = ap suc (as_many records ts rows h.1)

pub shown_described : (records : Records) (d : Definitions) (db : Database) → Shows records d db → Describes d db
shown_described records d db s = record { valid = s.defined.valid; rows = s.rows; each_table = as_many records d.tables s.rows s.held; is = s.is; whole_rows = s.whole_rows }

pub standing_whole : (records : Records) (db : Database) → StandsFor records db → IsWhole db
standing_whole records db s = described_whole s.0 db (shown_described records s.0 db s.1)

-- the definitions of a whole database are whole without its rows
pub whole_without_rows : (d : Definitions) (rows : List (List Row)) → length rows ≡ length d.tables → IsWhole (database_with d rows) → HasWholeDefinitions (database_of d)
whole_without_rows d rows many w =
    whole_again (database_with d rows) (map (λ (t : TableDefinition). table_with t []) d.tables) (sym (said_without_rows d.tables rows many)) w.definitions
