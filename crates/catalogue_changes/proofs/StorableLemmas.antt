-- A store takes the records of tables of a whole database.
use Rattle.std.proofs.Common.{◌≤◌, ◌<◌, ◌^◌, ℕ, List, [], ◌∷◌, Option, Some, None, refl, inl, inr, arith}
use Rattle.std.specs.Prelude.{IfSome}
use Rattle.std.specs.List.{AllByRecursion}
use Rattle.sql_ast.specs.declared.role.Role.{Role}
use Rattle.sql_ast.specs.declared.policy.Policy.{Policy}
use Rattle.sql_ast.specs.declared.policy.PolicyClause.{PolicyClause}
use Rattle.sql_ast.specs.declared.policy.PolicyRoles.{PolicyRoles}
use Rattle.sql_ast.specs.declared.policy.PolicyRoles.TheVariants as roles
use Rattle.sql_ast.specs.Rows.{max_value_length}
use Rattle.store.specs.Records.{Record, Records, IsKeySize, entries_where, has_prefix}
use Rattle.row_codec.specs.Rows.{row_prefix}
use Rattle.abstract_database.specs.Lists.{Among}
use Rattle.abstract_database.specs.Database.{Database}
use Rattle.abstract_database.specs.Sizes.{clause_size}
use Rattle.abstract_database.specs.Whole.{Each, ConcernsRoles, IsWhole}
use Rattle.stored_database.specs.Definitions.{TableDefinition, Definitions}
use Rattle.stored_database.specs.RecordFormat.{place_byte}
use Rattle.stored_database.specs.Entries.{IsRecordSize}
use Rattle.stored_database.specs.Valid.{AreValid, Describes}
use Rattle.stored_database.specs.Records.{Shows}
use Rattle.stored_database.specs.Entries.{entries_of}
use Rattle.stored_database.proofs.Validity.{whole_table, stored_table, stored_descriptors, whole_policy, stored_policies}
use Rattle.stored_database.proofs.Lengths.{table_size, descriptor_size, policy_sizes}
use Rattle.stored_database.proofs.AllSizes.{records_sized}
use Rattle.stored_database.proofs.AllRecords.{of_where}
use Rattle.stored_database.proofs.Spelled.{described_shown}
use Rattle.stored_database.proofs.Lists.{of_flat_map}
use Rattle.catalogue.specs.declared.change.SchemaChange.TheVariants as change
use Rattle.catalogue.specs.Changes.{changed}
use Rattle.catalogue_changes.specs.SchemaChanges.{row_entries, HasTable, FitsAmong}
use Rattle.catalogue_changes.specs.Entries.{IsStorableDescriptor, IsStorable, IsStorableTable, AreStorableTables}
use Rattle.catalogue_changes.specs.Reads.{HaveKeySizes}
use Rattle.catalogue_changes.specs.Sizes.{HasCountableRoles, HasShortText}
use Rattle.catalogue_changes.proofs.TableListLemmas.{put_there}
use Rattle.catalogue_changes.proofs.PutTableLemmas.{valid_after}

-- what holds of each element
pub all_of : {X : Type 0} (P : X → Type 0) (xs : List X) → Each P xs → AllByRecursion P xs
all_of P [] h = tt
all_of P (x ∷ xs) h = (h x (inl refl), all_of P xs (λ y among. h y (inr among)))

-- ---- privilege descriptors

place_fits : (c : Option ℕ) → IfSome c (λ index. index < 16) → place_byte c < 2 ^ 8
place_fits None few = omega arith
place_fits (Some index) few = omega (arith, few)

-- ---- policies

countable : (all : List Role) (r : PolicyRoles) → ConcernsRoles all r → HasCountableRoles r
countable all roles.Public h = tt
countable all (roles.Only names) h = h.few

short : (c : Option PolicyClause) → clause_size c ≤ max_value_length → IfSome c HasShortText
short None h = tt
short (Some c) h = omega (arith, h)

-- ---- tables

module _ (d : Definitions) (valid : AreValid d) where
  storable : (t : TableDefinition) → Among t d.tables → IsStorableTable t
  storable t among = record {
    table = table_size t (whole_table d valid t among).name (whole_table d valid t among).layout (stored_table d valid t among);
    descriptors = all_of (IsStorableDescriptor t.id) t.descriptors (λ e of.
        let stored = stored_descriptors d valid t among e of in
        record { place = place_fits e.column stored.column; size = descriptor_size t.definition.name t.id e stored });
    policies = all_of (IsStorable t.id) t.policies policy;
  } where
    policy : (p : Policy) → Among p t.policies → IsStorable t.id p
    policy p of =
        let whole = whole_policy d valid t among p of in
        let size = whole.size in
        record {
          counted = record {
            roles = countable d.roles p.roles whole.roles;
            using = short p.using (omega (arith, size));
            check = short p.check (omega (arith, size));
          };
          size = policy_sizes t.definition.name t.id p whole.name (stored_policies d valid t among p of);
        }

  pub valid_storable : AreStorableTables d.tables
  valid_storable = all_of IsStorableTable d.tables storable

-- a table that is put among valid definitions is storable, where the database after it is whole
pub put_storable : (t : TableDefinition) (d : Definitions) (db after : Database) → Describes d db → FitsAmong t d → HasTable t db after → IsWhole after → IsStorableTable t
put_storable t d db after s fits is whole =
    storable (changed (change.PutTable t) d) (valid_after t (entries_of d s.rows) d db after (described_shown d db s) fits is whole) t (put_there t d.tables)

-- ---- rows

sized_keys : (es : Records) → ((e : Record) → Among e es → IsRecordSize e) → HaveKeySizes es
sized_keys es h = all_of (λ (e : Record). IsKeySize e.0) es (λ e among. (h e among).0)

pub rows_sized : (records : Records) (d : Definitions) (db : Database) → Shows records d db → (tables : List TableDefinition) → HaveKeySizes (row_entries records tables)
rows_sized records d db s tables = sized_keys (row_entries records tables) (λ e among.
    let t = of_flat_map (λ (t : TableDefinition). entries_where (has_prefix (row_prefix t.id)) records) tables e among in
    records_sized records d db s e (of_where (has_prefix (row_prefix t.0.id)) records e t.2))
