-- What is recorded once is defined once.
use Rattle.std.proofs.Common.{◌≡◌, ℕ, List, sym, ◌∙◌, subst}
use Rattle.sql_ast.specs.declared.role.Role.{Role}
use Rattle.sql_ast.specs.declared.role.Membership.{Membership}
use Rattle.sql_ast.specs.declared.privilege.Descriptor.{Descriptor}
use Rattle.sql_ast.specs.declared.policy.Policy.{Policy}
use Rattle.store.specs.Records.{Records}
use Rattle.abstract_database.specs.Database.{TableOf}
use Rattle.abstract_database.specs.Whole.{Each}
use Rattle.stored_database.specs.Definitions.{TableDefinition, Definitions}
use Rattle.stored_database.specs.RecordFormat.{table_record}
use Rattle.stored_database.specs.Items.{IsStoredTable, HasStoredItems, AreStored}
use Rattle.stored_database.specs.Records.{HoldsTable, HoldDefinitions, Define}
use Rattle.stored_database.specs.Valid.{AreValid}
use Rattle.stored_database.proofs.Lists.{same_items}
use Rattle.stored_database.proofs.OneCatalogue.{one_descriptors, one_policies}
use Rattle.stored_database.proofs.Policies.{OneExpression}
use Rattle.stored_database.proofs.Roles.{one_roles, one_memberships}
use Rattle.stored_database.proofs.Tables.{one_table}
use Rattle.catalogue_loading.specs.Recorded.{AreRecorded}
use Rattle.catalogue_loading.proofs.DefinitionLemmas.{items_stored, definitions_held, defined_held}

-- ---- tables

-- a table with all that its records say
record IsWholeHeld (records : Records) (t : TableDefinition) : Type 0 where
  pub table : IsStoredTable t
  pub items : HasStoredItems t
  pub held : HoldsTable records t

abbrev table_from : ℕ → TableOf → List Descriptor → List Policy → TableDefinition
table_from id definition descriptors policies = record { id = id; definition = definition; descriptors = descriptors; policies = policies }

same_parts : OneExpression → (records : Records) (id : ℕ) (t : TableOf) (xs ys : List Descriptor) (ps qs : List Policy)
    → IsWholeHeld records (table_from id t xs ps) → IsWholeHeld records (table_from id t ys qs) → table_from id t xs ps ≡ table_from id t ys qs
same_parts one records id t xs ys ps qs a b =
    both
    (one_descriptors records t.name id xs ys a.items.descriptors b.items.descriptors a.held.descriptors b.held.descriptors)
    (one_policies one records t.name id ps qs a.items.policies b.items.policies a.held.policies b.held.policies)
  where
    both : {ds es : List Descriptor} {rs ss : List Policy} → ds ≡ es → rs ≡ ss → table_from id t ds rs ≡ table_from id t es ss
    both p q = cc

one_held : OneExpression → (records : Records) (a b : TableDefinition) → IsWholeHeld records a → IsWholeHeld records b → table_record a ≡ table_record b → a ≡ b
one_held one records a b p q h =
    let is = one_table a b p.table q.table h in
    let moved : table_from b.id b.definition a.descriptors a.policies ≡ a = both (sym is.0) (sym is.1) in
    sym moved ∙ same_parts one records b.id b.definition a.descriptors b.descriptors a.policies b.policies (subst (IsWholeHeld records) (sym moved) p) q
  where
    both : {i j : ℕ} {s t : TableOf} → i ≡ j → s ≡ t → table_from i s a.descriptors a.policies ≡ table_from j t a.descriptors a.policies
    both p q = cc

each_held : (records : Records) (d : Definitions) → AreStored d → HoldDefinitions records d → Each (IsWholeHeld records) d.tables
each_held records d stored held t among = record { table = stored.tables t among; items = stored.items t among; held = held.of_tables t among }

-- ---- all definitions

abbrev definitions_from : List Role → List Membership → List TableDefinition → Definitions
definitions_from roles memberships tables = record { roles = roles; memberships = memberships; tables = tables }

one_recorded : OneExpression → (records : Records) (c d : Definitions) → AreStored c → HoldDefinitions records c → AreStored d → HoldDefinitions records d → c ≡ d
one_recorded one records c d stored held also_stored also_held = all
    (one_roles records c.roles d.roles held.roles also_held.roles)
    (one_memberships records c.memberships d.memberships stored.memberships also_stored.memberships held.memberships also_held.memberships)
    (same_items (IsWholeHeld records) table_record (one_held one records) c.tables d.tables (each_held records c stored held) (each_held records d also_stored also_held) (sym held.tables ∙ also_held.tables))
  where
    all : {rs ss : List Role} {ms ns : List Membership} {ts us : List TableDefinition} → rs ≡ ss → ms ≡ ns → ts ≡ us → definitions_from rs ms ts ≡ definitions_from ss ns us
    all p q r = cc

-- where what is recorded is not valid, nothing is defined
pub none_defined : OneExpression → (records : Records) (c : Definitions) → AreRecorded records c → (AreValid c → ⊥) → (d : Definitions) → Define records d → ⊥
none_defined one records c recorded invalid d defined =
    let h = defined_held records d defined in
    invalid (subst AreValid (sym (one_recorded one records c d recorded.stored recorded.held (items_stored records d h) (definitions_held records d h))) defined.valid)
