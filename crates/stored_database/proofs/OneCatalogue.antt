-- Records define one list of definitions.
use Rattle.std.proofs.Common.{◌≡◌, ℕ, List, [], ◌∷◌, map, refl, sym, ◌∙◌, subst}
use Rattle.sql_ast.specs.declared.role.Role.{Role}
use Rattle.sql_ast.specs.declared.role.Membership.{Membership}
use Rattle.sql_ast.specs.declared.privilege.Descriptor.{Descriptor}
use Rattle.sql_ast.specs.declared.policy.Policy.{Policy}
use Rattle.store.specs.Records.{Records}
use Rattle.store.specs.Items.{Holds}
use Rattle.abstract_database.specs.Lists.{TheName}
use Rattle.abstract_database.specs.Database.{TableOf}
use Rattle.abstract_database.specs.Whole.{Each}
use Rattle.stored_database.specs.Definitions.{TableDefinition, Definitions, numbered_tables}
use Rattle.stored_database.specs.RecordFormat.{table_prefix, table_record, descriptor_prefix, descriptor_record, policy_prefix, policy_record}
use Rattle.stored_database.specs.Items.{IsStoredTable, IsStoredDescriptor, IsStoredPolicy}
use Rattle.stored_database.specs.Records.{HoldsTable, Define}
use Rattle.stored_database.proofs.Lists.{same_items, same_cons, first_of_each, rest_of_each}
use Rattle.stored_database.proofs.Roles.{one_roles, one_memberships}
use Rattle.stored_database.proofs.Tables.{one_table}
use Rattle.stored_database.proofs.Policies.{OneExpression, one_policy}
use Rattle.stored_database.proofs.Descriptors.{one_descriptor}
use Rattle.stored_database.proofs.Validity.{stored_memberships, stored_table, stored_descriptors, stored_policies}

pub one_descriptors : (records : Records) (table : TheName) (id : ℕ) (xs ys : List Descriptor) → Each (IsStoredDescriptor table) xs → Each (IsStoredDescriptor table) ys
    → Holds records (descriptor_prefix id) (descriptor_record id) xs → Holds records (descriptor_prefix id) (descriptor_record id) ys → xs ≡ ys
one_descriptors records table id xs ys a b p q = same_items (IsStoredDescriptor table) (descriptor_record id) (one_descriptor table id) xs ys a b (sym p ∙ q)

pub one_policies : OneExpression → (records : Records) (table : TheName) (id : ℕ) (xs ys : List Policy) → Each (IsStoredPolicy table) xs → Each (IsStoredPolicy table) ys
    → Holds records (policy_prefix id) (policy_record id) xs → Holds records (policy_prefix id) (policy_record id) ys → xs ≡ ys
one_policies one records table id xs ys a b p q = same_items (IsStoredPolicy table) (policy_record id) (one_policy one table id) xs ys a b (sym p ∙ q)

-- ---- tables

same_numbered : {i j : ℕ} {s t : TableOf} → i ≡ j → s ≡ t → ◌≡◌ {A = ℕ × TableOf} (i, s) (j, t)
same_numbered p q = cc

numbered : (xs ys : List TableDefinition) → Each IsStoredTable xs → Each IsStoredTable ys → map table_record xs ≡ map table_record ys → numbered_tables xs ≡ numbered_tables ys
numbered [] [] a b h = refl
numbered [] (y ∷ ys) a b h = cc
numbered (x ∷ xs) [] a b h = cc
numbered (x ∷ xs) (y ∷ ys) a b h =
    let heads : table_record x ≡ table_record y = cc in
    let tails : map table_record xs ≡ map table_record ys = cc in
    let is = one_table x y (first_of_each IsStoredTable x xs a) (first_of_each IsStoredTable y ys b) heads in
    same_cons (same_numbered is.0 is.1) (numbered xs ys (rest_of_each IsStoredTable x xs a) (rest_of_each IsStoredTable y ys b) tails)

pub one_tables : (records : Records) (xs ys : List TableDefinition) → Each IsStoredTable xs → Each IsStoredTable ys
    → Holds records table_prefix table_record xs → Holds records table_prefix table_record ys → numbered_tables xs ≡ numbered_tables ys
one_tables records xs ys a b p q = numbered xs ys a b (sym p ∙ q)

-- all that is known of a table of valid definitions
record IsHeld (records : Records) (t : TableDefinition) : Type 0 where
  pub table : IsStoredTable t
  pub descriptors : Each (IsStoredDescriptor t.definition.name) t.descriptors
  pub policies : Each (IsStoredPolicy t.definition.name) t.policies
  pub held : HoldsTable records t

held_tables : (records : Records) (d : Definitions) → Define records d → Each (IsHeld records) d.tables
held_tables records d p t among = record {
  table = stored_table d p.valid t among;
  descriptors = stored_descriptors d p.valid t among;
  policies = stored_policies d p.valid t among;
  held = p.held.of_tables t among;
}

abbrev table_from : ℕ → TableOf → List Descriptor → List Policy → TableDefinition
table_from id definition descriptors policies = record { id = id; definition = definition; descriptors = descriptors; policies = policies }

-- tables with one number and one definition have the same descriptors and policies
same_held : OneExpression → (records : Records) (id : ℕ) (t : TableOf) (xs ys : List Descriptor) (ps qs : List Policy)
    → IsHeld records (table_from id t xs ps) → IsHeld records (table_from id t ys qs) → table_from id t xs ps ≡ table_from id t ys qs
same_held one records id t xs ys ps qs a b =
    both
    (one_descriptors records t.name id xs ys a.descriptors b.descriptors a.held.descriptors b.held.descriptors)
    (one_policies one records t.name id ps qs a.policies b.policies a.held.policies b.held.policies)
  where
    both : {ds es : List Descriptor} {rs ss : List Policy} → ds ≡ es → rs ≡ ss → table_from id t ds rs ≡ table_from id t es ss
    both p q = cc

same_table : OneExpression → (records : Records) (a b : TableDefinition) → a.id ≡ b.id → a.definition ≡ b.definition → IsHeld records a → IsHeld records b → a ≡ b
same_table one records a b ids definitions p q =
    let moved : table_from b.id b.definition a.descriptors a.policies ≡ a = both (sym ids) (sym definitions) in
    sym moved ∙ same_held one records b.id b.definition a.descriptors b.descriptors a.policies b.policies (subst (IsHeld records) (sym moved) p) q
  where
    both : {i j : ℕ} {s t : TableOf} → i ≡ j → s ≡ t → table_from i s a.descriptors a.policies ≡ table_from j t a.descriptors a.policies
    both p q = cc

one_held : OneExpression → (records : Records) (a b : TableDefinition) → IsHeld records a → IsHeld records b → table_record a ≡ table_record b → a ≡ b
one_held one records a b p q h = let is = one_table a b p.table q.table h in same_table one records a b is.0 is.1 p q

-- ---- all definitions

abbrev definitions_from : List Role → List Membership → List TableDefinition → Definitions
definitions_from roles memberships tables = record { roles = roles; memberships = memberships; tables = tables }

pub one_catalogue : OneExpression → (records : Records) (d e : Definitions) → Define records d → Define records e → d ≡ e
one_catalogue one records d e p q = all
    (one_roles records d.roles e.roles p.held.roles q.held.roles)
    (one_memberships records d.memberships e.memberships (stored_memberships d p.valid) (stored_memberships e q.valid) p.held.memberships q.held.memberships)
    (same_items (IsHeld records) table_record (one_held one records) d.tables e.tables (held_tables records d p) (held_tables records e q) (sym p.held.tables ∙ q.held.tables))
  where
    all : {rs rs' : List Role} {ms ms' : List Membership} {ts ts' : List TableDefinition} → rs ≡ rs' → ms ≡ ms' → ts ≡ ts' → definitions_from rs ms ts ≡ definitions_from rs' ms' ts'
    all p q r = cc
