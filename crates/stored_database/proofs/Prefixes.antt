-- What keys begin with.
use Rattle.std.proofs.Common.{◌≡◌, ◌<◌, ◌^◌, ℕ, true, false, nat_eq, List, [], ◌∷◌, ◌++◌, map, refl, ap, sym, ◌∙◌, subst}
use Rattle.std.proofs.lemmas.Bool.{and_parts, eqb-true, both_ways}
use Rattle.byteorder.specs.Endian.{big_bytes}
use Rattle.sql_types.specs.Row.{Row}
use Rattle.sql_ast.specs.declared.role.Role.{Role}
use Rattle.sql_ast.specs.declared.role.Membership.{Membership}
use Rattle.sql_ast.specs.declared.privilege.Descriptor.{Descriptor}
use Rattle.sql_ast.specs.declared.policy.Policy.{Policy}
use Rattle.sql_ast.specs.Layout.{Layout}
use Rattle.store.specs.Records.{Record, Records, has_prefix}
use Rattle.store.specs.Items.{Holds}
use Rattle.store.proofs.HeldItems.{own_prefix}
use Rattle.row_codec.specs.Rows.{row_prefix, row_key}
use Rattle.abstract_database.specs.Lists.{Among}
use Rattle.abstract_database.specs.Database.{TableOf, Database, action_number, grantor_name, grantee_name}
use Rattle.abstract_database.specs.Whole.{Each}
use Rattle.stored_database.specs.Definitions.{TableDefinition, Definitions, ids_of, numbered_tables}
use Rattle.stored_database.specs.RecordFormat.{ended, place_byte, role_prefix, role_record, membership_prefix, membership_record, table_prefix, table_record, descriptor_prefix, descriptor_record, policy_prefix, policy_record, row_record}
use Rattle.stored_database.specs.Items.{IsStoredTable}
use Rattle.stored_database.specs.Records.{is_orphan, Define, is_orphan_row, StandsFor}
use Rattle.stored_database.proofs.Names.{same_number}
use Rattle.stored_database.proofs.Validity.{stored_table}
use Rattle.stored_database.proofs.OneCatalogue.{one_tables}
use Rattle.stored_database.proofs.AllRecords.{none_there}

-- a key that begins with a prefix is the prefix and a rest
pub front_of : (prefix key : List ℕ) → has_prefix prefix key ≡ true → (rest : List ℕ) × (key ≡ prefix ++ rest)
front_of [] key h = (key, refl)
front_of (p ∷ ps) [] h = cc
front_of (p ∷ ps) (k ∷ ks) h =
    let parts = and_parts (nat_eq p k) (has_prefix ps ks) h in
    let later = front_of ps ks parts.1 in
    (later.0, both (sym (eqb-true p k parts.0)) later.1)
  where
    both : {a b : ℕ} {xs ys : List ℕ} → a ≡ b → xs ≡ ys → a ∷ xs ≡ b ∷ ys
    both p q = cc

pub one_kind : (key : List ℕ) (a b : ℕ) → has_prefix (a ∷ []) key ≡ true → has_prefix (b ∷ []) key ≡ true → a ≡ b
one_kind key a b p q =
    let x = front_of (a ∷ []) key p in
    let y = front_of (b ∷ []) key q in
    heads (sym x.1 ∙ y.1)
  where
    heads : {r s : List ℕ} → a ∷ r ≡ b ∷ s → a ≡ b
    heads h = cc

-- keys of one kind begin with one number
pub one_id : (kind : ℕ) (key : List ℕ) (a b : ℕ) → a < 2 ^ 32 → b < 2 ^ 32 → has_prefix (kind ∷ big_bytes 4 a) key ≡ true → has_prefix (kind ∷ big_bytes 4 b) key ≡ true → a ≡ b
one_id kind key a b small_a small_b p q =
    let x = front_of (kind ∷ big_bytes 4 a) key p in
    let y = front_of (kind ∷ big_bytes 4 b) key q in
    (same_number 4 a b x.0 y.0 small_a small_b (tails (sym x.1 ∙ y.1))).item
  where
    tails : {r s : List ℕ} → kind ∷ r ≡ kind ∷ s → r ≡ s
    tails h = cc

pub role_begins : (r : Role) → has_prefix role_prefix (role_record r).0 ≡ true
role_begins r = refl

pub membership_begins : (m : Membership) → has_prefix membership_prefix (membership_record m).0 ≡ true
membership_begins m = refl

pub table_begins : (t : TableDefinition) → has_prefix table_prefix (table_record t).0 ≡ true
table_begins t = refl

pub descriptor_begins : (id : ℕ) (d : Descriptor) → has_prefix (descriptor_prefix id) (descriptor_record id d).0 ≡ true
descriptor_begins id d = own_prefix (descriptor_prefix id) (action_number d.action ∷ place_byte d.column ∷ (ended (grantor_name d.grantor) ++ ended (grantee_name d.grantee)))

pub policy_begins : (id : ℕ) (p : Policy) → has_prefix (policy_prefix id) (policy_record id p).0 ≡ true
policy_begins id p = own_prefix (policy_prefix id) p.name

pub row_begins : (id : ℕ) (layout : Layout) (row : Row) → has_prefix (row_prefix id) (row_record id layout row).0 ≡ true
row_begins id layout row = own_prefix (row_prefix id) (row_key layout row)

-- ---- orphans

ids_numbered : (tables : List TableDefinition) → map (λ (p : ℕ × TableOf). p.0) (numbered_tables tables) ≡ ids_of tables
ids_numbered [] = refl
ids_numbered (t ∷ tables) = ap (λ (ids : List ℕ). t.id ∷ ids) (ids_numbered tables)

same_ids : (a b : List TableDefinition) → numbered_tables a ≡ numbered_tables b → ids_of a ≡ ids_of b
same_ids a b h = sym (ids_numbered a) ∙ ap (λ (ps : List (ℕ × TableOf)). map (λ (p : ℕ × TableOf). p.0) ps) h ∙ ids_numbered b

-- records of tables tell the numbers of the tables of all definitions
told_ids : (records : Records) (tables : List TableDefinition) (d : Definitions) → Each IsStoredTable tables → Holds records table_prefix table_record tables → Define records d → ids_of tables ≡ ids_of d.tables
told_ids records tables d stored held p =
    same_ids tables d.tables (one_tables records tables d.tables stored (λ t among. stored_table d p.valid t among) held p.held.tables)

pub no_definitions : (records : Records) (tables : List TableDefinition) (e : Record) → Each IsStoredTable tables → Holds records table_prefix table_record tables
    → Among e records → is_orphan (ids_of tables) e.0 ≡ true → (d : Definitions) → Define records d → ⊥
no_definitions records tables e stored held among orphan d p =
    both_ways (is_orphan (ids_of tables) e.0)
    (subst (λ (ids : List ℕ). is_orphan ids e.0 ≡ false) (sym (told_ids records tables d stored held p)) (none_there (is_orphan (ids_of d.tables)) records p.no_other e among)) orphan

pub no_database : (records : Records) (tables : List TableDefinition) (e : Record) → Each IsStoredTable tables → Holds records table_prefix table_record tables
    → Among e records → is_orphan_row (ids_of tables) e.0 ≡ true → (db : Database) → StandsFor records db → ⊥
no_database records tables e stored held among orphan db s =
    both_ways (is_orphan_row (ids_of tables) e.0)
    (subst (λ (ids : List ℕ). is_orphan_row ids e.0 ≡ false) (sym (told_ids records tables s.0 stored held s.1.defined)) (none_there (is_orphan_row (ids_of s.0.tables)) records s.1.no_other_row e among)) orphan
