-- Each record has a size that a store takes.
use Rattle.std.proofs.Common.{◌≡◌, ◌<◌, ◌≤◌, ◌+◌, ◌*◌, ℕ, suc, nat_eq, not, false, IsTrue, List, [], ◌∷◌, ◌++◌, map, flat_map, length, Option, Some, None, refl, ap, arith, length-append}
use Rattle.std.specs.List.{AllByRecursion, list_any, IsDistinct}
use Rattle.std.proofs.lemmas.Bool.{and_parts, or_parts, not-true}
use Rattle.std.proofs.lemmas.Map.Steps.{length-le_from_distinct_below}
use Rattle.std.proofs.lemmas.List.Sums.{sum_by-cons}
use Rattle.byteorder.specs.Endian.{big_bytes}
use Rattle.byteorder.specs.Numbers.{length-bytes_high_first}
use Rattle.sql_types.specs.Name.{IsUtf8Name}
use Rattle.sql_types.specs.Row.{Row}
use Rattle.sql_ast.specs.declared.columns.Column.{Column}
use Rattle.sql_ast.specs.declared.role.Role.{Role}
use Rattle.sql_ast.specs.declared.role.Membership.{Membership}
use Rattle.sql_ast.specs.declared.privilege.Grantor.{Grantor}
use Rattle.sql_ast.specs.declared.privilege.Grantor.TheVariants as grantor
use Rattle.sql_ast.specs.declared.privilege.Grantee.{Grantee}
use Rattle.sql_ast.specs.declared.privilege.Grantee.TheVariants as grantee
use Rattle.sql_ast.specs.declared.privilege.Descriptor.{Descriptor}
use Rattle.sql_ast.specs.declared.policy.Policy.{Policy}
use Rattle.sql_ast.specs.declared.policy.PolicyClause.{PolicyClause}
use Rattle.sql_ast.specs.declared.policy.PolicyRoles.{PolicyRoles}
use Rattle.sql_ast.specs.declared.policy.PolicyRoles.TheVariants as roles
use Rattle.sql_ast.specs.Read.{IsReadGrantee}
use Rattle.sql_ast.specs.Layout.{Layout, IsLayout, all_differ}
use Rattle.sql_ast.specs.Fits.{FitsTable}
use Rattle.abstract_database.specs.Lists.{TheName}
use Rattle.abstract_database.specs.Database.{action_number, grantor_name, grantee_name}
use Rattle.abstract_database.specs.Sizes.{names_size, roles_size, clause_size, policy_size}
use Rattle.abstract_database.specs.Whole.{Each}
use Rattle.row_codec.specs.Rows.{row_prefix, row_key}
use Rattle.row_codec.proofs.Lengths.{row_key_long, row_value_long}
use Rattle.row_codec.proofs.Layouts.{key_indices_within, all_at}
use Rattle.stored_database.specs.Definitions.{TableDefinition}
use Rattle.stored_database.specs.RecordFormat.{ended, bit, place_byte, type_number, column_bytes, layout_bytes, table_flags, table_record, role_record, membership_record, descriptor_prefix, descriptor_record, roles_bytes, clause_bytes, policy_prefix, policy_record, row_record}
use Rattle.stored_database.specs.Items.{IsStoredMembership, IsStoredTable, IsStoredGrantor, IsStoredDescriptor, IsStoredPolicy}
use Rattle.stored_database.specs.Entries.{IsRecordSize}
use Rattle.stored_database.proofs.Lists.{first_of_each, rest_of_each}

-- ---- parts

pub ended_long : (name : TheName) → length (ended name) ≡ length name + 1
ended_long name = length-append name (0 ∷ [])

pub prefix_long : (id : ℕ) → length (big_bytes 4 id) ≡ 4
prefix_long id = length-bytes_high_first 4 id

-- ---- roles

pub role_size : (r : Role) → IsUtf8Name r.name → IsRecordSize (role_record r)
role_size r named = let few = named.name.few_bytes in ((omega arith, omega (arith, few)), omega arith)

pub membership_size : (m : Membership) → IsStoredMembership m → IsRecordSize (membership_record m)
membership_size m h =
    let a = h.role.name.few_bytes in
    let b = h.member.name.few_bytes in
    let long = length-append (ended m.role) (ended m.member) in
    ((omega arith, omega (arith, a, b, long, ended_long m.role, ended_long m.member)), omega arith)

-- ---- tables

column_long : (c : Column) → length (column_bytes c) ≡ length c.name + 3
column_long c = let all = length-append (ended c.name) (type_number c.column_type ∷ bit c.not_null ∷ []) in omega (arith, all, ended_long c.name)

columns_long : (cs : List Column) → Each (λ (c : Column). IsUtf8Name c.name) cs → length (flat_map column_bytes cs) ≤ 66 * length cs
columns_long [] h = omega arith
columns_long (c ∷ cs) h =
    let few = (first_of_each (λ (c : Column). IsUtf8Name c.name) c cs h).name.few_bytes in
    let later = columns_long cs (rest_of_each (λ (c : Column). IsUtf8Name c.name) c cs h) in
    let all = length-append (column_bytes c) (flat_map column_bytes cs) in
    omega (arith, few, later, all, column_long c)

none_later : (k : ℕ) (ks : List ℕ) → list_any (nat_eq k) ks ≡ false → AllByRecursion (λ (y : ℕ). nat_eq k y ≡ false) ks
none_later k [] none = tt
none_later k (y ∷ ks) none = let parts = or_parts (nat_eq k y) (list_any (nat_eq k) ks) none in (parts.0, none_later k ks parts.1)

distinct_key : (key : List ℕ) → IsTrue (all_differ nat_eq key) → IsDistinct nat_eq key
unfolding IsDistinct
distinct_key [] h = tt
distinct_key (k ∷ key) h =
    let parts = and_parts (not (list_any (nat_eq k) key)) (all_differ nat_eq key) h in
    (none_later k key (not-true _ parts.0), distinct_key key parts.1)

-- a key has no more columns than the table
key_long : (layout : Layout) → IsLayout layout → length layout.key ≤ 16
key_long layout is =
    let within = key_indices_within layout.columns layout.key is.key_not_null in
    let few = is.few_columns in
    let all : length layout.key ≤ length layout.columns
    = length-le_from_distinct_below layout.key (length layout.columns) (distinct_key layout.key is.key_differs) (λ q there. all_at (λ (p : ℕ). p < length layout.columns) q layout.key there within) in
    omega (arith, all, few)

pub table_size : (t : TableDefinition) → IsUtf8Name t.definition.name → IsLayout t.definition.layout → IsStoredTable t → IsRecordSize (table_record t)
table_size t named is h =
    let few_name = named.name.few_bytes in
    let few_owner = h.owner.name.few_bytes in
    let few_columns = is.few_columns in
    let few_key = key_long t.definition.layout is in
    let columns = columns_long t.definition.layout.columns h.columns in
    let one = length-append (big_bytes 4 t.id) (ended t.definition.owner ++ table_flags t.definition ∷ layout_bytes t.definition.layout) in
    let two = length-append (ended t.definition.owner) (table_flags t.definition ∷ layout_bytes t.definition.layout) in
    let three = length-append (flat_map column_bytes t.definition.layout.columns) (length t.definition.layout.key ∷ t.definition.layout.key) in
    ((omega arith, omega (arith, few_name)), omega (arith, few_owner, few_columns, few_key, columns, one, two, three, prefix_long t.id, ended_long t.definition.owner))

-- ---- privilege descriptors

grantor_few : (g : Grantor) → IsStoredGrantor g → length (grantor_name g) ≤ 63
grantor_few grantor.System h = omega arith
grantor_few (grantor.Role name) h = h.name.few_bytes

grantee_few : (g : Grantee) → IsReadGrantee g → length (grantee_name g) ≤ 63
grantee_few grantee.Public h = omega arith
grantee_few (grantee.Role name) h = h.name.few_bytes

pub descriptor_size : (table : TheName) (id : ℕ) (d : Descriptor) → IsStoredDescriptor table d → IsRecordSize (descriptor_record id d)
descriptor_size table id d h =
    let by = grantor_few d.grantor h.grantor in
    let to = grantee_few d.grantee h.grantee in
    let one = length-append (descriptor_prefix id) (action_number d.action ∷ place_byte d.column ∷ (ended (grantor_name d.grantor) ++ ended (grantee_name d.grantee))) in
    let two = length-append (ended (grantor_name d.grantor)) (ended (grantee_name d.grantee)) in
    let long = prefix_long id in
    ((omega (arith, one), omega (arith, by, to, one, two, long, ended_long (grantor_name d.grantor), ended_long (grantee_name d.grantee))), omega arith)

-- ---- policies

names_long : (names : List TheName) → length (flat_map ended names) ≡ names_size names
names_long [] = refl
names_long (n ∷ names) = let later = names_long names in let all = length-append (ended n) (flat_map ended names) in omega (arith, later, all, ended_long n, sum_by-cons (λ (m : ℕ). m) (length n + 1) (map (λ (m : TheName). length m + 1) names))

roles_long : (p : PolicyRoles) → length (roles_bytes p) ≡ suc (roles_size p)
roles_long roles.Public = refl
roles_long (roles.Only names) = ap suc (names_long names)

clause_long : (c : Option PolicyClause) → length (clause_bytes c) ≡ clause_size c
clause_long None = refl
clause_long (Some c) = let all = length-append (big_bytes 2 (length c.text)) c.text in omega (arith, all, length-bytes_high_first 2 (length c.text))

pub policy_long : (id : ℕ) (p : Policy) → length (policy_record id p).1 ≡ policy_size p
policy_long id p =
    let one = length-append (roles_bytes p.roles) (clause_bytes p.using ++ clause_bytes p.check) in
    let two = length-append (clause_bytes p.using) (clause_bytes p.check) in
    omega (arith, one, two, roles_long p.roles, clause_long p.using, clause_long p.check)

pub policy_sizes : (table : TheName) (id : ℕ) (p : Policy) → IsUtf8Name p.name → IsStoredPolicy table p → IsRecordSize (policy_record id p)
policy_sizes table id p named h =
    let few = named.name.few_bytes in
    let one = length-append (policy_prefix id) p.name in
    let long = prefix_long id in
    let size = h.size in
    ((omega (arith, one), omega (arith, few, one, long)), omega (arith, size, policy_long id p))

-- ---- rows

pub row_size : (id : ℕ) (layout : Layout) (row : Row) → FitsTable layout row → IsRecordSize (row_record id layout row)
row_size id layout row h =
    let one = length-append (row_prefix id) (row_key layout row) in
    let long = prefix_long id in
    let key = h.limits.key in
    let others = h.limits.others in
    ((omega (arith, one), omega (arith, one, long, key, row_key_long layout row)), omega (arith, others, row_value_long layout row))
