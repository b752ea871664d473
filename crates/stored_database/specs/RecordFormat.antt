-- The bytes of each record: its key and its value, for each role, membership, table, privilege descriptor, policy and row.
-- Numbers of several bytes are spelled with the highest byte first.
use Rattle.std.specs.Prelude.{ℕ, suc, ◌+◌, Bool, true, false, List, [], ◌∷◌, ◌++◌, flat_map, length, Option, Some, None}
use Rattle.byteorder.specs.Endian.{big_bytes}
use Rattle.sql_types.specs.Row.{Row}
use Rattle.sql_ast.specs.declared.columns.Column.{Column}
use Rattle.sql_ast.specs.declared.columns.ColumnType.{ColumnType}
use Rattle.sql_ast.specs.declared.columns.ColumnType.TheVariants as type
use Rattle.sql_ast.specs.declared.role.Role.{Role}
use Rattle.sql_ast.specs.declared.role.RoleAttributes.{RoleAttributes}
use Rattle.sql_ast.specs.declared.role.Membership.{Membership}
use Rattle.sql_ast.specs.declared.privilege.Descriptor.{Descriptor}
use Rattle.sql_ast.specs.declared.policy.Policy.{Policy}
use Rattle.sql_ast.specs.declared.policy.PolicyClause.{PolicyClause}
use Rattle.sql_ast.specs.declared.policy.PolicyKind.{PolicyKind}
use Rattle.sql_ast.specs.declared.policy.PolicyKind.TheVariants as kind
use Rattle.sql_ast.specs.declared.policy.PolicyCommand.{PolicyCommand}
use Rattle.sql_ast.specs.declared.policy.PolicyCommand.TheVariants as command
use Rattle.sql_ast.specs.declared.policy.PolicyRoles.{PolicyRoles}
use Rattle.sql_ast.specs.declared.policy.PolicyRoles.TheVariants as roles
use Rattle.sql_ast.specs.Layout.{Layout}
use Rattle.store.specs.Records.{Record}
use Rattle.abstract_database.specs.Lists.{TheName}
use Rattle.abstract_database.specs.Database.{TableOf, action_number, grantor_name, grantee_name}
use Rattle.row_codec.specs.Rows.{row_prefix, row_key, row_value}
use Rattle.stored_database.specs.Definitions.{TableDefinition}

-- ---- parts

-- a name after which more follows: its bytes and a zero byte
abbrev pub ended : TheName → List ℕ
ended name = name ++ 0 ∷ []

-- a bit of a sum: n where it is set
abbrev pub flag : Bool → ℕ → ℕ
flag true n = n
flag false n = 0

-- 1 for true, 0 for false
abbrev pub bit : Bool → ℕ
bit b = flag b 1

-- ---- roles: key 1 and the name; value the sum of SUPERUSER 1, LOGIN 2, BYPASSRLS 4

abbrev pub role_prefix : List ℕ
role_prefix = 1 ∷ []

abbrev pub role_flags : RoleAttributes → ℕ
role_flags a = flag a.superuser 1 + flag a.login 2 + flag a.bypass_rls 4

abbrev pub role_record : Role → Record
role_record r = (1 ∷ r.name, role_flags r.attributes ∷ [])

-- ---- memberships: key 2, the role and the member; value whether with ADMIN OPTION

abbrev pub membership_prefix : List ℕ
membership_prefix = 2 ∷ []

abbrev pub membership_record : Membership → Record
membership_record m = (2 ∷ (ended m.role ++ ended m.member), bit m.admin ∷ [])

-- ---- tables: key 3 and the name; value the number of the table, the owner, flags (row security 1, FORCE 2), the columns and
-- the key, each after its length

abbrev pub table_prefix : List ℕ
table_prefix = 3 ∷ []

abbrev pub type_number : ColumnType → ℕ
type_number type.BigInt = 1
type_number type.Text = 2
type_number type.Boolean = 3

-- a column: its name, its type, whether it is NOT NULL
abbrev pub column_bytes : Column → List ℕ
column_bytes c = ended c.name ++ type_number c.column_type ∷ bit c.not_null ∷ []

-- the columns, and the indices of the key's columns from 0
abbrev pub layout_bytes : Layout → List ℕ
layout_bytes layout = length layout.columns ∷ (flat_map column_bytes layout.columns ++ length layout.key ∷ layout.key)

abbrev pub table_flags : TableOf → ℕ
table_flags t = flag t.row_security 1 + flag t.forced 2

abbrev pub table_record : TableDefinition → Record
table_record t = (
  3 ∷ t.definition.name,
  big_bytes 4 t.id ++ (ended t.definition.owner ++ table_flags t.definition ∷ layout_bytes t.definition.layout),
)

-- ---- privilege descriptors: key 4, the number of the table, the action, the place of a column (0 for the whole table), the grantor
-- (empty for the system) and the grantee (empty for PUBLIC); value whether with GRANT OPTION

abbrev pub place_byte : Option ℕ → ℕ
place_byte None = 0
place_byte (Some column) = suc column

abbrev pub descriptor_prefix : ℕ → List ℕ
descriptor_prefix id = 4 ∷ big_bytes 4 id

abbrev pub descriptor_record : ℕ → Descriptor → Record
descriptor_record id d =
    (descriptor_prefix id ++ action_number d.action ∷ place_byte d.column ∷ (ended (grantor_name d.grantor) ++ ended (grantee_name d.grantee)), bit d.grantable ∷ [])

-- ---- policies: key 5, the number of the table and the name; value kind, command, roles, USING and WITH CHECK

abbrev pub policy_prefix : ℕ → List ℕ
policy_prefix id = 5 ∷ big_bytes 4 id

abbrev pub kind_number : PolicyKind → ℕ
kind_number kind.Permissive = 1
kind_number kind.Restrictive = 2

abbrev pub command_number : PolicyCommand → ℕ
command_number command.All = 0
command_number (command.Only a) = action_number a

-- how many roles, and each; none for PUBLIC
abbrev pub roles_bytes : PolicyRoles → List ℕ
roles_bytes roles.Public = 0 ∷ []
roles_bytes (roles.Only names) = length names ∷ flat_map ended names

-- 0 where there is none, else 1 and the text after its length
abbrev pub clause_bytes : Option PolicyClause → List ℕ
clause_bytes None = 0 ∷ []
clause_bytes (Some c) = 1 ∷ (big_bytes 2 (length c.text) ++ c.text)

abbrev pub policy_record : ℕ → Policy → Record
policy_record id p =
    (policy_prefix id ++ p.name, kind_number p.kind ∷ command_number p.command ∷ (roles_bytes p.roles ++ (clause_bytes p.using ++ clause_bytes p.check)))

-- ---- rows: key 6, the number of the table and the key's columns; value the other columns

-- what the keys of all rows begin with
abbrev pub rows_prefix : List ℕ
rows_prefix = 6 ∷ []

abbrev pub row_record : ℕ → Layout → Row → Record
row_record id layout row = (row_prefix id ++ row_key layout row, row_value layout row)
