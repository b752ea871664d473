-- Records by the byte: what tables of bytes in documents say.
use Rattle.std.specs.Prelude.{true, false, [], ◌∷◌, ◌++◌, Some, None, codes, pos, negsuc}
use Rattle.sql_types.specs.Row.{Row}
use Rattle.sql_types.specs.declared.value.Value.TheVariants.{Null, Int, Text, Bool as Boolean}
use Rattle.sql_ast.specs.declared.columns.ColumnType.TheVariants as type
use Rattle.sql_ast.specs.declared.role.Role.{Role}
use Rattle.sql_ast.specs.declared.role.Membership.{Membership}
use Rattle.sql_ast.specs.declared.privilege.Action.TheVariants as action
use Rattle.sql_ast.specs.declared.privilege.Grantor.TheVariants as grantor
use Rattle.sql_ast.specs.declared.privilege.Grantee.TheVariants as grantee
use Rattle.sql_ast.specs.declared.privilege.Descriptor.{Descriptor}
use Rattle.sql_ast.specs.declared.policy.Policy.{Policy}
use Rattle.sql_ast.specs.declared.policy.PolicyKind.TheVariants as kind
use Rattle.sql_ast.specs.declared.policy.PolicyCommand.TheVariants as command
use Rattle.sql_ast.specs.declared.policy.PolicyRoles.TheVariants as roles
use Rattle.sql_ast.specs.Layout.{Layout}
use Rattle.sql_ast.specs.Term.{literal}
use Rattle.store.specs.Records.{Record}
use Rattle.stored_database.specs.Definitions.{TableDefinition}

-- ---- roles

-- CREATE ROLE root SUPERUSER LOGIN
abbrev pub root : Role
root = record { name = codes "root"; attributes = record { superuser = true; login = true; bypass_rls = false } }

abbrev pub root_bytes : Record
root_bytes = (1 ∷ codes "root", 3 ∷ [])

-- CREATE ROLE eve LOGIN BYPASSRLS
abbrev pub eve : Role
eve = record { name = codes "eve"; attributes = record { superuser = false; login = true; bypass_rls = true } }

abbrev pub eve_bytes : Record
eve_bytes = (1 ∷ codes "eve", 6 ∷ [])

-- GRANT staff TO bob WITH ADMIN OPTION
abbrev pub staff_to_bob : Membership
staff_to_bob = record { role = codes "staff"; member = codes "bob"; admin = true }

abbrev pub staff_to_bob_bytes : Record
staff_to_bob_bytes = (2 ∷ codes "staff" ++ 0 ∷ codes "bob" ++ 0 ∷ [], 1 ∷ [])

-- ---- the table t of ann with row security: k BIGINT PRIMARY KEY, x BIGINT, s BOOLEAN, o TEXT

abbrev pub t_layout : Layout
t_layout = record {
  columns =
      record { name = codes "k"; column_type = type.BigInt; not_null = true }
      ∷ record { name = codes "x"; column_type = type.BigInt; not_null = false }
      ∷ record { name = codes "s"; column_type = type.Boolean; not_null = false }
      ∷ record { name = codes "o"; column_type = type.Text; not_null = false }
      ∷ [];
  key = 0 ∷ [];
}

abbrev pub t : TableDefinition
t = record {
  id = 1;
  definition = record { name = codes "t"; owner = codes "ann"; layout = t_layout; row_security = true; forced = false };
  descriptors = [];
  policies = [];
}

abbrev pub t_bytes : Record
t_bytes = (
  3 ∷ codes "t",
  0 ∷ 0 ∷ 0 ∷ 1 ∷ codes "ann" ++ 0 ∷ 1 ∷ 4 ∷ 107 ∷ 0 ∷ 1 ∷ 1 ∷ 120 ∷ 0 ∷ 1 ∷ 0 ∷ 115 ∷ 0 ∷ 3 ∷ 0 ∷ 111 ∷ 0 ∷ 2 ∷ 0 ∷ 1 ∷ 0 ∷ [],
)

-- what the system grants ann: SELECT WITH GRANT OPTION
abbrev pub select_to_ann : Descriptor
select_to_ann = record { grantor = grantor.System; grantee = grantee.Role (codes "ann"); table = codes "t"; action = action.Select; column = None; grantable = true }

abbrev pub select_to_ann_bytes : Record
select_to_ann_bytes = (4 ∷ 0 ∷ 0 ∷ 0 ∷ 1 ∷ 1 ∷ 0 ∷ 0 ∷ codes "ann" ++ 0 ∷ [], 1 ∷ [])

-- the same as record format 1 has it
abbrev pub select_to_ann_first_bytes : Record
select_to_ann_first_bytes = (4 ∷ 0 ∷ 0 ∷ 0 ∷ 1 ∷ 1 ∷ 0 ∷ codes "ann" ++ 0 ∷ [], 1 ∷ [])

-- what bob grants PUBLIC: UPDATE
abbrev pub update_to_public : Descriptor
update_to_public = record { grantor = grantor.Role (codes "bob"); grantee = grantee.Public; table = codes "t"; action = action.Update; column = None; grantable = false }

abbrev pub update_to_public_bytes : Record
update_to_public_bytes = (4 ∷ 0 ∷ 0 ∷ 0 ∷ 1 ∷ 3 ∷ 0 ∷ codes "bob" ++ 0 ∷ 0 ∷ [], 0 ∷ [])

-- what ann grants bob: SELECT on the first column, and INSERT on the fourth
abbrev pub select_first_to_bob : Descriptor
select_first_to_bob = record { grantor = grantor.Role (codes "ann"); grantee = grantee.Role (codes "bob"); table = codes "t"; action = action.Select; column = Some 0; grantable = false }

abbrev pub select_first_to_bob_bytes : Record
select_first_to_bob_bytes = (4 ∷ 0 ∷ 0 ∷ 0 ∷ 1 ∷ 1 ∷ 1 ∷ codes "ann" ++ 0 ∷ codes "bob" ++ 0 ∷ [], 0 ∷ [])

abbrev pub insert_fourth_to_bob : Descriptor
insert_fourth_to_bob = record { grantor = grantor.Role (codes "ann"); grantee = grantee.Role (codes "bob"); table = codes "t"; action = action.Insert; column = Some 3; grantable = false }

abbrev pub insert_fourth_to_bob_bytes : Record
insert_fourth_to_bob_bytes = (4 ∷ 0 ∷ 0 ∷ 0 ∷ 1 ∷ 2 ∷ 4 ∷ codes "ann" ++ 0 ∷ codes "bob" ++ 0 ∷ [], 0 ∷ [])

-- CREATE POLICY p ON t AS RESTRICTIVE FOR SELECT TO bob USING (true)
abbrev pub p : Policy
p = record {
  table = codes "t";
  name = codes "p";
  kind = kind.Restrictive;
  command = command.Only action.Select;
  roles = roles.Only (codes "bob" ∷ []);
  using = Some (record { text = codes "true"; expression = literal (Boolean true) });
  check = None;
}

abbrev pub p_bytes : Record
p_bytes = (5 ∷ 0 ∷ 0 ∷ 0 ∷ 1 ∷ codes "p", 2 ∷ 1 ∷ 1 ∷ codes "bob" ++ 0 ∷ 1 ∷ 0 ∷ 4 ∷ codes "true" ++ 0 ∷ [])

-- INSERT INTO t VALUES (-1, 5, NULL, 'ab')
abbrev pub row : Row
row = Int (negsuc 0) ∷ Int (pos 5) ∷ Null ∷ Text (codes "ab") ∷ []

abbrev pub row_bytes : Record
row_bytes = (
  6 ∷ 0 ∷ 0 ∷ 0 ∷ 1 ∷ 127 ∷ 255 ∷ 255 ∷ 255 ∷ 255 ∷ 255 ∷ 255 ∷ 255 ∷ [],
  1 ∷ 0 ∷ 0 ∷ 0 ∷ 0 ∷ 0 ∷ 0 ∷ 0 ∷ 5 ∷ 0 ∷ 2 ∷ 0 ∷ 2 ∷ codes "ab",
)

-- ---- the numbers that these leave out

-- a table f of ann with FORCE alone: k BIGINT PRIMARY KEY
abbrev pub f : TableDefinition
f = record {
  id = 258;
  definition = record {
    name = codes "f";
    owner = codes "ann";
    layout = record { columns = record { name = codes "k"; column_type = type.BigInt; not_null = true } ∷ []; key = 0 ∷ [] };
    row_security = false;
    forced = true;
  };
  descriptors = [];
  policies = [];
}

abbrev pub f_bytes : Record
f_bytes = (3 ∷ codes "f", 0 ∷ 0 ∷ 1 ∷ 2 ∷ codes "ann" ++ 0 ∷ 2 ∷ 1 ∷ 107 ∷ 0 ∷ 1 ∷ 1 ∷ 1 ∷ 0 ∷ [])

-- what ann grants PUBLIC: DELETE
abbrev pub delete_to_public : Descriptor
delete_to_public = record { grantor = grantor.Role (codes "ann"); grantee = grantee.Public; table = codes "t"; action = action.Delete; column = None; grantable = false }

abbrev pub delete_to_public_bytes : Record
delete_to_public_bytes = (4 ∷ 0 ∷ 0 ∷ 0 ∷ 1 ∷ 4 ∷ 0 ∷ codes "ann" ++ 0 ∷ 0 ∷ [], 0 ∷ [])

-- CREATE POLICY q ON t USING (true) WITH CHECK (false)
abbrev pub q : Policy
q = record {
  table = codes "t";
  name = codes "q";
  kind = kind.Permissive;
  command = command.All;
  roles = roles.Public;
  using = Some (record { text = codes "true"; expression = literal (Boolean true) });
  check = Some (record { text = codes "false"; expression = literal (Boolean false) });
}

abbrev pub q_bytes : Record
q_bytes = (5 ∷ 0 ∷ 0 ∷ 0 ∷ 1 ∷ codes "q", 1 ∷ 0 ∷ 0 ∷ 1 ∷ 0 ∷ 4 ∷ codes "true" ++ 1 ∷ 0 ∷ 5 ∷ codes "false")
