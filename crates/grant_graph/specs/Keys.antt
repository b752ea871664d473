-- What descriptors have in common.
use Rattle.std.specs.Prelude.{ℕ, Bool, true, false, Option, Some, None}
use Rattle.std.specs.Borrow.{Bor}
use Rattle.std.specs.Option.{option_map}
use Rattle.sql_ast.specs.declared.privilege.Grantor.{Grantor}
use Rattle.sql_ast.specs.declared.privilege.Grantor.TheVariants as grantor
use Rattle.sql_ast.specs.declared.privilege.Grantee.{Grantee}
use Rattle.sql_ast.specs.declared.privilege.Grantee.TheVariants as grantee
use Rattle.sql_ast.specs.declared.privilege.Descriptor.{Descriptor}
use Rattle.abstract_database.specs.Lists.{TheName}
use Rattle.abstract_database.specs.Database.{action_number, grantor_name, grantee_name}

abbrev pub now_of : Bor TheName → TheName
now_of name = name.now

-- the role, if it is one
abbrev pub grantor_role : Grantor → Option TheName
grantor_role grantor.System = None
grantor_role (grantor.Role name) = Some name

abbrev pub grantee_role : Grantee → Option TheName
grantee_role grantee.Public = None
grantee_role (grantee.Role name) = Some name

-- a role, if any, a table, the number of an action, and a column or none
abbrev pub Right : Type 0
Right = Option TheName × TheName × ℕ × Option ℕ

abbrev pub LentRight : Type 0
LentRight = Option (Bor TheName) × Bor TheName × ℕ × Option ℕ

abbrev pub lent_right : LentRight → Right
lent_right r = (option_map now_of r.0, r.1.now, r.2, r.3)

-- the column of a descriptor, or none where the right on the whole table is meant
abbrev pub column_needed : Bool → Descriptor → Option ℕ
column_needed false d = d.column
column_needed true d = None

-- what a descriptor waits for, on its column or on the whole table, and what it gives where it is grantable
abbrev pub right_needed : Bool → Descriptor → Right
right_needed on_table d = (grantor_role d.grantor, d.table, action_number d.action, column_needed on_table d)

abbrev pub right_given : Descriptor → Right
right_given d = (grantee_role d.grantee, d.table, action_number d.action, d.column)

-- a descriptor, its grant option aside: its table, the number of its action, its column, and the names of its grantor and its grantee
abbrev pub Key : Type 0
Key = TheName × ℕ × Option ℕ × TheName × TheName

abbrev pub LentKey : Type 0
LentKey = Bor TheName × ℕ × Option ℕ × Bor TheName × Bor TheName

abbrev pub lent_key : LentKey → Key
lent_key k = (k.0.now, k.1, k.2, k.3.now, k.4.now)

abbrev pub key_of : Descriptor → Key
key_of d = (d.table, action_number d.action, d.column, grantor_name d.grantor, grantee_name d.grantee)
