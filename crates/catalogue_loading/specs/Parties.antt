-- Who granted a privilege, to whom, and on which column, in a record.
use Rattle.std.specs.Prelude.{ℕ, ◌<◌, List, ◌++◌, Option, IfSome}
use Rattle.sql_ast.specs.declared.privilege.Grantor.{Grantor}
use Rattle.sql_ast.specs.declared.privilege.Grantee.{Grantee}
use Rattle.sql_ast.specs.Read.{IsReadGrantee}
use Rattle.abstract_database.specs.Database.{grantor_name, grantee_name}
use Rattle.stored_database.specs.Items.{IsStoredGrantor}
use Rattle.stored_database.specs.RecordFormat.{ended}

-- none for the whole table, or a column of the 16 that a table may have
abbrev pub IsStoredColumn : Option ℕ → Type 0
IsStoredColumn column = IfSome column (λ index. index < 16)

-- the bytes of a grantor before more
abbrev pub grantor_bytes : Grantor → List ℕ
grantor_bytes grantor = ended (grantor_name grantor)

-- the bytes of a grantee
abbrev pub grantee_bytes : Grantee → List ℕ
grantee_bytes grantee = ended (grantee_name grantee)

-- the grantor and the grantee of a descriptor
abbrev pub parties_bytes : Grantor × Grantee → List ℕ
parties_bytes p = grantor_bytes p.0 ++ grantee_bytes p.1

-- each is a role by its name, or the system and PUBLIC
pub record AreParties (p : Grantor × Grantee) : Type 0 where
  pub grantor : IsStoredGrantor p.0
  pub grantee : IsReadGrantee p.1
