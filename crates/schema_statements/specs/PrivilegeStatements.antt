-- GRANT and REVOKE of privileges as one kind of statement.
use Rattle.std.specs.Prelude.{◌≡◌, ◌⊎◌, List, Option, Ok, Err}
use Rattle.sql_types.specs.declared.tag.Tag.{Tag}
use Rattle.sql_types.specs.declared.tag.Tag.TheVariants as tag
use Rattle.sql_types.specs.declared.warning.Warning.{Warning}
use Rattle.sql_types.specs.declared.state.Refusal.{Refusal}
use Rattle.sql_types.specs.declared.state.SqlState.TheVariants.{OutOfMemory}
use Rattle.sql_ast.specs.declared.privilege.Descriptor.{Descriptor}
use Rattle.sql_ast.specs.Read.{IsReadGrant}
use Rattle.abstract_database.specs.Lists.{TheName}
use Rattle.abstract_database.specs.Database.{Database}
use Rattle.abstract_database.specs.Statements.{grant, revoke}
use Rattle.catalogue.specs.Executed.{Execution}
use Rattle.schema_statements.specs.PrivilegeDescriptors.{Around, database_in, carried_out}
use Rattle.schema_statements.specs.declared.requester.Requester.{Requester}
use Rattle.schema_statements.specs.declared.privilege_statement.PrivilegeStatement.{PrivilegeStatement}
use Rattle.schema_statements.specs.declared.privilege_statement.PrivilegeStatement.TheVariants as statement

-- the name of its table
abbrev pub table_of : PrivilegeStatement → TheName
table_of (statement.Grant s) = s.now.table
table_of (statement.Revoke s) = s.now.table

-- what its answer says that was done
abbrev pub tag_of : PrivilegeStatement → Tag
tag_of (statement.Grant s) = tag.Grant
tag_of (statement.Revoke s) = tag.Revoke

-- what it does in a database
abbrev pub run_of : PrivilegeStatement → Execution
run_of (statement.Grant s) = λ db users. grant db users s.now
run_of (statement.Revoke s) = λ db users. revoke db users s.now

-- it is as the parser reads it, where that matters
abbrev pub IsRead : PrivilegeStatement → Type 0
IsRead (statement.Grant s) = IsReadGrant s.now
IsRead (statement.Revoke s) = Unit {0}

-- ---- over the descriptors of its table

-- the database with the descriptors of the table alone, and with what is around them
abbrev pub before : (a : Requester) (s : PrivilegeStatement) → Around (table_of s) a.table.now.definition a.role.now → Database
before a s around = database_in around a.catalogue.now.roles a.catalogue.now.memberships a.table.now.descriptors

-- the statement is carried out with this warning, if any, and leaves these descriptors
abbrev pub Leaves : Requester → PrivilegeStatement → Option Warning → List Descriptor → Type 0
Leaves a s warning left =
    (around : Around (table_of s) a.table.now.definition a.role.now) → run_of s (before a s around) around.users
    ≡ Ok (carried_out (tag_of s) warning (database_in around a.catalogue.now.roles a.catalogue.now.memberships left))

-- memory was refused, or the statement is refused so
abbrev pub IsRefusedSo : Requester → PrivilegeStatement → Refusal → Type 0
IsRefusedSo a s refusal = (refusal.0 ≡ OutOfMemory)
    ⊎ ((around : Around (table_of s) a.table.now.definition a.role.now) → run_of s (before a s around) around.users ≡ Err refusal.0)
