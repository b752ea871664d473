-- Each defining statement, with what is proved of it.
use Rattle.sql_ast.specs.declared.statement.DefiningStatement.{DefiningStatement}
use Rattle.sql_ast.specs.declared.statement.DefiningStatement.TheVariants as defining
use Rattle.expressions.specs.Meaning.{UserNames}
use Rattle.abstract_database.specs.Database.{Database}
use Rattle.database_laws.proofs.Defining.{IsDefinition}
use Rattle.database_laws.proofs.RoleDefinitions.{create_role_definition, drop_role_definition, grant_role_definition, revoke_role_definition}
use Rattle.database_laws.proofs.WholeTables.{create_table_definition, drop_table_definition, alter_table_definition}
use Rattle.database_laws.proofs.WholePolicies.{create_policy_definition, drop_policy_definition}
use Rattle.database_laws.proofs.WholePrivileges.{grant_definition, revoke_definition}

pub each_definition : (db : Database) (users : UserNames) (x : DefiningStatement) → IsDefinition db users x
each_definition db users (defining.CreateRole s) = create_role_definition db users s
each_definition db users (defining.DropRole s) = drop_role_definition db users s
each_definition db users (defining.GrantRole s) = grant_role_definition db users s
each_definition db users (defining.RevokeRole s) = revoke_role_definition db users s
each_definition db users (defining.CreateTable s) = create_table_definition db users s
each_definition db users (defining.DropTable s) = drop_table_definition db users s
each_definition db users (defining.AlterTable s) = alter_table_definition db users s
each_definition db users (defining.CreatePolicy s) = create_policy_definition db users s
each_definition db users (defining.DropPolicy s) = drop_policy_definition db users s
each_definition db users (defining.Grant s) = grant_definition db users s
each_definition db users (defining.Revoke s) = revoke_definition db users s
