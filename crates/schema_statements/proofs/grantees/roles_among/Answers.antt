use Rattle.std.proofs.Common.{◌∙◌, ◌+◌, fold, drop, List, sym, ap}
use Rattle.std.proofs.lemmas.List.{drop_more}
use Rattle.sql_ast.specs.declared.privilege.Grantee.{Grantee}
use Rattle.sql_ast.specs.declared.policy.PolicyRoles.TheVariants as roles
use Rattle.abstract_database.specs.Definitions.{with_grantee}
use Rattle.schema_statements.proofs.Putting.{stays_public}
use Rattle.schema_statements.proofs.grantees.roles_among.Goals as goal

pub returns-in-Public : goal.returns-in-Public
returns-in-Public c =
    let grantees = c.args.grantees.now in
    let i = c.loop-grantee.grantee-index in
    let names = roles.Only c.loop-grantee.names.items in
    sym (c.loop-grantee.invariant
    ∙ ap (λ (gs : List Grantee). fold with_grantee names gs) (drop_more grantees i c.grantee-item.result c.loop-grantee-test.true)
    ∙ ap (λ (g : Grantee). fold with_grantee (with_grantee names g) (drop (i + 1) grantees)) (sym c.grantee-item.is ∙ c.in-Public.is)
    ∙ stays_public (drop (i + 1) grantees))
