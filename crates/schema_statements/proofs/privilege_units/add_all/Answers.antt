use Rattle.std.proofs.Common.{List, ap, ◌∙◌}
use Rattle.sql_ast.specs.declared.privilege.Action.TheVariants.{Insert, Update}
use Rattle.sql_ast.specs.declared.privilege.Privilege.{Privilege}
use Rattle.abstract_database.specs.Privileges.{on_each}
use Rattle.schema_statements.specs.PrivilegeUnits.{with_each}
use Rattle.schema_statements.proofs.Once.{all_on_columns}
use Rattle.schema_statements.proofs.privilege_units.add_all.Goals as goal

pub returns-else-is_none : goal.returns-else-is_none
returns-else-is_none c =
    let layout = c.args.columns.now in
    let names = c.args.names.now in
    c.in_ok-add_action-3.ensures
    ∙ ap (λ (l : List Privilege). with_each l (on_each layout names Update)) (c.in_ok-add_action-2.ensures ∙ ap (λ (l : List Privilege). with_each l (on_each layout names Insert)) c.in_ok-add_action.ensures)
    ∙ all_on_columns layout c.args.units.now.items names c.if-is_none.ensures
