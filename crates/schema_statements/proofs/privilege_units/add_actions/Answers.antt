use Rattle.std.proofs.Common.{◌≡◌, ◌+◌, ◌++◌, ◌∷◌, [], List, take, sym, ap, ◌∙◌}
use Rattle.std.proofs.lemmas.List.{take_more}
use Rattle.sql_ast.specs.declared.privilege.Privilege.{Privilege}
use Rattle.sql_ast.specs.declared.statement.NamedAction.{NamedAction}
use Rattle.abstract_database.specs.Privileges.{on_each}
use Rattle.schema_statements.specs.PrivilegeUnits.{with_each}
use Rattle.schema_statements.proofs.Once.{one_action_more}
use Rattle.schema_statements.proofs.privilege_units.add_actions.Goals as goal

pub loop-named-preserved : goal.loop-named-preserved
loop-named-preserved c =
    let actions = c.args.actions.now in
    let i = c.loop-named.named-index in
    let named : NamedAction = c.named-item.result in
    let layout = c.args.columns.now in
    let front : take (i + 1) actions ≡ take i actions ++ named ∷ [] = take_more actions i named c.loop-named-test.true ∙ ap (λ (x : NamedAction). take i actions ++ x ∷ []) (sym c.named-item.is) in
    c.in_ok-add_action.ensures
    ∙ ap (λ (l : List Privilege). with_each l (on_each layout named.columns named.action)) c.loop-named.invariant
    ∙ one_action_more layout c.args.units.now.items actions i named front
