use Rattle.std.proofs.Common.{◌≡◌, ◌+◌, ◌++◌, ◌∷◌, [], List, map, option_to_list, position, take, sym, ap, ◌∙◌}
use Rattle.std.proofs.lemmas.List.{take_more}
use Rattle.sql_ast.specs.declared.privilege.Privilege.{Privilege}
use Rattle.abstract_database.specs.Lists.{TheName}
use Rattle.abstract_database.specs.Privileges.{is_column_named, on_column}
use Rattle.schema_statements.specs.PrivilegeUnits.{with_each}
use Rattle.schema_statements.proofs.Once.{one_name_more}
use Rattle.schema_statements.proofs.privilege_units.add_on_each.Goals as goal

pub loop-name-preserved : goal.loop-name-preserved
loop-name-preserved c =
    let names = c.args.names.now in
    let i = c.loop-name.name-index in
    let name : TheName = c.name-item.result in
    let layout = c.args.columns.now in
    let front : take (i + 1) names ≡ take i names ++ name ∷ [] = take_more names i name c.loop-name-test.true ∙ ap (λ (x : TheName). take i names ++ x ∷ []) (sym c.name-item.is) in
    c.in_ok-add_on.ensures
    ∙ ap (λ (l : List Privilege). with_each l (map (on_column c.args.action) (option_to_list (position (is_column_named name) layout.columns)))) c.loop-name.invariant
    ∙ one_name_more layout c.args.units.now.items c.args.action names i name front
