use Rattle.std.proofs.Common.{◌∙◌, [], unwrap_or, ap}
use Rattle.std.specs.List.{list_all}
use Rattle.sql_ast.specs.declared.statement.NamedAction.{NamedAction}
use Rattle.schema_statements.specs.PrivilegeUnits.{is_column}
use Rattle.schema_statements.proofs.Once.{all_of_lists}
use Rattle.schema_statements.proofs.privilege_units.names_columns.Goals as goal

pub returns-in-Actions : goal.returns-in-Actions
returns-in-Actions c =
    let found = is_column c.args.columns.now in
    rw c.in-Actions.is
    (c.have_columns.ensures
    ∙ ap (list_all (λ (a : NamedAction). list_all found (unwrap_or a.columns []))) c.as_slice.ensures
    ∙ all_of_lists found (λ (a : NamedAction). unwrap_or a.columns []) c.in-Actions.actions)
