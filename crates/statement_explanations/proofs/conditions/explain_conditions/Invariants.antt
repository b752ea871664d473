use Rattle.std.proofs.Common.{◌≡◌, map, take}
use Rattle.expressions.specs.Rows.{names_of}
use Rattle.key_ranges.specs.BoxCode.{role_names}
use Rattle.statement_explanations.specs.Explanations.{condition_told, conditions_explained}
use Rattle.statement_explanations.proofs.conditions.explain_conditions.Given as goal

abbrev pub invariant-loop-condition : goal.invariant-loop-condition
invariant-loop-condition l =
    map condition_told l.told ≡ conditions_explained l.table.id l.table.definition.layout (names_of l.users) (role_names l.users) l.index (take l.condition-index l.conditions)
