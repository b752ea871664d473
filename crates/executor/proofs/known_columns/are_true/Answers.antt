use Rattle.std.proofs.Common.{rules, ◌≡◌, ◌∙◌, true, List, map, Ok, ap, sym}
use Rattle.std.specs.List.{list_any}
use Rattle.sql_types.specs.declared.value.Truth.TheVariants as truth
use Rattle.expressions.specs.Rows.{names_of, value_on}
use Rattle.expressions.specs.Types.{TypedTerm}
use Rattle.guards.specs.Truths.{and_all}
use Rattle.gathering.specs.Reads.{names}
use Rattle.executor.specs.declared.known_columns.Unknown.{Unknown}
use Rattle.executor.specs.Known.{formulas_name, is_unknown, known_cell}
use Rattle.executor.proofs.Known.{true_of_known}
use Rattle.executor.proofs.known_columns.are_true.Goals as goal

pub returns-in-Ok-true : goal.returns-in-Ok-true
returns-in-Ok-true c = λ met.
    let users = names_of c.args.users.now in
    let unknown : Unknown = record { known = c.args.known } in
    let seen_is : c.sees.result ≡ Ok true = search rules in
    true_of_known c.args.table.now users c.args.conditions.now unknown
    (ap (formulas_name (is_unknown unknown)) (sym c.as_slice.ensures) ∙ sym c.formulas_name.ensures ∙ c.if-formulas_name.false)
    (sym c.any_names.ensures ∙ c.if-any_names.false)
    (sym c.sees.ensures ∙ seen_is)
    (c.are_met.ensures met)
