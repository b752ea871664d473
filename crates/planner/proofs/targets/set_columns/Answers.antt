use Rattle.std.proofs.Common.{◌∙◌, ap, map, sym, subst, rules}
use Rattle.sql_types.specs.declared.state.SqlState.TheVariants.{DuplicateColumn}
use Rattle.expressions.specs.Names.{AnswersUnlessMemory}
use Rattle.expressions.specs.Stages.{each}
use Rattle.abstract_database.specs.Checks.{found_column}
use Rattle.planner.proofs.Columns.{names_refused, each_once}
use Rattle.planner.proofs.targets.set_columns.Goals as goal

pub returns-in_err-check_names : goal.returns-in_err-check_names
returns-in_err-check_names c =
    let layout = c.args.columns.now in
    let set = map (λ a. a.column) c.args.assignments.now in
    let written = ap (map (λ n. n.now)) c.as_slice.ensures.value ∙ c.in_ok-names.ensures in
    let m = names_refused DuplicateColumn (each (found_column layout) set) (map (λ n. n.now) c.as_slice.result.now) set written c.in_err-check_names.field-0.0 c.in_err-check_names.ensures in
    search rules

pub returns : goal.returns
returns c =
    let layout = c.args.columns.now in
    let set = map (λ a. a.column) c.args.assignments.now in
    let written = ap (map (λ n. n.now)) c.as_slice.ensures.value ∙ c.in_ok-names.ensures in
    let again = ap (map (λ n. n.now)) c.as_slice-2.ensures.value ∙ c.in_ok-names.ensures in
    subst (AnswersUnlessMemory c.find_columns.result)
    (ap (each (found_column layout)) again ∙ sym (each_once DuplicateColumn (each (found_column layout) set) (map (λ n. n.now) c.as_slice.result.now) set written _ c.in_ok-check_names.ensures))
    c.find_columns.ensures
