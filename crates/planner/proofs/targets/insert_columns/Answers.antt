use Rattle.std.proofs.Common.{◌∙◌, [], true, false, inr, ap, map, sym, subst, unwrap_or, rules}
use Rattle.std.specs.List.{list_all}
use Rattle.sql_types.specs.declared.state.SqlState.TheVariants.{DuplicateColumn}
use Rattle.expressions.specs.Names.{AnswersUnlessMemory}
use Rattle.abstract_database.specs.Checks.{counts_fit}
use Rattle.planner.proofs.Columns.{names_refused, each_once, counted, columns_counted}
use Rattle.planner.proofs.targets.insert_columns.Goals as goal

pub returns-in_err-check_names : goal.returns-in_err-check_names
returns-in_err-check_names c =
    let layout = c.args.columns.now in
    let s = c.args.statement.now in
    let written = ap (map (λ n. n.now)) c.as_slice.ensures.value ∙ c.in_ok-names.ensures in
    let m = names_refused DuplicateColumn (counted layout s (list_all (counts_fit layout s.columns) s.rows)) (map (λ n. n.now) c.as_slice.result.now) (unwrap_or s.columns []) written c.in_err-check_names.field-0.0 c.in_err-check_names.ensures in
    search rules

pub returns-then-not-counts_fit : goal.returns-then-not-counts_fit
returns-then-not-counts_fit c =
    let layout = c.args.columns.now in
    let s = c.args.statement.now in
    let written = ap (map (λ n. n.now)) c.as_slice.ensures.value ∙ c.in_ok-names.ensures in
    let fit = ap (list_all (counts_fit layout s.columns)) (sym c.as_slice-2.ensures) ∙ sym c.counts_fit.ensures ∙ c.if-not-counts_fit.true in
    inr (each_once DuplicateColumn (counted layout s (list_all (counts_fit layout s.columns) s.rows)) (map (λ n. n.now) c.as_slice.result.now) (unwrap_or s.columns []) written _ c.in_ok-check_names.ensures ∙ columns_counted layout s false fit)

pub returns : goal.returns
returns c =
    let layout = c.args.columns.now in
    let s = c.args.statement.now in
    let written = ap (map (λ n. n.now)) c.as_slice.ensures.value ∙ c.in_ok-names.ensures in
    let fit = ap (list_all (counts_fit layout s.columns)) (sym c.as_slice-2.ensures) ∙ sym c.counts_fit.ensures ∙ c.if-not-counts_fit.false in
    subst (AnswersUnlessMemory c.target_columns.result)
    (sym (each_once DuplicateColumn (counted layout s (list_all (counts_fit layout s.columns) s.rows)) (map (λ n. n.now) c.as_slice.result.now) (unwrap_or s.columns []) written _ c.in_ok-check_names.ensures ∙ columns_counted layout s true fit))
    c.target_columns.ensures
