use Rattle.std.proofs.Common.{◌∙◌, length, Some, sym, ap}
use Rattle.std.specs.List.{slice_get}
use Rattle.std.proofs.lemmas.Bool.{ltb-true}
use Rattle.std.proofs.lemmas.Option.{slice_get-get_or}
use Rattle.sql_ast.specs.Layout.{Layout}
use Rattle.planner.specs.declared.sources.Source.{Source}
use Rattle.planner.proofs.ResultColumns.{column_found}
use Rattle.planner.proofs.result_columns.column_at.Goals as goal

pub returns : goal.returns
returns c =
    let sources = c.args.sources.now in
    let at = c.args.index in
    let source = c.in_ok-source.source.now in
    let within = ltb-true at.table (length sources) (sym c.in_ok-source.ensures.lookup.0) in
    c.get-2.ensures
    ∙ ap (λ (l : Layout). slice_get l.columns at.column) c.columns.ensures
    ∙ column_found sources at source (slice_get-get_or sources at.table source within ∙ ap (λ (s : Source). Some s) (sym c.in_ok-source.ensures.lookup.1))
