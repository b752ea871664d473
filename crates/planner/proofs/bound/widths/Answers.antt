use Rattle.std.proofs.Common.{◌∙◌, ap, sym, map, length}
use Rattle.std.proofs.Math.Seq.{take_all}
use Rattle.sql_ast.specs.Scope.{table_of}
use Rattle.planner.proofs.Stages.{map_map}
use Rattle.planner.proofs.bound.widths.Goals as goal

pub returns : goal.returns
returns c =
    let tables = c.args.scope.now.tables.now in
    c.loop-table.invariant
    ∙ ap (map (λ t. length (table_of t).columns)) (take_all c.loop-table.table-index tables c.loop-table-test.false)
    ∙ sym (map_map (λ t. length t.columns) table_of tables)
