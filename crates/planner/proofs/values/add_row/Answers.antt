use Rattle.std.proofs.Common.{◌≡◌, length, inl, inr, arith}
use Rattle.std.specs.Iterator.Adapters.{zip_second}
use Rattle.std.specs.Slice.Iter.{iter_rest}
use Rattle.sql_ast.specs.Scope.{tables_of}
use Rattle.planner.proofs.Adding.{no_column_left, no_expression_left}
use Rattle.planner.proofs.values.add_row.Goals as goal

pub returns : goal.returns
returns c = elim c.in-None.ensures.steps [
  | inl h ↦ no_column_left (tables_of c.args.scope.now) c.args.layout.now _ _ _ _ c.loop-column.invariant h.1.0
  | inr h ↦ no_expression_left (tables_of c.args.scope.now) c.args.layout.now _ _ _ _ c.loop-column.invariant (let e : length (iter_rest (zip_second c.loop-column.column-iterator)) ≡ 0 = grind (arith, h.1.0) in e)
]
