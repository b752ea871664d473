use Rattle.std.proofs.Common.{◌≡◌, ◌∙◌, ap, sym, map, flat_map, subst, Ok, Err, arith, rules}
use Rattle.std.proofs.lemmas.Grind.{common_steps}
use Rattle.sql_ast.specs.Scope.{tables_of}
use Rattle.expressions.specs.Parts.{part_of, IsBound, Binds}
use Rattle.abstract_database.specs.Checks.{value_parts}
use Rattle.planner.specs.Inserted.{rows_of}
use Rattle.planner.proofs.Cutting.{rows_bound, rows_refused}
use Rattle.planner.proofs.values.bind_in_scope.Goals as goal

pub returns-in_err-bound : goal.returns-in_err-bound
returns-in_err-bound c = λ long.
    let scope = tables_of c.args.scope.now in
    let parts = flat_map (value_parts scope c.args.layout.now c.args.columns.now) c.args.rows.now in
    let same : map part_of c.as_slice.result.now ≡ parts = grind (arith, common_steps) in
    let bound : IsBound parts (Err c.in_err-bound.field-0.0) = subst (λ ps. IsBound ps (Err c.in_err-bound.field-0.0)) same c.in_err-bound.ensures in
    let m = rows_refused scope c.args.layout.now c.args.columns.now c.args.rows.now long c.in_err-bound.field-0.0 bound in
    search rules

pub returns : goal.returns
returns c = λ long.
    let scope = tables_of c.args.scope.now in
    let parts = flat_map (value_parts scope c.args.layout.now c.args.columns.now) c.args.rows.now in
    let same : map part_of c.as_slice.result.now ≡ parts = grind (arith, common_steps) in
    rows_bound scope c.args.layout.now c.args.columns.now c.args.rows.now long c.in_ok-bound.bound (subst (λ ps. Binds ps c.in_ok-bound.bound) same c.in_ok-bound.ensures)
    ∙ ap (λ r. Ok (rows_of r)) (sym c.in_ok-split_rows.ensures)
