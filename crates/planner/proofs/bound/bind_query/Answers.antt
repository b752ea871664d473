use Rattle.std.proofs.Common.{◌∙◌, ap, sym, rules, Ok, Err}
use Rattle.sql_ast.specs.Scope.{tables_of}
use Rattle.expressions.specs.Parts.{Binds, IsBound}
use Rattle.abstract_database.specs.Queries.{BoundQuery, select_parts}
use Rattle.planner.proofs.Splits.{length_of_bound, is_query, is_refused}
use Rattle.planner.proofs.Typing.{typed_query}
use Rattle.planner.proofs.bound.bind_query.Goals as goal

pub returns-in_err-bound : goal.returns-in_err-bound
returns-in_err-bound c =
    let scope = tables_of c.args.scope.now in
    let bound : IsBound (select_parts scope c.args.list.now c.args.source.now) (Err c.in_err-bound.field-0.0) = rw (← c.in_ok-parts.ensures, ← c.as_slice.ensures.value) c.in_err-bound.ensures in
    let refused = is_refused scope c.args.list.now c.args.source.now c.in_err-bound.field-0.0 bound in
    search rules

pub split-requires : goal.split-requires
split-requires c =
    let scope = tables_of c.args.scope.now in
    let bound : Binds (select_parts scope c.args.list.now c.args.source.now) c.in_ok-bound.bound = rw (← c.in_ok-parts.ensures, ← c.as_slice.ensures.value) c.in_ok-bound.ensures in
    length_of_bound scope c.args.list.now c.args.source.now c.in_ok-bound.bound bound

pub returns : goal.returns
returns c =
    let scope = tables_of c.args.scope.now in
    let bound : Binds (select_parts scope c.args.list.now c.args.source.now) c.in_ok-bound.bound = rw (← c.in_ok-parts.ensures, ← c.as_slice.ensures.value) c.in_ok-bound.ensures in (
      is_query scope c.args.list.now c.args.source.now c.in_ok-bound.bound bound ∙ ap (λ (q : BoundQuery). Ok q) (sym c.in_ok-split.ensures.query),
      c.in_ok-split.ensures.widths,
      typed_query scope c.args.list.now c.args.source.now c.in_ok-bound.bound c.in_ok-split.field-0 bound c.in_ok-split.ensures.list c.in_ok-split.ensures.keys,
    )
