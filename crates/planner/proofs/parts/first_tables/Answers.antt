use Rattle.std.proofs.Common.{◌≡◌, ◌-◌, ◌∙◌, ap, sym, map, take, arith}
use Rattle.std.proofs.lemmas.List.{take-map}
use Rattle.sql_ast.specs.Scope.{table_of}
use Rattle.planner.proofs.parts.first_tables.Goals as goal

pub returns-in-Some : goal.returns-in-Some
returns-in-Some c =
    let tables = c.args.scope.now.tables.now in
    let whole : c.args.count - 0 ≡ c.args.count = omega arith in
    ap (map table_of) (c.in-Some.ensures.lookup.0.2 ∙ ap (λ n. take n tables) whole) ∙ sym (take-map table_of c.args.count tables)
