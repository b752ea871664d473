use Rattle.std.proofs.Common.{◌≡◌, ◌∙◌, List, [], ◌∷◌, ap, sym, subst}
use Rattle.expressions.specs.Rows.{names_of}
use Rattle.abstract_database.specs.Queries.{Source, query}
use Rattle.table_rows.specs.Costs.{cost_of}
use Rattle.table_rows.specs.Failures.{Answers}
use Rattle.gathering.specs.Queries.{bound_of}
use Rattle.table_rows.specs.declared.target.Target.{Target}
use Rattle.executor.proofs.Together.{none_there, single, single_fits, one_read, only_read}
use Rattle.executor.proofs.selection.select.Goals as goal

pub returns-in-Some-clause-answer : goal.returns-in-Some-clause-answer
returns-in-Some-clause-answer g c = λ s rows h fit.
    let users = names_of c.args.users.now in
    let one = single (g.M.Map.state c.args.records.now).map c.args.tables.now c.in-Some.others.now c.in-Some.table.now rows c.in-Some.ensures.cases.0 (none_there c.in-Some.others.now c.if-is_empty.ensures) h in
    subst (λ (sources : List Source). Answers c.select_from_one.result (query sources users (bound_of c.args.query.now))) (sym one.sources_are)
    (c.select_from_one.ensures.answer s one.only one.held (single_fits users c.args.query.now rows one.only one.rows_are fit))

pub returns-in-Some-clause-read : goal.returns-in-Some-clause-read
returns-in-Some-clause-read g c = λ s.
    let records = (g.M.Map.state c.args.records.now).map in
    let one : c.args.tables.now ≡ c.in-Some.table.now ∷ [] = c.in-Some.ensures.cases.0 ∙ ap (λ (ts : List Target). c.in-Some.table.now ∷ ts) (none_there c.in-Some.others.now c.if-is_empty.ensures) in
    one_read records c.args.tables.now c.in-Some.table.now (names_of c.args.users.now) c.args.query.now c.select_from_one.result one (c.select_from_one.ensures.read s)

pub returns-in-Some-clause-one_table : goal.returns-in-Some-clause-one_table
returns-in-Some-clause-one_table g c = λ s other alone.
    only_read (g.M.Map.state c.args.records.now).map c.args.tables.now c.in-Some.others.now c.in-Some.table.now other (names_of c.args.users.now) c.args.query.now c.select_from_one.result
    c.in-Some.ensures.cases.0 alone (c.select_from_one.ensures.read s)

pub returns-in-Some-clause-cost : goal.returns-in-Some-clause-cost
returns-in-Some-clause-cost g c = λ s other alone.
    let both : c.in-Some.table.now ∷ c.in-Some.others.now ≡ other ∷ [] = sym c.in-Some.ensures.cases.0 ∙ alone in
    let same : c.in-Some.table.now ≡ other = cc in
    subst (λ (t : Target). g.M.Map.cost c.args.records.now c.select_from_one.new.records (cost_of t (g.M.Map.state c.args.records.now).map)) same (c.select_from_one.ensures.cost s)
