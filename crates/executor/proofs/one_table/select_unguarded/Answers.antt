use Rattle.std.proofs.Common.{subst}
use Rattle.expressions.specs.Rows.{names_of}
use Rattle.table_rows.specs.declared.target.Target.{Target}
use Rattle.table_rows.specs.Costs.{cost_of}
use Rattle.executor.proofs.Unguarded.{unguarded_answers, unguarded_read}
use Rattle.executor.proofs.one_table.select_unguarded.Goals as goal

pub returns-clause-cost : goal.returns-clause-cost
returns-clause-cost g c = λ s.
    subst (λ (t : Target). g.M.Map.cost c.args.records.now c.select_by_walk.new.records (cost_of t (g.M.Map.state c.args.records.now).map)) c.target.ensures (c.select_by_walk.ensures.cost s)

pub returns-clause-answer : goal.returns-clause-answer
returns-clause-answer g c = λ s rows found fit.
    unguarded_answers c.args.table.now c.target.result _ (names_of c.args.users.now) c.args.query.now (g.M.Map.state c.args.records.now).map rows c.select_by_walk.result c.target.ensures c.new.ensures c.requires
    (g.met.M.Map.ordered c.args.records.now s) found (λ finds. c.select_by_walk.ensures.answer s rows finds fit)

pub returns-clause-read : goal.returns-clause-read
returns-clause-read g c = λ s.
    unguarded_read c.args.table.now c.target.result _ (names_of c.args.users.now) c.args.query.now (g.M.Map.state c.args.records.now).map c.select_by_walk.result c.target.ensures c.new.ensures c.requires (c.select_by_walk.ensures.read s)
