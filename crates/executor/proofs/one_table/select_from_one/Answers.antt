use Rattle.std.proofs.Common.{◌≤◌, arith}
use Rattle.expressions.specs.Rows.{names_of}
use Rattle.executor.proofs.CountedRows.{count_answers, count_read, walk_read}
use Rattle.executor.proofs.one_table.select_from_one.Goals as goal

pub returns-then-branch-clause-answer : goal.returns-then-branch-clause-answer
returns-then-branch-clause-answer g c = λ s rows h fit.
    count_answers c.args.table.now (g.M.Map.state c.args.records.now).map (names_of c.args.users.now) c.args.query.now rows c.count_found.result (c.in_ok-counts_found.ensures c.if-branch.true) (g.met.M.Map.ordered c.args.records.now s) h (c.count_found.ensures.counted s)

pub returns-then-branch-clause-read : goal.returns-then-branch-clause-read
returns-then-branch-clause-read g c = λ s.
    count_read c.args.table.now (g.M.Map.state c.args.records.now).map (names_of c.args.users.now) c.args.query.now c.count_found.result (c.in_ok-counts_found.ensures c.if-branch.true) (c.count_found.ensures.counted s)

pub returns-else-branch-2-clause-read : goal.returns-else-branch-2-clause-read
returns-else-branch-2-clause-read g c = λ s.
    walk_read c.args.table.now (g.M.Map.state c.args.records.now).map (names_of c.args.users.now) c.args.query.now c.select_by_walk.result (c.select_by_walk.ensures.read s)

pub returns-in_err-counts_found-clause-cost : goal.returns-in_err-counts_found-clause-cost
returns-in_err-counts_found-clause-cost g c = λ s. g.M.Map.cost_within c.args.records.now c.args.records.now 0 _ (omega arith) (g.M.Map.cost_none c.args.records.now)

pub returns-then-branch-2-clause-read : goal.returns-then-branch-2-clause-read
returns-then-branch-2-clause-read g c = λ s.
    walk_read c.args.table.now (g.M.Map.state c.args.records.now).map (names_of c.args.users.now) c.args.query.now c.select_unguarded.result (c.select_unguarded.ensures.read s)

pub returns-in_err-passes_guard-clause-cost : goal.returns-in_err-passes_guard-clause-cost
returns-in_err-passes_guard-clause-cost g c = λ s. g.M.Map.cost_within c.args.records.now c.args.records.now 0 _ (omega arith) (g.M.Map.cost_none c.args.records.now)
