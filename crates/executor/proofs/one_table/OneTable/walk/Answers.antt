use Rattle.std.proofs.Common.{◌≤◌, arith}
use Rattle.executor.specs.Selected.{answer_from}
use Rattle.executor.proofs.OneTables.{none_walked}
use Rattle.executor.proofs.one_table.OneTable.walk.Goals as goal

pub returns-then-is_done-clause-visits : goal.returns-then-is_done-clause-visits
returns-then-is_done-clause-visits g c = λ s rows h. c.is_done.ensures c.if-is_done.true rows

pub returns-then-is_done-clause-walked : goal.returns-then-is_done-clause-walked
returns-then-is_done-clause-walked g c = λ s. none_walked _ _ _ (answer_from c.args.self.now) (c.is_done.ensures c.if-is_done.true)

pub returns-then-is_done-clause-cost : goal.returns-then-is_done-clause-cost
returns-then-is_done-clause-cost g c = λ s. g.M.Map.cost_within c.args.records.now c.args.records.now 0 _ (omega arith) (g.M.Map.cost_none c.args.records.now)
