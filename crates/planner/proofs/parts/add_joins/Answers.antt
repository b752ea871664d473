use Rattle.std.proofs.Common.{arith}
use Rattle.sql_ast.specs.Scope.{tables_of}
use Rattle.planner.proofs.Joining.{one_join}
use Rattle.planner.proofs.parts.add_joins.Goals as goal

pub loop-index-preserved : goal.loop-index-preserved
loop-index-preserved c =
    one_join (tables_of c.args.scope.now) c.args.joins.now c.loop-index.index c.index-joins-index.result _ _ _ c.index-joins-index.is (omega arith) c.loop-index.invariant c.in_ok-add_condition.ensures
