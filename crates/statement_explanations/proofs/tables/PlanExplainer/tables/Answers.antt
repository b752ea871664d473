use Rattle.std.proofs.Common.{arith}
use Rattle.expressions.specs.Rows.{names_of}
use Rattle.key_ranges.specs.BoxCode.{role_names}
use Rattle.statement_explanations.proofs.Telling.{one_more}
use Rattle.statement_explanations.proofs.tables.PlanExplainer.tables.Goals as goal

pub loop-index-preserved : goal.loop-index-preserved
loop-index-preserved c =
    let self = c.args.self.now in
    one_more self.catalogue.now (names_of self.users.now) (role_names self.users.now) self.plan.now c.args.ranged.now c.loop-index.told c.push.new.self c.loop-index.index
    c.index-ranged-index.result _ c.in_ok-push.ensures.ok c.loop-index.invariant (omega arith) c.index-ranged-index.is c.in_ok-explained.ensures
