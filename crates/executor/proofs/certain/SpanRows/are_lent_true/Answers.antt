use Rattle.std.proofs.Common.{arith, sym, subst}
use Rattle.std.proofs.lemmas.List.{drop_all}
use Rattle.expressions.specs.Rows.{names_of}
use Rattle.table_rows.proofs.Loops.{here}
use Rattle.executor.specs.Certain.{AreLentCertain, IsCertain}
use Rattle.executor.proofs.certain.SpanRows.are_lent_true.Goals as goal

pub loop-condition-preserved : goal.loop-condition-preserved
loop-condition-preserved c =
    let conditions = c.args.conditions.now in
    let i = c.loop-condition.condition-index in
    let condition = c.condition-item.result in
    let now = here conditions i condition c.condition-item.is (omega arith) in
    let certain = subst (IsCertain c.args.self.now.known.now (names_of c.args.self.now.users.now)) c.tree.ensures (c.is_true.ensures c.if-not-is_true.false) in
    λ others. c.loop-condition.invariant (subst (AreLentCertain c.args.self.now.known.now (names_of c.args.self.now.users.now)) (sym now) (certain, others))

pub returns : goal.returns
returns c = λ is. c.loop-condition.invariant (subst (AreLentCertain c.args.self.now.known.now (names_of c.args.self.now.users.now)) (sym (drop_all c.loop-condition.condition-index c.args.conditions.now c.loop-condition-test.false)) tt)
