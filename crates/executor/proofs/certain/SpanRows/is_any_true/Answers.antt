use Rattle.std.proofs.Common.{arith, ◌+◌, drop, subst, sym}
use Rattle.expressions.specs.Rows.{names_of}
use Rattle.table_rows.proofs.Loops.{here}
use Rattle.executor.specs.Certain.{IsAnyCertain, IsCertain}
use Rattle.executor.proofs.Certainty.{any_here, any_later}
use Rattle.executor.proofs.certain.SpanRows.is_any_true.Goals as goal

pub returns-then-is_true : goal.returns-then-is_true
returns-then-is_true c = λ is.
    let known = c.args.self.now.known.now in
    let users = names_of c.args.self.now.users.now in
    let conditions = c.args.conditions.now in
    let i = c.loop-condition.condition-index in
    let condition = c.condition-item.result in
    let now = here conditions i condition c.condition-item.is (omega arith) in
    let certain = subst (IsCertain known users) c.tree.ensures (c.is_true.ensures c.if-is_true.true) in
    c.loop-condition.invariant (subst (IsAnyCertain known users) (sym now) (any_here known users condition (drop (i + 1) conditions) certain))

pub loop-condition-preserved : goal.loop-condition-preserved
loop-condition-preserved c =
    let known = c.args.self.now.known.now in
    let users = names_of c.args.self.now.users.now in
    let conditions = c.args.conditions.now in
    let i = c.loop-condition.condition-index in
    let condition = c.condition-item.result in
    let now = here conditions i condition c.condition-item.is (omega arith) in
    λ others. c.loop-condition.invariant (subst (IsAnyCertain known users) (sym now) (any_later known users condition (drop (i + 1) conditions) (c.is_infallible.ensures.never_fails c.if-not-is_infallible.false) others))
