use Rattle.std.proofs.Common.{◌≡◌, length, ℕ, subst, arith}
use Rattle.grant_graph.specs.Revoking.{Stay}
use Rattle.grant_graph.proofs.Revokes.{stay_more}
use Rattle.grant_graph.proofs.revoking.stay.Goals as goal

pub loop-index-preserved : goal.loop-index-preserved
loop-index-preserved c = rw c.in_ok-push.ensures.items (stay_more c.loop-index.index c.args.grant_option_for c.args.reached.now c.args.named.now c.loop-index.marks.items c.stays-stays.result c.loop-index.invariant c.stays-stays.ensures)

pub returns : goal.returns
returns c =
    let all : c.loop-index.index ≡ length c.args.reached.now = omega (arith, c.loop-index-test.false, c.loop-index.auto.index-end) in
    subst (λ (n : ℕ). Stay n c.args.grant_option_for c.args.reached.now c.args.named.now c.loop-index.marks.items) all c.loop-index.invariant
