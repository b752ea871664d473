use Rattle.std.proofs.Common.{subst}
use Rattle.planner.specs.Rights.{IsGivenToAny}
use Rattle.planner.proofs.MaskBits.{held_by_superuser, held_by_roles}
use Rattle.planner.proofs.rights.Rights.held.Goals as goal

pub returns-then-self : goal.returns-then-self
returns-then-self c = held_by_superuser c.args.self.now c.args.action c.args.table.now c.if-self.true

pub returns : goal.returns
returns c =
    let given = subst (λ roles. IsGivenToAny c.args.table.now.descriptors c.args.action roles c.held_by_any.result) c.names.ensures c.held_by_any.ensures in
    held_by_roles c.args.self.now c.args.action c.args.table.now c.held.result c.held_by_any.result c.if-self.false c.held.ensures.named c.held.ensures.given given
