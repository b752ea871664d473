use Rattle.std.proofs.lemmas.Result.{IfOk-weaker}
use Rattle.role_membership.proofs.Names.{of_itself, test_of_chains}
use Rattle.role_membership.proofs.marked.roles_above.Goals as goal

pub returns : goal.returns
returns c = record {
  test = IfOk-weaker c.closure_of.result _ _
      (λ roles are. test_of_chains c.args.memberships.now c.args.role.now roles (of_itself c.args.memberships.now c.args.role.now _ _ roles c.none-itself.ensures c.in_ok-insert_if.ensures.among are))
      c.closure_of.ensures.chains;
}
