use Rattle.std.proofs.Common.{◌∙◌, sym}
use Rattle.served_machine.proofs.Losing.{lost, none_lost}
use Rattle.served_machine.proofs.machine.ServedMachineMachine.has_lost_role.Goals as goal

pub returns-clause-lost : goal.returns-clause-lost
returns-clause-lost g c = λ is sound. lost g.S.Map.state c.args.self.now.server c.args.client (sym c.has_lost_role.ensures ∙ is) sound

pub returns-clause-none : goal.returns-clause-none
returns-clause-none g c = λ is has. none_lost g.S.Map.state c.args.self.now.server c.args.client (sym c.has_lost_role.ensures ∙ is) has
