use Rattle.std.proofs.Common.{refl}
use Rattle.served_machine.proofs.Stepping.{none_left}
use Rattle.served_machine.proofs.machine.ServedMachineMachine.close_next.Goals as goal

pub returns-clause-none : goal.returns-clause-none
returns-clause-none g c = λ is. none_left g.S.Map.state c.args.self.now.server c.args.client c.args.self.now.server.stopped refl (c.close_next.ensures.none is)
