use Rattle.std.proofs.Common.{refl}
use Rattle.served_machine.proofs.Refusing.{refuses, answer_fits}
use Rattle.served_machine.proofs.machine.ServedMachineMachine.refuse_for_memory.Goals as goal

pub returns : goal.returns
returns g c = record {
  steps = refuses g.X.EventHandler.Reads g.S.Map.state c.args.self.now.server (g.met.S.Map.only_now c.args.self.now.server.store) (g.met.S.Store.settled c.args.self.now.server.store) c.args._client c.args._want.now
      c.requires.step c.requires.may;
  fits = answer_fits c.args._want.now _ c.requires.step;
  refused = refl;
}
