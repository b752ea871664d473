use Rattle.served_machine.proofs.Stepping.{takes_step}
use Rattle.served_machine.proofs.machine.ServedMachineMachine.step.Goals as goal

pub returns-in-Event-clause-steps : goal.returns-in-Event-clause-steps
returns-in-Event-clause-steps g c =
    takes_step g.X.EventHandler.Reads g.S.Map.state c.args.client c.step.result c.args.self.now.server c.step.new.self c.args.want.now c.in-Event.event c.in-Event.is c.requires (record {
      history = c.step.ensures.history;
      stopped = c.step.ensures.stopped;
      running = c.step.ensures.running;
      steps = c.step.ensures.steps;
      dropped = c.step.ensures.dropped;
    })
