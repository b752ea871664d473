use Rattle.std.proofs.Common.{sym, subst}
use Rattle.talks.specs.declared.want.Want.{Want}
use Rattle.talks.specs.declared.want.Reply.TheVariants as reply
use Rattle.served_machine.specs.Served.{TellsClient}
use Rattle.served_machine.proofs.machine.ServedMachineMachine.ask.Goals as goal

pub returns-in-Verifier-clause-tells : goal.returns-in-Verifier-clause-tells
returns-in-Verifier-clause-tells g c =
    subst (λ (w : Want). TellsClient g.X.EventHandler.Reads g.S.Map.state c.args.client w (reply.Verifier c.verifier_of.result) c.args.self.now.server c.verifier_of.new.self) (sym c.in-Verifier.is) (record {
      history = c.verifier_of.ensures.history;
      stopped = c.verifier_of.ensures.stopped;
      running = c.verifier_of.ensures.running;
      looks = c.verifier_of.ensures.looks;
      leaves = c.verifier_of.ensures.leaves;
      finds = c.verifier_of.ensures.finds;
    })
