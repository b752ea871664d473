use Rattle.std.proofs.Common.{◌≡◌, false, subst}
use Rattle.sql_types.specs.declared.event.Event.TheVariants as event
use Rattle.abstract_database.specs.Lists.{TheName}
use Rattle.served_machine.specs.Served.{TakesEvent, takes}
use Rattle.served_machine.proofs.machine.ServedMachine.open_admitted.Goals as goal

pub returns-in-Ok : goal.returns-in-Ok
returns-in-Ok g c =
    let state = g.S.Map.state in
    let old = c.args.self.now.server in
    let new = c.step.new.self in
    let runs : old.stopped ≡ false = c.requires.running in
    let made : TakesEvent g.X.EventHandler.Reads state c.args.client (event.Open c.args.session c.in-Ok.login) c.step.result old new = record {
      history = c.step.ensures.history;
      stopped = c.step.ensures.stopped;
      running = c.step.ensures.running;
      steps = c.step.ensures.steps;
      dropped = c.step.ensures.dropped;
    } in
    takes runs c.requires.admitted c.ranges.session.fits
    (subst (λ (l : TheName). TakesEvent g.X.EventHandler.Reads state c.args.client (event.Open c.args.session l) c.step.result old new) c.in-Ok.ensures made)
