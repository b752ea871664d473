use Rattle.sql_types.specs.declared.event.Event.TheVariants as event
use Rattle.server.specs.Standing.{event_of}
use Rattle.server.proofs.Stepping.{stopped_steps, attempted_steps}
use Rattle.server.proofs.server.Server.step_read.Goals as goal

pub returns-then-self-clause-steps : goal.returns-then-self-clause-steps
returns-then-self-clause-steps g c text reads sound w at =
    stopped_steps g.X.EventHandler.Reads g.S.Map.state c.args.self.now w (event_of c.args.client (event.Statement c.args.session text)) sound (g.met.S.Map.only_now c.args.self.now.store) c.if-self.true at

pub returns-clause-steps : goal.returns-clause-steps
returns-clause-steps g c text reads =
    attempted_steps g.X.EventHandler.Reads g.S.Map.state c.args.client c.args.self.now c.attempt_read-attempted.new.self c.answer_of.new.self (event.Statement c.args.session text)
    c.attempt_read-attempted.result c.answer_of.result c.answer_of.ensures.answer c.answer_of.ensures.server (g.met.S.Map.only_now c.attempt_read-attempted.new.self.store)
    c.attempt_read-attempted.ensures.history c.if-self.false (c.attempt_read-attempted.ensures.attempts text reads)
