use Rattle.std.proofs.Common.{false, sym, subst}
use Rattle.server.specs.Standing.{event_of}
use Rattle.server.specs.Dropped.{KeepsDefinitions}
use Rattle.server.proofs.Stepping.{stopped_steps, attempted_steps}
use Rattle.server.proofs.Dropping.{steps_from, attempt_keeps}
use Rattle.server.proofs.server.Server.step.Goals as goal

pub returns-then-self-clause-steps : goal.returns-then-self-clause-steps
returns-then-self-clause-steps g c sound w at =
    stopped_steps g.X.EventHandler.Reads g.S.Map.state c.args.self.now w (event_of c.args.client c.args.event.now) sound (g.met.S.Map.only_now c.args.self.now.store) c.if-self.true at

pub returns-clause-steps : goal.returns-clause-steps
returns-clause-steps g c =
    let old = c.args.self.now in
    steps_from g.X.EventHandler.Reads g.S.Map.state old false c.args.client c.args.event.now c.answer_of.result c.answer_of.new.self
    (attempted_steps g.X.EventHandler.Reads g.S.Map.state c.args.client (record old { may_have_dropped = false }) c.attempt-attempted.new.self c.answer_of.new.self c.args.event.now c.attempt-attempted.result c.answer_of.result
    c.answer_of.ensures.answer c.answer_of.ensures.server (g.met.S.Map.only_now c.attempt-attempted.new.self.store) c.attempt-attempted.ensures.history c.if-self.false c.attempt-attempted.ensures.attempts)

pub returns-clause-dropped : goal.returns-clause-dropped
returns-clause-dropped g c =
    subst (λ s. KeepsDefinitions c.args.self.now s) (sym c.answer_of.ensures.server) (attempt_keeps c.args.self.now c.attempt-attempted.new.self c.attempt-attempted.result c.attempt-attempted.ensures.dropped)
