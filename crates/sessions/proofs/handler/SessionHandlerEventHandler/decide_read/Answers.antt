use Rattle.std.proofs.Common.{ℕ, subst}
use Rattle.abstract_database.specs.Machine.{executes}
use Rattle.server.specs.Decisions.{DecidesAt}
use Rattle.sessions.specs.Readings.{ReadsText}
use Rattle.sessions.proofs.handler.SessionHandlerEventHandler.decide_read.Goals as goal

pub returns-clause-decides : goal.returns-clause-decides
returns-clause-decides g c text read sound db holder shown held holds =
    subst (λ (n : ℕ). DecidesAt ReadsText (g.M.Map.state c.args.map.now).map c.args.context.catalogue.now c.args.context.writer.now db holder c.args.context.sessions.now.entries
    (executes n text) c.decide_read.result) c.number_in-number.ensures (c.decide_read.ensures.decides text read sound db holder shown held holds)
