use Rattle.std.proofs.Common.{sym, ◌∙◌, ap}
use Rattle.server.specs.Session.{block_of}
use Rattle.sessions.proofs.BlockDecisions.{fail_serves}
use Rattle.sessions.proofs.answers.refuse.Goals as goal

pub returns-in-Inside : goal.returns-in-Inside
returns-in-Inside c writer = fail_serves writer c.args.number c.args.session.now c.in-Inside.field-0 c.args.state
    (ap (λ z. z.block) (sym c.session.view_is) ∙ ap block_of c.in-Inside.is)
