use Rattle.std.proofs.Common.{◌≡◌, sym, ◌∙◌, ap}
use Rattle.abstract_database.specs.Machine.{Outside, Inside}
use Rattle.server.specs.Session.{block_of}
use Rattle.sessions.proofs.Concluding.{committed_concludes, held_concludes}
use Rattle.sessions.proofs.decisions.decision_for.Goals as goal

pub returns-in-Outside : goal.returns-in-Outside
returns-in-Outside c =
    let outside : c.args.session.now.block ≡ Outside = ap (λ z. z.block) (sym c.session.view_is) ∙ ap block_of c.in-Outside.is in
    committed_concludes c.args.number c.args.session.now c.args.statement.now (sym c.changes_database.ensures ∙ c.if-not-changes_database.false) outside c.args.effect

pub returns-in-Inside : goal.returns-in-Inside
returns-in-Inside c =
    let inside : c.args.session.now.block ≡ Inside c.in-Inside.field-0 = ap (λ z. z.block) (sym c.session.view_is) ∙ ap block_of c.in-Inside.is in
    held_concludes c.args.number c.args.session.now c.args.statement.now (sym c.changes_database.ensures ∙ c.if-not-changes_database.false) c.in-Inside.field-0 inside c.args.effect
