use Rattle.std.proofs.Common.{◌≡◌, refl, sym, ◌∙◌, ap, subst}
use Rattle.abstract_database.specs.Machine.{Session, Outside, Inside, in_block}
use Rattle.server.specs.Session.{block_of}
use Rattle.sessions.proofs.BlockDecisions.{begin_serves}
use Rattle.sessions.proofs.blocks.begin.Goals as goal

pub returns-in_ok-before-in-Outside : goal.returns-in_ok-before-in-Outside
returns-in_ok-before-in-Outside c writer =
    let outside : c.args.session.now.block ≡ Outside = ap (λ z. z.block) (sym c.session.view_is) ∙ ap block_of c.in-Outside.is in
    let changed : Session = record { login = c.in_ok-login-in-Outside.login; role = c.in_ok-role-in-Outside.role; block = Inside c.in_ok-before-in-Outside.before } in
    let copied : changed ≡ in_block (Inside c.args.session.now.role) c.args.session.now =
    subst (λ (z : Session). changed ≡ in_block (Inside z.role) z) c.session.view_is
    (rw (c.in_ok-login-in-Outside.ensures, c.in_ok-role-in-Outside.ensures, c.in_ok-before-in-Outside.ensures) refl) in
    rw c.done.ensures (begin_serves writer c.args.number c.args.session.now changed outside copied)
