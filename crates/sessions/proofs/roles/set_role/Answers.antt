use Rattle.std.proofs.Common.{ap}
use Rattle.abstract_database.specs.Machine.{Session}
use Rattle.sessions.proofs.RoleLemmas.{serves_unnamed, serves_unallowed}
use Rattle.sessions.proofs.roles.set_role.Goals as goal

pub returns-then-not-has_role : goal.returns-then-not-has_role
returns-then-not-has_role c writer =
    serves_unnamed writer c.args.catalogue.now c.args.number c.args.session.now c.args.statement.now.role c.in-Some.role _ _
    c.in-Some.is c.has_role.ensures c.if-not-has_role.true (c.refuse.ensures writer)

pub returns-then-not-branch : goal.returns-then-not-branch
returns-then-not-branch c writer =
    serves_unallowed writer c.args.catalogue.now c.args.number c.args.session.now c.args.statement.now.role c.in-Some.role c.session.inside.login _ _ _
    c.in-Some.is c.has_role.ensures c.if-not-has_role.false (ap (λ (z : Session). z.login) c.session.view_is) c.in_ok-may_set_role.ensures c.if-not-branch.true
    (c.refuse-then-not-branch.ensures writer)
