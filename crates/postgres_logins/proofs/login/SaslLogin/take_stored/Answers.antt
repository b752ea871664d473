use Rattle.std.proofs.Common.{◌≡◌}
use Rattle.postgres_logins.specs.declared.stage.SaslStage.TheVariants as stage
use Rattle.postgres_logins.proofs.Steps.{finds_so}
use Rattle.postgres_logins.proofs.login.SaslLogin.take_stored.Goals as goal

pub returns-in-Begun-clause-ok : goal.returns-in-Begun-clause-ok
returns-in-Begun-clause-ok c =
    let same : c.args.self.now.stage ≡ stage.Begun c.in-Begun.newcomer = cc (c.in-Begun.ensures.value) in
    finds_so c.make_mock.result c.args.self.now.place c.args.self.now.drawn c.make_mock.new.self c.args.out.now.items c.make_mock.new.out.items c.args.self.now.stage
    (stage.Begun c.in-Begun.newcomer) c.args.stored same c.make_mock.ensures.ok

pub returns-in-Mocked-clause-ok : goal.returns-in-Mocked-clause-ok
returns-in-Mocked-clause-ok c =
    let same : c.args.self.now.stage ≡ stage.Mocked c.in-Mocked.newcomer c.in-Mocked.mock = cc (c.in-Mocked.ensures.value) in
    finds_so c.offer.result c.args.self.now.place c.args.self.now.drawn c.offer.new.self c.args.out.now.items c.offer.new.out.items c.args.self.now.stage
    (stage.Mocked c.in-Mocked.newcomer c.in-Mocked.mock) c.args.stored same c.offer.ensures.ok

pub returns-in-Answered-clause-ok : goal.returns-in-Answered-clause-ok
returns-in-Answered-clause-ok c =
    let same : c.args.self.now.stage ≡ stage.Answered c.in-Answered.newcomer c.in-Answered.exchange c.in-Answered.last = cc (c.in-Answered.ensures.value) in
    finds_so c.let_in.result c.args.self.now.place c.args.self.now.drawn c.let_in.new.self c.args.out.now.items c.let_in.new.out.items c.args.self.now.stage
    (stage.Answered c.in-Answered.newcomer c.in-Answered.exchange c.in-Answered.last) c.args.stored same c.let_in.ensures.ok
