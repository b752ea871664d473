use Rattle.std.proofs.Common.{◌≡◌}
use Rattle.password_talks.specs.declared.stage.LoginStage.TheVariants as stage
use Rattle.password_talks.proofs.Steps.{finds_at}
use Rattle.password_talks.proofs.login.Login.take_stored.Goals as goal

pub returns-in-Begun-clause-ok : goal.returns-in-Begun-clause-ok
returns-in-Begun-clause-ok c =
    let same : c.args.self.now.stage ≡ stage.Begun c.in-Begun.label c.in-Begun.role c.in-Begun.first = cc (c.in-Begun.ensures.value) in
    finds_at c.make_mock.result c.args.self.now.place c.args.self.now.drawn c.make_mock.new.self c.args.out.now.items c.make_mock.new.out.items c.args.self.now.stage
    (stage.Begun c.in-Begun.label c.in-Begun.role c.in-Begun.first) c.args.stored same c.make_mock.ensures.ok

pub returns-in-Mocked-clause-ok : goal.returns-in-Mocked-clause-ok
returns-in-Mocked-clause-ok c =
    let same : c.args.self.now.stage ≡ stage.Mocked c.in-Mocked.label c.in-Mocked.role c.in-Mocked.first c.in-Mocked.mock = cc (c.in-Mocked.ensures.value) in
    finds_at c.challenge.result c.args.self.now.place c.args.self.now.drawn c.challenge.new.self c.args.out.now.items c.challenge.new.out.items c.args.self.now.stage
    (stage.Mocked c.in-Mocked.label c.in-Mocked.role c.in-Mocked.first c.in-Mocked.mock) c.args.stored same c.challenge.ensures.ok

pub returns-in-Answered-clause-ok : goal.returns-in-Answered-clause-ok
returns-in-Answered-clause-ok c =
    let same : c.args.self.now.stage ≡ stage.Answered c.in-Answered.label c.in-Answered.role c.in-Answered.exchange c.in-Answered.last = cc (c.in-Answered.ensures.value) in
    finds_at c.let_in.result c.args.self.now.place c.args.self.now.drawn c.let_in.new.self c.args.out.now.items c.let_in.new.out.items c.args.self.now.stage
    (stage.Answered c.in-Answered.label c.in-Answered.role c.in-Answered.exchange c.in-Answered.last) c.args.stored same c.let_in.ensures.ok
