use Rattle.std.proofs.Common.{refl}
use Rattle.password_talks.specs.Logins.{IsMockOf}
use Rattle.password_talks.proofs.Steps.{mock_made}
use Rattle.password_talks.proofs.login.Login.make_mock.Goals as goal

pub returns-in-Some-clause-ok : goal.returns-in-Some-clause-ok
returns-in-Some-clause-ok c =
    let is_mock : IsMockOf c.args.stored c.in-Some.mock = rw c.in-Some.is at c.in_ok-mock.ensures in
    mock_made c.take_mock.result c.args.self.now.place c.args.self.now.drawn c.take_mock.new.self c.args.out.now.items c.args.out.now.items
    c.args.label c.args.role c.args.first c.args.stored c.in-Some.mock is_mock refl c.take_mock.ensures.ok
