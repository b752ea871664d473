use Rattle.std.proofs.Common.{refl}
use Rattle.password_talks.specs.Logins.{IsMockOf}
use Rattle.postgres_logins.specs.Logins.{PreparesMock, made}
use Rattle.postgres_logins.proofs.Steps.{says_nothing}
use Rattle.postgres_logins.proofs.login.SaslLogin.make_mock.Goals as goal

pub returns-in-Some-clause-ok : goal.returns-in-Some-clause-ok
returns-in-Some-clause-ok c =
    let is_mock : IsMockOf c.args.stored c.in-Some.mock = rw c.in-Some.is at c.in_ok-mock.ensures in
    says_nothing c.take_mock.result c.args.out.now.items c.args.out.now.items _
    (λ said. PreparesMock c.args.self.now.place c.args.self.now.drawn c.args.newcomer c.args.stored said c.take_mock.new.self)
    (λ so. made c.in-Some.mock is_mock refl so) refl c.take_mock.ensures.ok
