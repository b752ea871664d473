use Rattle.std.proofs.Common.{refl}
use Rattle.scram.specs.Exchanges.{BeginsExchange, challenge}
use Rattle.postgres_logins.specs.Logins.{OpensExchange, challenged}
use Rattle.postgres_logins.specs.Sayings.{first_said}
use Rattle.postgres_logins.proofs.Steps.{says_this}
use Rattle.postgres_logins.proofs.login.SaslLogin.challenge.Goals as goal

pub returns-in-Some-clause-ok : goal.returns-in-Some-clause-ok
returns-in-Some-clause-ok c =
    let begun : BeginsExchange c.args.mock.now c.args.newcomer.role c.args.stored c.args.self.now.drawn c.args.first.now c.in-Some.exchange = rw c.in-Some.is at c.in_ok-exchange.ensures in
    says_this c.take_exchange.result c.args.out.now.items c.take_exchange.new.out.items _
    (λ said. OpensExchange c.args.self.now.place c.args.self.now.drawn c.args.newcomer c.args.mock.now c.args.stored c.args.first.now said c.take_exchange.new.self)
    (first_said (challenge c.in-Some.exchange)) (λ so. challenged c.in-Some.exchange begun refl so) c.take_exchange.ensures.ok
