use Rattle.scram.specs.Exchanges.{BeginsExchange}
use Rattle.password_talks.proofs.Steps.{is_challenged}
use Rattle.password_talks.proofs.login.Login.challenge.Goals as goal

pub returns-in-Some-clause-ok : goal.returns-in-Some-clause-ok
returns-in-Some-clause-ok c =
    let begun : BeginsExchange c.args.mock.now c.args.role c.args.stored c.args.self.now.drawn c.args.first.now c.in-Some.exchange = rw c.in-Some.is at c.in_ok-exchange.ensures in
    is_challenged c.take_exchange.result c.args.self.now.place c.args.self.now.drawn c.take_exchange.new.self c.args.out.now.items c.take_exchange.new.out.items
    c.args.label c.args.role c.args.first.now c.args.mock.now c.args.stored c.in-Some.exchange begun c.take_exchange.ensures.ok
