use Rattle.password_talks.proofs.Steps.{has_shown}
use Rattle.password_talks.proofs.login.Login.let_in.Goals as goal

pub returns-in-Some-clause-ok : goal.returns-in-Some-clause-ok
returns-in-Some-clause-ok c =
    let it = rw c.in-Some.is at c.in_ok-shown.ensures in
    has_shown c.admit.result c.args.self.now.place c.args.self.now.drawn c.admit.new.self c.args.out.now.items c.admit.new.out.items
    c.args.label c.args.role c.args.exchange.now c.args.last.now c.args.stored c.in-Some.shown.text c.in-Some.shown.message.items it.0 it.1 c.admit.ensures.ok
