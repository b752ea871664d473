use Rattle.std.proofs.Common.{ap}
use Rattle.postgres_logins.specs.Logins.{AnswersFinal, is_let_in}
use Rattle.postgres_logins.specs.Sayings.{last_said}
use Rattle.postgres_logins.proofs.Steps.{says_this}
use Rattle.postgres_logins.proofs.login.SaslLogin.let_in.Goals as goal

pub returns-in-Some-clause-ok : goal.returns-in-Some-clause-ok
returns-in-Some-clause-ok c =
    let it = rw c.in-Some.is at c.in_ok-shown.ensures in
    says_this c.admit.result c.args.out.now.items c.admit.new.out.items _
    (λ said. AnswersFinal c.args.self.now.place c.args.self.now.drawn c.args.newcomer c.args.exchange.now c.args.last.now c.args.stored said c.admit.new.self)
    (last_said c.in-Some.shown.message.items) (λ so. is_let_in c.in-Some.shown.text it.0 (ap last_said it.1) so) c.admit.ensures.ok
