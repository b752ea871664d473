use Rattle.std.proofs.Common.{◌≡◌}
use Rattle.postgres_logins.specs.declared.stage.SaslStage.TheVariants as stage
use Rattle.postgres_logins.proofs.Steps.{hears_so}
use Rattle.postgres_logins.proofs.login.SaslLogin.take_message.Goals as goal

pub returns-in-Starting-clause-ok : goal.returns-in-Starting-clause-ok
returns-in-Starting-clause-ok c =
    let same : c.args.self.now.stage ≡ stage.Starting c.in-Starting.answered = cc (c.in-Starting.ensures.value) in
    hears_so c.take_packet.result c.args.self.now.place c.args.self.now.drawn c.take_packet.new.self c.args.out.now.items c.take_packet.new.out.items c.args.self.now.stage
    (stage.Starting c.in-Starting.answered) c.args.message.now same c.take_packet.ensures.ok

pub returns-in-Offered-clause-ok : goal.returns-in-Offered-clause-ok
returns-in-Offered-clause-ok c =
    let same : c.args.self.now.stage ≡ stage.Offered c.in-Offered.newcomer c.in-Offered.mock c.in-Offered.stored = cc (c.in-Offered.ensures.value) in
    hears_so c.take_first.result c.args.self.now.place c.args.self.now.drawn c.take_first.new.self c.args.out.now.items c.take_first.new.out.items c.args.self.now.stage
    (stage.Offered c.in-Offered.newcomer c.in-Offered.mock c.in-Offered.stored) c.args.message.now same c.take_first.ensures.ok
