use Rattle.std.proofs.Common.{◌∙◌}
use Rattle.postgres_logins.proofs.Steps.{begun_so}
use Rattle.postgres_logins.proofs.login.SaslLogin.begun.Goals as goal

pub returns : goal.returns
returns c =
    begun_so c.begin.result c.args.mock.now _ c.args.role.now c.args.first.now _ c.args.stored c.args.self.now.drawn
    (c.as_bytes-role.ensures.value ∙ c.as_str.ensures) c.lent_text-stored.ensures c.begin.ensures
