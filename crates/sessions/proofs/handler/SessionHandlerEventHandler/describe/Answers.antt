use Rattle.std.proofs.Common.{ℕ, subst}
use Rattle.abstract_database.specs.Descriptions.{IsDescription}
use Rattle.server.specs.Decisions.{machine_at}
use Rattle.sessions.specs.Readings.{ReadsText}
use Rattle.sessions.proofs.handler.SessionHandlerEventHandler.describe.Goals as goal

pub returns : goal.returns
returns g c = record {
  tells = λ records db holder shown held holds. subst (λ (n : ℕ). IsDescription ReadsText (machine_at db holder c.args.context.sessions.now.entries) n c.args.text.now c.describe.result)
      c.number_in.ensures (c.describe.ensures records db holder shown held holds);
}
