use Rattle.std.proofs.Common.{ℕ, subst}
use Rattle.abstract_database.specs.Machine.{executes}
use Rattle.abstract_database.specs.Runs.{TheText}
use Rattle.server.specs.Decisions.{machine_at}
use Rattle.server.specs.LockedOut.{TellsAsking}
use Rattle.sessions.specs.Readings.{ReadsText}
use Rattle.sessions.proofs.handler.SessionHandlerEventHandler.asks_for_lock.Goals as goal

pub returns-in-Statement : goal.returns-in-Statement
returns-in-Statement g c = record {
  tells = λ records db holder shown held holds. rw c.in-Statement.is (subst (λ (n : ℕ). TellsAsking ReadsText (machine_at db holder c.args.context.sessions.now.entries) (executes n c.in-Statement.text) c.asks_for_lock.result)
      c.number_in-number.ensures (subst (λ (text : TheText). TellsAsking ReadsText (machine_at db holder c.args.context.sessions.now.entries) (executes c.number_in-number.result text) c.asks_for_lock.result)
      c.as_str.ensures (c.asks_for_lock.ensures records db holder shown held holds)));
}
