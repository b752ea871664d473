use Rattle.std.proofs.Common.{ℕ, subst}
use Rattle.abstract_database.specs.Machine.{executes}
use Rattle.abstract_database.specs.Runs.{TheText}
use Rattle.server.specs.Decisions.{machine_at}
use Rattle.server.specs.LockedOut.{TellsLockedOut}
use Rattle.sessions.specs.Readings.{ReadsText}
use Rattle.sessions.proofs.handler.SessionHandlerEventHandler.is_locked_out.Goals as goal

pub returns-in-Statement : goal.returns-in-Statement
returns-in-Statement g c = record {
  tells = λ records db holder shown held holds. rw c.in-Statement.is (subst (λ (n : ℕ). TellsLockedOut ReadsText (machine_at db holder c.args.context.sessions.now.entries) (executes n c.in-Statement.text) c.is_locked_out.result)
      c.number_in-number.ensures (subst (λ (text : TheText). TellsLockedOut ReadsText (machine_at db holder c.args.context.sessions.now.entries) (executes c.number_in-number.result text) c.is_locked_out.result)
      c.as_str.ensures (c.is_locked_out.ensures records db holder shown held holds)));
}
