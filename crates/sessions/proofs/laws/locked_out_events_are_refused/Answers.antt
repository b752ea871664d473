use Rattle.sessions.specs.Readings.{ReadsText}
use Rattle.sessions.proofs.WriterLock.{locked_out_is_refused}
use Rattle.sessions.proofs.laws.locked_out_events_are_refused.Goals as goal

pub returns : goal.returns
returns c = locked_out_is_refused ReadsText
