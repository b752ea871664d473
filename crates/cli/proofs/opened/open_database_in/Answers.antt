use Rattle.journal_store.specs.DeviceReads.{faithful_under}
use Rattle.cli.proofs.opened.open_database_in.Goals as goal

pub returns-in-Ok-clause-opens : goal.returns-in-Ok-clause-opens
returns-in-Ok-clause-opens g c = c.renew_in.ensures.opens c.args.system.now c.in-Ok.ensures

pub returns-in-Ok-clause-renewed : goal.returns-in-Ok-clause-renewed
returns-in-Ok-clause-renewed g c = λ is. c.renew_in.ensures.renewed (faithful_under c.in-Ok.opened.server.store (c.in-Ok.ensures.is_opened is).sound)
