use Rattle.privilege_laws.proofs.TablesTold.{events_told, runs_told}
use Rattle.privilege_laws.proofs.tables.unreached_tables_tell_nothing.Goals as goal

pub returns-clause-event : goal.returns-clause-event
returns-clause-event c = events_told

pub returns-clause-runs : goal.returns-clause-runs
returns-clause-runs c = runs_told
