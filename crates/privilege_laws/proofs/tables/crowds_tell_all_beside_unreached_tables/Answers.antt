use Rattle.privilege_laws.proofs.PatternsTold.{crowds_tell}
use Rattle.privilege_laws.proofs.tables.crowds_tell_all_beside_unreached_tables.Goals as goal

pub returns : goal.returns
returns c = crowds_tell
