use Rattle.database_laws.proofs.PatternInstance.{parts_at_select}
use Rattle.database_laws.proofs.patterns.patterns_leave_answers_open.Goals as goal

pub returns : goal.returns
returns c = parts_at_select
