use Rattle.tenant_laws.proofs.LivesApart.{parts_at_select, told_alike_at_select}
use Rattle.tenant_laws.proofs.lives.lives_part_at_a_select.Goals as goal

pub returns-clause-alike : goal.returns-clause-alike
returns-clause-alike c = told_alike_at_select

pub returns-clause-apart : goal.returns-clause-apart
returns-clause-apart c = parts_at_select
