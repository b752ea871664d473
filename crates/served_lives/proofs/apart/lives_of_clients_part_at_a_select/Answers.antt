use Rattle.served_lives.proofs.ServedLivesApart.{lives_meet, parts_at_select}
use Rattle.served_lives.proofs.apart.lives_of_clients_part_at_a_select.Goals as goal

pub returns-clause-alike : goal.returns-clause-alike
returns-clause-alike c = lives_meet

pub returns-clause-apart : goal.returns-clause-apart
returns-clause-apart c = parts_at_select
