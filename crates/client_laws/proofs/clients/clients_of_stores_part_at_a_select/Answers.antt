use Rattle.client_laws.proofs.StoresApart.{stores_meet_the_premises, stores_part_at_select, bytes_part_at_select}
use Rattle.client_laws.proofs.clients.clients_of_stores_part_at_a_select.Goals as goal

pub returns-clause-alike : goal.returns-clause-alike
returns-clause-alike c = stores_meet_the_premises

pub returns-clause-apart : goal.returns-clause-apart
returns-clause-apart c = stores_part_at_select

pub returns-clause-bytes : goal.returns-clause-bytes
returns-clause-bytes c = bytes_part_at_select
