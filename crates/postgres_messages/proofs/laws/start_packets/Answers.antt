use Rattle.postgres_messages.proofs.Fronts.{start_found}
use Rattle.postgres_messages.proofs.Starts.{one_packet}
use Rattle.postgres_messages.proofs.laws.start_packets.Goals as goal

pub returns-clause-found : goal.returns-clause-found
returns-clause-found c = start_found

pub returns-clause-one : goal.returns-clause-one
returns-clause-one c = one_packet
