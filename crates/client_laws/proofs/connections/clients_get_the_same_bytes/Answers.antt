use Rattle.client_laws.proofs.Bytes.{same_bytes, bytes_placed}
use Rattle.client_laws.proofs.connections.clients_get_the_same_bytes.Goals as goal

pub returns-clause-bytes : goal.returns-clause-bytes
returns-clause-bytes g c = same_bytes g.R.Reader.Reads g.S.Stopping.Leave g.T.Stopping.Leave

pub returns-clause-places : goal.returns-clause-places
returns-clause-places g c = bytes_placed
