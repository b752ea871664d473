use Rattle.client_laws.proofs.Bytes.{bytes_part}
use Rattle.client_laws.proofs.connections.bytes_part_at_exceptions.Goals as goal

pub returns : goal.returns
returns g c = bytes_part g.R.Reader.Reads g.S.Stopping.Leave g.T.Stopping.Leave
