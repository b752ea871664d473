use Rattle.protocol_laws.proofs.ToldBeginnings.{process_as_told}
use Rattle.protocol_laws.proofs.telling.processes_are_told.Goals as goal

pub returns : goal.returns
returns c = process_as_told
