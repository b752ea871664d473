use Rattle.wire.proofs.Readings.{same_request}
use Rattle.wire.proofs.script_line.one_request.Goals as goal

pub returns : goal.returns
returns c = same_request
