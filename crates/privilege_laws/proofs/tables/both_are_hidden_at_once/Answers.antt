use Rattle.privilege_laws.proofs.BothHidden.{both_are_hidden}
use Rattle.privilege_laws.proofs.tables.both_are_hidden_at_once.Goals as goal

pub returns : goal.returns
returns c = both_are_hidden
