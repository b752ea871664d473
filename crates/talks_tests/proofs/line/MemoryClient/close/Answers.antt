use Rattle.talks_tests.proofs.Steps.{closes}
use Rattle.talks_tests.proofs.line.MemoryClient.close.Goals as goal

pub returns-clause-passed : goal.returns-clause-passed
returns-clause-passed g c = closes g.T.Talk c.args.self.now c.requires
