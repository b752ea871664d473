use Rattle.talks_tests.proofs.Steps.{ends_stay, stands}
use Rattle.talks_tests.proofs.line.MemoryClient.hear.Goals as goal

pub returns-in-Nothing-clause-goes_on : goal.returns-in-Nothing-clause-goes_on
returns-in-Nothing-clause-goes_on g c = stands g.T.Talk _ _ _ _ _ (ends_stay c.args.self.now.end_cause)
