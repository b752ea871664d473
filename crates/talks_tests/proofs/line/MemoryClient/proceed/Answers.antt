use Rattle.talks_tests.proofs.Steps.{ends_stay, stands}
use Rattle.talks_tests.proofs.line.MemoryClient.proceed.Goals as goal

pub returns-then-is_some-clause-goes_on : goal.returns-then-is_some-clause-goes_on
returns-then-is_some-clause-goes_on g c = stands g.T.Talk _ _ _ _ _ (ends_stay c.args.self.now.end_cause)
