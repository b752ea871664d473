use Rattle.std.proofs.Common.{rules, []}
use Rattle.talks_tests.proofs.Steps.{ends_none, ends_stay, stands}
use Rattle.talks_tests.proofs.line.MemoryClient.end_as.Goals as goal

pub returns-then-is_same-clause-goes_on : goal.returns-then-is_same-clause-goes_on
returns-then-is_same-clause-goes_on g c = stands g.T.Talk _ _ _ _ _ (ends_stay c.args.self.now.end_cause)

pub returns-else-is_same-clause-goes_on : goal.returns-else-is_same-clause-goes_on
returns-else-is_same-clause-goes_on g c = stands g.T.Talk _ _ _ _ _ (ends_stay c.args.self.now.end_cause)

pub returns-in-None-clause-goes_on : goal.returns-in-None-clause-goes_on
returns-in-None-clause-goes_on g c = stands g.T.Talk _ _ _ _ _ (ends_none c.args.self.now.end_cause _ [] (search rules))
