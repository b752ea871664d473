use Rattle.talks_tests.proofs.Steps.{ends_stay, stands}
use Rattle.talks_tests.proofs.line.MemoryClient.advance.Goals as goal

pub returns-then-is_step-clause-goes_on : goal.returns-then-is_step-clause-goes_on
returns-then-is_step-clause-goes_on g c = stands g.T.Talk _ _ _ _ _ (ends_stay c.args.self.now.end_cause)

pub returns-then-is_question-clause-goes_on : goal.returns-then-is_question-clause-goes_on
returns-then-is_question-clause-goes_on g c = stands g.T.Talk _ _ _ _ _ (ends_stay c.args.self.now.end_cause)

pub returns-else-is_message-clause-goes_on : goal.returns-else-is_message-clause-goes_on
returns-else-is_message-clause-goes_on g c = stands g.T.Talk _ _ _ _ _ (ends_stay c.args.self.now.end_cause)
