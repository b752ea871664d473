use Rattle.std.proofs.Common.{drop}
use Rattle.policy_composer.proofs.Gathering.{Gathers}
use Rattle.policy_composer.proofs.formulas.formula.Given as goal

abbrev pub invariant-loop-policy : goal.invariant-loop-policy
invariant-loop-policy l = Gathers l.roles l.action l.rows l.policies (drop l.policy-index l.policies) l.formula
