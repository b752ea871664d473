use Rattle.std.proofs.Common.{◌&&◌, map, drop}
use Rattle.expressions.specs.Rows.{names_of}
use Rattle.key_ranges.specs.BoxCode.{role_names}
use Rattle.policy_composer.specs.Formulas.{applies}
use Rattle.statement_explanations.specs.Explanations.{policy_bounding, policy_told, same_kind}
use Rattle.statement_explanations.proofs.Telling.{Tells}
use Rattle.statement_explanations.proofs.policies.PolicySearch.push_kind.Given as goal

abbrev pub invariant-loop-policy : goal.invariant-loop-policy
invariant-loop-policy l =
    let t = l.self.table.now in
    Tells (λ p. applies l.self.roles.now l.action p.policy && same_kind l.kind p.policy.kind)
    (λ p. (p, l.action, policy_bounding t.id t.definition.layout (names_of l.self.users.now) (role_names l.self.users.now) l.action p))
    (map policy_told l.fn.told) l.policies (drop l.policy-index l.policies) (map policy_told l.told)
