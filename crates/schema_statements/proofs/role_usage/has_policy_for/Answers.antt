use Rattle.std.proofs.Common.{sym, ap, ◌∙◌}
use Rattle.std.specs.List.{list_any}
use Rattle.schema_statements.specs.RoleUsage.{is_for_role}
use Rattle.schema_statements.proofs.Using.{any_mapped}
use Rattle.schema_statements.proofs.role_usage.has_policy_for.Goals as goal

pub returns : goal.returns
returns c =
    c.is_named_by_one.ensures
    ∙ sym (any_mapped (is_for_role c.args.role.now) (λ p. p.policy) c.policies.result.now)
    ∙ ap (list_any (is_for_role c.args.role.now)) c.policies.ensures.policies
