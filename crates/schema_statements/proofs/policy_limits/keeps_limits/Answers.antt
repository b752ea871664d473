use Rattle.std.proofs.Common.{◌&&◌, ◌+◌, nat_le, is_some, sym, ap, ◌∙◌}
use Rattle.abstract_database.specs.Sizes.{policy_size, roles_size, clause_size}
use Rattle.schema_statements.proofs.SizeLemmas.{sums_alike}
use Rattle.schema_statements.proofs.policy_limits.keeps_limits.Goals as goal

pub returns : goal.returns
returns c =
    let p = c.args.policy.now in
    let using = c.clause_size.result in
    let check = c.clause_size-2.result in
    let few = sym c.roles_size.ensures.few ∙ ap is_some c.in-Some.is in
    sums_alike using check c.in-Some.roles c.saturating_add-clauses.result c.saturating_add.result c.in-Some.ensures.small c.saturating_add-clauses.ensures c.saturating_add.ensures
    ∙ ap (λ n. nat_le (3 + n + using + check) 1200) c.in-Some.ensures.size
    ∙ ap (λ n. nat_le (3 + roles_size p.roles + n + check) 1200) c.clause_size.ensures
    ∙ ap (λ n. nat_le (3 + roles_size p.roles + clause_size p.using + n) 1200) c.clause_size-2.ensures
    ∙ sym (ap (λ b. b && nat_le (policy_size p) 1200) few)
