use Rattle.std.proofs.Common.{◌∙◌, rules}
use Rattle.std.specs.Ordering.{is_lt}
use Rattle.std.proofs.lemmas.List.Sorted.{IsPartitionPoint-from_clause}
use Rattle.sql_ast.specs.declared.role.Membership.{Membership}
use Rattle.abstract_database.specs.Lists.{name_cmp}
use Rattle.role_membership.proofs.Runs.{before_first, from_search}
use Rattle.role_membership.proofs.memberships.run_from.Goals as goal

pub returns : goal.returns
returns c =
    let test = λ (m : Membership). is_lt (name_cmp m.member c.args.member.now) in
    let point = IsPartitionPoint-from_clause test _ _ c.partition_point-start.ensures.partitioned (before_first c.args.member.now c.args.by_member.now c.requires) (λ a r q k. search rules) in
    c.split_at.ensures.back ∙ from_search test c.args.by_member.now c.partition_point-start.result point
