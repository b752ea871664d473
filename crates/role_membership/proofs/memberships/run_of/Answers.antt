use Rattle.std.proofs.Common.{◌∙◌, List, filter, not, sym, ap, subst}
use Rattle.std.specs.Ordering.{is_lt, is_le}
use Rattle.sql_ast.specs.declared.role.Membership.{Membership}
use Rattle.abstract_database.specs.Lists.{name_cmp}
use Rattle.role_membership.specs.Index.{AreByMember}
use Rattle.role_membership.proofs.Runs.{by_member_kept, run_is}
use Rattle.role_membership.proofs.memberships.run_of.Goals as goal

pub run_up_to-requires : goal.run_up_to-requires
run_up_to-requires c = subst AreByMember (sym c.run_from.ensures) (by_member_kept (λ (m : Membership). not (is_lt (name_cmp m.member c.args.member.now))) c.args.by_member.now c.requires)

pub returns : goal.returns
returns c =
    c.run_up_to.ensures ∙ ap (λ (ms : List Membership). filter (λ m. is_le (name_cmp m.member c.args.member.now)) ms) c.run_from.ensures
    ∙ run_is c.args.member.now c.args.by_member.now
