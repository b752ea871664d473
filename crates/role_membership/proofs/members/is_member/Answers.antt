use Rattle.std.proofs.Common.{◌≡◌, ◌∙◌, sym}
use Rattle.abstract_database.specs.Roles.{is_in}
use Rattle.abstract_database.proofs.ChainLemmas.{found_role, role_found}
use Rattle.role_membership.proofs.members.is_member.Goals as goal

pub returns-clause-chains : goal.returns-clause-chains
returns-clause-chains c =
    let test : c.contains.result ≡ is_in c.args.memberships.now c.args.role.now c.args.of.now = c.contains.ensures ∙ c.in_ok-roles.ensures.test c.args.of.now in (
      λ e. found_role c.args.memberships.now c.args.role.now c.args.of.now (sym test ∙ e),
      λ is. test ∙ role_found c.args.memberships.now c.args.role.now c.args.of.now is,
    )
