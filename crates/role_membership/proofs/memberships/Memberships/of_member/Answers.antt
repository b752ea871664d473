use Rattle.std.proofs.Common.{◌∙◌, ◌&&◌, sym, ap, subst}
use Rattle.std.specs.List.{list_any}
use Rattle.abstract_database.specs.Roles.{is_of_member}
use Rattle.role_membership.specs.Index.{AreByMember}
use Rattle.role_membership.proofs.Runs.{any_kept}
use Rattle.role_membership.proofs.memberships.Memberships.of_member.Goals as goal

pub run_of-requires : goal.run_of-requires
run_of-requires c = subst AreByMember (sym c.as_slice.ensures.value) c.self.invariant.members

pub returns : goal.returns
returns c = λ test.
    let own = is_of_member c.args.member.now in
    ap (list_any test) c.run_of.ensures ∙ any_kept own test c.as_slice.result.now
    ∙ ap (list_any (λ m. own m && test m)) c.as_slice.ensures.value
    ∙ c.self.invariant.same (λ m. own m && test m) ∙ ap (list_any (λ m. own m && test m)) c.self.view_is
