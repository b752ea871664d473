use Rattle.std.proofs.Common.{sym, ap, ◌∙◌}
use Rattle.std.specs.List.{list_all}
use Rattle.catalogue_loading.specs.ValidityChecks.{is_of_roles}
use Rattle.catalogue_loading.proofs.Cycles.{not_of_roles, whole_memberships}
use Rattle.catalogue_loading.proofs.membership_checks.are_whole_memberships.Goals as goal

pub returns-then-not-are_of_roles : goal.returns-then-not-are_of_roles
returns-then-not-are_of_roles c = (λ e. cc, λ h. absurd (not_of_roles c.args.catalogue.now.roles c.args.memberships.now (sym (c.if-not-are_of_roles.ensures ∙ ap (list_all (is_of_roles c.args.catalogue.now.roles)) c.as_slice.ensures.items)) h))

pub returns : goal.returns
returns c = whole_memberships c.args.catalogue.now.roles c.args.memberships.now (sym (c.if-not-are_of_roles.ensures ∙ ap (list_all (is_of_roles c.args.catalogue.now.roles)) c.as_slice.ensures.items)) c.in_ok-have_cycle.field-0 c.in_ok-have_cycle.ensures
