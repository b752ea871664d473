use Rattle.std.proofs.Common.{ℕ, List, length, ap, ◌∙◌, sym, arith}
use Rattle.std.specs.Bool.{◌==◌}
use Rattle.std.proofs.lemmas.Bool.{false≢true}
use Rattle.grant_graph.proofs.Whole.{all_holds, all_found}
use Rattle.catalogue_loading.specs.ValidityChecks.{is_role_of}
use Rattle.catalogue_loading.proofs.Lists.{some_of}
use Rattle.catalogue_loading.proofs.policy_checks.are_policy_roles.Goals as goal

pub returns-then-not-are_roles : goal.returns-then-not-are_roles
returns-then-not-are_roles c = (λ e. cc, λ h. absurd (false≢true (c.if-not-are_roles.ensures ∙ all_holds (is_role_of c.args.catalogue.now.roles) c.args.names.now h.known)))

pub returns : goal.returns
returns c = (
  λ e. record {
    some = some_of c.args.names.now (λ none. false≢true (c.if-is_empty.ensures ∙ ap (λ (xs : List (List ℕ)). length xs == 0) none));
    few = omega (arith, c.if-names-gt-MAX_POLICY_ROLES.false);
    known = all_found (is_role_of c.args.catalogue.now.roles) c.args.names.now (sym c.if-not-are_roles.ensures);
    rising = c.names_rise.ensures.0 e;
  },
  λ h. c.names_rise.ensures.1 h.rising,
)
