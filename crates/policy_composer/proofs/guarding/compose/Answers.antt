use Rattle.std.proofs.Common.{◌∙◌, subst, sym}
use Rattle.guards.specs.declared.guard.Formula.{Formula}
use Rattle.std.specs.Prelude.{List}
use Rattle.policy_composer.specs.Guarding.{MeansGuard, existing_of, new_of}
use Rattle.policy_composer.proofs.Guards.{existing_unguarded, new_unguarded, existing_guarded, new_guarded}
use Rattle.policy_composer.proofs.guarding.compose.Goals as goal

pub returns-then-not-is_guarded-clause-existing : goal.returns-then-not-is_guarded-clause-existing
returns-then-not-is_guarded-clause-existing c =
    let none = existing_unguarded c.args.catalogue.now c.args.table.now c.args.role.now c.args.roles.now c.requires c.args.action c.args.reads (sym c.is_guarded.ensures ∙ c.if-not-is_guarded.true) in
    subst (λ (fs : List Formula). MeansGuard c.args.catalogue.now c.args.table.now c.args.role.now (existing_of c.args.action c.args.reads) fs) (sym c.new.ensures) none

pub returns-then-not-is_guarded-clause-new : goal.returns-then-not-is_guarded-clause-new
returns-then-not-is_guarded-clause-new c =
    let none = new_unguarded c.args.catalogue.now c.args.table.now c.args.role.now c.args.roles.now c.requires c.args.action c.args.reads (sym c.is_guarded.ensures ∙ c.if-not-is_guarded.true) in
    subst (λ (fs : List Formula). MeansGuard c.args.catalogue.now c.args.table.now c.args.role.now (new_of c.args.action c.args.reads) fs) (sym c.new-then-not-is_guarded.ensures) none

pub returns-clause-existing : goal.returns-clause-existing
returns-clause-existing c =
    existing_guarded c.args.catalogue.now c.args.table.now c.args.role.now c.args.roles.now c.requires
    c.policies-policies.result.now c.policies-policies.ensures.policies c.policies-policies.ensures.bound c.args.action c.args.reads c.in_ok-existing_formulas.field-0
    (sym c.is_guarded.ensures ∙ c.if-not-is_guarded.false) c.in_ok-existing_formulas.ensures

pub returns-clause-new : goal.returns-clause-new
returns-clause-new c =
    new_guarded c.args.catalogue.now c.args.table.now c.args.role.now c.args.roles.now c.requires
    c.policies-policies.result.now c.policies-policies.ensures.policies c.policies-policies.ensures.bound c.args.action c.args.reads c.in_ok-new_formulas.field-0
    (sym c.is_guarded.ensures ∙ c.if-not-is_guarded.false) c.in_ok-new_formulas.ensures
