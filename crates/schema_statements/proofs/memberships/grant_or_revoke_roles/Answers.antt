use Rattle.std.proofs.Common.{None, ap, ◌∙◌}
use Rattle.sql_types.specs.declared.answer.Answer.TheVariants.{Done}
use Rattle.sql_types.specs.declared.tag.Tag.{Tag}
use Rattle.catalogue.specs.declared.change.SchemaChange.TheVariants as change
use Rattle.catalogue_changes.specs.Carried.{IsCurrent}
use Rattle.catalogue_changes.specs.Defined.{effect_defined}
use Rattle.catalogue_changes.proofs.DefiningLemmas.{carried_out, handed_on, handed_on_fails}
use Rattle.catalogue_changes.proofs.RoleChangeLemmas.{set_memberships_leads}
use Rattle.schema_statements.specs.MembershipStatements.{tag_of, run_of}
use Rattle.schema_statements.proofs.RoleCarrying.{carries}
use Rattle.schema_statements.proofs.MembershipStatements.{sets, refused}
use Rattle.schema_statements.proofs.memberships.grant_or_revoke_roles.Goals as goal

pub returns-in_err-next-clause-memory : goal.returns-in_err-next-clause-memory
returns-in_err-next-clause-memory c = handed_on_fails c.in_err-next.field-0.0 c.from_residual.result c.from_residual.ensures.1

pub returns-in_err-next-clause-executes : goal.returns-in_err-next-clause-executes
returns-in_err-next-clause-executes c =
    handed_on (IsCurrent c.args.current.now) (run_of c.args.statement) c.args.catalogue.now c.in_err-next.field-0.0 c.from_residual.result c.from_residual.ensures.1
    (refused c.args.statement c.args.catalogue.now c.args.current.now c.in_err-next.field-0.0 c.in_err-next.ensures.refused)

pub returns-clause-executes : goal.returns-clause-executes
returns-clause-executes c =
    let d = c.args.catalogue.now in
    let s = c.args.statement in
    let who = IsCurrent c.args.current.now in
    let next = c.in_ok-next.next in
    let new = c.push_memberships.new.out in
    carried_out who (run_of s) d (tag_of s) None c.new-changes.result new (change.SetMemberships next) c.defined.result
    (c.defined.ensures ∙ ap (λ (a : Tag). effect_defined a None new (change.SetMemberships next)) c.tag.ensures) c.new-changes.ensures
    (carries who (run_of s) (change.SetMemberships next) d (Done (tag_of s) None None) c.new-changes.result new
    (set_memberships_leads next) tt c.in_ok-push_memberships.ensures
    (sets s d c.args.current.now next c.in_ok-next.ensures.set))
