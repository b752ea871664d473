use Rattle.std.proofs.Common.{◌∙◌, Option, Ok, List, ap, sym, inl, inr, ⊎_elim}
use Rattle.sql_types.specs.declared.tag.Tag.TheVariants as tag
use Rattle.sql_types.specs.declared.warning.Warning.{Warning}
use Rattle.sql_ast.specs.declared.privilege.Descriptor.{Descriptor}
use Rattle.schema_statements.specs.DescriptorChanges.{with_those, without_those, cleared_of}
use Rattle.schema_statements.specs.PrivilegeDescriptors.{database_in, carried_out}
use Rattle.schema_statements.proofs.Effects.{fails, revoke_refused, revoke_depends, revoke_done}
use Rattle.abstract_database.specs.Privileges.{is_taken_by}
use Rattle.catalogue.specs.Descriptors.{IsForTable}
use Rattle.abstract_database.specs.Whole.{Each}
use Rattle.schema_statements.proofs.Fitting.{fits_taken}
use Rattle.schema_statements.proofs.RevocationMarks.{taking_leads}
use Rattle.schema_statements.proofs.descriptors.revoke_privileges.Goals as goal

pub returns-in_err-named-clause-refused : goal.returns-in_err-named-clause-refused
returns-in_err-named-clause-refused c =
    let s = c.args.statement.now in
    let d = c.args.requester.catalogue.now in
    let t = c.args.requester.table.now in
    fails c.from_residual.result c.in_err-named.field-0.0 _ c.from_residual.ensures.1
    (⊎_elim (λ memory. inl memory)
    (λ e. inr (λ around.
    revoke_refused d.roles d.memberships t.descriptors s.table t.definition c.args.requester.role.now around s.grant_option_for s.privileges s.grantees s.behavior _ e))
    c.in_err-named.ensures.refused)

pub returns-in_err-taking-clause-refused : goal.returns-in_err-taking-clause-refused
returns-in_err-taking-clause-refused c =
    let s = c.args.statement.now in
    let d = c.args.requester.catalogue.now in
    let t = c.args.requester.table.now in
    fails c.from_residual-in_err-taking.result c.in_err-taking.field-0.0 _ c.from_residual-in_err-taking.ensures.1
    (⊎_elim (λ memory. inl memory)
    (λ e. inr (λ around.
    revoke_depends d.roles d.memberships t.descriptors s.table t.definition c.args.requester.role.now around s.grant_option_for s.privileges s.grantees s.behavior
    c.in_ok-named.named _ c.in_ok-named.ensures.named c.in_ok-named.ensures.allowed e))
    (rw (c.as_slice.ensures.value, c.descriptors-descriptors.ensures.descriptors) at c.in_err-taking.ensures.refused))

pub returns-clause-revoked : goal.returns-clause-revoked
returns-clause-revoked c = λ around.
    let s = c.args.statement.now in
    let d = c.args.requester.catalogue.now in
    let t = c.args.requester.table.now in
    let takes = rw (c.as_slice.ensures.value, c.descriptors-descriptors.ensures.descriptors) at c.in_ok-taking.ensures.taking in
    let taken = c.in_ok-taken.taken in
    let by = rw c.descriptors-descriptors.ensures.descriptors at c.in_ok-taken.ensures in
    let new = with_those taken.added.items (without_those taken.removed.items t.descriptors) in
    let left = taking_leads (is_taken_by c.in_ok-named.named.descriptors.items) s.grant_option_for takes.stays _ _ t.descriptors c.descriptors-descriptors.ensures.order.descriptor_order takes.named takes.staying in
    -- new is what `taking_leads` says, by the two clauses of `what_is_taken`
    revoke_done d.roles d.memberships t.descriptors s.table t.definition c.args.requester.role.now around s.grant_option_for s.privileges s.grantees s.behavior
    c.in_ok-named.named new c.in_ok-named.ensures.named c.in_ok-named.ensures.allowed
    (takes.left ∙ ap (λ (l : List Descriptor). Ok l) (sym (
    ap (λ (l : List Descriptor). with_those l (without_those taken.removed.items t.descriptors)) by.added
    ∙ ap (λ (l : List Descriptor). with_those (cleared_of s.grant_option_for c.in_ok-taking.taking.named.items c.in_ok-taking.taking.staying.items t.descriptors) (without_those l t.descriptors)) by.removed ∙ left)))
    ∙ ap (λ (w : Option Warning). Ok (carried_out tag.Revoke w (database_in around d.roles d.memberships new))) (sym c.warning_if.ensures)

pub returns-clause-fits : goal.returns-clause-fits
returns-clause-fits c =
    let t = c.args.requester.table.now in
    let taking = c.in_ok-taking.taking in
    let held = c.descriptors-descriptors.ensures in
    let own : Each (IsForTable c.args.statement.now.table) t.descriptors = rw c.requires.table held.order.descriptors in
    let fits = fits_taken c.args.statement.now.grant_option_for c.args.statement.now.table taking.named.items taking.staying.items t.descriptors held.order.descriptor_order own in
    let taken = c.in_ok-taken.ensures in
    rw (taken.removed, taken.added, held.descriptors) fits
