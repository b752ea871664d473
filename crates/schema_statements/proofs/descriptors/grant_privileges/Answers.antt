use Rattle.std.proofs.Common.{◌∙◌, Option, Ok, List, ap, sym, subst, inl, inr, ⊎_elim}
use Rattle.sql_types.specs.declared.tag.Tag.TheVariants as tag
use Rattle.sql_types.specs.declared.warning.Warning.{Warning}
use Rattle.sql_ast.specs.declared.privilege.Descriptor.{Descriptor}
use Rattle.abstract_database.specs.Lists.{TheName}
use Rattle.abstract_database.specs.Privileges.{privileges_of}
use Rattle.abstract_database.specs.Whole.{Each}
use Rattle.catalogue.specs.Descriptors.{IsForTable}
use Rattle.schema_statements.specs.DescriptorChanges.{with_those}
use Rattle.schema_statements.specs.PrivilegeDescriptors.{database_in, carried_out}
use Rattle.schema_statements.specs.Asking.{asked_by}
use Rattle.schema_statements.proofs.Coming.{come_leads}
use Rattle.schema_statements.proofs.Fitting.{fits_granted, named_own}
use Rattle.schema_statements.proofs.Effects.{fails, named_rise, grant_refused, grant_done}
use Rattle.schema_statements.proofs.descriptors.grant_privileges.Goals as goal

pub returns-in_err-named-clause-refused : goal.returns-in_err-named-clause-refused
returns-in_err-named-clause-refused c =
    let s = c.args.statement.now in
    let d = c.args.requester.catalogue.now in
    let t = c.args.requester.table.now in
    fails c.from_residual.result c.in_err-named.field-0.0 _ c.from_residual.ensures.1
    (⊎_elim (λ memory. inl memory)
    (λ e. inr (λ around.
    grant_refused d.roles d.memberships t.descriptors s.table t.definition c.args.requester.role.now around s.privileges s.grantees s.with_grant_option _ e))
    c.in_err-named.ensures.refused)

pub returns-clause-granted : goal.returns-clause-granted
returns-clause-granted c = λ around.
    let s = c.args.statement.now in
    let d = c.args.requester.catalogue.now in
    let t = c.args.requester.table.now in
    let named = c.in_ok-named.named.descriptors.items in
    let new = with_those c.in_ok-added.added.items t.descriptors in
    let rising = named_rise _ _ _ _ _ _ _ c.in_ok-named.ensures.named in
    -- the descriptors of the table rise: a clause of `TableDefinition::descriptors`
    grant_done d.roles d.memberships t.descriptors s.table t.definition c.args.requester.role.now around s.privileges s.grantees s.with_grant_option
    c.in_ok-named.named new c.in_ok-named.ensures.named c.in_ok-named.ensures.allowed c.descriptors-own.ensures.order.descriptor_order
    (ap (λ (l : List Descriptor). with_those l t.descriptors) c.in_ok-added.ensures ∙ come_leads t.descriptors named c.descriptors-own.ensures.order.descriptor_order rising)
    ∙ ap (λ (w : Option Warning). Ok (carried_out tag.Grant w (database_in around d.roles d.memberships new))) (sym c.warning_if.ensures)

pub returns-clause-fits : goal.returns-clause-fits
returns-clause-fits c =
    let s = c.args.statement.now in
    let t = c.args.requester.table.now in
    let named = c.in_ok-named.named.descriptors.items in
    let is = c.in_ok-named.ensures.named in
    let for_it = named_own (asked_by c.args.requester) c.args.requester.role.now t.definition (privileges_of t.definition.layout s.privileges) s.grantees s.with_grant_option named is.descriptors in
    let own : Each (IsForTable s.table) named = subst (λ (n : TheName). Each (IsForTable n) named) (sym c.requires.table) for_it in
    rw c.in_ok-added.ensures (fits_granted t.descriptors c.descriptors-own.ensures.order.descriptor_order s.table named (named_rise _ _ _ _ _ _ _ is) own)
