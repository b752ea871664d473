use Rattle.std.proofs.Common.{◌≡◌, ◌∙◌, List, subst, refl, sym, ap, rules}
use Rattle.sql_ast.specs.declared.role.Membership.{Membership}
use Rattle.abstract_database.specs.Lists.{TheName}
use Rattle.abstract_database.specs.Roles.{is_in}
use Rattle.catalogue.specs.Descriptors.{descriptors_after}
use Rattle.schema_statements.specs.DescriptorChanges.{Fits, with_those, without_those}
use Rattle.schema_statements.specs.PrivilegeStatements.{table_of, tag_of, run_of}
use Rattle.schema_statements.proofs.Finding.{leaves_alone, is_refused_alone, named_as}
use Rattle.schema_statements.proofs.alone.descriptors_changed.Goals as goal

pub returns-in_err-exchanged-clause-refused : goal.returns-in_err-exchanged-clause-refused
returns-in_err-exchanged-clause-refused c =
    let d = c.args.catalogue.now in
    let s = c.args.statement in
    let t = c.args.table.now in
    let refused = is_refused_alone c.args.current.now (run_of s) d (table_of s) t c.requires d.roles refl d.memberships refl t.descriptors refl
    c.in_err-exchanged.field-0.0 c.in_err-exchanged.ensures.refused in
    search rules

pub returns-clause-left : goal.returns-clause-left
returns-clause-left c =
    let d = c.args.catalogue.now in
    let s = c.args.statement in
    let t = c.args.table.now in
    let made = c.in_ok-exchanged.exchanged in
    let after : with_those made.added.items (without_those made.removed.items t.descriptors) ≡ descriptors_after c.in_ok-change.change t.descriptors = sym c.in_ok-change.ensures.after in
    leaves_alone c.args.current.now (run_of s) d (table_of s) t c.requires d.roles refl d.memberships refl t.descriptors refl
    (tag_of s) c.in_ok-exchanged.warning (with_those made.added.items (without_those made.removed.items t.descriptors)) (descriptors_after c.in_ok-change.change t.descriptors) after (λ a. c.in_ok-exchanged.ensures.left a)

pub change_of-requires : goal.change_of-requires
change_of-requires c =
    let t = c.args.table.now in
    let made = c.in_ok-exchanged.exchanged in
    subst (λ (n : TheName). Fits n made.removed.items made.added.items t.descriptors) (named_as c.args.catalogue.now (table_of c.args.statement) t c.requires) c.in_ok-exchanged.ensures.fits

pub exchanged-requires-clause-requester : goal.exchanged-requires-clause-requester
exchanged-requires-clause-requester c = λ s. c.in_ok-roles.ensures.test s ∙ ap (λ (ms : List Membership). is_in ms c.args.current.now s) c.memberships-memberships.ensures.memberships

pub exchanged-requires-clause-table : goal.exchanged-requires-clause-table
exchanged-requires-clause-table c = named_as c.args.catalogue.now (table_of c.args.statement) c.args.table.now c.requires
