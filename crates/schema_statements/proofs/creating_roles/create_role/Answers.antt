use Rattle.std.proofs.Common.{None, fold, sym, ap, ◌∙◌, subst, IsUtf8}
use Rattle.sql_types.specs.declared.answer.Answer.TheVariants.{Done}
use Rattle.sql_types.specs.declared.tag.Tag.TheVariants as tag
use Rattle.sql_types.specs.declared.state.SqlState.TheVariants.{DuplicateObject, InsufficientPrivilege}
use Rattle.sql_ast.specs.declared.role.Role.{Role}
use Rattle.abstract_database.specs.Definitions.{with_attribute, no_attributes}
use Rattle.abstract_database.specs.Statements.{create_role}
use Rattle.catalogue.specs.declared.change.SchemaChange.TheVariants as change
use Rattle.catalogue_changes.proofs.DefiningLemmas.{carried_out, refused_by, out_of_memory}
use Rattle.catalogue_changes.proofs.RoleChangeLemmas.{put_role_leads}
use Rattle.catalogue_changes.specs.Carried.{IsCurrent}
use Rattle.schema_statements.proofs.RoleCarrying.{carries}
use Rattle.schema_statements.proofs.RoleStatements.{creates, refused_known, refused_to_create}
use Rattle.schema_statements.proofs.creating_roles.create_role.Goals as goal

pub returns-then-has_role-clause-executes : goal.returns-then-has_role-clause-executes
returns-then-has_role-clause-executes c =
    let s = c.args.statement.now in
    refused_by (IsCurrent c.args.current.now) (λ db users. create_role db users s) c.args.catalogue.now DuplicateObject
    (refused_known c.args.catalogue.now c.args.current.now s (sym c.has_role.ensures ∙ c.if-has_role.true))

pub returns-then-not-is_superuser-clause-executes : goal.returns-then-not-is_superuser-clause-executes
returns-then-not-is_superuser-clause-executes c =
    let s = c.args.statement.now in
    refused_by (IsCurrent c.args.current.now) (λ db users. create_role db users s) c.args.catalogue.now InsufficientPrivilege
    (refused_to_create c.args.catalogue.now c.args.current.now s (sym c.has_role.ensures ∙ c.if-has_role.false) (sym c.is_superuser.ensures ∙ c.if-not-is_superuser.true))

pub returns-clause-executes : goal.returns-clause-executes
returns-clause-executes c =
    let d = c.args.catalogue.now in
    let current = c.args.current.now in
    let s = c.args.statement.now in
    let role : Role = record { name = c.in_ok-try_copy.field-0; attributes = c.attributes_of.result } in
    let free = sym c.has_role.ensures ∙ c.if-has_role.false in
    let allowed = sym c.is_superuser.ensures ∙ c.if-not-is_superuser.false in
    carried_out (IsCurrent current) (λ db users. create_role db users s) d tag.CreateRole None c.new-changes.result c.push_role_put.new.out (change.PutRole role) c.defined.result
    c.defined.ensures c.new-changes.ensures
    (carries (IsCurrent current) (λ db users. create_role db users s) (change.PutRole role) d (Done tag.CreateRole None None) c.new-changes.result c.push_role_put.new.out
    (put_role_leads role) tt c.in_ok-push_role_put.ensures
    (creates d current s role (record { name = c.as_str-name.ensures.name; utf8 = subst IsUtf8 c.as_str-name.ensures.text c.as_str-name.utf8 }) c.in_ok-try_copy.ensures
    (c.attributes_of.ensures ∙ ap (fold with_attribute no_attributes) c.as_slice.ensures) free allowed))
