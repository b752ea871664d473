use Rattle.std.proofs.Common.{None, sym, ◌∙◌, subst}
use Rattle.sql_types.specs.declared.answer.Answer.TheVariants.{Done}
use Rattle.sql_types.specs.declared.tag.Tag.TheVariants as tag
use Rattle.sql_types.specs.declared.state.SqlState.TheVariants.{UndefinedObject, InsufficientPrivilege, DependentObjects}
use Rattle.abstract_database.specs.Lists.{TheName}
use Rattle.abstract_database.specs.Statements.{drop_role}
use Rattle.catalogue.specs.declared.change.SchemaChange.TheVariants as change
use Rattle.catalogue.specs.Changes.{changed}
use Rattle.catalogue_changes.proofs.DefiningLemmas.{carried_out, refused_by}
use Rattle.catalogue_changes.proofs.RoleChangeLemmas.{drop_role_leads}
use Rattle.catalogue_changes.specs.Carried.{AreUsers, Carries}
use Rattle.schema_statements.proofs.RoleCarrying.{carries}
use Rattle.schema_statements.proofs.RoleStatements.{refused_unknown, refused_to_drop, refused_in_use, drops}
use Rattle.schema_statements.proofs.dropping_roles.drop_role.Goals as goal

pub returns-then-not-has_role-clause-executes : goal.returns-then-not-has_role-clause-executes
returns-then-not-has_role-clause-executes c =
    let s = c.args.statement.now in
    refused_by (AreUsers c.args.current.now c.args.session.now) (λ db users. drop_role db users s) c.args.catalogue.now UndefinedObject
    (refused_unknown c.args.catalogue.now c.args.current.now c.args.session.now s (sym c.has_role.ensures ∙ c.if-not-has_role.true))

pub returns-then-not-is_superuser-clause-executes : goal.returns-then-not-is_superuser-clause-executes
returns-then-not-is_superuser-clause-executes c =
    let s = c.args.statement.now in
    let there = sym c.has_role.ensures ∙ c.if-not-has_role.false in
    refused_by (AreUsers c.args.current.now c.args.session.now) (λ db users. drop_role db users s) c.args.catalogue.now InsufficientPrivilege
    (refused_to_drop c.args.catalogue.now c.args.current.now c.args.session.now s there (sym c.is_superuser.ensures ∙ c.if-not-is_superuser.true))

pub returns-then-must_stay-clause-executes : goal.returns-then-must_stay-clause-executes
returns-then-must_stay-clause-executes c =
    let s = c.args.statement.now in
    let there = sym c.has_role.ensures ∙ c.if-not-has_role.false in
    let allowed = sym c.is_superuser.ensures ∙ c.if-not-is_superuser.false in
    refused_by (AreUsers c.args.current.now c.args.session.now) (λ db users. drop_role db users s) c.args.catalogue.now DependentObjects
    (refused_in_use c.args.catalogue.now c.args.current.now c.args.session.now s there allowed (sym c.must_stay.ensures ∙ c.if-must_stay.true))

pub returns-clause-executes : goal.returns-clause-executes
returns-clause-executes c =
    let d = c.args.catalogue.now in
    let current = c.args.current.now in
    let session = c.args.session.now in
    let s = c.args.statement.now in
    let there = sym c.has_role.ensures ∙ c.if-not-has_role.false in
    let allowed = sym c.is_superuser.ensures ∙ c.if-not-is_superuser.false in
    carried_out (AreUsers current session) (λ db users. drop_role db users s) d tag.DropRole None c.new-changes.result c.push_role_drop.new.out (change.DropRole c.in_ok-try_copy.field-0) c.defined.result
    c.defined.ensures c.new-changes.ensures
    (subst (λ (name : TheName). Carries (AreUsers current session) (λ db users. drop_role db users s) d (Done tag.DropRole None None) (changed (change.DropRole name) d) c.new-changes.result c.push_role_drop.new.out) (sym c.in_ok-try_copy.ensures)
    (carries (AreUsers current session) (λ db users. drop_role db users s) (change.DropRole s.role) d (Done tag.DropRole None None) c.new-changes.result c.push_role_drop.new.out
    (drop_role_leads s.role) tt c.in_ok-push_role_drop.ensures
    (drops d current session s there allowed (sym c.must_stay.ensures ∙ c.if-must_stay.false))))
