use Rattle.std.proofs.Common.{◌∙◌, ◌||◌, Bool, sym, ap}
use Rattle.std.specs.List.{list_any}
use Rattle.catalogue.specs.Grants.{is_for}
use Rattle.schema_statements.proofs.Asking.{some_asked}
use Rattle.schema_statements.proofs.privilege_checks.is_reached.Goals as goal

pub returns-then-names_grantee : goal.returns-then-names_grantee
returns-then-names_grantee c =
    let a = c.args.requester in
    let t = a.table.now in
    let own = c.descriptors-own.ensures.order.descriptors in
    let asked = some_asked a.catalogue.now.memberships a.role.now t.definition.name a.roles.now c.requires t.descriptors own c.names_grantee.ensures.named c.names-names.result.now c.names-names.ensures in
    c.if-names_grantee.true
    ∙ sym (ap (λ (b : Bool). b || list_any (λ name. list_any (is_for name.now) t.descriptors) c.names-names.result.now) (sym c.names_grantee.ensures.names ∙ c.if-names_grantee.true)) ∙ asked

pub returns-else-names_grantee : goal.returns-else-names_grantee
returns-else-names_grantee c =
    let a = c.args.requester in
    let t = a.table.now in
    let own = c.descriptors-own.ensures.order.descriptors in
    let asked = some_asked a.catalogue.now.memberships a.role.now t.definition.name a.roles.now c.requires t.descriptors own c.names_grantee.ensures.named c.names-names.result.now c.names-names.ensures in
    c.names_any.ensures
    ∙ sym (ap (λ (b : Bool). b || list_any (λ name. list_any (is_for name.now) t.descriptors) c.names-names.result.now) (sym c.names_grantee.ensures.names ∙ c.if-names_grantee.false)) ∙ asked
