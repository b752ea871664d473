use Rattle.std.proofs.Common.{◌≡◌, true, false, ◌∙◌, sym}
use Rattle.std.specs.List.{list_all}
use Rattle.abstract_database.specs.Database.{has_role}
use Rattle.abstract_database.specs.Privileges.{columns_named, has_some_privilege, role_of}
use Rattle.abstract_database.specs.Checks.{grantee_roles}
use Rattle.catalogue.proofs.Grantees.{all_together}
use Rattle.schema_statements.specs.Asking.{asked_by}
use Rattle.schema_statements.specs.PrivilegeUnits.{is_column}
use Rattle.schema_statements.proofs.Checking.{no_role, no_column, no_privilege, all_there}
use Rattle.schema_statements.proofs.privilege_checks.check.Goals as goal

pub returns-then-not-knows_grantees-clause-refused : goal.returns-then-not-knows_grantees-clause-refused
returns-then-not-knows_grantees-clause-refused c =
    let a = c.args.requester in
    let db = asked_by a in
    let grantees = c.args.grantees.now in
    no_role db a.role.now c.args.table.now a.table.now.definition.layout c.args.privileges.now grantees (all_together (has_role db) role_of grantees ∙ sym c.knows_grantees.ensures ∙ c.if-not-knows_grantees.true)

pub returns-then-not-names_columns-clause-refused : goal.returns-then-not-names_columns-clause-refused
returns-then-not-names_columns-clause-refused c =
    let a = c.args.requester in
    let db = asked_by a in
    let ps = c.args.privileges.now in
    let layout = a.table.now.definition.layout in
    let roles : list_all (has_role db) (grantee_roles c.args.grantees.now) ≡ true = all_together (has_role db) role_of c.args.grantees.now ∙ sym c.knows_grantees.ensures ∙ c.if-not-knows_grantees.false in
    let found : c.names_columns.result ≡ list_all (is_column layout) (columns_named ps) = rw c.columns.ensures at c.names_columns.ensures in
    no_column db a.role.now c.args.table.now layout ps c.args.grantees.now roles (sym found ∙ c.if-not-names_columns.true)

pub returns-then-not-has_some-clause-refused : goal.returns-then-not-has_some-clause-refused
returns-then-not-has_some-clause-refused c =
    let a = c.args.requester in
    let db = asked_by a in
    let ps = c.args.privileges.now in
    let layout = a.table.now.definition.layout in
    let roles : list_all (has_role db) (grantee_roles c.args.grantees.now) ≡ true = all_together (has_role db) role_of c.args.grantees.now ∙ sym c.knows_grantees.ensures ∙ c.if-not-knows_grantees.false in
    let found : c.names_columns.result ≡ list_all (is_column layout) (columns_named ps) = rw c.columns.ensures at c.names_columns.ensures in
    let some : has_some_privilege db a.role.now c.args.table.now ≡ false = sym c.has_some.ensures ∙ c.if-not-has_some.true in
    no_privilege db a.role.now c.args.table.now layout ps c.args.grantees.now roles (sym found ∙ c.if-not-names_columns.false) some

pub returns-clause-allowed : goal.returns-clause-allowed
returns-clause-allowed c =
    let a = c.args.requester in
    let db = asked_by a in
    let ps = c.args.privileges.now in
    let layout = a.table.now.definition.layout in
    let roles : list_all (has_role db) (grantee_roles c.args.grantees.now) ≡ true = all_together (has_role db) role_of c.args.grantees.now ∙ sym c.knows_grantees.ensures ∙ c.if-not-knows_grantees.false in
    let found : c.names_columns.result ≡ list_all (is_column layout) (columns_named ps) = rw c.columns.ensures at c.names_columns.ensures in
    let some : has_some_privilege db a.role.now c.args.table.now ≡ true = sym c.has_some.ensures ∙ c.if-not-has_some.false in
    all_there db a.role.now c.args.table.now layout ps c.args.grantees.now roles (sym found ∙ c.if-not-names_columns.false) some
