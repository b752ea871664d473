use Rattle.std.proofs.Common.{◌≡◌, ◌∙◌, List, ap, refl, subst, sym}
use Rattle.expressions.specs.Meaning.{UserNames}
use Rattle.expressions.specs.Rows.{names_of}
use Rattle.key_ranges.specs.BoxCode.{role_names}
use Rattle.key_ranges.specs.Boxes.{AreRolesFor}
use Rattle.key_ranges.proofs.TableRanges.{own_roles}
use Rattle.row_statements.specs.Users.{roles_of, seen_users}
use Rattle.row_statements.specs.declared.ranges.RangedSource.{RangedSource}
use Rattle.row_statements.proofs.Acting.{in_definitions}
use Rattle.statement_explanations.specs.declared.explanation.TableExplanation.{TableExplanation}
use Rattle.statement_explanations.specs.Explanations.{AreTablesExplained}
use Rattle.statement_explanations.proofs.Telling.{explained_by, ranges_in, sources_in}
use Rattle.statement_explanations.proofs.explained.explain_plan.Goals as goal

pub explain_tables-requires : goal.explain_tables-requires
explain_tables-requires c =
    let d = c.args.roles.catalogue.now in
    let current = c.args.roles.current.now in
    let s = c.args.statement.now in
    let p = c.args.plan.now in
    let acts = c.users_of-users.ensures d.memberships (in_definitions d current s p _ c.requires c.roles_of.ensures) in
    record { roles = in_definitions d current s p (roles_of p) c.requires refl; users = ap (λ (u : UserNames). u.current) acts }

pub print_tables-requires : goal.print_tables-requires
print_tables-requires c =
    let d = c.args.roles.catalogue.now in
    let current = c.args.roles.current.now in
    let session = c.args.roles.session.now in
    let s = c.args.statement.now in
    let p = c.args.plan.now in
    let users = c.users_of-users.result in
    let seen = seen_users d.memberships current session in
    let acts : names_of users ≡ seen = c.users_of-users.ensures d.memberships (in_definitions d current s p _ c.requires c.roles_of.ensures) in
    let ranged : List RangedSource = c.as_slice.result.now in
    let told : List TableExplanation = c.as_slice-2.result.now in
    let tables = subst (λ (l : List TableExplanation). AreTablesExplained d (names_of users) (role_names users) p 0 (sources_in ranged) (ranges_in ranged) l) (sym c.as_slice-2.ensures) c.in_ok-told.ensures in
    record {
      roles = role_names users;
      are_roles = subst (λ (u : UserNames). AreRolesFor u (role_names users)) acts (own_roles users);
      explained = explained_by d (names_of users) seen (role_names users) p ranged told acts (ap sources_in c.as_slice.ensures ∙ c.in_ok-ranged.ensures.sources) (ap ranges_in c.as_slice.ensures ∙ c.in_ok-ranged.ensures.ranges) tables;
    }
