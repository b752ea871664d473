use Rattle.std.proofs.Common.{◌≤◌, ◌↔◌, IsTrue, List, length, refl, sym, subst, arith}
use Rattle.std.proofs.lemmas.Bool.{false≢true}
use Rattle.sql_ast.specs.declared.role.Membership.{Membership}
use Rattle.abstract_database.specs.Whole.{Each, IsWholeRole, IsWholeMembership, max_tables}
use Rattle.stored_database.specs.Definitions.{TableDefinition}
use Rattle.stored_database.specs.Valid.{AreValid}
use Rattle.catalogue_loading.specs.ValidityParts.{AreNumbered, IsWholeDefinition}
use Rattle.catalogue_loading.proofs.Lists.{if_ok_more, not_true}
use Rattle.catalogue_loading.proofs.Valid.{parts_of_valid, valid_of_parts}
use Rattle.catalogue_loading.proofs.validity.are_valid.Goals as goal

pub returns-then-not-are_numbered : goal.returns-then-not-are_numbered
returns-then-not-are_numbered c = λ s o. (
  λ e. cc,
  λ v. absurd (false≢true (c.if-not-are_numbered.ensures.1 (subst AreNumbered (sym c.tables-tables.ensures.tables) (parts_of_valid c.args.catalogue.now v).numbers))),
)

pub returns-then-not-branch : goal.returns-then-not-branch
returns-then-not-branch c = λ s o. (
  λ e. cc,
  λ v. absurd (not_true _ c.in_ok-are_whole_memberships.field-0 c.if-not-branch.true c.in_ok-are_whole_memberships.ensures
      (subst (λ (ms : List Membership). Each (IsWholeMembership c.args.catalogue.now.roles ms) ms) (sym c.memberships.ensures.memberships) (parts_of_valid c.args.catalogue.now v).memberships)),
)

pub returns : goal.returns
returns c = λ s o.
    let d = c.args.catalogue.now in
    if_ok_more (λ b. IsTrue b ↔ Each (IsWholeDefinition d.roles) c.tables-tables.result.now) (λ b. IsTrue b ↔ AreValid d) c.are_whole_definitions.result
    (λ b iff. (
      λ e. valid_of_parts c.tokens_are_readable.ensures d s o (record {
        roles = subst (Each IsWholeRole) c.roles.ensures.roles c.know_roles.ensures;
        few = subst (λ (ts : List TableDefinition). length ts ≤ max_tables) c.tables-tables.ensures.tables (omega (arith, c.if-tables-gt-MAX_TABLES.false));
        numbers = subst AreNumbered c.tables-tables.ensures.tables (c.if-not-are_numbered.ensures.0 refl);
        memberships = subst (λ (ms : List Membership). Each (IsWholeMembership d.roles ms) ms) c.memberships.ensures.memberships (c.in_ok-are_whole_memberships.ensures.0 c.if-not-branch.false);
        tables = subst (Each (IsWholeDefinition d.roles)) c.tables-tables.ensures.tables (iff.0 e);
      }),
      λ v. iff.1 (subst (Each (IsWholeDefinition d.roles)) (sym c.tables-tables.ensures.tables) (parts_of_valid d v).tables),
    ))
    c.are_whole_definitions.ensures
