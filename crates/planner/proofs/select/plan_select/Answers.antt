use Rattle.std.proofs.Common.{◌∙◌, List, ap, map, refl, sym, subst, rules}
use Rattle.abstract_database.specs.Queries.{tables_in, scope_of}
use Rattle.stored_database.specs.Definitions.{TableDefinition}
use Rattle.planner.specs.Bound.{HasWidths, HasTypes}
use Rattle.planner.specs.Rights.{AreItsRoles}
use Rattle.planner.specs.Tables.{AreTablesOf, definitions_in}
use Rattle.planner.proofs.Selecting.{is_plan, is_refusal}
use Rattle.planner.proofs.select.plan_select.Goals as goal

pub returns-in_err-checked-clause-refusal : goal.returns-in_err-checked-clause-refusal
returns-in_err-checked-clause-refusal c =
    let m = is_refusal c.args.catalogue.now c.args.current.now c.in_ok-rights.rights c.args.statement.now c.in_ok-rights.ensures c.in_err-checked.field-0.0 c.in_err-checked.ensures.plan in
    search rules

pub returns-clause-plan : goal.returns-clause-plan
returns-clause-plan c =
    let d = c.args.catalogue.now in
    let s = c.args.statement.now in
    let k = c.in_ok-checked.checked in
    let checks = c.in_ok-checked.ensures in
    let same = c.in_ok-sources.ensures.tables ∙ ap (map (λ t. t.now)) c.as_slice-tables.ensures in
    record {
      plan = is_plan d c.args.current.now c.in_ok-rights.rights s c.in_ok-rights.ensures
          (record { sources = c.in_ok-sources.sources; query = k.query; roles = c.in_ok-rights.rights.roles }) k checks.plan same refl;
      tables = subst (AreTablesOf d (tables_in s.source)) (sym same) checks.tables;
      widths = subst (λ (ts : List TableDefinition). HasWidths (scope_of (tables_in s.source) (definitions_in ts)) k.query.list) (sym same) checks.widths;
      types = subst (λ (ts : List TableDefinition). HasTypes (scope_of (tables_in s.source) (definitions_in ts)) k.query) (sym same) checks.types;
      guards = c.in_ok-sources.ensures.guards;
      roles = subst (AreItsRoles d c.args.current.now) (sym c.into_roles.ensures) c.in_ok-rights.ensures.roles;
    }
