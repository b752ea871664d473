use Rattle.std.proofs.Common.{refl}
use Rattle.catalogue_loading.specs.ValidityParts.{IsWholeDefinition}
use Rattle.catalogue_loading.proofs.Lists.{each_more, each_all, not_each, not_true}
use Rattle.catalogue_loading.proofs.table_checks.are_whole_definitions.Goals as goal

pub returns-then-not-branch : goal.returns-then-not-branch
returns-then-not-branch c = not_each (IsWholeDefinition c.args.catalogue.now.roles) c.args.tables.now c.loop-table.table-index c.table-item.result c.loop-table-test.true c.table-item.is
    (not_true _ c.in_ok-is_whole_definition.field-0 c.if-not-branch.true c.in_ok-is_whole_definition.ensures)

pub loop-table-preserved : goal.loop-table-preserved
loop-table-preserved c = each_more (IsWholeDefinition c.args.catalogue.now.roles) c.args.tables.now c.loop-table.table-index c.table-item.result c.loop-table-test.true c.table-item.is c.loop-table.invariant
    (c.in_ok-is_whole_definition.ensures.0 c.if-not-branch.false)

pub returns : goal.returns
returns c = (λ e. each_all (IsWholeDefinition c.args.catalogue.now.roles) c.args.tables.now c.loop-table.table-index c.loop-table-test.false c.loop-table.invariant, λ h. refl)
