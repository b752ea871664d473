use Rattle.std.proofs.Common.{None, sym, subst}
use Rattle.sql_types.specs.declared.answer.Answer.TheVariants.{Done}
use Rattle.sql_types.specs.declared.tag.Tag.TheVariants as tag
use Rattle.abstract_database.specs.Statements.{alter_table}
use Rattle.stored_database.specs.Definitions.{TableDefinition}
use Rattle.catalogue_changes.specs.Carried.{IsCurrent}
use Rattle.catalogue.specs.declared.change.SchemaChange.TheVariants as change
use Rattle.catalogue_changes.proofs.DefiningLemmas.{carried_out, handed_on, handed_on_fails}
use Rattle.schema_statements.proofs.TableCarrying.{IsMade, carries}
use Rattle.schema_statements.proofs.TableStatements.{alters, refused_to_alter, refused_unstored}
use Rattle.schema_statements.proofs.altering_tables.alter_table.Goals as goal

pub returns-in_err-old-clause-memory : goal.returns-in_err-old-clause-memory
returns-in_err-old-clause-memory c = handed_on_fails c.in_err-old.field-0.0 c.from_residual.result c.from_residual.ensures.1

pub returns-in_err-old-clause-executes : goal.returns-in_err-old-clause-executes
returns-in_err-old-clause-executes c =
    handed_on (IsCurrent c.args.current.now) (λ db users. alter_table db users c.args.statement.now) c.args.catalogue.now c.in_err-old.field-0.0 c.from_residual.result c.from_residual.ensures.1
    (refused_to_alter c.args.catalogue.now c.args.current.now c.args.statement.now c.in_err-old.field-0.0 c.in_err-old.ensures.refused)

pub returns-in_err-push_table_put-clause-memory : goal.returns-in_err-push_table_put-clause-memory
returns-in_err-push_table_put-clause-memory c = handed_on_fails c.in_err-push_table_put.field-0.0 c.from_residual-in_err-push_table_put.result c.from_residual-in_err-push_table_put.ensures.1

pub returns-in_err-push_table_put-clause-executes : goal.returns-in_err-push_table_put-clause-executes
returns-in_err-push_table_put-clause-executes c =
    let d = c.args.catalogue.now in
    let current = c.args.current.now in
    let s = c.args.statement.now in
    handed_on (IsCurrent current) (λ db users. alter_table db users s) d c.in_err-push_table_put.field-0.0 c.from_residual-in_err-push_table_put.result c.from_residual-in_err-push_table_put.ensures.1
    (refused_unstored (IsCurrent current) (λ db users. alter_table db users s) d c.in_ok-table.table c.in_err-push_table_put.field-0.0 c.in_err-push_table_put.ensures.refused
    (λ db users h by. (
      Done tag.AlterTable None None,
      subst (λ (t : TableDefinition). IsMade (λ db users. alter_table db users s) (change.PutTable t) d (Done tag.AlterTable None None) db users) (sym c.in_ok-table.ensures)
          (alters d current s c.in_ok-old.old.now c.in_ok-old.ensures.found c.in_ok-old.ensures.allowed db users h by),
    )))

pub returns-clause-executes : goal.returns-clause-executes
returns-clause-executes c =
    let d = c.args.catalogue.now in
    let current = c.args.current.now in
    let s = c.args.statement.now in
    carried_out (IsCurrent current) (λ db users. alter_table db users s) d tag.AlterTable None c.new-changes.result c.push_table_put.new.out (change.PutTable c.in_ok-table.table) c.defined.result
    c.defined.ensures c.new-changes.ensures
    (carries (IsCurrent current) (λ db users. alter_table db users s) (change.PutTable c.in_ok-table.table) d (Done tag.AlterTable None None) c.new-changes.result c.push_table_put.new.out
    c.in_ok-push_table_put.ensures.changes
    (λ db users h by. subst (λ (t : TableDefinition). IsMade (λ db users. alter_table db users s) (change.PutTable t) d (Done tag.AlterTable None None) db users) (sym c.in_ok-table.ensures)
    (alters d current s c.in_ok-old.old.now c.in_ok-old.ensures.found c.in_ok-old.ensures.allowed db users h by)))
