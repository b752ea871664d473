use Rattle.std.proofs.Common.{None, Err, ap, ◌∙◌}
use Rattle.sql_types.specs.declared.tag.Tag.TheVariants as tag
use Rattle.store.specs.declared.fault.Fault.{Fault}
use Rattle.abstract_database.specs.Lists.{TheName}
use Rattle.abstract_database.specs.Statements.{drop_table}
use Rattle.catalogue.specs.declared.change.SchemaChange.TheVariants as change
use Rattle.catalogue_changes.specs.Carried.{IsCurrent}
use Rattle.catalogue_changes.specs.Defined.{effect_defined}
use Rattle.catalogue_changes.proofs.DefiningLemmas.{handed_on}
use Rattle.schema_statements.proofs.TableCarrying.{carried_over}
use Rattle.schema_statements.proofs.TableStatements.{drops, refused_to_drop, failed_over, stops_reading}
use Rattle.schema_statements.proofs.dropping_tables.drop_table.Goals as goal

pub returns-in_err-owned_table-clause-executes : goal.returns-in_err-owned_table-clause-executes
returns-in_err-owned_table-clause-executes g c = λ sound db users shown by.
    handed_on (IsCurrent c.args.current.now) (λ db users. drop_table db users c.args.statement.now) c.args.catalogue.now c.in_err-owned_table.field-0.0 c.from_residual.result c.from_residual.ensures.1
    (refused_to_drop c.args.catalogue.now c.args.current.now c.args.statement.now c.in_err-owned_table.field-0.0 c.in_err-owned_table.ensures.refused)
    (g.M.Map.state c.args.map.now).map db users (g.met.M.Map.ordered c.args.map.now sound) shown by

pub returns-in_err-push_table_drop-clause-read : goal.returns-in_err-push_table_drop-clause-read
returns-in_err-push_table_drop-clause-read g c =
    stops_reading c.in_err-push_table_drop.field-0.0 c.from_residual-in_err-push_table_drop.result (g.M.Map.state c.args.map.now) (g.M.Map.state c.push_table_drop.new.map) c.from_residual-in_err-push_table_drop.ensures.1
    c.in_err-push_table_drop.ensures.read

pub returns-in_err-push_table_drop-clause-executes : goal.returns-in_err-push_table_drop-clause-executes
returns-in_err-push_table_drop-clause-executes g c = λ sound.
    let s = c.args.statement.now in
    failed_over (g.M.Map.state c.args.map.now) (IsCurrent c.args.current.now) (λ db users. drop_table db users s) c.args.catalogue.now s.table c.in_err-push_table_drop.field-0.0
    c.from_residual-in_err-push_table_drop.result sound c.from_residual-in_err-push_table_drop.ensures.1
    (λ sound all sizes same. c.in_err-push_table_drop.ensures.undamaged sound all sizes (ap (λ (f : Fault). Err f) same))

pub returns-clause-executes : goal.returns-clause-executes
returns-clause-executes g c = λ sound.
    let d = c.args.catalogue.now in
    let current = c.args.current.now in
    let s = c.args.statement.now in
    carried_over (g.M.Map.state c.args.map.now).map (IsCurrent current) (λ db users. drop_table db users s) tag.DropTable (change.DropTable s.table) d c.new-changes.result c.push_table_drop.new.out c.defined.result
    (c.defined.ensures ∙ ap (λ (name : TheName). effect_defined tag.DropTable None c.push_table_drop.new.out (change.DropTable name)) c.in_ok-try_copy.ensures) c.new-changes.ensures
    (c.in_ok-push_table_drop.ensures.changes sound) (g.met.M.Map.ordered c.args.map.now sound) (drops d current s c.in_ok-owned_table.ensures.allowed)
