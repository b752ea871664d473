use Rattle.std.proofs.Common.{◌≡◌, None, refl, sym, ap, ◌∙◌, subst, List}
use Rattle.std.specs.Option.{option_copied}
use Rattle.sql_types.specs.declared.answer.Answer.TheVariants.{Done}
use Rattle.sql_types.specs.declared.tag.Tag.TheVariants as tag
use Rattle.sql_types.specs.declared.state.SqlState.TheVariants.{DuplicateTable, ProgramLimitExceeded, OutOfMemory}
use Rattle.store.specs.declared.stop.StatementError.TheVariants.{Refused}
use Rattle.abstract_database.specs.Statements.{create_table}
use Rattle.stored_database.specs.Definitions.{TableDefinition, ids_of}
use Rattle.catalogue.specs.Numbers.{IsLeastFree}
use Rattle.catalogue_changes.specs.Carried.{IsCurrent}
use Rattle.catalogue.specs.declared.change.SchemaChange.TheVariants as change
use Rattle.catalogue_changes.proofs.DefiningLemmas.{carried_out, refused_by, stopped_by, handed_on, handed_on_fails}
use Rattle.schema_statements.proofs.TableCarrying.{IsMade, carries}
use Rattle.schema_statements.proofs.TableStatements.{refused_unstored}
use Rattle.schema_statements.proofs.CreateLemmas.{right_alike, layout_alike, refused_known, refused_columns, refused_full, creates}
use Rattle.schema_statements.proofs.creating_tables.create_table.Goals as goal

pub returns-in-Some-clause-executes : goal.returns-in-Some-clause-executes
returns-in-Some-clause-executes c = λ read role.
    refused_by (IsCurrent c.args.current.now) (λ db users. create_table db users c.args.statement.now) c.args.catalogue.now DuplicateTable
    (refused_known c.args.catalogue.now c.args.current.now c.args.statement.now c.in-Some.field-0.now (sym c.table.ensures ∙ ap option_copied c.in-Some.is))

pub returns-in_err-columns-clause-memory : goal.returns-in_err-columns-clause-memory
returns-in_err-columns-clause-memory c = handed_on_fails c.in_err-columns.field-0.0 c.from_residual.result c.from_residual.ensures.1

pub returns-in_err-columns-clause-executes : goal.returns-in_err-columns-clause-executes
returns-in_err-columns-clause-executes c = λ read role.
    let d = c.args.catalogue.now in
    let s = c.args.statement.now in
    handed_on (IsCurrent c.args.current.now) (λ db users. create_table db users c.args.statement.now) c.args.catalogue.now c.in_err-columns.field-0.0 c.from_residual.result c.from_residual.ensures.1
    (refused_columns d c.args.current.now s (sym c.table.ensures ∙ ap option_copied c.in_default.is) c.in_err-columns.field-0.0
    (right_alike d s c.as_slice.result.now c.tables-tables.result.now c.as_slice.ensures c.tables-tables.ensures.tables c.in_err-columns.field-0.0 c.in_err-columns.ensures read))

pub returns-in_default-least_free_id-clause-executes : goal.returns-in_default-least_free_id-clause-executes
returns-in_default-least_free_id-clause-executes c = λ read role.
    let not_memory : ProgramLimitExceeded ≡ OutOfMemory → ⊥ = λ e. cc in
    let d = c.args.catalogue.now in
    let s = c.args.statement.now in
    let checked = layout_alike d s c.as_slice.result.now c.tables-tables.result.now c.as_slice.ensures c.tables-tables.ensures.tables c.in_ok-columns.columns c.in_ok-columns.ensures read in
    stopped_by (IsCurrent c.args.current.now) (λ db users. create_table db users c.args.statement.now) c.args.catalogue.now (record { 0 = ProgramLimitExceeded }) (Refused ProgramLimitExceeded) (refl, not_memory)
    (refused_full d c.args.current.now s c.in_ok-columns.columns (sym c.table.ensures ∙ ap option_copied c.in_default.is) checked c.tables-tables.result.now c.tables-tables.ensures.tables
    c.least_free_id.result c.least_free_id.ensures.some c.in_default-least_free_id.is (record { 0 = ProgramLimitExceeded }))

pub returns-in_err-push_table_put-clause-memory : goal.returns-in_err-push_table_put-clause-memory
returns-in_err-push_table_put-clause-memory c = handed_on_fails c.in_err-push_table_put.field-0.0 c.from_residual-in_err-push_table_put.result c.from_residual-in_err-push_table_put.ensures.1

pub returns-in_err-push_table_put-clause-executes : goal.returns-in_err-push_table_put-clause-executes
returns-in_err-push_table_put-clause-executes c = λ read role.
    let d = c.args.catalogue.now in
    let current = c.args.current.now in
    let s = c.args.statement.now in
    let checked = layout_alike d s c.as_slice.result.now c.tables-tables.result.now c.as_slice.ensures c.tables-tables.ensures.tables c.in_ok-columns.columns c.in_ok-columns.ensures read in
    let free = subst (λ (ts : List TableDefinition). IsLeastFree (ids_of ts) c.in-Some-least_free_id.id) c.tables-tables.ensures.tables c.in-Some-least_free_id.ensures.least in
    handed_on (IsCurrent current) (λ db users. create_table db users s) d c.in_err-push_table_put.field-0.0 c.from_residual-in_err-push_table_put.result c.from_residual-in_err-push_table_put.ensures.1
    (refused_unstored (IsCurrent current) (λ db users. create_table db users s) d c.in_ok-table.table c.in_err-push_table_put.field-0.0 c.in_err-push_table_put.ensures.refused
    (λ db users h by. (
      Done tag.CreateTable None None,
      subst (λ (t : TableDefinition). IsMade (λ db users. create_table db users s) (change.PutTable t) d (Done tag.CreateTable None None) db users) (sym c.in_ok-table.ensures)
          (creates d current s (sym c.table.ensures ∙ ap option_copied c.in_default.is) c.in_ok-columns.columns checked c.in-Some-least_free_id.id free read role db users h by),
    )))

pub returns-clause-executes : goal.returns-clause-executes
returns-clause-executes c = λ read role.
    let d = c.args.catalogue.now in
    let current = c.args.current.now in
    let s = c.args.statement.now in
    let checked = layout_alike d s c.as_slice.result.now c.tables-tables.result.now c.as_slice.ensures c.tables-tables.ensures.tables c.in_ok-columns.columns c.in_ok-columns.ensures read in
    let free = subst (λ (ts : List TableDefinition). IsLeastFree (ids_of ts) c.in-Some-least_free_id.id) c.tables-tables.ensures.tables c.in-Some-least_free_id.ensures.least in
    carried_out (IsCurrent current) (λ db users. create_table db users s) d tag.CreateTable None c.new-changes.result c.push_table_put.new.out (change.PutTable c.in_ok-table.table) c.defined.result
    c.defined.ensures c.new-changes.ensures
    (carries (IsCurrent current) (λ db users. create_table db users s) (change.PutTable c.in_ok-table.table) d (Done tag.CreateTable None None) c.new-changes.result c.push_table_put.new.out
    c.in_ok-push_table_put.ensures.changes
    (λ db users h by. subst (λ (t : TableDefinition). IsMade (λ db users. create_table db users s) (change.PutTable t) d (Done tag.CreateTable None None) db users) (sym c.in_ok-table.ensures)
    (creates d current s (sym c.table.ensures ∙ ap option_copied c.in_default.is) c.in_ok-columns.columns checked c.in-Some-least_free_id.id free read role db users h by)))
