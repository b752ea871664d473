use Rattle.std.proofs.Common.{◌≡◌, Option, None, find, subst, refl, ◌∙◌, sym, ap}
use Rattle.std.specs.Option.{option_copied}
use Rattle.sql_types.specs.declared.answer.Answer.TheVariants.{Done}
use Rattle.sql_types.specs.declared.tag.Tag.{Tag}
use Rattle.sql_types.specs.declared.state.SqlState.TheVariants.{UndefinedTable, OutOfMemory}
use Rattle.store.specs.declared.stop.StatementError.TheVariants.{Refused}
use Rattle.abstract_database.specs.Lists.{TheName}
use Rattle.stored_database.specs.Definitions.{TableDefinition, Definitions}
use Rattle.catalogue.specs.Lookups.{is_definition_named}
use Rattle.catalogue_changes.specs.Carried.{IsCurrent, Carries}
use Rattle.catalogue_changes.specs.StatementChanges.{IsTableOf}
use Rattle.catalogue_changes.specs.Defined.{effect_defined}
use Rattle.catalogue_changes.proofs.DefiningLemmas.{carried_out, stopped_by, handed_on, handed_on_fails}
use Rattle.schema_statements.specs.PrivilegeStatements.{table_of, tag_of, run_of}
use Rattle.schema_statements.proofs.PrivilegeCarrying.{carries, refused_unstored, refused_alone}
use Rattle.schema_statements.proofs.Finding.{on_none, concerns_table, change_found}
use Rattle.schema_statements.proofs.granting.grant_or_revoke.Goals as goal

-- what is found by the name that was asked for
found_by : (d : Definitions) (asked name : TheName) → asked ≡ name → (found other : Option TableDefinition) → found ≡ find (is_definition_named asked) d.tables → found ≡ other → find (is_definition_named name) d.tables ≡ other
found_by d asked name same found other is e = ap (λ (n : TheName). find (is_definition_named n) d.tables) (sym same) ∙ sym is ∙ e

pub returns-in_default-clause-executes : goal.returns-in_default-clause-executes
returns-in_default-clause-executes c = λ read.
    let d = c.args.catalogue.now in
    let s = c.args.statement in
    let not_memory : UndefinedTable ≡ OutOfMemory → ⊥ = λ e. cc in
    stopped_by (IsCurrent c.args.current.now) (run_of s) d (record { 0 = UndefinedTable }) (Refused UndefinedTable) (refl, not_memory)
    (on_none d c.args.current.now s (found_by d _ (table_of s) c.table_name.ensures _ None c.table.ensures (ap option_copied c.in_default.is)))

pub returns-in_err-change-clause-memory : goal.returns-in_err-change-clause-memory
returns-in_err-change-clause-memory c = handed_on_fails c.in_err-change.field-0.0 c.from_residual.result c.from_residual.ensures.1

pub returns-in_err-change-clause-executes : goal.returns-in_err-change-clause-executes
returns-in_err-change-clause-executes c = λ read.
    let d = c.args.catalogue.now in
    let s = c.args.statement in
    let t = c.in-Some.table.now in
    let found : IsTableOf d (table_of s) t = found_by d _ (table_of s) c.table_name.ensures _ _ c.table.ensures (ap option_copied c.in-Some.is) in
    handed_on (IsCurrent c.args.current.now) (run_of s) d c.in_err-change.field-0.0 c.from_residual.result c.from_residual.ensures.1
    (refused_alone c.args.current.now (run_of s) d t (concerns_table d s t read found)
    c.in_err-change.field-0.0 c.in_err-change.ensures.refused)

pub returns-in_err-push_descriptors_set-clause-memory : goal.returns-in_err-push_descriptors_set-clause-memory
returns-in_err-push_descriptors_set-clause-memory c = handed_on_fails c.in_err-push_descriptors_set.field-0.0 c.from_residual-in_err-push_descriptors_set.result c.from_residual-in_err-push_descriptors_set.ensures.1

pub returns-in_err-push_descriptors_set-clause-executes : goal.returns-in_err-push_descriptors_set-clause-executes
returns-in_err-push_descriptors_set-clause-executes c = λ read.
    let d = c.args.catalogue.now in
    let s = c.args.statement in
    let t = c.in-Some.table.now in
    let r = c.in_ok-change in
    let found : IsTableOf d (table_of s) t = found_by d _ (table_of s) c.table_name.ensures _ _ c.table.ensures (ap option_copied c.in-Some.is) in
    handed_on (IsCurrent c.args.current.now) (run_of s) d c.in_err-push_descriptors_set.field-0.0 c.from_residual-in_err-push_descriptors_set.result c.from_residual-in_err-push_descriptors_set.ensures.1
    (refused_unstored c.args.current.now (run_of s) d t (concerns_table d s t read found)
    r.change (change_found d (table_of s) t found r.change r.ensures.change) r.ensures.change (tag_of s) r.warning r.ensures.left
    c.in_err-push_descriptors_set.field-0.0 c.in_err-push_descriptors_set.ensures.refused)

pub returns-clause-executes : goal.returns-clause-executes
returns-clause-executes c = λ read.
    let d = c.args.catalogue.now in
    let s = c.args.statement in
    let t = c.in-Some.table.now in
    let r = c.in_ok-change in
    let found : IsTableOf d (table_of s) t = found_by d _ (table_of s) c.table_name.ensures _ _ c.table.ensures (ap option_copied c.in-Some.is) in
    let new = c.push_descriptors_set.new.out in
    let e = c.in_ok-change-2.change in
    carried_out (IsCurrent c.args.current.now) (run_of s) d (tag_of s) r.warning c.new-changes.result new e c.defined.result
    (c.defined.ensures ∙ ap (λ (a : Tag). effect_defined a r.warning new e) c.tag.ensures) c.new-changes.ensures
    (subst (λ (n : Definitions). Carries (IsCurrent c.args.current.now) (run_of s) d (Done (tag_of s) None r.warning) n c.new-changes.result new) (sym c.in_ok-change-2.ensures)
    (carries c.args.current.now (run_of s) d t (concerns_table d s t read found)
    r.change (change_found d (table_of s) t found r.change r.ensures.change) r.ensures.change (tag_of s) r.warning r.ensures.left
    c.new-changes.result new c.in_ok-push_descriptors_set.ensures.changes))

pub push_descriptors_set-requires-clause-table : goal.push_descriptors_set-requires-clause-table
push_descriptors_set-requires-clause-table c =
    let d = c.args.catalogue.now in
    let r = c.in_ok-change in
    let found : IsTableOf d (table_of c.args.statement) c.in-Some.table.now = found_by d _ (table_of c.args.statement) c.table_name.ensures _ _ c.table.ensures (ap option_copied c.in-Some.is) in
    change_found d (table_of c.args.statement) c.in-Some.table.now found r.change r.ensures.change

pub schema_change-requires-clause-table : goal.schema_change-requires-clause-table
schema_change-requires-clause-table c =
    let d = c.args.catalogue.now in
    let r = c.in_ok-change in
    let found : IsTableOf d (table_of c.args.statement) c.in-Some.table.now = found_by d _ (table_of c.args.statement) c.table_name.ensures _ _ c.table.ensures (ap option_copied c.in-Some.is) in
    change_found d (table_of c.args.statement) c.in-Some.table.now found r.change r.ensures.change
