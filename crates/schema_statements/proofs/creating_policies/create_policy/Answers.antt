use Rattle.std.proofs.Common.{◌≡◌, None, refl, sym, ap, ◌∙◌, subst}
use Rattle.std.specs.Option.{option_copied}
use Rattle.sql_types.specs.declared.answer.Answer.TheVariants.{Done}
use Rattle.sql_types.specs.declared.tag.Tag.TheVariants as tag
use Rattle.sql_types.specs.declared.state.SqlState.TheVariants.{UndefinedTable, OutOfMemory}
use Rattle.sql_ast.specs.declared.policy.Policy.{Policy}
use Rattle.store.specs.declared.stop.StatementError.TheVariants.{Refused}
use Rattle.abstract_database.specs.Statements.{create_policy}
use Rattle.stored_database.specs.Definitions.{TableDefinition}
use Rattle.catalogue_changes.specs.Carried.{IsCurrent}
use Rattle.catalogue.specs.declared.change.SchemaChange.TheVariants as change
use Rattle.catalogue_changes.specs.StatementChanges.{with_one_policy}
use Rattle.catalogue_changes.proofs.DefiningLemmas.{carried_out, stopped_by, handed_on, handed_on_fails}
use Rattle.schema_statements.proofs.TableCarrying.{IsMade, carries}
use Rattle.schema_statements.proofs.TableStatements.{refused_unstored}
use Rattle.schema_statements.proofs.PolicyStatements.{named_as, create_on_none, refused_to_create, creates}
use Rattle.schema_statements.proofs.creating_policies.create_policy.Goals as goal

pub returns-in_default-clause-executes : goal.returns-in_default-clause-executes
returns-in_default-clause-executes c = λ read written.
    let not_memory : UndefinedTable ≡ OutOfMemory → ⊥ = λ e. cc in
    stopped_by (IsCurrent c.args.current.now) (λ db users. create_policy db users c.args.statement.now) c.args.catalogue.now (record { 0 = UndefinedTable }) (Refused UndefinedTable) (refl, not_memory)
    (create_on_none c.args.catalogue.now c.args.current.now c.args.statement.now (sym c.table.ensures ∙ ap option_copied c.in_default.is))

pub checked_policy-requires : goal.checked_policy-requires
checked_policy-requires c = named_as c.args.catalogue.now c.args.statement.now.table c.in-Some.old.now (sym c.table.ensures ∙ ap option_copied c.in-Some.is)

pub returns-in_err-policy-clause-memory : goal.returns-in_err-policy-clause-memory
returns-in_err-policy-clause-memory c = handed_on_fails c.in_err-policy.field-0.0 c.from_residual.result c.from_residual.ensures.1

pub returns-in_err-policy-clause-executes : goal.returns-in_err-policy-clause-executes
returns-in_err-policy-clause-executes c = λ read written.
    let found = sym c.table.ensures ∙ ap option_copied c.in-Some.is in
    handed_on (IsCurrent c.args.current.now) (λ db users. create_policy db users c.args.statement.now) c.args.catalogue.now c.in_err-policy.field-0.0 c.from_residual.result c.from_residual.ensures.1
    (refused_to_create c.args.catalogue.now c.args.current.now c.args.statement.now c.in-Some.old.now found c.in_err-policy.field-0.0 c.in_err-policy.ensures.refused)

pub with_policy-requires-clause-own : goal.with_policy-requires-clause-own
with_policy-requires-clause-own c =
    ap (λ (p : Policy). p.table) c.in_ok-policy.ensures.policy
    ∙ sym (named_as c.args.catalogue.now c.args.statement.now.table c.in-Some.old.now (sym c.table.ensures ∙ ap option_copied c.in-Some.is))

pub returns-in_err-push_table_put-clause-memory : goal.returns-in_err-push_table_put-clause-memory
returns-in_err-push_table_put-clause-memory c = handed_on_fails c.in_err-push_table_put.field-0.0 c.from_residual-in_err-push_table_put.result c.from_residual-in_err-push_table_put.ensures.1

pub returns-in_err-push_table_put-clause-executes : goal.returns-in_err-push_table_put-clause-executes
returns-in_err-push_table_put-clause-executes c = λ read written.
    let d = c.args.catalogue.now in
    let current = c.args.current.now in
    let s = c.args.statement.now in
    let t = c.in-Some.old.now in
    let found = sym c.table.ensures ∙ ap option_copied c.in-Some.is in
    let is = c.in_ok-table.ensures ∙ ap (λ (p : Policy). with_one_policy p t) c.in_ok-policy.ensures.policy in
    handed_on (IsCurrent current) (λ db users. create_policy db users s) d c.in_err-push_table_put.field-0.0 c.from_residual-in_err-push_table_put.result c.from_residual-in_err-push_table_put.ensures.1
    (refused_unstored (IsCurrent current) (λ db users. create_policy db users s) d c.in_ok-table.table c.in_err-push_table_put.field-0.0 c.in_err-push_table_put.ensures.refused
    (λ db users h by. (
      Done tag.CreatePolicy None None,
      subst (λ (u : TableDefinition). IsMade (λ db users. create_policy db users s) (change.PutTable u) d (Done tag.CreatePolicy None None) db users) (sym is)
          (creates d current s t found c.in_ok-policy.ensures.allowed read written db users h by),
    )))

pub returns-clause-executes : goal.returns-clause-executes
returns-clause-executes c = λ read written.
    let d = c.args.catalogue.now in
    let current = c.args.current.now in
    let s = c.args.statement.now in
    let t = c.in-Some.old.now in
    let found = sym c.table.ensures ∙ ap option_copied c.in-Some.is in
    let is = c.in_ok-table.ensures ∙ ap (λ (p : Policy). with_one_policy p t) c.in_ok-policy.ensures.policy in
    carried_out (IsCurrent current) (λ db users. create_policy db users s) d tag.CreatePolicy None c.new-changes.result c.push_table_put.new.out (change.PutTable c.in_ok-table.table) c.defined.result
    c.defined.ensures c.new-changes.ensures
    (carries (IsCurrent current) (λ db users. create_policy db users s) (change.PutTable c.in_ok-table.table) d (Done tag.CreatePolicy None None) c.new-changes.result c.push_table_put.new.out
    c.in_ok-push_table_put.ensures.changes
    (λ db users h by. subst (λ (u : TableDefinition). IsMade (λ db users. create_policy db users s) (change.PutTable u) d (Done tag.CreatePolicy None None) db users) (sym is)
    (creates d current s t found c.in_ok-policy.ensures.allowed read written db users h by)))
