use Rattle.std.proofs.Common.{◌≡◌, None, inr, refl, sym, ap, ◌∙◌, subst}
use Rattle.std.specs.Option.{option_copied}
use Rattle.sql_types.specs.declared.answer.Answer.TheVariants.{Done}
use Rattle.sql_types.specs.declared.tag.Tag.TheVariants as tag
use Rattle.sql_types.specs.declared.state.SqlState.TheVariants.{UndefinedTable, UndefinedObject, InsufficientPrivilege, OutOfMemory}
use Rattle.store.specs.declared.stop.StatementError.TheVariants.{Refused}
use Rattle.abstract_database.specs.Statements.{drop_policy}
use Rattle.stored_database.specs.Definitions.{TableDefinition}
use Rattle.catalogue_changes.specs.Carried.{IsCurrent}
use Rattle.catalogue.specs.declared.change.SchemaChange.TheVariants as change
use Rattle.catalogue_changes.proofs.DefiningLemmas.{carried_out, stopped_by, handed_on, handed_on_fails}
use Rattle.schema_statements.proofs.TableCarrying.{IsMade, carries}
use Rattle.schema_statements.proofs.TableStatements.{refused_unstored}
use Rattle.schema_statements.proofs.PolicyStatements.{drop_on_none, refused_to_drop, drops, no_policy, not_owner, dropped}
use Rattle.schema_statements.proofs.dropping_policies.drop_policy.Goals as goal

pub returns-in_default-clause-executes : goal.returns-in_default-clause-executes
returns-in_default-clause-executes c =
    let not_memory : UndefinedTable ≡ OutOfMemory → ⊥ = λ e. cc in
    stopped_by (IsCurrent c.args.current.now) (λ db users. drop_policy db users c.args.statement.now) c.args.catalogue.now (record { 0 = UndefinedTable }) (Refused UndefinedTable) (refl, not_memory)
    (drop_on_none c.args.catalogue.now c.args.current.now c.args.statement.now (sym c.table.ensures ∙ ap option_copied c.in_default.is))

pub returns-then-not-has_policy-clause-executes : goal.returns-then-not-has_policy-clause-executes
returns-then-not-has_policy-clause-executes c =
    let d = c.args.catalogue.now in
    let s = c.args.statement.now in
    let t = c.in-Some.old.now in
    let found = sym c.table.ensures ∙ ap option_copied c.in-Some.is in
    let not_memory : UndefinedObject ≡ OutOfMemory → ⊥ = λ e. cc in
    stopped_by (IsCurrent c.args.current.now) (λ db users. drop_policy db users c.args.statement.now) c.args.catalogue.now (record { 0 = UndefinedObject }) (Refused UndefinedObject) (refl, not_memory)
    (refused_to_drop d c.args.current.now s t found (record { 0 = UndefinedObject })
    (inr (no_policy d c.args.current.now s t found c.has_policy.result c.has_policy.ensures c.if-not-has_policy.true)))

pub returns-then-not-branch-clause-executes : goal.returns-then-not-branch-clause-executes
returns-then-not-branch-clause-executes c =
    let d = c.args.catalogue.now in
    let s = c.args.statement.now in
    let t = c.in-Some.old.now in
    let found = sym c.table.ensures ∙ ap option_copied c.in-Some.is in
    let not_memory : InsufficientPrivilege ≡ OutOfMemory → ⊥ = λ e. cc in
    stopped_by (IsCurrent c.args.current.now) (λ db users. drop_policy db users c.args.statement.now) c.args.catalogue.now (record { 0 = InsufficientPrivilege }) (Refused InsufficientPrivilege) (refl, not_memory)
    (refused_to_drop d c.args.current.now s t found (record { 0 = InsufficientPrivilege })
    (inr (not_owner d c.args.current.now s t found c.has_policy.result c.has_policy.ensures c.owner.result.now c.owner.ensures c.in_ok-acts_as_owner.field-0 c.in_ok-acts_as_owner.ensures c.if-not-has_policy.false c.if-not-branch.true)))

pub returns-in_err-push_table_put-clause-memory : goal.returns-in_err-push_table_put-clause-memory
returns-in_err-push_table_put-clause-memory c = handed_on_fails c.in_err-push_table_put.field-0.0 c.from_residual-in_err-push_table_put.result c.from_residual-in_err-push_table_put.ensures.1

pub returns-in_err-push_table_put-clause-executes : goal.returns-in_err-push_table_put-clause-executes
returns-in_err-push_table_put-clause-executes c =
    let d = c.args.catalogue.now in
    let current = c.args.current.now in
    let s = c.args.statement.now in
    let t = c.in-Some.old.now in
    let found = sym c.table.ensures ∙ ap option_copied c.in-Some.is in
    let allowed = dropped d current s t found c.has_policy.result c.has_policy.ensures c.owner.result.now c.owner.ensures c.in_ok-acts_as_owner.field-0 c.in_ok-acts_as_owner.ensures c.if-not-has_policy.false c.if-not-branch.false in
    handed_on (IsCurrent current) (λ db users. drop_policy db users s) d c.in_err-push_table_put.field-0.0 c.from_residual-in_err-push_table_put.result c.from_residual-in_err-push_table_put.ensures.1
    (refused_unstored (IsCurrent current) (λ db users. drop_policy db users s) d c.in_ok-table.table c.in_err-push_table_put.field-0.0 c.in_err-push_table_put.ensures.refused
    (λ db users h by. (
      Done tag.DropPolicy None None,
      subst (λ (u : TableDefinition). IsMade (λ db users. drop_policy db users s) (change.PutTable u) d (Done tag.DropPolicy None None) db users) (sym c.in_ok-table.ensures)
          (drops d current s t found allowed db users h by),
    )))

pub returns-clause-executes : goal.returns-clause-executes
returns-clause-executes c =
    let d = c.args.catalogue.now in
    let current = c.args.current.now in
    let s = c.args.statement.now in
    let t = c.in-Some.old.now in
    let found = sym c.table.ensures ∙ ap option_copied c.in-Some.is in
    let allowed = dropped d current s t found c.has_policy.result c.has_policy.ensures c.owner.result.now c.owner.ensures c.in_ok-acts_as_owner.field-0 c.in_ok-acts_as_owner.ensures c.if-not-has_policy.false c.if-not-branch.false in
    carried_out (IsCurrent current) (λ db users. drop_policy db users s) d tag.DropPolicy None c.new-changes.result c.push_table_put.new.out (change.PutTable c.in_ok-table.table) c.defined.result
    c.defined.ensures c.new-changes.ensures
    (carries (IsCurrent current) (λ db users. drop_policy db users s) (change.PutTable c.in_ok-table.table) d (Done tag.DropPolicy None None) c.new-changes.result c.push_table_put.new.out
    c.in_ok-push_table_put.ensures.changes
    (λ db users h by. subst (λ (u : TableDefinition). IsMade (λ db users. drop_policy db users s) (change.PutTable u) d (Done tag.DropPolicy None None) db users) (sym c.in_ok-table.ensures)
    (drops d current s t found allowed db users h by)))
