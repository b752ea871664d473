-- A statement over one table is planned: the table is found, the statement checked over it, and its rows guarded.
use Rattle.std.proofs.Common.{◌≡◌, ◌⊎◌, Bool, Result, Ok, Err, sym, ap, ◌∙◌, subst, inl, inr}
use Rattle.std.specs.Prelude.{IfErr}
use Rattle.sql_types.specs.declared.state.Refusal.{Refusal}
use Rattle.sql_types.specs.declared.state.SqlState.{SqlState}
use Rattle.sql_types.specs.declared.state.SqlState.TheVariants.{OutOfMemory}
use Rattle.sql_ast.specs.declared.privilege.Action.{Action}
use Rattle.sql_ast.specs.declared.statement.RowStatement.{RowStatement}
use Rattle.expressions.specs.Meaning.{UserNames}
use Rattle.expressions.specs.Stages.{◌>>=◌}
use Rattle.abstract_database.specs.Lists.{TheName}
use Rattle.abstract_database.specs.Database.{Database}
use Rattle.abstract_database.specs.Checks.{find_definition}
use Rattle.abstract_database.specs.Statements.{Checked, checked_over_rows}
use Rattle.stored_database.specs.Definitions.{TableDefinition, Definitions}
use Rattle.stored_database.specs.Valid.{Describes}
use Rattle.planner.specs.declared.named_table.NamedTable.{NamedTable}
use Rattle.planner.specs.declared.named_table.GuardedTable.{GuardedTable}
use Rattle.planner.specs.Answers.{IsGivenBy, IsRefusedBy}
use Rattle.planner.specs.NamedTable.{IsNamed, IsMissing, IsGuarded}
use Rattle.planner.specs.Plans.{HasRowsOfOneLength, IsChecked, IsRefusalOf}
use Rattle.planner.specs.Tables.{table_in}
use Rattle.planner.proofs.Checking.{missing}
use Rattle.planner.proofs.Named.{is_named}

-- a refusal that is handed on
pub handed_on : {A : Type 0} (r : Result A Refusal) (x : Refusal) (P : Refusal → Type 0) → r ≡ Err x → P x → IfErr r P
handed_on r x P e h = subst (λ o. IfErr o P) (sym e) h

module _ (d : Definitions) (role : TheName) (s : RowStatement) (name : TheName) where
  -- the table is not there
  pub not_found : ((db : Database) (users : UserNames) (code : SqlState) → find_definition db name ≡ Err code → checked_over_rows db users s ≡ Err code) → (x : Refusal) → IsMissing d name x → IsRefusalOf d role s x
  not_found begins x (inl e) one = inl e
  not_found begins x (inr e) one = inr (λ db users h is. begins db users x.0 (missing d db name x.0 h e))

  -- it is found, and what is left of the checks is said of it
  module _ {U : Type 0} (n : NamedTable) (named : IsNamed d role name n) (from : TableDefinition → Result U SqlState) (view : U → Checked)
      (are : (db : Database) (users : UserNames) → Describes d db → users.current ≡ role → checked_over_rows db users s ≡ (table_in d name >>= λ t. from t >>= λ u. Ok (view u))) where
    later : (a : Result U SqlState) → from n.table.now ≡ a → (db : Database) (users : UserNames) → Describes d db → users.current ≡ role → checked_over_rows db users s ≡ (a >>= λ u. Ok (view u))
    later a e db users h is = are db users h is ∙ ap (λ x. x >>= λ t. from t >>= λ u. Ok (view u)) named.found ∙ ap (λ x. x >>= λ u. Ok (view u)) e

    pub refused : (x : Refusal) → (HasRowsOfOneLength s → (x.0 ≡ OutOfMemory) ⊎ (from n.table.now ≡ Err x.0)) → IsRefusalOf d role s x
    refused x h one = go (h one) where
      go : (x.0 ≡ OutOfMemory) ⊎ (from n.table.now ≡ Err x.0) → IsRefusedBy checked_over_rows d role s x
      go (inl e) = inl e
      go (inr e) = inr (later (Err x.0) e)

    -- what they give is said of the guarded table
    pub planned : (a : Action) (reads : Bool) (g : GuardedTable) → IsGuarded d role n.table.now a reads g → (seen : TableDefinition → U) → (HasRowsOfOneLength s → from n.table.now ≡ Ok (seen n.table.now))
        → IsChecked (HasRowsOfOneLength s → IsGivenBy checked_over_rows d role s (view (seen g.source.table.now))) d role name a reads g.source g.roles
    planned a reads g guarded seen h = record {
      plan = λ one db users k is. later (Ok (seen n.table.now)) (h one) db users k is ∙ ap (λ t. Ok (view (seen t))) (sym guarded.table);
      table = is_named d name n.table.now g.source.table.now named.found guarded.table;
      guard = guarded.guard;
      roles = guarded.roles;
    }
