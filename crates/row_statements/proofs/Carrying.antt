-- Plans that change rows, to the database afterwards.
use Rattle.std.proofs.Common.{◌≡◌, ℕ, Bool, false, List, map, length, Option, Result, Ok, Err, Bor, refl, ap, sym, ◌∙◌, subst}
use Rattle.sql_types.specs.Row.{Row}
use Rattle.sql_types.specs.declared.state.SqlState.{SqlState}
use Rattle.sql_types.specs.declared.tag.Tag.{Tag}
use Rattle.sql_types.specs.declared.tag.Tag.TheVariants as tag
use Rattle.sql_ast.specs.declared.privilege.Action.{Action}
use Rattle.sql_ast.specs.declared.privilege.Action.TheVariants as action
use Rattle.sql_ast.specs.declared.statement.RowStatement.TheVariants as over_rows
use Rattle.sql_ast.specs.Fits.{FitsTable}
use Rattle.sql_ast.specs.Layout.{Layout, IsLayout}
use Rattle.store.specs.declared.fault.Fault.TheVariants.{Memory, Device, Damaged}
use Rattle.store.specs.declared.stop.StatementError.{StatementError}
use Rattle.store.specs.declared.stop.StatementError.TheVariants.{Refused, Failed}
use Rattle.store.specs.Records.{Records, IsOrdered}
use Rattle.expressions.specs.Meaning.{UserNames}
use Rattle.expressions.specs.Stages.{◌>>=◌}
use Rattle.expressions.specs.Types.{TypedTerm}
use Rattle.abstract_database.specs.Lists.{TheName}
use Rattle.abstract_database.specs.Database.{Database, rows_named}
use Rattle.abstract_database.specs.Definitions.{with_rows_of}
use Rattle.abstract_database.specs.Guards.{Guard, existing_guard, new_guard}
use Rattle.abstract_database.specs.Whole.{Each}
use Rattle.abstract_database.specs.Changes.{Changed, CheckedInsert, CheckedUpdate, CheckedDelete, inserted_row, assigned, rows_inserted, rows_updated, rows_deleted}
use Rattle.abstract_database.specs.Statements.{Effect, counted as meant_count}
use Rattle.stored_database.specs.Definitions.{TableDefinition, Definitions}
use Rattle.stored_database.specs.Records.{Shows}
use Rattle.stored_database.proofs.Wholeness.{shown_described}
use Rattle.planner.specs.declared.insert.InsertPlan.{InsertPlan}
use Rattle.planner.specs.declared.row_changes.ChangePlan.{ChangePlan}
use Rattle.planner.specs.declared.plans.Plan.TheVariants as plan
use Rattle.planner.specs.declared.sources.Source.{Source}
use Rattle.planner.specs.Fitting.{GivesFittingRow, row_inserted, row_updated}
use Rattle.planner.specs.Tables.{IsTableNamed}
use Rattle.planner.specs.Plans.{IsChecked}
use Rattle.planner.specs.Inserted.{checked_of as checked_insert_of}
use Rattle.planner.specs.RowChanges.{changes_of, without_values}
use Rattle.planner.proofs.Fitting.{layouts, inserts, updates}
use Rattle.table_rows.specs.declared.change.RowChanges.{RowChanges}
use Rattle.table_rows.specs.declared.target.Target.{Target}
use Rattle.table_rows.specs.declared.target.Insertion.{Insertion}
use Rattle.table_rows.specs.declared.target.Assignments.{Assignments}
use Rattle.table_rows.specs.HeldRows.{HoldsRows}
use Rattle.table_rows.specs.Targets.{users_of, sees, admits, terms_in, inserted_by, assigned_by, IsInsert, IsUpdate, IsDelete}
use Rattle.table_rows.specs.Ranged.{LosesNothing}
use Rattle.table_rows.specs.NewRows.{GiveFittingRows, MakesChanges, inserted as rows_made}
use Rattle.catalogue.specs.Executed.{Executes}
use Rattle.row_statements.specs.Executed.{Performs, effect_by, counted}
use Rattle.row_statements.specs.Targeted.{IsTargetOf}
use Rattle.row_statements.proofs.Afterwards.{own_name, of_table, shown_after}
use Rattle.row_statements.proofs.Targeting.{IsTargetWhere}
use Rattle.row_statements.proofs.Meanings.{held_there, makes_here, sees_is, admits_is, condition_is}

-- ---- the rows of a table

-- what is meant of a database where this is meant of the rows of a table
abbrev of_rows : Tag → TheName → Database → Result Changed SqlState → Result Effect SqlState
of_rows t name db changed = changed >>= λ c. Ok (meant_count t c.count (with_rows_of name c.rows db))

-- changes that lead to the rows that are meant, counted
led : (t : Tag) (records : Records) (d : Definitions) (db : Database) (name : TheName) (table : TableDefinition) (made : Result RowChanges StatementError) (rows : Result Changed SqlState)
    → IsOrdered records → Shows records d db → IsTableNamed d name table → MakesChanges table.id table.definition.layout records made rows
    → Executes records d (effect_by (counted t) made) (of_rows t table.definition.name db rows)
led t records d db name table (Ok made) rows o s named makes =
    let after = with_rows_of table.definition.name makes.0.rows db in
    record {
      after = after;
      answered = ap (of_rows t table.definition.name db) makes.1 ∙ ap (λ (n : ℕ). let r : Result Effect SqlState = Ok (meant_count t n after) in r) (sym makes.2.count);
      leads = shown_after records made.changes d db name table makes.0.rows o s named makes.2.concern makes.2.held;
    }
led t records d db name table (Err (Refused code)) rows o s named makes = ap (of_rows t table.definition.name db) makes
led t records d db name table (Err (Failed Memory)) rows o s named makes = tt
led t records d db name table (Err (Failed Device)) rows o s named makes = tt
led t records d db name table (Err (Failed Damaged)) rows o s named makes = makes

-- what a statement makes of the rows of a table, by its guards and its users
abbrev Change : Type 0
Change = Guard → Guard → UserNames → List Row → Result Changed SqlState

module _ (records : Records) (ordered : IsOrdered records) (users : UserNames) where
  -- what is made of the rows of the table of a plan is what is meant of them
  changed : {Given : Type 0} (t : Tag) (d : Definitions) (db : Database) (name : TheName) (a : Action) (reads : Bool) (s : Source) (names : List TheName) (target : Target) (made : Result RowChanges StatementError) (change : Change)
      → Shows records d db → IsChecked Given d users.current name a reads s names → IsTargetOf users s target
      → ((rows : List Row) → Each (FitsTable s.table.now.definition.layout) rows → IsLayout target.columns.now → HoldsRows target.id target.columns.now records rows
      → MakesChanges target.id target.columns.now records made (change (sees target) (admits target) (users_of target) rows))
      → Executes records d (effect_by (counted t) made)
      (of_rows t s.table.now.definition.name db (change (existing_guard db users s.table.now.definition a reads) (new_guard db users s.table.now.definition a reads) users (rows_named db s.table.now.definition.name)))
  changed t d db name a reads s names target made change shown c is gives =
      let table = s.table.now in
      let h = shown_described records d db shown in
      let own = of_table records d db table shown (own_name d name table c.table) in
      let rows = change (sees target) (admits target) (users_of target) own.rows in
      let same : change (existing_guard db users table.definition a reads) (new_guard db users table.definition a reads) users (rows_named db table.definition.name) ≡ rows =
      ap (λ (g : Guard). change g (new_guard db users table.definition a reads) users (rows_named db table.definition.name)) (sees_is users s target is d db h c.table.among a reads c.guard.existing)
      ∙ ap (λ (g : Guard). change (sees target) g users (rows_named db table.definition.name)) (admits_is users s target is d db h c.table.among a reads c.guard.new)
      ∙ ap (λ (u : UserNames). change (sees target) (admits target) u (rows_named db table.definition.name)) (sym is.who)
      ∙ ap (change (sees target) (admits target) (users_of target)) own.are in
      subst (λ (r : Result Changed SqlState). Executes records d (effect_by (counted t) made) (of_rows t table.definition.name db r)) (sym same)
      (led t records d db name table made rows ordered shown c.table (makes_here users s target is records made rows
      (gives own.rows own.held.fit (subst IsLayout (sym is.layout) (layouts d name table h.valid c.table)) (held_there users s target is records own.rows own.held))))

  -- ---- DELETE

  pub deletes : (p : ChangePlan) (target : Target) (condition : Option (Bor TypedTerm)) (made : Result RowChanges StatementError) → IsTargetWhere users p.target p.condition condition target
      → ((rows : List Row) (c : CheckedDelete) → IsLayout target.columns.now → HoldsRows target.id target.columns.now records rows → IsDelete target condition c
      → LosesNothing target condition → MakesChanges target.id target.columns.now records made (rows_deleted (sees target) (users_of target) c rows))
      → Performs records users (plan.Delete p) (effect_by (counted tag.Delete) made)
  deletes p target condition made at gives d db (over_rows.Delete s) shown c read =
      changed tag.Delete d db s.table action.Delete p.reads p.target p.roles target made (λ existing new who rows. rows_deleted existing who (without_values (changes_of p)) rows) shown c at.is (λ rows fit layout held.
      gives rows (without_values (changes_of p)) layout held (record { layout = sym at.is.layout; where_is = condition_is condition p.condition at.same }) at.lossless)
  deletes p target condition made at gives d db s shown c read = absurd c

  -- ---- UPDATE

  -- rows that the plan makes are those that it is carried out with
  updates_there : (p : ChangePlan) (target : Target) (assignments : Assignments) (rows : List Row) → IsTargetOf users p.target target → assignments.columns.now ≡ p.columns → assignments.values.now ≡ p.values
      → Each (λ (row : Row). GivesFittingRow p.target.table.now.definition.layout (row_updated users p row)) rows → GiveFittingRows target.columns.now (assigned_by target assignments) rows
  updates_there p target assignments rows is columns values fit =
      subst (λ (layout : Layout). GiveFittingRows layout (λ row. assigned (users_of target) assignments.columns.now (terms_in assignments.values.now) row) rows) (sym is.layout)
      (subst (λ (u : UserNames). GiveFittingRows p.target.table.now.definition.layout (λ row. assigned u assignments.columns.now (terms_in assignments.values.now) row) rows) (sym is.who)
      (subst (λ (cs : List ℕ). GiveFittingRows p.target.table.now.definition.layout (λ row. assigned users cs (terms_in assignments.values.now) row) rows) (sym columns)
      (subst (λ (vs : List TypedTerm). GiveFittingRows p.target.table.now.definition.layout (λ row. assigned users p.columns (terms_in vs) row) rows) (sym values) fit)))

  pub updates_rows : (p : ChangePlan) (target : Target) (condition : Option (Bor TypedTerm)) (assignments : Assignments) (made : Result RowChanges StatementError) → IsTargetWhere users p.target p.condition condition target
      → assignments.columns.now ≡ p.columns → assignments.values.now ≡ p.values
      → ((rows : List Row) (c : CheckedUpdate) → IsLayout target.columns.now → HoldsRows target.id target.columns.now records rows → IsUpdate target condition assignments c
      → GiveFittingRows target.columns.now (assigned_by target assignments) rows
      → LosesNothing target condition → MakesChanges target.id target.columns.now records made (rows_updated (sees target) (admits target) (users_of target) c rows))
      → Performs records users (plan.Update p) (effect_by (counted tag.Update) made)
  updates_rows p target condition assignments made at columns values gives d db (over_rows.Update s) shown c read =
      changed tag.Update d db s.table action.Update p.reads p.target p.roles target made (λ existing new who rows. rows_updated existing new who (changes_of p) rows) shown c at.is (λ rows fit layout held.
      gives rows (changes_of p) layout held (record { layout = sym at.is.layout; columns = sym columns; values = ap terms_in (sym values); where_is = condition_is condition p.condition at.same })
      (updates_there p target assignments rows at.is columns values (updates d db users s p rows (shown_described records d db shown) (read tt).0 (read tt).1 c fit)) at.lossless)
  updates_rows p target condition assignments made at columns values gives d db s shown c read = absurd c

  -- ---- INSERT

  inserts_there : (p : InsertPlan) (target : Target) (insertion : Insertion) → IsTargetOf users p.target target → insertion.columns.now ≡ p.columns → insertion.rows.now ≡ p.rows
      → Each (λ (values : List TypedTerm). GivesFittingRow p.target.table.now.definition.layout (row_inserted users p values)) p.rows → GiveFittingRows target.columns.now (inserted_by target insertion) insertion.rows.now
  inserts_there p target insertion is columns rows fit =
      subst (λ (layout : Layout). GiveFittingRows layout (λ values. inserted_row layout (users_of target) insertion.columns.now (terms_in values)) insertion.rows.now) (sym is.layout)
      (subst (λ (u : UserNames). GiveFittingRows p.target.table.now.definition.layout (λ values. inserted_row p.target.table.now.definition.layout u insertion.columns.now (terms_in values)) insertion.rows.now) (sym is.who)
      (subst (λ (cs : List ℕ). GiveFittingRows p.target.table.now.definition.layout (λ values. inserted_row p.target.table.now.definition.layout users cs (terms_in values)) insertion.rows.now) (sym columns)
      (subst (λ (vs : List (List TypedTerm)). GiveFittingRows p.target.table.now.definition.layout (λ values. inserted_row p.target.table.now.definition.layout users p.columns (terms_in values)) vs) (sym rows) fit)))

  new_count : (name : TheName) (db : Database) (n : ℕ) (r : Result (List Row) SqlState) → (r >>= λ rows. Ok (meant_count tag.Insert n (with_rows_of name rows db))) ≡ of_rows tag.Insert name db (r >>= λ after. Ok (record { rows = after; count = n }))
  new_count name db n (Ok rows) = refl
  new_count name db n (Err code) = refl

  pub inserts_rows : (p : InsertPlan) (target : Target) (insertion : Insertion) (made : Result RowChanges StatementError) → IsTargetOf users p.target target → insertion.columns.now ≡ p.columns → insertion.rows.now ≡ p.rows
      → ((rows : List Row) (c : CheckedInsert) → IsLayout target.columns.now → HoldsRows target.id target.columns.now records rows → IsInsert target insertion c
      → GiveFittingRows target.columns.now (inserted_by target insertion) insertion.rows.now
      → MakesChanges target.id target.columns.now records made (rows_made (admits target) (users_of target) c rows))
      → Performs records users (plan.Insert p) (effect_by (counted tag.Insert) made)
  inserts_rows p target insertion made is columns values gives d db (over_rows.Insert s) shown c read =
      let name = p.target.table.now.definition.name in
      let checked = checked_insert_of p in
      subst (Executes records d (effect_by (counted tag.Insert) made)) (sym (new_count name db (length checked.rows) (rows_inserted (new_guard db users checked.table action.Insert false) users checked (rows_named db name))))
      (changed tag.Insert d db s.table action.Insert false p.target p.roles target made (λ existing new who rows. rows_made new who checked rows) shown c is (λ rows fit layout held.
      gives rows checked layout held (record { layout = sym is.layout; columns = sym columns; rows = ap (map terms_in) (sym values) })
      (inserts_there p target insertion is columns values (inserts d db users s p (shown_described records d db shown) (read tt).0 (read tt).1 c))))
  inserts_rows p target insertion made is columns values gives d db s shown c read = absurd c
