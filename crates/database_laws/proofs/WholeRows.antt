-- Databases stay whole when rows come, go and change.
use Rattle.abstract_database.proofs.CheckLemmas.{insert_checked, update_checked, delete_checked}
use Rattle.std.proofs.Common.{◌≡◌, true, false, List, [], map, length, Option, Some, Result, Ok, refl, sym, ap, ◌∙◌, subst, inl, inr, arith}
use Rattle.std.specs.List.{list_all}
use Rattle.sql_types.specs.Row.{Row}
use Rattle.sql_types.specs.declared.state.SqlState.{SqlState}
use Rattle.sql_types.specs.declared.state.SqlState.TheVariants.{NotNullViolation, ProgramLimitExceeded}
use Rattle.sql_types.specs.declared.tag.Tag.TheVariants as tag
use Rattle.sql_ast.specs.declared.expression.ColumnName.{ColumnName}
use Rattle.sql_ast.specs.declared.privilege.Action.TheVariants as action
use Rattle.sql_ast.specs.declared.statement.Assignment.{Assignment}
use Rattle.sql_ast.specs.declared.statement.Insert.{Insert}
use Rattle.sql_ast.specs.declared.statement.Update.{Update}
use Rattle.sql_ast.specs.declared.statement.Delete.{Delete}
use Rattle.sql_ast.specs.Layout.{Layout, all_differ, same_name}
use Rattle.sql_ast.specs.Rows.{row_cmp, fits_record}
use Rattle.sql_ast.specs.Term.{Term}
use Rattle.sql_ast.specs.Read.{AreSome, IsReadTerm, IsReadInsert, IsReadUpdate, IsReadAssignment}
use Rattle.expressions.specs.Meaning.{UserNames}
use Rattle.expressions.specs.Names.{resolved}
use Rattle.abstract_database.specs.Lists.{TheName, Among}
use Rattle.abstract_database.specs.Database.{TableOf, Table, Database, is_table_named, table_named, rows_named}
use Rattle.abstract_database.specs.Expressions.{own_scope}
use Rattle.abstract_database.specs.Guards.{Guard, existing_guard, new_guard}
use Rattle.abstract_database.specs.Changes.{keeps_not_null, checked_rows, is_admitted, Chosen, inserted_row, rows_inserted, choose, condition_on_row, assigned, new_rows, other_rows, Changed, CheckedInsert, CheckedUpdate, CheckedDelete, rows_updated, rows_deleted}
use Rattle.abstract_database.specs.Definitions.{with_rows_of}
use Rattle.abstract_database.specs.Statements.{counted, inserted, insert, updated, update, deleted, delete}
use Rattle.abstract_database.specs.Whole.{Each, AreWholeRows, IsWhole, AreRolesOf}
use Rattle.abstract_database.proofs.RowOrder.{RowFits}
use Rattle.abstract_database.proofs.ValueTypes.{inserted_fits, assigned_fits}
use Rattle.abstract_database.proofs.ResultLemmas.{Every, every_bind, every_ok, require_ok, each_from}
use Rattle.abstract_database.proofs.ListLemmas.{in_append_left}
use Rattle.database_laws.specs.Tables.{HasTypes}
use Rattle.database_laws.proofs.RowLemmas.{Part, whole, of_part, rising_part, of_with, either_side, Checked, checked, Written, wrote, written_rising, written_types, chosen_row, of_new_rows, others_part}
use Rattle.database_laws.proofs.QueryLemmas.{of_map}
use Rattle.database_laws.proofs.TableLemmas.{Fine, fine_parts, in_flat}
use Rattle.database_laws.proofs.WholeLists.{each_of, each_passes, of_change_first}
use Rattle.database_laws.proofs.Defining.{IsWholeAside, WholeAfter}
use Rattle.database_laws.proofs.WholeRoles.{role_is_name}
use Rattle.database_laws.proofs.WholeTables.{changed_whole}
use Rattle.database_laws.proofs.WholePrivileges.{IsFound, table_found}
use Rattle.abstract_database.specs.Checks.{insert_parts, value_parts, new_values, update_parts, condition_parts, checked_insert, checked_update, checked_delete}
use Rattle.expressions.specs.Stages.{require, each}
use Rattle.abstract_database.proofs.ReadValues.{AreTexts, name_is_text}
use Rattle.abstract_database.proofs.NewRows.{IsRowOf, row_of, types_of, fits_row, inserted_is_row, assigned_is_row}

-- ---- rows that were written

sized : (layout : Layout) (guard : Guard) (kept new : List Row) → Every (λ rows. list_all (fits_record layout) new ≡ true) (checked_rows layout guard kept new)
sized layout guard kept new =
    every_bind (λ rows. list_all (fits_record layout) new ≡ true) (each (is_admitted guard) new) _ (λ l a.
    every_bind (λ rows. list_all (fits_record layout) new ≡ true) (require (list_all (keeps_not_null layout.columns) new) NotNullViolation) _ (λ u b.
    every_bind (λ rows. list_all (fits_record layout) new ≡ true) (require (list_all (fits_record layout) new) ProgramLimitExceeded) _ (λ v c.
    λ rows e. require_ok (list_all (fits_record layout) new) ProgramLimitExceeded v c)))

module _ (t : TableOf) (rows_before : List Row) (differ : all_differ same_name t.layout.columns ≡ true) (old : AreWholeRows t.layout rows_before) where
  abbrev before : Table
  before = record { definition = t; rows = rows_before }

  old_types : HasTypes before
  old_types row h = types_of t.layout.columns row (old.fit row h).columns.width (old.fit row h).columns.each

  rows_removed : (rows : List Row) → Part rows rows_before → AreWholeRows t.layout rows
  rows_removed rows p = record { fit = λ row h. old.fit row (of_part p row h); order = rising_part (row_cmp t.layout.key) p old.order }

  rows_written : (kept new rows : List Row) → Part kept rows_before → Checked t.layout kept new rows → list_all (fits_record t.layout) new ≡ true →
      Each (RowFits t.layout.columns) new → Each (IsRowOf t.layout.columns) new → AreWholeRows t.layout rows
  rows_written kept new rows p c fine typed of_columns =
      let w : Written before rows = wrote kept new p c (λ d q row h. typed row h) in
      record {
        fit = λ row h. elim (either_side kept new row (of_with t.layout.key new kept row (subst (λ l. Among row l) c.is h))) [
          | inl k ↦ old.fit row (of_part p row k)
          | inr k ↦ fits_row t.layout row (of_columns row k) (typed row k)
              (each_passes (keeps_not_null t.layout.columns) new c.not_null row k) (each_passes (fits_record t.layout) new fine row k)
        ];
        order = written_rising before rows (written_types before rows differ old_types w) old.order w;
      }

abbrev WholeChanged : Layout → Changed → Type 0
WholeChanged layout c = AreWholeRows layout c.rows

inserted_whole : (c : CheckedInsert) (rows_before : List Row) → all_differ same_name c.table.layout.columns ≡ true → AreWholeRows c.table.layout rows_before → (g : Guard) (users : UserNames) → AreTexts users →
    (lists : List (List (Term ColumnName))) → Each (AreSome IsReadTerm) lists → each (each (resolved [])) lists ≡ Ok c.rows → ((terms : List (Term ColumnName)) → Among terms lists → Fine (value_parts [] c.table.layout c.columns terms)) →
    Every (AreWholeRows c.table.layout) (rows_inserted g users c rows_before)
inserted_whole c rows_before differ old g users texts lists read bound fine =
    every_bind (AreWholeRows c.table.layout) (each (inserted_row c.table.layout users c.columns) c.rows) _ (λ new a.
    λ rows b. rows_written c.table rows_before differ old rows_before new rows (whole rows_before) (checked c.table.layout g rows_before new rows b) (sized c.table.layout g rows_before new rows b)
    (λ row h. let from = each_from (inserted_row c.table.layout users c.columns) c.rows new a row h in
    let term = each_from (each (resolved [])) lists c.rows bound from.0 from.1 in
    inserted_fits c.table.layout users c.columns term.0 from.0 row (fine term.0 term.1) term.2 from.2)
    (λ row h. let from = each_from (inserted_row c.table.layout users c.columns) c.rows new a row h in
    let term = each_from (each (resolved [])) lists c.rows bound from.0 from.1 in
    inserted_is_row c.table.layout users texts c.columns term.0 from.0 (each_of IsReadTerm term.0 (read term.0 term.1).each) term.2 row from.2))

module _ (c : CheckedUpdate) (rows_before : List Row) (differ : all_differ same_name c.table.layout.columns ≡ true) (old : AreWholeRows c.table.layout rows_before) (existing admitting : Guard) (users : UserNames) (texts : AreTexts users) (terms : List (Term ColumnName)) (read : Each IsReadTerm terms) (bound : each (resolved (own_scope c.table)) terms ≡ Ok c.values) (fine : Fine (value_parts (own_scope c.table) c.table.layout c.columns terms)) where
  abbrev becomes : Row → Result Row SqlState
  becomes = assigned users c.columns c.values

  abbrev chooses : Row → Result Chosen SqlState
  chooses = choose existing (condition_on_row users c.condition) becomes

  made_from : (chosen : List Chosen) → each chooses rows_before ≡ Ok chosen → (row : Row) → Among row (new_rows chosen) →
      (first : Row) × Among first rows_before × (becomes first ≡ Ok row)
  made_from chosen a row h =
      let at = of_new_rows chosen row h in
      let from = each_from chooses rows_before chosen a at.0 at.1 in
      (from.0, from.1, (chosen_row existing (condition_on_row users c.condition) becomes from.0 at.0 from.2).1 row at.2)

  updated_whole : Every (WholeChanged c.table.layout) (rows_updated existing admitting users c rows_before)
  updated_whole =
      every_bind (WholeChanged c.table.layout) (each chooses rows_before) _ (λ chosen a.
      every_bind (WholeChanged c.table.layout) (checked_rows c.table.layout admitting (other_rows chosen) (new_rows chosen)) _ (λ rows b.
      every_ok (WholeChanged c.table.layout) (record { rows = rows; count = length (new_rows chosen) })
      (rows_written c.table rows_before differ old (other_rows chosen) (new_rows chosen) rows
      (others_part becomes chooses (chosen_row existing (condition_on_row users c.condition) becomes) rows_before chosen a)
      (checked c.table.layout admitting (other_rows chosen) (new_rows chosen) rows b) (sized c.table.layout admitting (other_rows chosen) (new_rows chosen) rows b)
      (λ row h. let from = made_from chosen a row h in
      assigned_fits c.table users c.columns terms c.values from.0 row (omega (arith, (row_of c.table.layout from.0 (old.fit from.0 from.1)).width)) (old_types c.table rows_before differ old from.0 from.1) fine bound from.2)
      (λ row h. let from = made_from chosen a row h in assigned_is_row c.table users texts c.columns terms c.values read bound from.0 (row_of c.table.layout from.0 (old.fit from.0 from.1)) row from.2))))

deleted_whole : (c : CheckedDelete) (rows_before : List Row) → all_differ same_name c.table.layout.columns ≡ true → AreWholeRows c.table.layout rows_before → (existing : Guard) (users : UserNames) →
    Every (WholeChanged c.table.layout) (rows_deleted existing users c rows_before)
deleted_whole c rows_before differ old existing users =
    every_bind (WholeChanged c.table.layout) (each (choose existing (condition_on_row users c.condition) (λ row. Ok row)) rows_before) _ (λ chosen a.
    every_ok (WholeChanged c.table.layout) (record { rows = other_rows chosen; count = length (new_rows chosen) })
    (rows_removed c.table rows_before differ old (other_rows chosen) (others_part (λ row. Ok row) (choose existing (condition_on_row users c.condition) (λ row. Ok row)) (chosen_row existing (condition_on_row users c.condition) (λ row. Ok row)) rows_before chosen a)))

-- ---- databases

texts_of : (db : Database) (users : UserNames) → IsWhole db → AreRolesOf db users → AreTexts users
texts_of db users w are = record {
  current = name_is_text users.current (role_is_name db.roles w.definitions.roles.roles users.current are.current);
  session = name_is_text users.session (role_is_name db.roles w.definitions.roles.roles users.session are.session);
}

same_found : (o : Option Table) (a b : Table) → o ≡ Some a → o ≡ Some b → a ≡ b
same_found o a b e f = let both : ◌≡◌ {A = Option Table} (Some a) (Some b) = sym e ∙ f in cc

module _ (db : Database) (w : IsWhole db) (name : TheName) (d : TableOf) (f : IsFound db name d) where
  old_rows : AreWholeRows d.layout (rows_named db d.name)
  old_rows = subst (AreWholeRows d.layout) (sym f.rows) (subst (λ x. AreWholeRows x.layout f.table.rows) f.is (w.rows f.table f.there))

  columns_differ : all_differ same_name d.layout.columns ≡ true
  columns_differ = subst (λ (x : TableOf). all_differ same_name x.layout.columns ≡ true) f.is (w.definitions.tables.tables f.table f.there).layout.names_differ

  rows_in_place : (rows : List Row) → AreWholeRows d.layout rows → IsWholeAside (with_rows_of d.name rows db)
  rows_in_place rows whole_rows =
      changed_whole db w d.name (λ (x : Table). record x { rows = rows }) (λ x. record { name = refl; owner = refl; layout = refl })
      (λ x h. elim (of_change_first (is_table_named d.name) (λ (y : Table). record y { rows = rows }) db.tables x h) [
        | inl stays ↦ w.rows x stays
        | inr at ↦ subst (λ (y : Table). AreWholeRows y.definition.layout y.rows) at.3
            (subst (λ (y : Table). AreWholeRows y.definition.layout rows) (same_found (table_named db d.name) f.table at.0 (ap (table_named db) f.own ∙ f.named) at.2)
            (subst (λ (x : TableOf). AreWholeRows x.layout rows) (sym f.is) whole_rows))
      ])

-- the new values of assignments that were read
values_read : (as' : List Assignment) → Each IsReadAssignment as' → Each IsReadTerm (map (λ (a : Assignment). a.value) as')
values_read as' each term h =
    let from = of_map (λ (a : Assignment). a.value) as' term h in
    subst IsReadTerm from.2 (each from.0 from.1).value

pub insert_whole : (db : Database) (users : UserNames) (s : Insert) → IsReadInsert s → IsWhole db → AreRolesOf db users → Every WholeAfter (insert db users s)
insert_whole db users s read w are =
    every_bind WholeAfter (checked_insert db users s) (inserted db users) (λ c c-is.
    let facts = insert_checked db users s c c-is in
    let f = table_found db s.table c.table facts.found in
    every_bind WholeAfter (rows_inserted (new_guard db users c.table action.Insert false) users c (rows_named db c.table.name)) _ (λ rows rows-is.
    every_ok WholeAfter (counted tag.Insert (length c.rows) (with_rows_of c.table.name rows db))
    (rows_in_place db w s.table c.table f rows
    (inserted_whole c (rows_named db c.table.name) (columns_differ db w s.table c.table f) (old_rows db w s.table c.table f) (new_guard db users c.table action.Insert false) users (texts_of db users w are) s.rows
    (each_of (AreSome IsReadTerm) s.rows read.rows.each) facts.bound
    (λ terms h p k. fine_parts (insert_parts c.table.layout c.columns s.rows) facts.types facts.typed p (in_flat (value_parts [] c.table.layout c.columns) s.rows terms p h k))
    rows rows-is))))

pub update_whole : (db : Database) (users : UserNames) (s : Update) → IsReadUpdate s → IsWhole db → AreRolesOf db users → Every WholeAfter (update db users s)
update_whole db users s read w are =
    every_bind WholeAfter (checked_update db users s) (updated db users) (λ c c-is.
    let facts = update_checked db users s c c-is in
    let f = table_found db s.table c.table facts.found in
    every_bind WholeAfter (rows_updated (existing_guard db users c.table action.Update c.reads) (new_guard db users c.table action.Update c.reads) users c (rows_named db c.table.name)) _ (λ changed changed-is.
    every_ok WholeAfter (counted tag.Update changed.count (with_rows_of c.table.name changed.rows db))
    (rows_in_place db w s.table c.table f changed.rows
    (updated_whole c (rows_named db c.table.name) (columns_differ db w s.table c.table f) (old_rows db w s.table c.table f) (existing_guard db users c.table action.Update c.reads) (new_guard db users c.table action.Update c.reads) users (texts_of db users w are) (new_values s)
    (values_read s.assignments (each_of IsReadAssignment s.assignments read.assignments.each)) facts.bound
    (λ p k. fine_parts (update_parts c.table c.columns s) facts.types facts.typed p (in_append_left (value_parts (own_scope c.table) c.table.layout c.columns (new_values s)) (condition_parts c.table s.condition) p k))
    changed changed-is))))

pub delete_whole : (db : Database) (users : UserNames) (s : Delete) → IsWhole db → Every WholeAfter (delete db users s)
delete_whole db users s w =
    every_bind WholeAfter (checked_delete db users s) (deleted db users) (λ c c-is.
    let facts = delete_checked db users s c c-is in
    let f = table_found db s.table c.table facts.found in
    every_bind WholeAfter (rows_deleted (existing_guard db users c.table action.Delete c.reads) users c (rows_named db c.table.name)) _ (λ changed changed-is.
    every_ok WholeAfter (counted tag.Delete changed.count (with_rows_of c.table.name changed.rows db))
    (rows_in_place db w s.table c.table f changed.rows
    (deleted_whole c (rows_named db c.table.name) (columns_differ db w s.table c.table f) (old_rows db w s.table c.table f) (existing_guard db users c.table action.Delete c.reads) users changed changed-is))))
