-- What a statement leaves of the tables: the rows of one at most are others.
use Rattle.abstract_database.proofs.ValueTypes.{inserted_fits}
use Rattle.database_laws.proofs.TypeLemmas.{found_types, assigned_fits}
use Rattle.database_laws.specs.Tables.{EachTable}
use Rattle.abstract_database.proofs.ElementLemmas.{of_filter}
use Rattle.abstract_database.proofs.ListLemmas.{in_append_left}
use Rattle.abstract_database.proofs.RowOrder.{RowFits}
use Rattle.abstract_database.proofs.ResultLemmas.{Every, every_bind, every_ok, each_to, each_from}
use Rattle.database_laws.proofs.RowLemmas.{whole, checked, Written, removed, wrote, chosen_row, others_part, of_new_rows}
use Rattle.sql_ast.specs.Layout.{all_differ, same_name}
use Rattle.std.proofs.Common.{◌≡◌, ◌⊎◌, ℕ, refl, sym, ap, ◌∙◌, subst, inl, inr, find, cond, Ordering, Less, Equal, Greater, is_eq, is_lt, Bool, true, false, not, List, [], ◌∷◌, ◌++◌, map, length, Option, Some, Ok, flat_map}
use Rattle.sql_types.specs.declared.answer.Answer.TheVariants as answer
use Rattle.sql_types.specs.declared.tag.Tag.TheVariants as tag
use Rattle.sql_ast.specs.declared.columns.ColumnType.{ColumnType}
use Rattle.sql_ast.specs.declared.expression.ColumnName.{ColumnName}
use Rattle.sql_ast.specs.declared.privilege.Action.TheVariants as action
use Rattle.sql_ast.specs.declared.statement.RowStatement.{RowStatement}
use Rattle.sql_ast.specs.declared.statement.RowStatement.TheVariants as over_rows
use Rattle.sql_ast.specs.Term.{Term}
use Rattle.sql_ast.specs.declared.statement.Insert.{Insert}
use Rattle.sql_ast.specs.declared.statement.Update.{Update}
use Rattle.sql_ast.specs.declared.statement.Delete.{Delete}
use Rattle.sql_ast.specs.declared.statement.Select.{Select}
use Rattle.sql_ast.specs.declared.scope.ColumnIndex.{ColumnIndex}
use Rattle.expressions.specs.Names.{resolved}
use Rattle.expressions.specs.Meaning.{UserNames}
use Rattle.abstract_database.specs.Lists.{TheName, Among, put, the_new, change_first, drop_where}
use Rattle.expressions.specs.Parts.{check_expressions, Part, check_type}
use Rattle.expressions.specs.Stages.{each}
use Rattle.abstract_database.specs.Database.{TableOf, Table, Database, table_named, rows_named, is_table_named, table_cmp}
use Rattle.sql_types.specs.Row.{Row}
use Rattle.abstract_database.specs.Expressions.{column_type, own_scope}
use Rattle.abstract_database.specs.Guards.{existing_guard, new_guard, Guard}
use Rattle.abstract_database.specs.Queries.{query}
use Rattle.abstract_database.specs.Changes.{Chosen, CheckedInsert, CheckedUpdate, CheckedDelete, rows_inserted, rows_updated, rows_deleted, Changed, checked_rows, inserted_row, choose, condition_on_row, assigned, new_rows, other_rows}
use Rattle.abstract_database.specs.Definitions.{with_rows_of, with_row_security}
use Rattle.sql_ast.specs.declared.statement.RowSecurityChange.{RowSecurityChange}
use Rattle.sql_ast.specs.declared.statement.RowSecurityChange.TheVariants as change
use Rattle.abstract_database.specs.Checks.{value_parts, new_values, set_names, insert_parts, update_parts, condition_parts, checked_insert, checked_update, checked_delete, checked_select}
use Rattle.abstract_database.specs.Statements.{Effect, effect, counted, exec_over_rows, source_of, inserted, updated, deleted, selected, insert, update, delete, select}
use Rattle.abstract_database.proofs.CheckLemmas.{found_definition, found_rows, insert_checked, update_checked, delete_checked}

-- ---- the table that is changed

changed_at : {X : Type 0} (test : X → Bool) (change : X → X) (x : X) (xs : List X) (y : X) (b : Bool) → test x ≡ b →
    (Among y (change_first test change xs) → Among y xs ⊎ ((z : X) × (find test xs ≡ Some z) × Among z xs × (y ≡ change z))) →
    Among y (cond b (change x ∷ xs) (x ∷ change_first test change xs)) → Among y (x ∷ xs) ⊎ ((z : X) × (cond b (Some x) (find test xs) ≡ Some z) × Among z (x ∷ xs) × (y ≡ change z))
changed_at test change x xs y true e go (inl is) = inr (x, refl, inl refl, sym is)
changed_at test change x xs y true e go (inr later) = inl (inr later)
changed_at test change x xs y false e go (inl is) = inl (inl is)
changed_at test change x xs y false e go (inr later) = elim (go later) [ inl h ↦ inl (inr h) | inr found ↦ inr (found.0, found.1, inr found.2, found.3) ]

of_changed : {X : Type 0} (test : X → Bool) (change : X → X) (xs : List X) (y : X) → Among y (change_first test change xs) → Among y xs ⊎ ((z : X) × (find test xs ≡ Some z) × Among z xs × (y ≡ change z))
of_changed test change [] y h = absurd h
of_changed test change (x ∷ xs) y h = changed_at test change x xs y (test x) refl (of_changed test change xs y) h

of_new_at : {X : Type 0} (cmp : X → X → Ordering) (x y : X) (ys : List X) (w : X) (o : Ordering) → (Among w (put cmp the_new x ys) → (x ≡ w) ⊎ Among w ys) →
    Among w (cond (is_lt o) (x ∷ y ∷ ys) (cond (is_eq o) (the_new y x ∷ ys) (y ∷ put cmp the_new x ys))) → (x ≡ w) ⊎ Among w (y ∷ ys)
of_new_at cmp x y ys w Less go (inl is) = inl is
of_new_at cmp x y ys w Less go (inr later) = inr later
of_new_at cmp x y ys w Equal go (inl is) = inl is
of_new_at cmp x y ys w Equal go (inr later) = inr (inr later)
of_new_at cmp x y ys w Greater go (inl is) = inr (inl is)
of_new_at cmp x y ys w Greater go (inr later) = elim (go later) [ inl is ↦ inl is | inr h ↦ inr (inr h) ]

of_new : {X : Type 0} (cmp : X → X → Ordering) (x : X) (ys : List X) (w : X) → Among w (put cmp the_new x ys) → (x ≡ w) ⊎ Among w ys
of_new cmp x [] w h = h
of_new cmp x (y ∷ ys) w h = of_new_at cmp x y ys w (cmp x y) (of_new cmp x ys w) h

pub no_double : (b : Bool) → not b ≡ true → b ≡ false
no_double true e = cc
no_double false e = refl

-- ---- what the tables are after a statement

-- each table was there, or has no rows, or was there but for its flags, or but for rows that were written
pub data FromBefore (db : Database) (t : Table) : Type 0 where
  stayed : Among t db.tables → FromBefore db t
  empty : t.rows ≡ [] → all_differ same_name t.definition.layout.columns ≡ true → FromBefore db t
  altered : (old : Table) → Among old db.tables → t.rows ≡ old.rows → t.definition.layout ≡ old.definition.layout → FromBefore db t
  written : (old : Table) (rows : List Row) → Among old db.tables → Written old rows → t ≡ record old { rows = rows } → FromBefore db t

abbrev pub TablesFrom : Database → Effect → Type 0
TablesFrom db e = (t : Table) → Among t e.database.tables → FromBefore db t

pub same_tables : (db : Database) (t : Table) → Among t db.tables → FromBefore db t
same_tables db t h = stayed h

pub new_table : (db : Database) (n : Table) → n.rows ≡ [] → all_differ same_name n.definition.layout.columns ≡ true → (t : Table) → Among t (put table_cmp the_new n db.tables) → FromBefore db t
new_table db n none differ t h = elim (of_new table_cmp n db.tables t h) [
  | inl is ↦ empty (subst (λ x. x.rows ≡ []) is none) (subst (λ x. all_differ same_name x.definition.layout.columns ≡ true) is differ)
  | inr there ↦ stayed there
]

pub fewer_tables : (db : Database) (test : Table → Bool) (t : Table) → Among t (drop_where test db.tables) → FromBefore db t
fewer_tables db test t h = stayed (of_filter (λ x. not (test x)) db.tables t h).0

flags : (c : RowSecurityChange) (t : Table) → ((with_row_security c t).rows ≡ t.rows) × ((with_row_security c t).definition.layout ≡ t.definition.layout)
flags change.Enable t = (refl, refl)
flags change.Disable t = (refl, refl)
flags change.Force t = (refl, refl)
flags change.NoForce t = (refl, refl)

pub altered_table : (db : Database) (name : TheName) (c : RowSecurityChange) (t : Table) → Among t (change_first (is_table_named name) (with_row_security c) db.tables) → FromBefore db t
altered_table db name c t h = elim (of_changed (is_table_named name) (with_row_security c) db.tables t h) [
  | inl there ↦ stayed there
  | inr found ↦ altered found.0 found.2 (ap (λ x. x.rows) found.3 ∙ (flags c found.0).0) (ap (λ x. x.definition.layout) found.3 ∙ (flags c found.0).1)
]

written_table : (db : Database) (name : TheName) (table : Table) (rows : List Row) → table_named db name ≡ Some table → Written table rows → (t : Table) →
    Among t (change_first (is_table_named name) (λ x. record x { rows = rows }) db.tables) → FromBefore db t
written_table db name table rows found w t h = elim (of_changed (is_table_named name) (λ (x : Table). record x { rows = rows }) db.tables t h) [
  | inl there ↦ stayed there
  | inr at ↦ written at.0 rows at.2 (subst (λ x. Written x rows) (some_inside (sym found ∙ at.1)) w) at.3
] where
  some_inside : {a b : Table} → Some a ≡ Some b → a ≡ b
  some_inside e = cc

-- ---- what INSERT, UPDATE and DELETE write

-- each part of these was checked
abbrev pub Fine : List Part → Type 0
Fine parts = (p : Part) → Among p parts → (u : Unit {0}) × (check_type p ≡ Ok u)

pub fine_parts : (parts : List Part) (l : List (Unit {0})) → check_expressions parts ≡ Ok l → Fine parts
fine_parts parts l e = λ p h. let at = each_to check_type parts l e p h in (at.0, at.1)

pub in_right : {X : Type 0} (xs ys : List X) (z : X) → Among z ys → Among z (xs ++ ys)
in_right [] ys z h = h
in_right (x ∷ xs) ys z h = inr (in_right xs ys z h)

pub in_flat : {X Y : Type 0} (f : X → List Y) (xs : List X) (x : X) (y : Y) → Among x xs → Among y (f x) → Among y (flat_map f xs)
in_flat f [] x y h k = absurd h
in_flat f (z ∷ zs) x y (inl is) k = in_append_left (f z) (flat_map f zs) y (subst (λ w. Among y (f w)) (sym is) k)
in_flat f (z ∷ zs) x y (inr later) k = in_right (f z) (flat_map f zs) y (in_flat f zs x y later k)

module _ (table : Table) (users : UserNames) where
  inserted_written : (g : Guard) (columns : List ℕ) (lists : List (List (Term ColumnName))) (bound : List (List (Term ColumnIndex))) →
      ((terms : List (Term ColumnName)) → Among terms lists → Fine (value_parts [] table.definition.layout columns terms)) → each (each (resolved [])) lists ≡ Ok bound →
      Every (Written table) (rows_inserted g users (record { table = table.definition; columns = columns; rows = bound }) table.rows)
  inserted_written g columns lists bound fine found =
      every_bind (Written table) (each (inserted_row table.definition.layout users columns) bound) _ (λ new a.
      λ rows b. wrote table.rows new (whole table.rows) (checked table.definition.layout g table.rows new rows b)
      (λ differ typed row h. let from = each_from (inserted_row table.definition.layout users columns) bound new a row h in
      let terms = each_from (each (resolved [])) lists bound found from.0 from.1 in
      inserted_fits table.definition.layout users columns terms.0 from.0 row (fine terms.0 terms.1) terms.2 from.2))

  abbrev ChangedWritten : Changed → Type 0
  ChangedWritten c = Written table c.rows

  updated_written : (existing admitting : Guard) (columns : List ℕ) (terms : List (Term ColumnName)) (bound : List (Term ColumnIndex)) (condition : Option (Term ColumnIndex)) (reads : Bool) →
      ((column : ℕ) → Among column columns → (k : ColumnType) × (column_type table.definition.layout column ≡ Some k)) →
      Fine (value_parts (own_scope table.definition) table.definition.layout columns terms) → each (resolved (own_scope table.definition)) terms ≡ Ok bound →
      Every ChangedWritten (rows_updated existing admitting users (record { table = table.definition; columns = columns; values = bound; condition = condition; reads = reads }) table.rows)
  updated_written existing admitting columns terms bound condition reads inside fine found =
      let becomes = assigned users columns bound in
      every_bind ChangedWritten (each (choose existing (condition_on_row users condition) becomes) table.rows) _ (λ chosen a.
      every_bind ChangedWritten (checked_rows table.definition.layout admitting (other_rows chosen) (new_rows chosen)) _ (λ rows b.
      every_ok ChangedWritten (record { rows = rows; count = length (new_rows chosen) })
      (wrote (other_rows chosen) (new_rows chosen)
      (others_part becomes (choose existing (condition_on_row users condition) becomes) (chosen_row existing (condition_on_row users condition) becomes) table.rows chosen a)
      (checked table.definition.layout admitting (other_rows chosen) (new_rows chosen) rows b)
      (λ differ typed row h.
      let at = of_new_rows chosen row h in
      let from = each_from (choose existing (condition_on_row users condition) becomes) table.rows chosen a at.0 at.1 in
      let made : becomes from.0 ≡ Ok row = (chosen_row existing (condition_on_row users condition) becomes from.0 at.0 from.2).1 row at.2 in
      assigned_fits table.definition users columns terms bound from.0 row (typed from.0 from.1) inside fine found made))))

  deleted_written : (existing : Guard) (c : CheckedDelete) → Every ChangedWritten (rows_deleted existing users c table.rows)
  deleted_written existing c =
      every_bind ChangedWritten (each (choose existing (condition_on_row users c.condition) (λ row. Ok row)) table.rows) _ (λ chosen a.
      every_ok ChangedWritten (record { rows = other_rows chosen; count = length (new_rows chosen) })
      (removed (others_part (λ row. Ok row) (choose existing (condition_on_row users c.condition) (λ row. Ok row)) (chosen_row existing (condition_on_row users c.condition) (λ row. Ok row)) table.rows chosen a)))

-- ---- new rows are of their table's types

module _ (db : Database) (users : UserNames) where
  pub inserted_rows_fit : (s : Insert) (c : CheckedInsert) → checked_insert db users s ≡ Ok c → (new : List Row) → each (inserted_row c.table.layout users c.columns) c.rows ≡ Ok new →
      (row : Row) → Among row new → RowFits c.table.layout.columns row
  inserted_rows_fit s c is new made row h =
      let facts = insert_checked db users s c is in
      let from = each_from (inserted_row c.table.layout users c.columns) c.rows new made row h in
      let terms = each_from (each (resolved [])) s.rows c.rows facts.bound from.0 from.1 in
      inserted_fits c.table.layout users c.columns terms.0 from.0 row
      (λ p k. fine_parts (insert_parts c.table.layout c.columns s.rows) facts.types facts.typed p (in_flat (value_parts [] c.table.layout c.columns) s.rows terms.0 p terms.1 k)) terms.2 from.2

  pub updated_rows_fit : (s : Update) (c : CheckedUpdate) → checked_update db users s ≡ Ok c → (existing : Guard) (rows : List Row) → ((row : Row) → Among row rows → RowFits c.table.layout.columns row) →
      (chosen : List Chosen) → each (choose existing (condition_on_row users c.condition) (assigned users c.columns c.values)) rows ≡ Ok chosen →
      (row : Row) → Among row (new_rows chosen) → RowFits c.table.layout.columns row
  updated_rows_fit s c is existing rows typed chosen chosen-is row h =
      let facts = update_checked db users s c is in
      let becomes = assigned users c.columns c.values in
      let at = of_new_rows chosen row h in
      let from = each_from (choose existing (condition_on_row users c.condition) becomes) rows chosen chosen-is at.0 at.1 in
      let made : becomes from.0 ≡ Ok row = (chosen_row existing (condition_on_row users c.condition) becomes from.0 at.0 from.2).1 row at.2 in
      assigned_fits c.table users c.columns (new_values s) c.values from.0 row (typed from.0 from.1) (found_types c.table.layout (set_names s) c.columns facts.columns)
      (λ p k. fine_parts (update_parts c.table c.columns s) facts.types facts.typed p (in_append_left (value_parts (own_scope c.table) c.table.layout c.columns (new_values s)) (condition_parts c.table s.condition) p k)) facts.bound made

module _ (db : Database) (users : UserNames) where
  insert_tables : (s : Insert) → Every (TablesFrom db) (insert db users s)
  insert_tables s = every_bind (TablesFrom db) (checked_insert db users s) (inserted db users) (λ c is.
      let facts = insert_checked db users s c is in
      let f = found_definition db s.table c.table facts.found in
      let named : table_named db c.table.name ≡ Some f.table = ap (table_named db) f.own ∙ f.named in
      let guard = new_guard db users c.table action.Insert false in
      let same : record { table = f.table.definition; columns = c.columns; rows = c.rows } ≡ c = ap (λ (t : TableOf). record { table = t; columns = c.columns; rows = c.rows }) f.is in
      every_bind (TablesFrom db) (rows_inserted guard users c (rows_named db c.table.name)) _ (λ rows rows-is.
      every_ok (TablesFrom db) (counted tag.Insert (length c.rows) (with_rows_of c.table.name rows db))
      (written_table db c.table.name f.table rows named
      (inserted_written f.table users guard c.columns s.rows c.rows
      (λ terms h. subst (λ (t : TableOf). Fine (value_parts [] t.layout c.columns terms)) (sym f.is)
      (λ p k. fine_parts (insert_parts c.table.layout c.columns s.rows) facts.types facts.typed p (in_flat (value_parts [] c.table.layout c.columns) s.rows terms p h k)))
      facts.bound rows
      (ap (λ (x : CheckedInsert). rows_inserted guard users x f.table.rows) same ∙ ap (rows_inserted guard users c) (sym (found_rows db s.table c.table f)) ∙ rows-is)))))

  update_tables : (s : Update) → Every (TablesFrom db) (update db users s)
  update_tables s = every_bind (TablesFrom db) (checked_update db users s) (updated db users) (λ c is.
      let facts = update_checked db users s c is in
      let f = found_definition db s.table c.table facts.found in
      let named : table_named db c.table.name ≡ Some f.table = ap (table_named db) f.own ∙ f.named in
      let existing = existing_guard db users c.table action.Update c.reads in
      let admitting = new_guard db users c.table action.Update c.reads in
      let same : record { table = f.table.definition; columns = c.columns; values = c.values; condition = c.condition; reads = c.reads } ≡ c =
      ap (λ (t : TableOf). record { table = t; columns = c.columns; values = c.values; condition = c.condition; reads = c.reads }) f.is in
      every_bind (TablesFrom db) (rows_updated existing admitting users c (rows_named db c.table.name)) _ (λ changed changed-is.
      every_ok (TablesFrom db) (counted tag.Update changed.count (with_rows_of c.table.name changed.rows db))
      (written_table db c.table.name f.table changed.rows named
      (updated_written f.table users existing admitting c.columns (new_values s) c.values c.condition c.reads
      (subst (λ (t : TableOf). (column : ℕ) → Among column c.columns → (k : ColumnType) × (column_type t.layout column ≡ Some k)) (sym f.is) (found_types c.table.layout (set_names s) c.columns facts.columns))
      (subst (λ (t : TableOf). Fine (value_parts (own_scope t) t.layout c.columns (new_values s))) (sym f.is)
      (λ p k. fine_parts (update_parts c.table c.columns s) facts.types facts.typed p (in_append_left (value_parts (own_scope c.table) c.table.layout c.columns (new_values s)) (condition_parts c.table s.condition) p k)))
      (subst (λ (t : TableOf). each (resolved (own_scope t)) (new_values s) ≡ Ok c.values) (sym f.is) facts.bound) changed
      (ap (λ (x : CheckedUpdate). rows_updated existing admitting users x f.table.rows) same ∙ ap (rows_updated existing admitting users c) (sym (found_rows db s.table c.table f)) ∙ changed-is)))))

  delete_tables : (s : Delete) → Every (TablesFrom db) (delete db users s)
  delete_tables s = every_bind (TablesFrom db) (checked_delete db users s) (deleted db users) (λ c is.
      let facts = delete_checked db users s c is in
      let f = found_definition db s.table c.table facts.found in
      let named : table_named db c.table.name ≡ Some f.table = ap (table_named db) f.own ∙ f.named in
      let existing = existing_guard db users c.table action.Delete c.reads in
      every_bind (TablesFrom db) (rows_deleted existing users c (rows_named db c.table.name)) _ (λ changed changed-is.
      every_ok (TablesFrom db) (counted tag.Delete changed.count (with_rows_of c.table.name changed.rows db))
      (written_table db c.table.name f.table changed.rows named
      (deleted_written f.table users existing c changed (ap (rows_deleted existing users c) (sym (found_rows db s.table c.table f)) ∙ changed-is)))))

  select_tables : (s : Select) → Every (TablesFrom db) (select db users s)
  select_tables s = every_bind (TablesFrom db) (checked_select db users s) (selected db users) (λ c is. every_bind (TablesFrom db) (query (map (source_of db users) c.tables) users c.query) _ (λ rows rows-is. every_ok (TablesFrom db) (effect (answer.Rows rows) db) (same_tables db)))

pub over_rows_tables : (db : Database) (users : UserNames) (x : RowStatement) → Every (TablesFrom db) (exec_over_rows db users x)
over_rows_tables db users (over_rows.Insert s) = insert_tables db users s
over_rows_tables db users (over_rows.Update s) = update_tables db users s
over_rows_tables db users (over_rows.Delete s) = delete_tables db users s
over_rows_tables db users (over_rows.Select s) = select_tables db users s

-- a fact about tables that an empty table meets, that flags do not touch, and that written rows keep
pub record Lasts (Q R : Table → Type 0) : Type 0 where
  pub at_first : (t : Table) → t.rows ≡ [] → all_differ same_name t.definition.layout.columns ≡ true → Q t
  pub with_flags : (old t : Table) → t.rows ≡ old.rows → t.definition.layout ≡ old.definition.layout → Q old → Q t
  pub with_rows : (old : Table) (rows : List Row) → R (record old { rows = rows }) → Q old → Written old rows → Q (record old { rows = rows })

pub lasts_from : (Q R : Table → Type 0) → Lasts Q R → (db : Database) → EachTable Q db → (t : Table) → R t → FromBefore db t → Q t
lasts_from Q R l db q t r (stayed h) = q t h
lasts_from Q R l db q t r (empty e d) = l.at_first t e d
lasts_from Q R l db q t r (altered old h e f) = l.with_flags old t e f (q old h)
lasts_from Q R l db q t r (written old rows h w is) = subst Q (sym is) (l.with_rows old rows (subst R is r) (q old h) w)
