-- An INSERT and an UPDATE over two databases of which their users see the same.
use Rattle.std.proofs.Common.{nat_le, unwrap_or, ◌≡◌, ℕ, Bool, true, false, not, cond, length, List, [], ◌∷◌, ◌++◌, filter, find, option_to_list, Option, Some, Result, Ok, Err, refl, sym, ap, ◌∙◌, subst, inl, inr, Ordering, Less, Greater}
use Rattle.std.specs.List.{list_all}
use Rattle.std.specs.Ordering.{ordering_reverse}
use Rattle.std.proofs.Math.Path.{fun_ext}
use Rattle.sql_types.specs.Row.{Row}
use Rattle.sql_types.specs.declared.state.SqlState.{SqlState}
use Rattle.sql_types.specs.declared.state.SqlState.TheVariants.{UndefinedTable, DuplicateColumn, SyntaxError, ProgramLimitExceeded, NotNullViolation, UniqueViolation}
use Rattle.sql_types.specs.declared.tag.Tag.TheVariants as tag
use Rattle.sql_ast.specs.Layout.{Layout}
use Rattle.sql_ast.specs.Rows.{fits_record, row_cmp}
use Rattle.sql_ast.specs.declared.privilege.Action.TheVariants as action
use Rattle.sql_ast.specs.declared.statement.DatabaseStatement.{DatabaseStatement}
use Rattle.sql_ast.specs.declared.statement.DatabaseStatement.TheVariants as on_database
use Rattle.sql_ast.specs.declared.statement.RowStatement.TheVariants as over_rows
use Rattle.sql_ast.specs.declared.statement.Insert.{Insert}
use Rattle.sql_ast.specs.declared.statement.Update.{Update}
use Rattle.expressions.specs.Meaning.{UserNames}
use Rattle.expressions.specs.Names.{resolved}
use Rattle.expressions.specs.Parts.{check_expressions}
use Rattle.expressions.specs.Stages.{◌>>=◌, require, each}
use Rattle.abstract_database.specs.Lists.{TheName, Among, Rising, found_or, optional, drop_where}
use Rattle.abstract_database.specs.Database.{TableOf, Table, Database, is_table_named, table_named, definition_named, rows_named, without_rows}
use Rattle.abstract_database.specs.Guards.{Guard, existing_guard, new_guard}
use Rattle.abstract_database.specs.Needs.{has_any, columns_read, needs_of_insert, needs_of_update}
use Rattle.abstract_database.specs.Changes.{IsInKeyOrder, has_double_key, with_rows, keeps_not_null, is_admitted, checked_rows, Chosen, choose, new_rows, other_rows, condition_on_row, assigned, inserted_row, CheckedInsert, CheckedUpdate, Changed}
use Rattle.abstract_database.specs.Definitions.{with_rows_of}
use Rattle.abstract_database.specs.Statements.{Effect, counted, exec_as}
use Rattle.abstract_database.proofs.ElementLemmas.{of_filter, into_filter}
use Rattle.abstract_database.proofs.ListLemmas.{in_append_left}
use Rattle.abstract_database.proofs.ResultLemmas.{Every}
use Rattle.abstract_database.proofs.RowOrder.{row_reversed, apart_of}
use Rattle.database_laws.specs.Readings.{columns_read_by_update}
use Rattle.database_laws.specs.Worlds.{is_silent}
use Rattle.database_laws.proofs.ReadingLemmas.{update_as_written}
use Rattle.database_laws.proofs.RowLemmas.{Checked, checked, of_with, into_with, either_side}
use Rattle.database_laws.proofs.TableLemmas.{in_right}
use Rattle.std.specs.Option.{option_map}
use Rattle.std.proofs.lemmas.Option.{same_Some}
use Rattle.abstract_database.specs.Lists.{has_double}
use Rattle.abstract_database.specs.Expressions.{own_scope}
use Rattle.abstract_database.specs.Checks.{require_needs, counts_fit, found_column, target_columns, insert_parts, set_names, new_values, update_parts, checked_insert, checked_update}
use Rattle.abstract_database.specs.Statements.{inserted, insert, updated, update}
use Rattle.abstract_database.proofs.CheckLemmas.{insert_checked, update_checked}
use Rattle.database_laws.specs.Tables.{EachTable}
use Rattle.database_laws.specs.Invariants.{IsSound}
use Rattle.database_laws.specs.Worlds.{SameApparentRows, EndAlike, EndAlikeWithoutKeys}
use Rattle.database_laws.proofs.RowLemmas.{chosen_row}
use Rattle.database_laws.proofs.WriteLemmas.{find_changed}
use Rattle.database_laws.proofs.WholeLists.{find_found}
use Rattle.database_laws.proofs.SoundLemmas.{sound_for}
use Rattle.database_laws.proofs.WorldLemmas.{definitions_alone, named_by_itself, some_table}
use Rattle.database_laws.proofs.OtherEyes.{both_ways}
use Rattle.database_laws.proofs.AlikeLemmas.{ChosenAlike, chosen_alike, is_chosen, others_by_test, PassesOver, silent_not_updated, defined_alike, silent_alike, set_alike}

-- ---- a list in rising order is known by its elements

module _ {X : Type 0} (cmp : X → X → Ordering) (reversed : (x y : X) → cmp x y ≡ ordering_reverse (cmp y x)) where
  not_both_ways : (x y : X) → cmp x y ≡ Less → cmp y x ≡ Less → ⊥
  not_both_ways x y e f = let contrary : Less ≡ Greater = sym e ∙ reversed x y ∙ ap ordering_reverse f in cc

  same_first : (x y : X) (xs ys : List X) → Rising cmp (x ∷ xs) → Rising cmp (y ∷ ys) → Among x (y ∷ ys) → Among y (x ∷ xs) → x ≡ y
  same_first x y xs ys r q (inl is) k = sym is
  same_first x y xs ys r q (inr h) (inl is) = is
  same_first x y xs ys r q (inr h) (inr k) = absurd (not_both_ways x y (r.0 y k) (q.0 x h))

  among_later : (x w : X) (xs ys : List X) → Rising cmp (x ∷ xs) → Among w xs → Among w (x ∷ ys) → Among w ys
  among_later x w xs ys r h (inl is) = absurd (not_both_ways x w (r.0 w h) (ap (λ z. cmp z x) (sym is) ∙ ap (cmp x) is ∙ r.0 w h))
  among_later x w xs ys r h (inr k) = k

  pub one_rising : (xs ys : List X) → Rising cmp xs → Rising cmp ys → ((w : X) → Among w xs → Among w ys) → ((w : X) → Among w ys → Among w xs) → xs ≡ ys
  one_rising [] [] r q f g = refl
  one_rising [] (y ∷ ys) r q f g = absurd (g y (inl refl))
  one_rising (x ∷ xs) [] r q f g = absurd (f x (inl refl))
  one_rising (x ∷ xs) (y ∷ ys) r q f g =
      let is = same_first x y xs ys r q (f x (inl refl)) (g y (inl refl)) in
      let q' : Rising cmp (x ∷ ys) = subst (λ z. Rising cmp (z ∷ ys)) (sym is) q in
      let f' : (w : X) → Among w (x ∷ xs) → Among w (x ∷ ys) = subst (λ z. (w : X) → Among w (x ∷ xs) → Among w (z ∷ ys)) (sym is) f in
      let g' : (w : X) → Among w (x ∷ ys) → Among w (x ∷ xs) = subst (λ z. (w : X) → Among w (z ∷ ys) → Among w (x ∷ xs)) (sym is) g in
      ap (λ l. x ∷ l) (one_rising xs ys r.1 q'.1 (λ w h. among_later x w xs ys r h (f' w (inr h))) (λ w h. among_later x w ys xs q' h (g' w (inr h))))
      ∙ ap (λ z. z ∷ ys) is

  filtered_at : (f : X → Bool) (x : X) (xs : List X) → Rising cmp (x ∷ xs) → (b : Bool) → Rising cmp (filter f xs) → Rising cmp (cond b (x ∷ filter f xs) (filter f xs))
  filtered_at f x xs r true go = (λ w h. r.0 w (of_filter f xs w h).0, go)
  filtered_at f x xs r false go = go

  filter_rising : (f : X → Bool) (xs : List X) → Rising cmp xs → Rising cmp (filter f xs)
  filter_rising f [] r = tt
  filter_rising f (x ∷ xs) r = filtered_at f x xs r (f x) (filter_rising f xs r.1)

-- ---- rows that are kept, and new ones

module _ (silent : Row → Bool) (layout : Layout) (new : List Row) where
  abbrev says : Row → Bool
  says row = not (silent row)

  moves : (kept other rows others : List Row) → drop_where silent kept ≡ drop_where silent other → Checked layout kept new rows → Checked layout other new others →
      (w : Row) → Among w (drop_where silent rows) → Among w (drop_where silent others)
  moves kept other rows others same c k w h =
      let of = of_filter says rows w h in
      let from = either_side kept new w (of_with layout.key new kept w (subst (λ l. Among w l) c.is of.0)) in
      let there : Among w (other ++ new) = elim from [
        | inl old ↦ in_append_left other new w (of_filter says other w (subst (λ l. Among w l) same (into_filter says kept w old of.1))).0
        | inr fresh ↦ in_right other new w fresh
      ] in
      into_filter says others w (subst (λ l. Among w l) (sym k.is) (into_with layout.key new other (apart_of layout.key (other ++ new) k.unique) w there)) of.1

  pub said_alike : (kept other rows others : List Row) → drop_where silent kept ≡ drop_where silent other → Checked layout kept new rows → Checked layout other new others →
      Rising (row_cmp layout.key) rows → Rising (row_cmp layout.key) others → drop_where silent rows ≡ drop_where silent others
  said_alike kept other rows others same c k r q =
      one_rising (row_cmp layout.key) (row_reversed layout.key) (drop_where silent rows) (drop_where silent others)
      (filter_rising (row_cmp layout.key) (row_reversed layout.key) says rows r) (filter_rising (row_cmp layout.key) (row_reversed layout.key) says others q)
      (moves kept other rows others same c k) (moves other kept others rows (sym same) k c)

-- ---- checks of new rows

-- refused alike, or rows of which both lists were checked
abbrev pub CheckedAlike : Layout → List Row → List Row → List Row → Result (List Row) SqlState → Result (List Row) SqlState → Type 0
CheckedAlike layout kept other new (Ok rows) (Ok others) = Checked layout kept new rows × Checked layout other new others
CheckedAlike layout kept other new (Err c) (Err k) = c ≡ k
CheckedAlike layout kept other new (Ok rows) (Err k) = ⊥
CheckedAlike layout kept other new (Err c) (Ok others) = ⊥

abbrev NotUnique : Result (List Row) SqlState → Type 0
NotUnique r = r ≡ Err UniqueViolation → ⊥

module _ (layout : Layout) (g : Guard) (kept other new : List Row) where
  abbrev last_stage : Bool → List Row → Result (List Row) SqlState
  last_stage double rows = require (not double) UniqueViolation >>= λ unique. Ok rows

  abbrev stages : Result (List (Unit {0})) SqlState → Bool → Bool → Bool → List Row → Result (List Row) SqlState
  stages r a b double rows = r >>= λ admitted. require a NotNullViolation >>= λ not_null. require b ProgramLimitExceeded >>= λ sized. last_stage double rows

  abbrev AlikeOrNot : Result (List Row) SqlState → Result (List Row) SqlState → Type 0
  AlikeOrNot (Ok rows) (Ok others) = Unit {0}
  AlikeOrNot (Err c) (Err k) = c ≡ k
  AlikeOrNot (Ok rows) (Err k) = ⊥
  AlikeOrNot (Err c) (Ok others) = ⊥

  staged : (r : Result (List (Unit {0})) SqlState) (a b p q : Bool) (rows others : List Row) → NotUnique (stages r a b p rows) → NotUnique (stages r a b q others) → AlikeOrNot (stages r a b p rows) (stages r a b q others)
  staged (Err c) a b p q rows others m n = refl
  staged (Ok l) false b p q rows others m n = refl
  staged (Ok l) true false p q rows others m n = refl
  staged (Ok l) true true true q rows others m n = absurd (m refl)
  staged (Ok l) true true false true rows others m n = absurd (n refl)
  staged (Ok l) true true false false rows others m n = tt

  with_facts : (r s : Result (List Row) SqlState) → checked_rows layout g kept new ≡ r → checked_rows layout g other new ≡ s → AlikeOrNot r s → CheckedAlike layout kept other new r s
  with_facts (Ok rows) (Ok others) e f h = (checked layout g kept new rows e, checked layout g other new others f)
  with_facts (Err c) (Err k) e f h = h
  with_facts (Ok rows) (Err k) e f h = h
  with_facts (Err c) (Ok others) e f h = h

  pub checked_alike : NotUnique (checked_rows layout g kept new) → NotUnique (checked_rows layout g other new) → CheckedAlike layout kept other new (checked_rows layout g kept new) (checked_rows layout g other new)
  checked_alike m n =
      with_facts (checked_rows layout g kept new) (checked_rows layout g other new) refl refl
      (staged (each (is_admitted g) new) (list_all (keeps_not_null layout.columns) new) (list_all (fits_record layout) new) (has_double_key layout.key (kept ++ new)) (has_double_key layout.key (other ++ new))
      (with_rows layout.key new kept) (with_rows layout.key new other) m n)

  -- the same where both lists leave one answer to the question of keys
  staged_by : (r : Result (List (Unit {0})) SqlState) (a b p q : Bool) (rows others : List Row) → ((l : List (Unit {0})) → r ≡ Ok l → p ≡ q) → AlikeOrNot (stages r a b p rows) (stages r a b q others)
  staged_by (Err c) a b p q rows others h = refl
  staged_by (Ok l) false b p q rows others h = refl
  staged_by (Ok l) true false p q rows others h = refl
  staged_by (Ok l) true true true true rows others h = refl
  staged_by (Ok l) true true false false rows others h = tt
  staged_by (Ok l) true true true false rows others h = let contrary : true ≡ false = h l refl in cc
  staged_by (Ok l) true true false true rows others h = let contrary : false ≡ true = h l refl in cc

  pub checked_by_keys : ((l : List (Unit {0})) → each (is_admitted g) new ≡ Ok l → has_double_key layout.key (kept ++ new) ≡ has_double_key layout.key (other ++ new)) →
      CheckedAlike layout kept other new (checked_rows layout g kept new) (checked_rows layout g other new)
  checked_by_keys h =
      with_facts (checked_rows layout g kept new) (checked_rows layout g other new) refl refl
      (staged_by (each (is_admitted g) new) (list_all (keeps_not_null layout.columns) new) (list_all (fits_record layout) new) (has_double_key layout.key (kept ++ new)) (has_double_key layout.key (other ++ new))
      (with_rows layout.key new kept) (with_rows layout.key new other) h)

-- ---- what two statements leave

module _ (users : UserNames) (d e : Database) (alike : SameApparentRows users d e) where
  -- both put rows in the place of one table's rows: they keep rows alike, whatever test drops some, and the new ones are the same
  pub record WroteAlike (a b : Effect) : Type 0 where
    pub t : TableOf
    pub named : definition_named d t.name ≡ Some t
    pub kept : List Row
    pub other : List Row
    pub new : List Row
    pub rows : List Row
    pub others : List Row
    pub keeps : (f : Row → Bool) → drop_where f (rows_named d t.name) ≡ drop_where f (rows_named e t.name) → drop_where f kept ≡ drop_where f other
    pub first : Checked t.layout kept new rows
    pub second : Checked t.layout other new others
    pub first_is : a.database ≡ with_rows_of t.name rows d
    pub second_is : b.database ≡ with_rows_of t.name others e
    pub answers : a.answer ≡ b.answer

  abbrev pub WriteAlike : Result Effect SqlState → Result Effect SqlState → Type 0
  WriteAlike (Ok a) (Ok b) = WroteAlike a b
  WriteAlike (Err c) (Err k) = c ≡ k
  WriteAlike (Ok a) (Err k) = ⊥
  WriteAlike (Err c) (Ok b) = ⊥

  rises : (db : Database) (t : TableOf) → definition_named db t.name ≡ Some t → (rows : List Row) → EachTable IsInKeyOrder (with_rows_of t.name rows db) → Rising (row_cmp t.layout.key) rows
  rises db t named rows order =
      let x = some_table db t.name t named in
      let set = λ (y : Table). record y { rows = rows } in
      let found : table_named (with_rows_of t.name rows db) t.name ≡ Some (set x.0) = find_changed (is_table_named t.name) set (λ y. refl) db.tables ∙ ap (option_map set) x.1 in
      let is : x.0.definition ≡ t = same_Some x.0.definition t (sym (ap (option_map (λ (y : Table). y.definition)) x.1) ∙ named) in
      subst (λ (z : TableOf). Rising (row_cmp z.layout.key) rows) is (order (set x.0) (find_found (is_table_named t.name) (with_rows_of t.name rows db).tables (set x.0) found).0)

  -- so what they leave looks alike to each to whom the databases did
  module _ (x : DatabaseStatement) (on_d : IsSound d) (on_e : IsSound e) where
    pub left_alike : (v : UserNames) → SameApparentRows v d e → (a b : Effect) → exec_as d users x ≡ Ok a → exec_as e users x ≡ Ok b → WroteAlike a b → SameApparentRows v a.database b.database
    left_alike v likewise a b f g w =
        let after_d = subst (λ (y : Database). EachTable IsInKeyOrder y) w.first_is (sound_for d users x a f on_d).1 in
        let after_e = subst (λ (y : Database). EachTable IsInKeyOrder y) w.second_is (sound_for e users x b g on_e).1 in
        let named_e = sym (defined_alike v d e likewise w.t.name) ∙ w.named in
        let silent = is_silent d v w.t in
        let same = w.keeps silent (likewise.rows w.t w.named ∙ ap (λ (h : Row → Bool). drop_where h (rows_named e w.t.name)) (sym (silent_alike v d e likewise w.t))) in
        let said = said_alike silent w.t.layout w.new w.kept w.other w.rows w.others same w.first w.second
        (rises d w.t w.named w.rows after_d) (rises e w.t named_e w.others after_e) in
        subst (λ (y : Database). SameApparentRows v y b.database) (sym w.first_is)
        (subst (λ (y : Database). SameApparentRows v (with_rows_of w.t.name w.rows d) y) (sym w.second_is) (set_alike v d e likewise w.t w.named w.rows w.others said))

    pub ended : (r s : Result Effect SqlState) → exec_as d users x ≡ r → exec_as e users x ≡ s → WriteAlike r s → EndAlike users r s
    ended (Ok a) (Ok b) f g w = (w.answers, left_alike users alike a b f g w)
    ended (Err c) (Err k) f g w = w
    ended (Ok a) (Err k) f g w = w
    ended (Err c) (Ok b) f g w = w

-- ---- INSERT

abbrev insert_checked_by : Database → (TheName → Option TableOf) → UserNames → Insert → Result CheckedInsert SqlState
insert_checked_by db find users s = do
  table ← found_or UndefinedTable (find s.table)
  once ← require (not (has_double (unwrap_or s.columns []))) DuplicateColumn
  counted_right ← require (list_all (counts_fit table.layout s.columns) s.rows) SyntaxError
  columns ← target_columns table.layout s
  rows ← each (each (resolved [])) s.rows
  typed ← check_expressions (insert_parts table.layout columns s.rows)
  allowed ← require_needs db users (needs_of_insert table columns)
  few ← require (nat_le (length s.rows) 256) ProgramLimitExceeded
  Ok (record { table = table; columns = columns; rows = rows })

pub insert_alone : (db : Database) (users : UserNames) (s : Insert) → checked_insert db users s ≡ checked_insert (without_rows db) users s
insert_alone db users s = ap (λ (find : TheName → Option TableOf). insert_checked_by db find users s) (fun_ext (λ (name : TheName). definitions_alone db name))

abbrev pub FailsByKey : Result Effect SqlState → Type 0
FailsByKey r = r ≡ Err UniqueViolation

module _ (users : UserNames) (d e : Database) (alike : SameApparentRows users d e) (s : Insert) where
  abbrev added_to : Database → CheckedInsert → Result (List Row) SqlState → Result Effect SqlState
  added_to db c r = r >>= λ rows. Ok (counted tag.Insert (length c.rows) (with_rows_of c.table.name rows db))

  abbrev checked_in : Database → Guard → CheckedInsert → List Row → Result (List Row) SqlState
  checked_in db g c new = checked_rows c.table.layout g (rows_named db c.table.name) new

  abbrev admitting : Database → CheckedInsert → Guard
  admitting db c = new_guard db users c.table action.Insert false

  added : (c : CheckedInsert) → definition_named d c.table.name ≡ Some c.table → (new : List Row) (r k : Result (List Row) SqlState) →
      CheckedAlike c.table.layout (rows_named d c.table.name) (rows_named e c.table.name) new r k → WriteAlike users d e alike (added_to d c r) (added_to e c k)
  added c named new (Ok rows) (Ok others) h = record {
    t = c.table;
    named = named;
    kept = rows_named d c.table.name;
    other = rows_named e c.table.name;
    new = new;
    rows = rows;
    others = others;
    keeps = λ f h. h;
    first = h.0;
    second = h.1;
    first_is = refl;
    second_is = refl;
    answers = refl;
  }
  added c named new (Err i) (Err k) h = h
  added c named new (Ok rows) (Err k) h = h
  added c named new (Err i) (Ok others) h = h

  -- the checks of these new rows beside what either database keeps
  abbrev pub ChecksOfNew : CheckedInsert → List Row → Type 0
  ChecksOfNew c new = CheckedAlike c.table.layout (rows_named d c.table.name) (rows_named e c.table.name) new (checked_in d (admitting d c) c new) (checked_in e (admitting d c) c new)

  abbrev pub new_of : CheckedInsert → Result (List Row) SqlState
  new_of c = each (inserted_row c.table.layout users c.columns) c.rows

  by_new : (c : CheckedInsert) → definition_named d c.table.name ≡ Some c.table → (r : Result (List Row) SqlState) → ((new : List Row) → r ≡ Ok new → ChecksOfNew c new) →
      WriteAlike users d e alike (added_to d c (r >>= checked_in d (admitting d c) c)) (added_to e c (r >>= checked_in e (admitting e c) c))
  by_new c named (Err code) checks = refl
  by_new c named (Ok new) checks =
      let guards : admitting d c ≡ admitting e c = ap (λ (x : Database). admitting x c) alike.definitions in
      subst (λ (g : Guard). WriteAlike users d e alike (added_to d c (checked_in d (admitting d c) c new)) (added_to e c (checked_in e g c new))) guards
      (added c named new (checked_in d (admitting d c) c new) (checked_in e (admitting d c) c new) (checks new refl))

  abbrev pub InsertChecks : Type 0
  InsertChecks = (c : CheckedInsert) → checked_insert d users s ≡ Ok c → (new : List Row) → new_of c ≡ Ok new → ChecksOfNew c new

  insert_at : InsertChecks → (r : Result CheckedInsert SqlState) → checked_insert d users s ≡ r → WriteAlike users d e alike (r >>= inserted d users) (r >>= inserted e users)
  insert_at checks (Err code) is = refl
  insert_at checks (Ok c) is =
      let facts = insert_checked d users s c is in
      by_new c (named_by_itself d s.table c.table facts.found) (new_of c) (checks c is)

  checks_alike : checked_insert d users s ≡ checked_insert e users s
  checks_alike = insert_alone d users s ∙ ap (λ (x : Database). checked_insert x users s) alike.definitions ∙ sym (insert_alone e users s)

  pub insert_writes : InsertChecks → WriteAlike users d e alike (insert d users s) (insert e users s)
  insert_writes checks =
      subst (λ (r : Result CheckedInsert SqlState). WriteAlike users d e alike (insert d users s) (r >>= inserted e users)) checks_alike
      (insert_at checks (checked_insert d users s) refl)

  pub checked_insert_ends_alike : InsertChecks → IsSound d → IsSound e → EndAlike users (insert d users s) (insert e users s)
  checked_insert_ends_alike checks on_d on_e = ended users d e alike (on_database.OverRows (over_rows.Insert s)) on_d on_e (insert d users s) (insert e users s) refl refl (insert_writes checks)

  -- what a statement is refused with after its checks, and after its new rows were made
  insert_is : (c : CheckedInsert) (new : List Row) → checked_insert d users s ≡ Ok c → new_of c ≡ Ok new → insert d users s ≡ added_to d c (checked_in d (admitting d c) c new)
  insert_is c new is made =
      ap (λ (r : Result CheckedInsert SqlState). r >>= inserted d users) is
      ∙ ap (λ (r : Result (List Row) SqlState). added_to d c (r >>= checked_in d (admitting d c) c)) made

  other_insert_is : (c : CheckedInsert) (new : List Row) → checked_insert d users s ≡ Ok c → new_of c ≡ Ok new → insert e users s ≡ added_to e c (checked_in e (admitting d c) c new)
  other_insert_is c new is made =
      ap (λ (r : Result CheckedInsert SqlState). r >>= inserted e users) (sym checks_alike ∙ is)
      ∙ ap (λ (r : Result (List Row) SqlState). added_to e c (r >>= checked_in e (admitting e c) c)) made
      ∙ ap (λ (x : Database). added_to e c (checked_in e (admitting x c) c new)) (sym alike.definitions)

  pub insert_checks : (FailsByKey (insert d users s) → ⊥) → (FailsByKey (insert e users s) → ⊥) → InsertChecks
  insert_checks m n c is new made =
      checked_alike c.table.layout (admitting d c) (rows_named d c.table.name) (rows_named e c.table.name) new
      (λ h. m (insert_is c new is made ∙ ap (added_to d c) h)) (λ h. n (other_insert_is c new is made ∙ ap (added_to e c) h))

  pub insert_ends_alike : IsSound d → IsSound e → EndAlikeWithoutKeys users (insert d users s) (insert e users s)
  insert_ends_alike on_d on_e m n = checked_insert_ends_alike (insert_checks m n) on_d on_e

-- ---- UPDATE

abbrev update_checked_by : Database → (TheName → Option TableOf) → UserNames → Update → Result CheckedUpdate SqlState
update_checked_by db find users s = do
  table ← found_or UndefinedTable (find s.table)
  once ← require (not (has_double (set_names s))) DuplicateColumn
  columns ← each (found_column table.layout) (set_names s)
  values ← each (resolved (own_scope table)) (new_values s)
  condition ← optional (resolved (own_scope table)) s.condition
  typed ← check_expressions (update_parts table columns s)
  allowed ← require_needs db users (needs_of_update table columns values condition)
  Ok (record { table = table; columns = columns; values = values; condition = condition; reads = has_any (columns_read 0 (values ++ option_to_list condition)) })

pub update_alone : (db : Database) (users : UserNames) (s : Update) → checked_update db users s ≡ checked_update (without_rows db) users s
update_alone db users s = ap (λ (find : TheName → Option TableOf). update_checked_by db find users s) (fun_ext (λ (name : TheName). definitions_alone db name))

abbrev rows_so : ℕ → List Row → Changed
rows_so count rows = record { rows = rows; count = count }

module _ (users : UserNames) (d e : Database) (alike : SameApparentRows users d e) (s : Update) where
  abbrev set_in : Database → CheckedUpdate → List Row → Result (List Row) SqlState → Result Effect SqlState
  set_in db c new r = (r >>= λ after. Ok (rows_so (length new) after)) >>= λ changed. Ok (counted tag.Update changed.count (with_rows_of c.table.name changed.rows db))

  abbrev chosen_in : Database → Guard → CheckedUpdate → List Chosen → Result Effect SqlState
  chosen_in db g c chosen = set_in db c (new_rows chosen) (checked_rows c.table.layout g (other_rows chosen) (new_rows chosen))

  abbrev changed_in : Database → Guard → CheckedUpdate → Result (List Chosen) SqlState → Result Effect SqlState
  changed_in db g c r = (r >>= λ chosen. checked_rows c.table.layout g (other_rows chosen) (new_rows chosen) >>= λ after. Ok (rows_so (length (new_rows chosen)) after)) >>= λ changed. Ok (counted tag.Update changed.count (with_rows_of c.table.name changed.rows db))

  abbrev KeepsAlike : CheckedUpdate → List Row → List Row → Type 0
  KeepsAlike c kept other = (f : Row → Bool) → drop_where f (rows_named d c.table.name) ≡ drop_where f (rows_named e c.table.name) → drop_where f kept ≡ drop_where f other

  changed : (c : CheckedUpdate) → definition_named d c.table.name ≡ Some c.table → (kept other new : List Row) → KeepsAlike c kept other →
      (r k : Result (List Row) SqlState) → CheckedAlike c.table.layout kept other new r k → WriteAlike users d e alike (set_in d c new r) (set_in e c new k)
  changed c named kept other new keeps (Ok rows) (Ok others) h = record {
    t = c.table;
    named = named;
    kept = kept;
    other = other;
    new = new;
    rows = rows;
    others = others;
    keeps = keeps;
    first = h.0;
    second = h.1;
    first_is = refl;
    second_is = refl;
    answers = refl;
  }
  changed c named kept other new keeps (Err i) (Err k) h = h
  changed c named kept other new keeps (Ok rows) (Err k) h = h
  changed c named kept other new keeps (Err i) (Ok others) h = h

  abbrev choices : Database → CheckedUpdate → Bool → Row → Result Chosen SqlState
  choices db c reads = choose (existing_guard db users c.table action.Update reads) (condition_on_row users c.condition) (assigned users c.columns c.values)

  abbrev pub admits : Database → CheckedUpdate → Bool → Guard
  admits db c reads = new_guard db users c.table action.Update reads

  abbrev carried : Database → CheckedUpdate → Result Effect SqlState
  carried db c = changed_in db (admits db c c.reads) c (each (choices db c c.reads) (rows_named db c.table.name))

  abbrev pub chosen_of : Database → CheckedUpdate → Result (List Chosen) SqlState
  chosen_of db c = each (choices d c c.reads) (rows_named db c.table.name)

  -- what both choose: the new rows are checked beside what either database keeps
  abbrev pub ChecksOfChosen : CheckedUpdate → List Chosen → List Chosen → Type 0
  ChecksOfChosen c cs ks = CheckedAlike c.table.layout (other_rows cs) (other_rows ks) (new_rows cs)
      (checked_rows c.table.layout (admits d c c.reads) (other_rows cs) (new_rows cs)) (checked_rows c.table.layout (admits d c c.reads) (other_rows ks) (new_rows cs))

  by_chosen : (c : CheckedUpdate) → definition_named d c.table.name ≡ Some c.table → (r k : Result (List Chosen) SqlState) → ChosenAlike (is_silent d users c.table) r k →
      ((cs ks : List Chosen) → r ≡ Ok cs → k ≡ Ok ks → KeepsAlike c (other_rows cs) (other_rows ks)) →
      ((cs ks : List Chosen) → r ≡ Ok cs → k ≡ Ok ks → ChosenAlike (is_silent d users c.table) (Ok cs) (Ok ks) → ChecksOfChosen c cs ks) →
      WriteAlike users d e alike (changed_in d (admits d c c.reads) c r) (changed_in e (admits d c c.reads) c k)
  by_chosen c named (Err i) (Err k) same keeps checks = same
  by_chosen c named (Ok cs) (Err k) same keeps checks = absurd same
  by_chosen c named (Err i) (Ok ks) same keeps checks = absurd same
  by_chosen c named (Ok cs) (Ok ks) same keeps checks =
      let g = admits d c c.reads in
      subst (λ (l : List Row). WriteAlike users d e alike (chosen_in d g c cs) (set_in e c l (checked_rows c.table.layout g (other_rows ks) l))) same.0
      (changed c named (other_rows cs) (other_rows ks) (new_rows cs) (keeps cs ks refl refl)
      (checked_rows c.table.layout g (other_rows cs) (new_rows cs)) (checked_rows c.table.layout g (other_rows ks) (new_rows cs))
      (checks cs ks refl refl same))

  -- what an UPDATE has to keep for databases that look alike to end alike: rows that say nothing are not chosen, and the checks of new rows end alike
  pub record UpdatesAlike : Type 0 where
    pub passes : (c : CheckedUpdate) → checked_update d users s ≡ Ok c → PassesOver d users c.table action.Update c.reads
    pub checks : (c : CheckedUpdate) → checked_update d users s ≡ Ok c → (cs ks : List Chosen) → chosen_of d c ≡ Ok cs → chosen_of e c ≡ Ok ks →
        ChosenAlike (is_silent d users c.table) (Ok cs) (Ok ks) → ChecksOfChosen c cs ks

  all_chosen : (c : CheckedUpdate) → definition_named d c.table.name ≡ Some c.table → PassesOver d users c.table action.Update c.reads → ChosenAlike (is_silent d users c.table) (chosen_of d c) (chosen_of e c)
  all_chosen c named passes =
      let condition = condition_on_row users c.condition in
      let becomes = assigned users c.columns c.values in
      let ys = rows_named e c.table.name in
      chosen_alike (is_silent d users c.table) (choices d c c.reads) (λ row x is. (chosen_row (existing_guard d users c.table action.Update c.reads) condition becomes row x is).0)
      (passes condition becomes) (rows_named d c.table.name) ys
      (alike.rows c.table named ∙ ap (λ (f : Row → Bool). drop_where f ys) (sym (silent_alike users d e alike c.table)))

  -- what is kept is what a test of the row alone leaves, one test for both
  keeps_alike : (c : CheckedUpdate) (cs ks : List Chosen) → chosen_of d c ≡ Ok cs → chosen_of e c ≡ Ok ks → KeepsAlike c (other_rows cs) (other_rows ks)
  keeps_alike c cs ks on_d on_e f h =
      let pick = choices d c c.reads in
      let of : (row : Row) → Every (λ (x : Chosen). x.row ≡ row) (pick row) = λ row x is. (chosen_row (existing_guard d users c.table action.Update c.reads) (condition_on_row users c.condition) (assigned users c.columns c.values) row x is).0 in
      let stays = λ (row : Row). not (is_chosen pick row) in
      let passes = λ (row : Row). not (f row) in
      let xs = rows_named d c.table.name in
      let ys = rows_named e c.table.name in
      ap (drop_where f) (others_by_test pick of xs cs on_d) ∙ both_ways passes stays xs ∙ ap (filter stays) h ∙ both_ways stays passes ys ∙ ap (drop_where f) (sym (others_by_test pick of ys ks on_e))

  abbrev guarded_by : Database → CheckedUpdate → Result Effect SqlState
  guarded_by x c = changed_in e (admits x c c.reads) c (each (choices x c c.reads) (rows_named e c.table.name))

  update_at : UpdatesAlike → (r : Result CheckedUpdate SqlState) → checked_update d users s ≡ r → WriteAlike users d e alike (r >>= updated d users) (r >>= updated e users)
  update_at alikes (Err code) is = refl
  update_at alikes (Ok c) is =
      let named = named_by_itself d s.table c.table (update_checked d users s c is).found in
      subst (λ (r : Result Effect SqlState). WriteAlike users d e alike (carried d c) r) (ap (λ (x : Database). guarded_by x c) alike.definitions)
      (by_chosen c named (chosen_of d c) (chosen_of e c) (all_chosen c named (alikes.passes c is)) (keeps_alike c) (alikes.checks c is))

  update_checks : checked_update d users s ≡ checked_update e users s
  update_checks = update_alone d users s ∙ ap (λ (x : Database). checked_update x users s) alike.definitions ∙ sym (update_alone e users s)

  pub update_writes : UpdatesAlike → WriteAlike users d e alike (update d users s) (update e users s)
  update_writes alikes =
      subst (λ (r : Result CheckedUpdate SqlState). WriteAlike users d e alike (update d users s) (r >>= updated e users)) update_checks
      (update_at alikes (checked_update d users s) refl)

  pub checked_update_ends_alike : UpdatesAlike → IsSound d → IsSound e → EndAlike users (update d users s) (update e users s)
  checked_update_ends_alike alikes on_d on_e = ended users d e alike (on_database.OverRows (over_rows.Update s)) on_d on_e (update d users s) (update e users s) refl refl (update_writes alikes)

  -- what a statement is refused with after its checks, and after its rows were chosen
  update_is : (c : CheckedUpdate) (cs : List Chosen) → checked_update d users s ≡ Ok c → chosen_of d c ≡ Ok cs → update d users s ≡ chosen_in d (admits d c c.reads) c cs
  update_is c cs is chosen =
      ap (λ (r : Result CheckedUpdate SqlState). r >>= updated d users) is
      ∙ ap (changed_in d (admits d c c.reads) c) chosen

  other_update_is : (c : CheckedUpdate) (ks : List Chosen) → checked_update d users s ≡ Ok c → chosen_of e c ≡ Ok ks → update e users s ≡ chosen_in e (admits d c c.reads) c ks
  other_update_is c ks is chosen =
      ap (λ (r : Result CheckedUpdate SqlState). r >>= updated e users) (sym update_checks ∙ is)
      ∙ sym (ap (λ (x : Database). guarded_by x c) alike.definitions)
      ∙ ap (changed_in e (admits d c c.reads) c) chosen

  -- and so where no key of a new row stands already
  pub without_keys : ((c : CheckedUpdate) → checked_update d users s ≡ Ok c → PassesOver d users c.table action.Update c.reads) → (FailsByKey (update d users s) → ⊥) → (FailsByKey (update e users s) → ⊥) → UpdatesAlike
  without_keys passes m n = record {
    passes = passes;
    checks = λ c is cs ks on_d on_e same.
        let g = admits d c c.reads in
        checked_alike c.table.layout g (other_rows cs) (other_rows ks) (new_rows cs)
        (λ h. m (update_is c cs is on_d ∙ ap (set_in d c (new_rows cs)) h))
        (λ h. n (other_update_is c ks is on_e ∙ ap (λ (l : List Row). set_in e c l (checked_rows c.table.layout g (other_rows ks) l)) (sym same.0) ∙ ap (set_in e c (new_rows cs)) h));
  }

  pub update_ends_alike : has_any (columns_read_by_update s) ≡ true → IsSound d → IsSound e → EndAlikeWithoutKeys users (update d users s) (update e users s)
  update_ends_alike reads on_d on_e m n = checked_update_ends_alike (without_keys (λ c is.
      let told : c.reads ≡ true = update_as_written d users s c (update_checked d users s c is) ∙ reads in
      subst (PassesOver d users c.table action.Update) (sym told) (silent_not_updated d users c.table)) m n) on_d on_e
