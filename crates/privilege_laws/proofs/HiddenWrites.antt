-- Statements over rows over two databases that differ in hidden columns.
use Rattle.std.proofs.Common.{◌≡◌, ◌⊎◌, ℕ, zero, suc, nat_eq, Bool, true, false, not, bytes_eq, map, filter, flat_map, length, option_to_list, List, [], ◌∷◌, ◌++◌, slice_get, Option, Some, None, Result, Ok, Err, refl, sym, ap, ◌∙◌, subst, inl, inr}
use Rattle.std.specs.List.{list_all}
use Rattle.std.proofs.lemmas.Bool.{and_parts, and_from, eq-eqb}
use Rattle.std.proofs.lemmas.List.{length-map}
use Rattle.sql_types.specs.Row.{Row}
use Rattle.sql_types.specs.declared.state.SqlState.{SqlState}
use Rattle.sql_types.specs.declared.state.SqlState.TheVariants.{UndefinedTable, InsufficientPrivilege, NotNullViolation, ProgramLimitExceeded, UniqueViolation}
use Rattle.sql_types.specs.declared.tag.Tag.{Tag}
use Rattle.sql_types.specs.declared.tag.Tag.TheVariants as tag
use Rattle.sql_types.specs.declared.value.Value.{Value}
use Rattle.sql_ast.specs.Rows.{fits_record}
use Rattle.sql_ast.specs.declared.policy.PolicyClause.{PolicyClause}
use Rattle.sql_ast.specs.declared.privilege.Action.TheVariants as action
use Rattle.sql_ast.specs.declared.scope.ColumnIndex.{ColumnIndex}
use Rattle.sql_ast.specs.declared.statement.DatabaseStatement.TheVariants as on_database
use Rattle.sql_ast.specs.declared.statement.RowStatement.{RowStatement}
use Rattle.sql_ast.specs.declared.statement.RowStatement.TheVariants as over_rows
use Rattle.sql_ast.specs.declared.statement.Insert.{Insert}
use Rattle.sql_ast.specs.declared.statement.Update.{Update}
use Rattle.sql_ast.specs.declared.statement.Delete.{Delete}
use Rattle.sql_ast.specs.Term.{Term}
use Rattle.expressions.specs.Outcome.{Outcome}
use Rattle.expressions.specs.Meaning.{UserNames}
use Rattle.expressions.specs.Stages.{◌>>=◌, require, each}
use Rattle.abstract_database.specs.Lists.{TheName, Among, found_or}
use Rattle.abstract_database.specs.Database.{TableOf, Database, definition_named, rows_named}
use Rattle.abstract_database.specs.Expressions.{columns_in, bound_value, when_true}
use Rattle.abstract_database.specs.Privileges.{on_column, has_privilege}
use Rattle.abstract_database.specs.Guards.{Guard, using_clause, check_clause, guard, both_guards, with_select, existing_guard, new_guard}
use Rattle.abstract_database.specs.Needs.{privilege, on_columns, on_columns_or_one, columns_read}
use Rattle.abstract_database.specs.Checks.{has_needed, find_definition, checked_insert, checked_update, checked_delete}
use Rattle.abstract_database.specs.Changes.{CheckedInsert, CheckedUpdate, CheckedDelete, has_double_key, with_rows, keeps_not_null, is_admitted, Chosen, choose, condition_on_row, new_rows, other_rows, replaced, assigned, inserted_row, Changed, rows_inserted, rows_updated, rows_deleted}
use Rattle.abstract_database.specs.Definitions.{with_rows_of}
use Rattle.abstract_database.specs.Statements.{Effect, counted, inserted, updated, deleted, insert, update, delete, as_seen, exec, exec_as}
use Rattle.abstract_database.proofs.CheckLemmas.{insert_checked, update_checked, delete_checked}
use Rattle.abstract_database.proofs.ElementLemmas.{into_filter}
use Rattle.abstract_database.proofs.ListLemmas.{bytes_same}
use Rattle.database_laws.specs.Invariants.{IsSound}
use Rattle.database_laws.proofs.AlikeLemmas.{delete_alone}
use Rattle.database_laws.proofs.AlikeWriteLemmas.{insert_alone, update_alone}
use Rattle.database_laws.proofs.RowChangeLemmas.{rows_of_one}
use Rattle.database_laws.proofs.WholeLists.{into_flat_map, into_left, into_right, each_passes}
use Rattle.database_laws.proofs.WholePrivileges.{in_map, table_found}
use Rattle.database_laws.proofs.WorldLemmas.{definitions_alone, named_by_itself, some_table}
use Rattle.database_laws.proofs.WriteLemmas.{rows_after}
use Rattle.privilege_laws.specs.HiddenColumns.{masked, AreHiddenFromWrites, SameButHidden, EndButHidden, TellsSize, is_update, hidden_columns_tell_sizes_alone}
use Rattle.privilege_laws.proofs.Masks.{masked_in, Shows, IsClean, same_bound, PoliciesShow, guard_so}
use Rattle.privilege_laws.proofs.MaskedSelect.{each_same, each_value_same}
use Rattle.privilege_laws.proofs.MaskedRows.{KeyShown, by_checks, checks_alike, mask_chosen, chosen_alike, new_masked, others_masked}
use Rattle.privilege_laws.proofs.Shades.{shade, is_kept, shading, shaded_twice, replaced_so, AllKeep, shaded_alike, masked_alike, all_keep_so}
use Rattle.privilege_laws.proofs.HiddenColumns.{select_ends}

clash : true ≡ false → ⊥
clash e = cc

all_parts : {X : Type 0} (f : X → Bool) (xs ys : List X) → list_all f (xs ++ ys) ≡ true → (list_all f xs ≡ true) × (list_all f ys ≡ true)
all_parts f [] ys e = (refl, e)
all_parts f (x ∷ xs) ys e =
    let parts = and_parts (f x) (list_all f (xs ++ ys)) e in
    let rest = all_parts f xs ys parts.1 in
    (and_from (f x) (list_all f xs) parts.0 rest.0, rest.1)

module _ (hidden : TheName → ℕ → Bool) (d e : Database) (users : UserNames) (shut : AreHiddenFromWrites hidden d users.current) (same : SameButHidden hidden d e) (on_d : IsSound d) (on_e : IsSound e) where
  abbrev Ends : Result Effect SqlState → Result Effect SqlState → Type 0
  Ends r k = EndButHidden hidden r k

  -- the rows of one table are set in both
  set_in_both : (t : TableOf) → definition_named d t.name ≡ Some t → (xs ys : List Row) → map (masked (hidden t.name)) xs ≡ map (masked (hidden t.name)) ys → SameButHidden hidden (with_rows_of t.name xs d) (with_rows_of t.name ys e)
  set_in_both t named xs ys one = record {
    definitions = (rows_of_one t.name xs d).definitions ∙ same.definitions ∙ sym (rows_of_one t.name ys e).definitions;
    rows = λ other. by other (bytes_eq other t.name) refl;
  } where
    by : (other : TheName) (b : Bool) → bytes_eq other t.name ≡ b → map (masked (hidden other)) (rows_named (with_rows_of t.name xs d) other) ≡ map (masked (hidden other)) (rows_named (with_rows_of t.name ys e) other)
    by other false apart =
        ap (map (masked (hidden other))) ((rows_of_one t.name xs d).others other apart) ∙ same.rows other ∙ sym (ap (map (masked (hidden other))) ((rows_of_one t.name ys e).others other apart))
    by other true own =
        let x = some_table d t.name t named in
        let y = some_table e t.name t (sym (definitions_alone d t.name ∙ ap (λ (db : Database). definition_named db t.name) same.definitions ∙ sym (definitions_alone e t.name)) ∙ named) in
        subst (λ (n : TheName). map (masked (hidden n)) (rows_named (with_rows_of t.name xs d) n) ≡ map (masked (hidden n)) (rows_named (with_rows_of t.name ys e) n)) (sym (bytes_same other t.name own))
        (ap (map (masked (hidden t.name))) (rows_after d t.name x.0 xs x.1) ∙ one ∙ sym (ap (map (masked (hidden t.name))) (rows_after e t.name y.0 ys y.1)))

  -- ---- one table

  module _ (name : TheName) (t : TableOf) (found : find_definition d name ≡ Ok t) where
    named : definition_named d t.name ≡ Some t
    named = named_by_itself d name t found

    abbrev change : TheName → ℕ → Value → Value
    change n = shading (hidden n) t.layout.columns

    abbrev M : Row → Row
    M row = masked_in change t row

    by_hidden : (index : ℕ) → (hidden t.name index ≡ true → ⊥) → Shows change t index
    by_hidden index never v = at (hidden t.name index) refl where
      at : (b : Bool) → hidden t.name index ≡ b → change t.name index v ≡ v
      at false is = ap (λ (b : Bool). shade b (is_kept (hidden t.name) t.layout.columns index) v) is
      at true is = absurd (never is)

    read_shown : (index : ℕ) → has_privilege d users.current t.name (on_column action.Select index) ≡ true → Shows change t index
    read_shown index has = by_hidden index (λ is. clash (sym has ∙ (shut t named index is).from_reads.unread))

    key_shown : KeyShown change t t.layout.key
    key_shown index among = by_hidden index (λ is. (shut t named index is).no_key among)

    using_show : PoliciesShow change using_clause d users.current t
    using_show p clause n of one among c found_at = by_hidden c.column (λ is. (shut t named c.column is).from_reads.unnamed p clause n c of one among found_at refl)

    check_show : PoliciesShow change check_clause d users.current t
    check_show p clause n of one among c found_at = by_hidden c.column (λ is. at p.check refl one is) where
      at : (o : Option PolicyClause) → p.check ≡ o → check_clause p ≡ Some clause → hidden t.name c.column ≡ true → ⊥
      at None e f is = (shut t named c.column is).from_reads.unnamed p clause n c of (sym (ap (λ (o : Option PolicyClause). check_clause (record p { check = o })) e) ∙ f) among found_at refl
      at (Some x) e f is = (shut t named c.column is).unchecked p clause n c of (e ∙ sym (ap (λ (o : Option PolicyClause). check_clause (record p { check = o })) e) ∙ f) among found_at refl

    both_so : (first second : Row → Outcome) (row : Row) → first (M row) ≡ first row → second (M row) ≡ second row → both_guards first second (M row) ≡ both_guards first second row
    both_so first second row one two =
        ap (λ (o : Outcome). o >>= λ value. when_true value (second (M row)) (Ok value)) one
        ∙ ap (λ (o : Outcome). first row >>= λ value. when_true value o (Ok value)) two

    select_so : (reads : Bool) (first : Row → Outcome) (row : Row) → first (M row) ≡ first row → with_select d users t reads first (M row) ≡ with_select d users t reads first row
    select_so false first row one = one
    select_so true first row one = both_so first (guard d users t action.Select using_clause) row one (guard_so change d users t using_clause using_show action.Select row)

    -- ---- what an expression on one row reads

    clean_by : (terms : List (Term ColumnIndex)) → list_all (has_needed d users) (on_columns t.name action.Select (columns_read 0 terms)) ≡ true → (x : Term ColumnIndex) → Among x terms → IsClean change (t ∷ []) x
    clean_by terms held x h c k u at = one c.table c.column refl at where
      same_of : (y z : TableOf) → ◌≡◌ {A = Option TableOf} (Some y) (Some z) → y ≡ z
      same_of y z p = cc

      among_read : c.table ≡ 0 → Among c.column (columns_read 0 terms)
      among_read is =
          in_map (λ (y : ColumnIndex). y.column) (filter (λ (y : ColumnIndex). nat_eq y.table 0) (flat_map columns_in terms)) c
          (into_filter (λ (y : ColumnIndex). nat_eq y.table 0) (flat_map columns_in terms) c (into_flat_map columns_in terms x c h k) (eq-eqb c.table 0 is))

      one : (number column : ℕ) → c.table ≡ number → slice_get (t ∷ []) number ≡ Some u → Shows change u c.column
      one zero column is at_zero = subst (λ (y : TableOf). Shows change y c.column) (same_of t u at_zero)
          (read_shown c.column (each_passes (has_needed d users) (on_columns t.name action.Select (columns_read 0 terms)) held (privilege t.name (on_column action.Select c.column))
          (in_map (λ (i : ℕ). privilege t.name (on_column action.Select i)) (columns_read 0 terms) c.column (among_read is))))
      one (suc n) column is at_more = let never : ◌≡◌ {A = Option TableOf} None (Some u) = at_more in cc

    condition_so : (condition : Option (Term ColumnIndex)) → ((x : Term ColumnIndex) → Among x (option_to_list condition) → IsClean change (t ∷ []) x) → (row : Row) → condition_on_row users condition (M row) ≡ condition_on_row users condition row
    condition_so None clean row = refl
    condition_so (Some term) clean row = same_bound change users (t ∷ []) (row ∷ []) term (clean term (inl refl))

    -- ---- the rows of both

    found_there : find_definition e name ≡ Ok t
    found_there = ap (found_or UndefinedTable) (sym (definitions_alone d name ∙ ap (λ (db : Database). definition_named db name) same.definitions ∙ sym (definitions_alone e name))) ∙ found

    keeps_in : (db : Database) → IsSound db → find_definition db name ≡ Ok t → AllKeep (hidden t.name) t.layout.columns (rows_named db t.name)
    keeps_in db on is row among =
        let f = table_found db name t is in
        subst (λ (u : TableOf). keeps_not_null u.layout.columns row ≡ true) f.is (on.3 f.table f.there row (subst (λ (l : List Row). Among row l) f.rows among))

    rows_shaded : map M (rows_named d t.name) ≡ map M (rows_named e t.name)
    rows_shaded = shaded_alike (hidden t.name) t.layout.columns (rows_named d t.name) (rows_named e t.name) (keeps_in d on_d found) (keeps_in e on_e found_there) (same.rows t.name)

    abbrev MaskedAlike : Result (List Row) SqlState → Result (List Row) SqlState → Type 0
    MaskedAlike r k = (r >>= λ rows. Ok (map M rows)) ≡ (k >>= λ rows. Ok (map M rows))

    -- ---- INSERT

    put_in : (count : ℕ) (r k : Result (List Row) SqlState) → MaskedAlike r k → Ends (r >>= λ rows. Ok (counted tag.Insert count (with_rows_of t.name rows d))) (k >>= λ rows. Ok (counted tag.Insert count (with_rows_of t.name rows e)))
    put_in count (Ok xs) (Ok ys) one = (refl, set_in_both t named xs ys (masked_alike (hidden t.name) t.layout.columns xs ys (lists one))) where
      lists : ◌≡◌ {A = Result (List Row) SqlState} (Ok (map M xs)) (Ok (map M ys)) → map M xs ≡ map M ys
      lists p = cc
    put_in count (Err c) (Err k) one = codes one where
      codes : ◌≡◌ {A = Result (List Row) SqlState} (Err c) (Err k) → c ≡ k
      codes p = cc
    put_in count (Ok xs) (Err k) one = let never : ◌≡◌ {A = Result (List Row) SqlState} (Ok (map M xs)) (Err k) = one in cc
    put_in count (Err c) (Ok ys) one = let never : ◌≡◌ {A = Result (List Row) SqlState} (Err c) (Ok (map M ys)) = one in cc

    inserted_alike : (c : CheckedInsert) → MaskedAlike (rows_inserted (new_guard d users t action.Insert false) users (record c { table = t }) (rows_named d t.name)) (rows_inserted (new_guard d users t action.Insert false) users (record c { table = t }) (rows_named e t.name))
    inserted_alike c = at (each (inserted_row t.layout users c.columns) c.rows) where
      at : (r : Result (List Row) SqlState) →
          MaskedAlike (r >>= λ new. by_checks change t t.layout.key key_shown (new_guard d users t action.Insert false) (rows_named d t.name) new (list_all (keeps_not_null t.layout.columns) new) (list_all (fits_record t.layout) new))
          (r >>= λ new. by_checks change t t.layout.key key_shown (new_guard d users t action.Insert false) (rows_named e t.name) new (list_all (keeps_not_null t.layout.columns) new) (list_all (fits_record t.layout) new))
      at (Ok new) = checks_alike change t t.layout.key key_shown (new_guard d users t action.Insert false) (λ row. guard_so change d users t check_clause check_show action.Insert row) (rows_named d t.name) (rows_named e t.name) new new
          (list_all (keeps_not_null t.layout.columns) new) (list_all (fits_record t.layout) new) rows_shaded refl
      at (Err code) = refl

    -- ---- choices

    again : (row : Row) → M (M row) ≡ M row
    again row = shaded_twice (hidden t.name) t.layout.columns 0 row

    abbrev ChosenAlike : Result (List Chosen) SqlState → Result (List Chosen) SqlState → Type 0
    ChosenAlike r k = (r >>= λ cs. Ok (map (mask_chosen change t) cs)) ≡ (k >>= λ cs. Ok (map (mask_chosen change t) cs))

    both_lists : (xs ys : List Chosen) → ChosenAlike (Ok xs) (Ok ys) → map (mask_chosen change t) xs ≡ map (mask_chosen change t) ys
    both_lists xs ys p = at p where
      at : ◌≡◌ {A = Result (List Chosen) SqlState} (Ok (map (mask_chosen change t) xs)) (Ok (map (mask_chosen change t) ys)) → map (mask_chosen change t) xs ≡ map (mask_chosen change t) ys
      at q = cc

    one_code : (c k : SqlState) → ChosenAlike (Err c) (Err k) → c ≡ k
    one_code c k p = at p where
      at : ◌≡◌ {A = Result (List Chosen) SqlState} (Err c) (Err k) → c ≡ k
      at q = cc

    not_one : (xs : List Chosen) (k : SqlState) → ChosenAlike (Ok xs) (Err k) → ⊥
    not_one xs k p = at p where
      at : ◌≡◌ {A = Result (List Chosen) SqlState} (Ok (map (mask_chosen change t) xs)) (Err k) → ⊥
      at q = cc

    others_alike : (xs ys : List Chosen) → map (mask_chosen change t) xs ≡ map (mask_chosen change t) ys → map M (other_rows xs) ≡ map M (other_rows ys)
    others_alike xs ys one = sym (others_masked change t xs) ∙ ap other_rows one ∙ others_masked change t ys

    new_alike : (xs ys : List Chosen) → map (mask_chosen change t) xs ≡ map (mask_chosen change t) ys → map M (new_rows xs) ≡ map M (new_rows ys)
    new_alike xs ys one = sym (new_masked change t xs) ∙ ap new_rows one ∙ new_masked change t ys

    as_many : (xs ys : List Chosen) → map (mask_chosen change t) xs ≡ map (mask_chosen change t) ys → length (new_rows xs) ≡ length (new_rows ys)
    as_many xs ys one = sym (length-map (new_rows xs) M) ∙ ap length (new_alike xs ys one) ∙ length-map (new_rows ys) M

    abbrev counted_in : Tag → Database → Result Changed SqlState → Result Effect SqlState
    counted_in done_tag db r = r >>= λ changed. Ok (counted done_tag changed.count (with_rows_of t.name changed.rows db))

    -- ---- DELETE

    module _ (c : CheckedDelete) (at_table : c.table ≡ t) (clean : (x : Term ColumnIndex) → Among x (option_to_list c.condition) → IsClean change (t ∷ []) x) where
      abbrev delete_step : Row → Result Chosen SqlState
      delete_step = choose (existing_guard d users t action.Delete c.reads) (condition_on_row users c.condition) (λ row. Ok row)

      delete_chosen : ChosenAlike (each delete_step (rows_named d t.name)) (each delete_step (rows_named e t.name))
      delete_chosen = chosen_alike change t again (existing_guard d users t action.Delete c.reads) (condition_on_row users c.condition) (λ row. Ok row)
          (λ row. select_so c.reads (guard d users t action.Delete using_clause) row (guard_so change d users t using_clause using_show action.Delete row))
          (λ row. condition_so c.condition clean row) (λ row. ap (λ (r : Row). Ok r) (again row)) (rows_named d t.name) (rows_named e t.name) rows_shaded

      left_in : (r k : Result (List Chosen) SqlState) → ChosenAlike r k →
          Ends (counted_in tag.Delete d (r >>= λ chosen. Ok (record { rows = other_rows chosen; count = length (new_rows chosen) }))) (counted_in tag.Delete e (k >>= λ chosen. Ok (record { rows = other_rows chosen; count = length (new_rows chosen) })))
      left_in (Ok xs) (Ok ys) one =
          let lists = both_lists xs ys one in
          (ap (λ (n : ℕ). (counted tag.Delete n d).answer) (as_many xs ys lists), set_in_both t named (other_rows xs) (other_rows ys) (masked_alike (hidden t.name) t.layout.columns (other_rows xs) (other_rows ys) (others_alike xs ys lists)))
      left_in (Err a) (Err b) one = one_code a b one
      left_in (Ok xs) (Err b) one = absurd (not_one xs b one)
      left_in (Err a) (Ok ys) one = absurd (not_one ys a (sym one))

    -- ---- UPDATE

    module _ (columns : List ℕ) (values : List (Term ColumnIndex)) (condition : Option (Term ColumnIndex)) (reads : Bool) (clean : (x : Term ColumnIndex) → Among x (values ++ option_to_list condition) → IsClean change (t ∷ []) x) where
      values_clean : (x : Term ColumnIndex) → Among x values → IsClean change (t ∷ []) x
      values_clean x h = clean x (into_left values (option_to_list condition) x h)

      comes : (row : Row) → (assigned users columns values (M row) >>= λ r. Ok (M r)) ≡ (assigned users columns values row >>= λ r. Ok (M r))
      comes row =
          ap (λ (r : Result (List Value) SqlState). (r >>= λ vs. Ok (replaced columns vs (M row))) >>= λ x. Ok (M x)) (each_value_same change users (t ∷ []) (row ∷ []) values values_clean)
          ∙ at (each (bound_value users (row ∷ [])) values)
        where
          at : (r : Result (List Value) SqlState) → ((r >>= λ vs. Ok (replaced columns vs (M row))) >>= λ x. Ok (M x)) ≡ ((r >>= λ vs. Ok (replaced columns vs row)) >>= λ x. Ok (M x))
          at (Ok vs) = ap (λ (x : Row). Ok x) (replaced_so (hidden t.name) t.layout.columns 0 columns vs row)
          at (Err code) = refl

      abbrev update_step : Row → Result Chosen SqlState
      update_step = choose (existing_guard d users t action.Update reads) (condition_on_row users condition) (assigned users columns values)

      update_chosen : ChosenAlike (each update_step (rows_named d t.name)) (each update_step (rows_named e t.name))
      update_chosen = chosen_alike change t again (existing_guard d users t action.Update reads) (condition_on_row users condition) (assigned users columns values)
          (λ row. select_so reads (guard d users t action.Update using_clause) row (guard_so change d users t using_clause using_show action.Update row))
          (λ row. condition_so condition (λ x h. clean x (into_right values (option_to_list condition) x h)) row) comes (rows_named d t.name) (rows_named e t.name) rows_shaded

      abbrev admitting : Guard
      admitting = new_guard d users t action.Update reads

      admits : (row : Row) → admitting (M row) ≡ admitting row
      admits row = select_so reads (guard d users t action.Update check_clause) row (guard_so change d users t check_clause check_show action.Update row)

      abbrev kept : List Row → Bool
      kept new = list_all (keeps_not_null t.layout.columns) new

      abbrev sized : List Row → Bool
      sized new = list_all (fits_record t.layout) new

      abbrev checks : List Chosen → Bool → Bool → Result (List Row) SqlState
      checks cs k s = by_checks change t t.layout.key key_shown admitting (other_rows cs) (new_rows cs) k s

      abbrev ending : Database → ℕ → Result (List Row) SqlState → Result Effect SqlState
      ending db count r = counted_in tag.Update db (r >>= λ rows. Ok (record { rows = rows; count = count }))

      abbrev Outcome2 : Result Effect SqlState → Result Effect SqlState → Type 0
      Outcome2 r k = TellsSize r k ⊎ Ends r k

      ends_by : (m n : ℕ) (r k : Result (List Row) SqlState) → m ≡ n → MaskedAlike r k → Ends (ending d m r) (ending e n k)
      ends_by m n (Ok xs) (Ok ys) many one = (ap (λ (i : ℕ). (counted tag.Update i d).answer) many, set_in_both t named xs ys (masked_alike (hidden t.name) t.layout.columns xs ys (lists one))) where
        lists : ◌≡◌ {A = Result (List Row) SqlState} (Ok (map M xs)) (Ok (map M ys)) → map M xs ≡ map M ys
        lists p = cc
      ends_by m n (Err a) (Err b) many one = codes one where
        codes : ◌≡◌ {A = Result (List Row) SqlState} (Err a) (Err b) → a ≡ b
        codes p = cc
      ends_by m n (Ok xs) (Err b) many one = let never : ◌≡◌ {A = Result (List Row) SqlState} (Ok (map M xs)) (Err b) = one in cc
      ends_by m n (Err a) (Ok ys) many one = let never : ◌≡◌ {A = Result (List Row) SqlState} (Err a) (Ok (map M ys)) = one in cc

      -- one of both is too large
      abbrev last_checks : Result (List (Unit {0})) SqlState → Bool → Bool → Bool → List Row → Result (List Row) SqlState
      last_checks r k s double rows = do
        admitted ← r
        not_null ← require k NotNullViolation
        fits ← require s ProgramLimitExceeded
        unique ← require (not double) UniqueViolation
        Ok rows

      not_too_large : (db : Database) (n : ℕ) (double : Bool) (rows : List Row) → ending db n (last_checks (Ok []) true true double rows) ≡ Err ProgramLimitExceeded → ⊥
      not_too_large db n true rows p = at p where
        at : ◌≡◌ {A = Result Effect SqlState} (Err UniqueViolation) (Err ProgramLimitExceeded) → ⊥
        at q = cc
      not_too_large db n false rows p = at p where
        at : ◌≡◌ {A = Result Effect SqlState} (Ok (counted tag.Update n (with_rows_of t.name rows db))) (Err ProgramLimitExceeded) → ⊥
        at q = cc

      sizes_part : (r : Result (List (Unit {0})) SqlState) (k s u : Bool) (m n : ℕ) (double again_double : Bool) (rows there : List Row) → (s ≡ u → ⊥) →
          Outcome2 (ending d m (last_checks r k s double rows)) (ending e n (last_checks r k u again_double there))
      sizes_part (Err code) k s u m n x y rows there apart = inr refl
      sizes_part (Ok a) false s u m n x y rows there apart = inr refl
      sizes_part (Ok a) true true true m n x y rows there apart = absurd (apart refl)
      sizes_part (Ok a) true false false m n x y rows there apart = absurd (apart refl)
      sizes_part (Ok a) true false true m n x y rows there apart = inl (inl (refl, not_too_large e n y there))
      sizes_part (Ok a) true true false m n x y rows there apart = inl (inr (refl, not_too_large d m x rows))

      same_or_not : (b c : Bool) → (b ≡ c) ⊎ (b ≡ c → ⊥)
      same_or_not true true = inl refl
      same_or_not false false = inl refl
      same_or_not true false = inr clash
      same_or_not false true = inr (λ p. clash (sym p))

      admitted_alike : (xs ys : List Row) → map M xs ≡ map M ys → each (is_admitted admitting) xs ≡ each (is_admitted admitting) ys
      admitted_alike xs ys one =
          sym (each_same M (is_admitted admitting) xs (λ row. ap (λ (o : Outcome). o >>= λ value. require (when_true value true false) InsufficientPrivilege) (admits row)))
          ∙ ap (each (is_admitted admitting)) one
          ∙ each_same M (is_admitted admitting) ys (λ row. ap (λ (o : Outcome). o >>= λ value. require (when_true value true false) InsufficientPrivilege) (admits row))

      kept_alike : (xs ys : List Row) → map M xs ≡ map M ys → kept xs ≡ kept ys
      kept_alike xs ys one = sym (all_keep_so (hidden t.name) t.layout.columns xs) ∙ ap kept one ∙ all_keep_so (hidden t.name) t.layout.columns ys

      changed_both : (xs ys : List Chosen) → map (mask_chosen change t) xs ≡ map (mask_chosen change t) ys →
          Outcome2 (ending d (length (new_rows xs)) (checks xs (kept (new_rows xs)) (sized (new_rows xs)))) (ending e (length (new_rows ys)) (checks ys (kept (new_rows ys)) (sized (new_rows ys))))
      changed_both xs ys one = elim (same_or_not (sized (new_rows xs)) (sized (new_rows ys))) [
        | inl sizes ↦ inr (ends_by (length (new_rows xs)) (length (new_rows ys)) (checks xs (kept (new_rows xs)) (sized (new_rows xs))) (checks ys (kept (new_rows ys)) (sized (new_rows ys))) (as_many xs ys one)
            (subst (λ (k : Bool). MaskedAlike (checks xs (kept (new_rows xs)) (sized (new_rows xs))) (checks ys k (sized (new_rows ys)))) (kept_alike (new_rows xs) (new_rows ys) (new_alike xs ys one))
            (subst (λ (s : Bool). MaskedAlike (checks xs (kept (new_rows xs)) (sized (new_rows xs))) (checks ys (kept (new_rows xs)) s)) sizes
            (checks_alike change t t.layout.key key_shown admitting admits (other_rows xs) (other_rows ys) (new_rows xs) (new_rows ys) (kept (new_rows xs)) (sized (new_rows xs)) (others_alike xs ys one) (new_alike xs ys one)))))
        | inr apart ↦ parted apart
      ] where
        parted : (sized (new_rows xs) ≡ sized (new_rows ys) → ⊥) →
            Outcome2 (ending d (length (new_rows xs)) (checks xs (kept (new_rows xs)) (sized (new_rows xs)))) (ending e (length (new_rows ys)) (checks ys (kept (new_rows ys)) (sized (new_rows ys))))
        parted apart =
            subst (λ (r : Result (List (Unit {0})) SqlState). Outcome2 (ending d (length (new_rows xs)) (checks xs (kept (new_rows xs)) (sized (new_rows xs)))) (ending e (length (new_rows ys)) (last_checks r (kept (new_rows ys)) (sized (new_rows ys)) (has_double_key t.layout.key (other_rows ys ++ new_rows ys)) (with_rows t.layout.key (new_rows ys) (other_rows ys)))))
            (admitted_alike (new_rows xs) (new_rows ys) (new_alike xs ys one))
            (subst (λ (k : Bool). Outcome2 (ending d (length (new_rows xs)) (checks xs (kept (new_rows xs)) (sized (new_rows xs)))) (ending e (length (new_rows ys)) (last_checks (each (is_admitted admitting) (new_rows xs)) k (sized (new_rows ys)) (has_double_key t.layout.key (other_rows ys ++ new_rows ys)) (with_rows t.layout.key (new_rows ys) (other_rows ys)))))
            (kept_alike (new_rows xs) (new_rows ys) (new_alike xs ys one))
            (sizes_part (each (is_admitted admitting) (new_rows xs)) (kept (new_rows xs)) (sized (new_rows xs)) (sized (new_rows ys)) (length (new_rows xs)) (length (new_rows ys))
            (has_double_key t.layout.key (other_rows xs ++ new_rows xs)) (has_double_key t.layout.key (other_rows ys ++ new_rows ys)) (with_rows t.layout.key (new_rows xs) (other_rows xs)) (with_rows t.layout.key (new_rows ys) (other_rows ys)) apart))

      abbrev ended : Database → Result (List Chosen) SqlState → Result Effect SqlState
      ended db r = counted_in tag.Update db (r >>= λ cs. checks cs (kept (new_rows cs)) (sized (new_rows cs)) >>= λ rows. Ok (record { rows = rows; count = length (new_rows cs) }))

      updated_in : (r k : Result (List Chosen) SqlState) → ChosenAlike r k → Outcome2 (ended d r) (ended e k)
      updated_in (Ok xs) (Ok ys) one = changed_both xs ys (both_lists xs ys one)
      updated_in (Err a) (Err b) one = inr (one_code a b one)
      updated_in (Ok xs) (Err b) one = absurd (not_one xs b one)
      updated_in (Err a) (Ok ys) one = absurd (not_one ys a (sym one))

  -- ---- each statement

  inserts_at : (s : Insert) (r : Result CheckedInsert SqlState) → checked_insert d users s ≡ r → Ends (r >>= inserted d users) (r >>= inserted e users)
  inserts_at s (Err code) is = refl
  inserts_at s (Ok c) is =
      let facts = insert_checked d users s c is in
      subst (λ (k : Result (List Row) SqlState). Ends (inserted d users c) (k >>= λ rows. Ok (counted tag.Insert (length c.rows) (with_rows_of c.table.name rows e))))
      (ap (λ (x : Database). rows_inserted (new_guard x users c.table action.Insert false) users c (rows_named e c.table.name)) same.definitions)
      (put_in s.table c.table facts.found (length c.rows) (rows_inserted (new_guard d users c.table action.Insert false) users c (rows_named d c.table.name)) (rows_inserted (new_guard d users c.table action.Insert false) users c (rows_named e c.table.name))
      (inserted_alike s.table c.table facts.found c))

  pub insert_ends : (s : Insert) → Ends (insert d users s) (insert e users s)
  insert_ends s = subst (λ (r : Result CheckedInsert SqlState). Ends (insert d users s) (r >>= inserted e users))
      (insert_alone d users s ∙ ap (λ (x : Database). checked_insert x users s) same.definitions ∙ sym (insert_alone e users s)) (inserts_at s (checked_insert d users s) refl)

  deletes_at : (s : Delete) (r : Result CheckedDelete SqlState) → checked_delete d users s ≡ r → Ends (r >>= deleted d users) (r >>= deleted e users)
  deletes_at s (Err code) is = refl
  deletes_at s (Ok c) is =
      let facts = delete_checked d users s c is in
      let held = (and_parts _ (list_all (has_needed d users) (on_columns c.table.name action.Select (columns_read 0 (option_to_list c.condition)))) facts.allowed).1 in
      let clean = clean_by s.table c.table facts.found (option_to_list c.condition) held in
      subst (λ (g : Guard). Ends (deleted d users c) (counted_in s.table c.table facts.found tag.Delete e (rows_deleted g users c (rows_named e c.table.name))))
      (ap (λ (x : Database). existing_guard x users c.table action.Delete c.reads) same.definitions)
      (left_in s.table c.table facts.found c refl clean (each (delete_step s.table c.table facts.found c refl clean) (rows_named d c.table.name)) (each (delete_step s.table c.table facts.found c refl clean) (rows_named e c.table.name))
      (delete_chosen s.table c.table facts.found c refl clean))

  pub delete_ends : (s : Delete) → Ends (delete d users s) (delete e users s)
  delete_ends s = subst (λ (r : Result CheckedDelete SqlState). Ends (delete d users s) (r >>= deleted e users))
      (delete_alone d users s ∙ ap (λ (x : Database). checked_delete x users s) same.definitions ∙ sym (delete_alone e users s)) (deletes_at s (checked_delete d users s) refl)

  abbrev UpdateEnds : Result Effect SqlState → Result Effect SqlState → Type 0
  UpdateEnds r k = TellsSize r k ⊎ Ends r k

  updates_at : (s : Update) (r : Result CheckedUpdate SqlState) → checked_update d users s ≡ r → UpdateEnds (r >>= updated d users) (r >>= updated e users)
  updates_at s (Err code) is = inr refl
  updates_at s (Ok c) is =
      let facts = update_checked d users s c is in
      let held = (all_parts (has_needed d users) (on_columns_or_one c.table.name action.Update c.columns) (on_columns c.table.name action.Select (columns_read 0 (c.values ++ option_to_list c.condition))) facts.allowed).1 in
      let clean = clean_by s.table c.table facts.found (c.values ++ option_to_list c.condition) held in
      let step = update_step s.table c.table facts.found c.columns c.values c.condition c.reads clean in
      subst (λ (k : Result Changed SqlState). UpdateEnds (updated d users c) (counted_in s.table c.table facts.found tag.Update e k))
      (ap (λ (x : Database). rows_updated (existing_guard x users c.table action.Update c.reads) (new_guard x users c.table action.Update c.reads) users c (rows_named e c.table.name)) same.definitions)
      (updated_in s.table c.table facts.found c.columns c.values c.condition c.reads clean (each step (rows_named d c.table.name)) (each step (rows_named e c.table.name))
      (update_chosen s.table c.table facts.found c.columns c.values c.condition c.reads clean))

  pub update_ends : (s : Update) → UpdateEnds (update d users s) (update e users s)
  update_ends s = subst (λ (r : Result CheckedUpdate SqlState). UpdateEnds (update d users s) (r >>= updated e users))
      (update_alone d users s ∙ ap (λ (x : Database). checked_update x users s) same.definitions ∙ sym (update_alone e users s)) (updates_at s (checked_update d users s) refl)

  abbrev OneOf : RowStatement → Result Effect SqlState → Result Effect SqlState → Type 0
  OneOf x r k = ((is_update x ≡ true) × TellsSize r k) ⊎ Ends r k

  pub row_statement_ends : (x : RowStatement) → OneOf x (exec_as d users (on_database.OverRows x)) (exec_as e users (on_database.OverRows x))
  row_statement_ends (over_rows.Select s) = inr (select_ends hidden d e users (λ t named index is. (shut t named index is).from_reads) same s)
  row_statement_ends (over_rows.Insert s) = inr (insert_ends s)
  row_statement_ends (over_rows.Delete s) = inr (delete_ends s)
  row_statement_ends (over_rows.Update s) = elim (update_ends s) [ inl tells ↦ inl (refl, tells) | inr ends ↦ inr ends ]

pub sizes_alone : hidden_columns_tell_sizes_alone
sizes_alone hidden pair d e x shut same on_d on_e =
    subst (λ (u : UserNames). ((is_update x ≡ true) × TellsSize (exec d pair (on_database.OverRows x)) (exec_as e u (on_database.OverRows x))) ⊎ EndButHidden hidden (exec d pair (on_database.OverRows x)) (exec_as e u (on_database.OverRows x)))
    (ap (λ (db : Database). as_seen pair db) same.definitions) (row_statement_ends hidden d e (as_seen pair d) shut same on_d on_e x)
