-- The values of a new row, column by column.
use Rattle.std.proofs.Common.{◌≡◌, ◌+◌, ◌<◌, ℕ, zero, suc, arith, nat_eq, nat_lt, not, Bool, true, false, cond, List, [], ◌∷◌, map, find, zip, take, length, get_or, slice_get, bytes_eq, position, Option, Some, None, Ok, refl, sym, ap, ◌∙◌, subst}
use Rattle.std.specs.List.{list_any, position_or_len, range_with_len}
use Rattle.std.specs.Map.{lookup}
use Rattle.std.proofs.lemmas.Bool.{and_parts, eq-eqb, eqb-true, lt-ltb, ne_eqb}
use Rattle.std.proofs.lemmas.List.{length-map}
use Rattle.std.proofs.lemmas.List.Quantifiers.{position-Some}
use Rattle.std.proofs.lemmas.List.Sums.{position_or_len_is}
use Rattle.std.proofs.lemmas.Option.{same_Some, slice_get-get_or, slice_get_within, get_or_from_slice_get}
use Rattle.sql_types.specs.Row.{Row, value_at}
use Rattle.sql_types.specs.declared.state.SqlState.TheVariants.{UndefinedColumn}
use Rattle.sql_types.specs.declared.value.Value.{Value}
use Rattle.sql_types.specs.declared.value.Value.TheVariants.{Null}
use Rattle.sql_ast.specs.declared.columns.Column.{Column}
use Rattle.sql_ast.specs.declared.columns.ColumnType.TheVariants as type
use Rattle.sql_ast.specs.declared.expression.ColumnName.{ColumnName}
use Rattle.sql_ast.specs.declared.statement.Assignment.{Assignment}
use Rattle.sql_ast.specs.declared.statement.Insert.{Insert}
use Rattle.sql_ast.specs.declared.statement.Update.{Update}
use Rattle.sql_ast.specs.Layout.{Layout, all_differ, same_name}
use Rattle.sql_ast.specs.Term.{Term}
use Rattle.expressions.specs.Outcome.{Outcome}
use Rattle.expressions.specs.Meaning.{UserNames}
use Rattle.expressions.specs.Stages.{◌>>=◌, each}
use Rattle.abstract_database.specs.Lists.{TheName, found_or}
use Rattle.abstract_database.specs.Database.{TableOf}
use Rattle.abstract_database.specs.Expressions.{own_scope, value_on}
use Rattle.abstract_database.specs.Privileges.{is_column_named}
use Rattle.abstract_database.specs.Changes.{value_beside, replaced_from, arranged, replaced}
use Rattle.abstract_database.specs.Checks.{found_column, row_width, target_columns, set_names, new_values}
use Rattle.abstract_database.proofs.ResultLemmas.{ok_inside, bind_ok}
use Rattle.abstract_database.proofs.ElementLemmas.{any_holds, among_at}
use Rattle.abstract_database.proofs.ListLemmas.{bytes_same, same_bytes}
use Rattle.database_laws.specs.RowChanges.{row_given, names_given, HasGivenValues, row_assigned, sets, HasAssignedValues}

-- ---- values of expressions

record FirstOf {A : Type 0} (f : A → Outcome) (x : A) (xs : List A) (values : List Value) : Type 0 where
  first : Value
  rest : List Value
  first_is : f x ≡ Ok first
  rest_is : each f xs ≡ Ok rest
  is : first ∷ rest ≡ values

first_of_values : {A : Type 0} (f : A → Outcome) (x : A) (xs : List A) (values : List Value) → each f (x ∷ xs) ≡ Ok values → FirstOf f x xs values
first_of_values f x xs values e =
    let one = bind_ok (f x) (λ y. each f xs >>= λ l. Ok (y ∷ l)) values e in
    let more = bind_ok (each f xs) (λ l. Ok (one.0 ∷ l)) values one.2 in
    record { first = one.0; rest = more.0; first_is = one.1; rest_is = more.1; is = ok_inside (one.0 ∷ more.0) values more.2 }

-- ---- columns that are found by their names

abbrev no_column : Column
no_column = record { name = []; column_type = type.Text; not_null = false }

found_inside : (o : Option ℕ) (index : ℕ) → found_or UndefinedColumn o ≡ Ok index → o ≡ Some index
found_inside None index e = cc
found_inside (Some i) index e = ap Some (ok_inside i index e)

-- the first of its columns that has the name stands at the index
record IsFirstNamed (columns : List Column) (name : TheName) (index : ℕ) : Type 0 where
  within : index < length columns
  named : is_column_named name (get_or columns index no_column) ≡ true
  first : (k : ℕ) → k < index → is_column_named name (get_or columns k no_column) ≡ false

first_found : (layout : Layout) (name : TheName) (index : ℕ) → found_column layout name ≡ Ok index → IsFirstNamed layout.columns name index
first_found layout name index e =
    let at = position-Some (is_column_named name) layout.columns index no_column (found_inside (position (is_column_named name) layout.columns) index e) in
    record { within = at.0; named = at.1; first = at.2 }

-- the column of a name has that name
pub column_found : (layout : Layout) (name : TheName) (index : ℕ) → found_column layout name ≡ Ok index → (c : Column) × (slice_get layout.columns index ≡ Some c) × (is_column_named name c ≡ true)
column_found layout name index e =
    let at = first_found layout name index e in
    (get_or layout.columns index no_column, slice_get-get_or layout.columns index no_column at.within, at.named)

-- a column's name is not that of one before it
named_first : (cs : List Column) → all_differ same_name cs ≡ true → (k index : ℕ) → k < index → (c : Column) → slice_get cs index ≡ Some c → is_column_named c.name (get_or cs k no_column) ≡ false
named_first [] differ k index h c e = cc
named_first (x ∷ xs) differ k zero h c e = absurd (omega (arith, h))
named_first (x ∷ xs) differ zero (suc index) h c e = by_test (same_name x c) refl where
  by_test : (b : Bool) → same_name x c ≡ b → b ≡ false
  by_test false f = refl
  by_test true f =
      let found = any_holds (same_name x) xs c (among_at xs index c e) f in
      let contrary : false ≡ true = ap not (sym found) ∙ (and_parts (not (list_any (same_name x) xs)) (all_differ same_name xs) differ).0 in cc
named_first (x ∷ xs) differ (suc k) (suc index) h c e = named_first xs (and_parts (not (list_any (same_name x) xs)) (all_differ same_name xs) differ).1 k index (omega (arith, h)) c e

-- where names differ, each column is found by its name
pub found_by_name : (layout : Layout) (index : ℕ) (c : Column) → all_differ same_name layout.columns ≡ true → slice_get layout.columns index ≡ Some c → found_column layout c.name ≡ Ok index
found_by_name layout index c differ there =
    let cs = layout.columns in
    let within = slice_get_within cs index c there in
    let place : position_or_len (is_column_named c.name) cs ≡ index =
    position_or_len_is (is_column_named c.name) cs index no_column (omega (arith, within)) (λ k h. named_first cs differ k index h c there)
    (λ h. ap (is_column_named c.name) (get_or_from_slice_get cs index c no_column there) ∙ same_bytes c.name c.name refl) in
    ap (λ n. found_or UndefinedColumn (cond (nat_lt n (length cs)) (Some n) None)) place ∙ ap (λ b. found_or UndefinedColumn (cond b (Some index) None)) (lt-ltb index (length cs) within)

-- two names are one where they are found at one index
found_alike : (layout : Layout) (name other : TheName) (i j : ℕ) → found_column layout name ≡ Ok i → found_column layout other ≡ Ok j → nat_eq i j ≡ bytes_eq name other
found_alike layout name other i j e f = by_test (bytes_eq name other) refl where
  no_index : (b : Bool) → nat_eq i j ≡ b → bytes_eq name other ≡ false → b ≡ false
  no_index false same differs = refl
  no_index true same differs =
      let one = column_found layout name i e in
      let two = column_found layout other j f in
      let c : one.0 ≡ two.0 = same_Some one.0 two.0 (sym one.1 ∙ ap (slice_get layout.columns) (eqb-true i j same) ∙ two.1) in
      let names : name ≡ other = sym (bytes_same one.0.name name one.2) ∙ ap (λ (x : Column). x.name) c ∙ bytes_same two.0.name other two.2 in
      let contrary : true ≡ false = sym (same_bytes name other names) ∙ differs in cc

  by_test : (b : Bool) → bytes_eq name other ≡ b → nat_eq i j ≡ b
  by_test true is = eq-eqb i j (ok_inside i j (sym e ∙ ap (found_column layout) (bytes_same name other is) ∙ f))
  by_test false differs = no_index (nat_eq i j) refl differs

-- ---- values beside their columns, by names

-- the value beside a name, or the other one
abbrev beside_name : TheName → List TheName → List Value → Value → Value
beside_name name (n ∷ ns) (v ∷ vs) other = cond (bytes_eq name n) v (beside_name name ns vs other)
beside_name name _ _ other = other

-- beside the index of a column stands what stands beside its name
beside_found : (layout : Layout) (name : TheName) (index : ℕ) → found_column layout name ≡ Ok index → (names : List TheName) (columns : List ℕ) → each (found_column layout) names ≡ Ok columns →
    (values : List Value) (other : Value) → value_beside index columns values other ≡ beside_name name names values other
beside_found layout name index found [] columns e values other = ap (λ cs. value_beside index cs values other) (sym (ok_inside [] columns e))
beside_found layout name index found (n ∷ ns) columns e values other =
    let first = bind_ok (found_column layout n) (λ y. each (found_column layout) ns >>= λ l. Ok (y ∷ l)) columns e in
    let rest = bind_ok (each (found_column layout) ns) (λ l. Ok (first.0 ∷ l)) columns first.2 in
    ap (λ cs. value_beside index cs values other) (sym (ok_inside (first.0 ∷ rest.0) columns rest.2)) ∙ at first.0 first.1 rest.0 (beside_found layout name index found ns rest.0 rest.1) values
  where
    at : (c : ℕ) → found_column layout n ≡ Ok c → (cs : List ℕ) → ((vs : List Value) (o : Value) → value_beside index cs vs o ≡ beside_name name ns vs o) → (vs : List Value) →
        value_beside index (c ∷ cs) vs other ≡ beside_name name (n ∷ ns) vs other
    at c is cs go [] = refl
    at c is cs go (v ∷ vs) = ap (λ b. cond b v (value_beside index cs vs other)) (found_alike layout name n index c found is) ∙ ap (cond (bytes_eq name n) v) (go vs other)

not_named : (name other : TheName) → bytes_eq other name ≡ false → bytes_eq name other ≡ false
not_named name other e = by_test (bytes_eq name other) refl where
  by_test : (b : Bool) → bytes_eq name other ≡ b → b ≡ false
  by_test false f = refl
  by_test true f = let contrary : true ≡ false = sym (same_bytes other name (sym (bytes_same name other f))) ∙ e in cc

-- the same of the first so many columns
beside_first : (name : TheName) (cs : List Column) (start index : ℕ) → IsFirstNamed cs name index → (width : ℕ) (values : List Value) (other : Value) →
    value_beside (start + index) (range_with_len start width) values other ≡ beside_name name (take width (map (λ (c : Column). c.name) cs)) values other
beside_first name cs start index is zero values other = refl
beside_first name [] start index is (suc width) values other = absurd (omega (arith, is.within))
beside_first name (c ∷ cs) start index is (suc width) [] other = refl
beside_first name (c ∷ cs) start zero is (suc width) (v ∷ vs) other =
    ap (λ b. cond b v (value_beside (start + 0) (range_with_len (start + 1) width) vs other)) (eq-eqb (start + 0) start (omega arith))
    ∙ sym (ap (λ b. cond b v (beside_name name (take width (map (λ (x : Column). x.name) cs)) vs other)) (same_bytes name c.name (sym (bytes_same c.name name is.named))))
beside_first name (c ∷ cs) start (suc index) is (suc width) (v ∷ vs) other =
    ap (λ b. cond b v (value_beside (start + suc index) (range_with_len (start + 1) width) vs other)) (ne_eqb (start + suc index) start (λ e. absurd (omega (arith, e))))
    ∙ ap (λ n. value_beside n (range_with_len (start + 1) width) vs other) (omega arith)
    ∙ beside_first name cs (start + 1) index (record { within = omega (arith, is.within); named = is.named; first = λ k h. is.first (suc k) (omega (arith, h)) }) width vs other
    ∙ sym (ap (λ b. cond b v (beside_name name (take width (map (λ (x : Column). x.name) cs)) vs other)) (not_named name c.name (is.first 0 (omega arith))))

-- a value that is put beside a column in a row
module _ (columns : List ℕ) (values : List Value) where
  replaced_at : (start : ℕ) (row : Row) (index : ℕ) (old : Value) → slice_get row index ≡ Some old → value_at (replaced_from start columns values row) index ≡ value_beside (start + index) columns values old
  replaced_at start [] index old e = cc
  replaced_at start (v ∷ vs) zero old e = ap (λ n. value_beside n columns values v) (omega arith) ∙ ap (value_beside (start + 0) columns values) (same_Some v old e)
  replaced_at start (v ∷ vs) (suc index) old e = replaced_at (start + 1) vs index old e ∙ ap (λ n. value_beside n columns values old) (omega arith)

  pub value_put : (row : Row) (index : ℕ) (old : Value) → slice_get row index ≡ Some old → value_at (replaced columns values row) index ≡ value_beside index columns values old
  value_put row index old e = replaced_at 0 row index old e ∙ ap (λ n. value_beside n columns values old) (omega arith)

  -- a row without a value there has none afterwards
  pub missing_stays : (start : ℕ) (row : Row) (index : ℕ) → slice_get row index ≡ None → slice_get (replaced_from start columns values row) index ≡ None
  missing_stays start [] index e = refl
  missing_stays start (v ∷ vs) zero e = cc
  missing_stays start (v ∷ vs) (suc index) e = missing_stays (start + 1) vs index e

  pub replaced_length : (start : ℕ) (row : Row) → length (replaced_from start columns values row) ≡ length row
  replaced_length start [] = refl
  replaced_length start (v ∷ vs) = ap suc (replaced_length (start + 1) vs)

abbrev pub value_in : Option Value → Value
value_in None = Null
value_in (Some v) = v

pub value_there : (row : Row) (index : ℕ) → value_at row index ≡ value_in (slice_get row index)
value_there [] index = refl
value_there (v ∷ vs) zero = refl
value_there (v ∷ vs) (suc index) = value_there vs index

-- ---- INSERT

module _ (f : Term ColumnName → Outcome) (name : TheName) (other : Value) where
  given_at : (b : Bool) (t term : Term ColumnName) (v rest : Value) (more : Option (Term ColumnName)) → f t ≡ Ok v → cond b (Some t) more ≡ Some term → (more ≡ Some term → f term ≡ Ok rest) → f term ≡ Ok (cond b v rest)
  given_at true t term v rest more e is go = ap f (sym (same_Some t term is)) ∙ e
  given_at false t term v rest more e is go = go is

  beside_given : (names : List TheName) (terms : List (Term ColumnName)) (values : List Value) → each f terms ≡ Ok values → (term : Term ColumnName) → lookup (bytes_eq name) (zip names terms) ≡ Some term →
      f term ≡ Ok (beside_name name names values other)
  beside_given [] terms values e term is = cc
  beside_given (n ∷ ns) [] values e term is = cc
  beside_given (n ∷ ns) (t ∷ ts) values e term is =
      let x = first_of_values f t ts values e in
      subst (λ vs. f term ≡ Ok (beside_name name (n ∷ ns) vs other)) x.is
      (given_at (bytes_eq name n) t term x.first (beside_name name ns x.rest other) (lookup (bytes_eq name) (zip ns ts)) x.first_is is (beside_given ns ts x.rest x.rest_is term))

  missing_at : (b : Bool) (t : Term ColumnName) (v rest : Value) (more : Option (Term ColumnName)) → cond b (Some t) more ≡ None → (more ≡ None → rest ≡ other) → cond b v rest ≡ other
  missing_at true t v rest more is go = cc
  missing_at false t v rest more is go = go is

  beside_missing : (names : List TheName) (terms : List (Term ColumnName)) (values : List Value) → each f terms ≡ Ok values → lookup (bytes_eq name) (zip names terms) ≡ None → beside_name name names values other ≡ other
  beside_missing [] terms values e is = refl
  beside_missing (n ∷ ns) [] values e is = ap (λ vs. beside_name name (n ∷ ns) vs other) (sym (ok_inside [] values e))
  beside_missing (n ∷ ns) (t ∷ ts) values e is =
      let x = first_of_values f t ts values e in
      subst (λ vs. beside_name name (n ∷ ns) vs other ≡ other) x.is
      (missing_at (bytes_eq name n) t x.first (beside_name name ns x.rest other) (lookup (bytes_eq name) (zip ns ts)) is (beside_missing ns ts x.rest x.rest_is))

beside_target : (t : TableOf) (s : Insert) (columns : List ℕ) → target_columns t.layout s ≡ Ok columns → (name : TheName) (index : ℕ) → found_column t.layout name ≡ Ok index → (values : List Value) (other : Value) →
    value_beside index columns values other ≡ beside_name name (names_given t s) values other
beside_target t s columns e name index found values other = by_list s.columns e where
  by_list : (o : Option (List TheName)) → target_columns t.layout (record s { columns = o }) ≡ Ok columns → value_beside index columns values other ≡ beside_name name (names_given t (record s { columns = o })) values other
  by_list None is =
      ap (λ cs. value_beside index cs values other) (sym (ok_inside (range_with_len 0 (row_width s.rows)) columns is))
      ∙ ap (λ n. value_beside n (range_with_len 0 (row_width s.rows)) values other) (omega arith)
      ∙ beside_first name t.layout.columns 0 index (first_found t.layout name index found) (row_width s.rows) values other
  by_list (Some names) is = beside_found t.layout name index found names columns is values other

no_values : (cs : List Column) (index : ℕ) → index < length cs → slice_get (map (λ (c : Column). Null) cs) index ≡ Some Null
no_values [] index h = absurd (omega (arith, h))
no_values (c ∷ cs) zero h = refl
no_values (c ∷ cs) (suc index) h = no_values cs index (omega (arith, h))

pub given_values : (t : TableOf) (users : UserNames) (s : Insert) (terms : List (Term ColumnName)) (new : Row) → row_given t users s terms ≡ Ok new → HasGivenValues t users s terms new
given_values t users s terms new e =
    let columns = bind_ok (target_columns t.layout s) (λ columns. each (value_on [] users []) terms >>= λ values. Ok (arranged t.layout columns values)) new e in
    let values = bind_ok (each (value_on [] users []) terms) (λ values. Ok (arranged t.layout columns.0 values)) new columns.2 in
    let nulls = map (λ (c : Column). Null) t.layout.columns in
    let there = λ (name : TheName) (index : ℕ) (found : found_column t.layout name ≡ Ok index).
    value_put columns.0 values.0 nulls index Null (no_values t.layout.columns index (first_found t.layout name index found).within)
    ∙ beside_target t s columns.0 columns.1 name index found values.0 Null in
    subst (HasGivenValues t users s terms) (ok_inside (arranged t.layout columns.0 values.0) new values.2) (record {
      width = replaced_length columns.0 values.0 0 nulls ∙ length-map t.layout.columns (λ (c : Column). Null);
      given = λ name index term found is. beside_given (value_on [] users []) name Null (names_given t s) terms values.0 values.1 term is ∙ ap (λ (v : Value). Ok v) (sym (there name index found));
      missing = λ name index found is. there name index found ∙ beside_missing (value_on [] users []) name Null (names_given t s) terms values.0 values.1 is;
    })

-- ---- UPDATE

module _ (f : Term ColumnName → Outcome) (name : TheName) (other : Value) where
  assigned_at : (b : Bool) (x a : Assignment) (v rest : Value) (more : Option Assignment) → f x.value ≡ Ok v → cond b (Some x) more ≡ Some a → (more ≡ Some a → f a.value ≡ Ok rest) → f a.value ≡ Ok (cond b v rest)
  assigned_at true x a v rest more e is go = ap (λ (y : Assignment). f y.value) (sym (same_Some x a is)) ∙ e
  assigned_at false x a v rest more e is go = go is

  beside_assigned : (as' : List Assignment) (values : List Value) → each f (map (λ (x : Assignment). x.value) as') ≡ Ok values → (a : Assignment) → find (sets name) as' ≡ Some a →
      f a.value ≡ Ok (beside_name name (map (λ (x : Assignment). x.column) as') values other)
  beside_assigned [] values e a is = cc
  beside_assigned (x ∷ xs) values e a is =
      let y = first_of_values f x.value (map (λ (z : Assignment). z.value) xs) values e in
      subst (λ vs. f a.value ≡ Ok (beside_name name (map (λ (z : Assignment). z.column) (x ∷ xs)) vs other)) y.is
      (assigned_at (sets name x) x a y.first (beside_name name (map (λ (z : Assignment). z.column) xs) y.rest other) (find (sets name) xs) y.first_is is (beside_assigned xs y.rest y.rest_is a))

  left_at : (b : Bool) (x : Assignment) (v rest : Value) (more : Option Assignment) → cond b (Some x) more ≡ None → (more ≡ None → rest ≡ other) → cond b v rest ≡ other
  left_at true x v rest more is go = cc
  left_at false x v rest more is go = go is

  beside_left : (as' : List Assignment) (values : List Value) → each f (map (λ (x : Assignment). x.value) as') ≡ Ok values → find (sets name) as' ≡ None → beside_name name (map (λ (x : Assignment). x.column) as') values other ≡ other
  beside_left [] values e is = refl
  beside_left (x ∷ xs) values e is =
      let y = first_of_values f x.value (map (λ (z : Assignment). z.value) xs) values e in
      subst (λ vs. beside_name name (map (λ (z : Assignment). z.column) (x ∷ xs)) vs other ≡ other) y.is
      (left_at (sets name x) x y.first (beside_name name (map (λ (z : Assignment). z.column) xs) y.rest other) (find (sets name) xs) is (beside_left xs y.rest y.rest_is))

module _ (t : TableOf) (users : UserNames) (s : Update) (row : Row) where
  abbrev on_row : Term ColumnName → Outcome
  on_row = value_on (own_scope t) users (row ∷ [])

  others_stay : (columns : List ℕ) → each (found_column t.layout) (set_names s) ≡ Ok columns → (values : List Value) → each on_row (new_values s) ≡ Ok values → (name : TheName) (index : ℕ) → found_column t.layout name ≡ Ok index →
      find (sets name) s.assignments ≡ None → (o : Option Value) → slice_get row index ≡ o → value_at (replaced columns values row) index ≡ value_at row index
  others_stay columns targets values all name index found is None e =
      value_there (replaced columns values row) index ∙ ap value_in (missing_stays columns values 0 row index e) ∙ sym (ap value_in e) ∙ sym (value_there row index)
  others_stay columns targets values all name index found is (Some old) e =
      value_put columns values row index old e
      ∙ beside_found t.layout name index found (set_names s) columns targets values old
      ∙ beside_left on_row name old s.assignments values all is ∙ sym (ap value_in e) ∙ sym (value_there row index)

  pub assigned_values : (new : Row) → row_assigned t users s row ≡ Ok new → HasAssignedValues t users s row new
  assigned_values new e =
      let columns = bind_ok (each (found_column t.layout) (set_names s)) (λ columns. each on_row (new_values s) >>= λ values. Ok (replaced columns values row)) new e in
      let values = bind_ok (each on_row (new_values s)) (λ values. Ok (replaced columns.0 values row)) new columns.2 in
      subst (HasAssignedValues t users s row) (ok_inside (replaced columns.0 values.0 row) new values.2) (record {
        assigned = λ name index old a found was is.
            beside_assigned on_row name old s.assignments values.0 values.1 a is
            ∙ ap (λ (v : Value). Ok v) (sym (value_put columns.0 values.0 row index old was ∙ beside_found t.layout name index found (set_names s) columns.0 columns.1 values.0 old));
        others = λ name index found is. others_stay columns.0 columns.1 values.0 values.1 name index found is (slice_get row index) refl;
      })
