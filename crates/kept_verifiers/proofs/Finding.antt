-- The record of a role's row.
use Rattle.std.proofs.Common.{◌≡◌, ◌≢◌, ℕ, nat_eq, Bool, true, false, cond, List, [], ◌∷◌, ◌++◌, map, find, drop, length, Option, Some, None, refl, ap, sym, ◌∙◌, subst, inl, inr}
use Rattle.std.specs.Prelude.{IsTrue, bytes_eq, slice_get, if◌then◌else◌}
use Rattle.std.specs.List.{list_all}
use Rattle.std.specs.Option.{option_map}
use Rattle.std.proofs.lemmas.Bool.{and_parts, eqb-true}
use Rattle.std.proofs.lemmas.List.{append-nil, append_cancel_left, append_cancel_right}
use Rattle.std.specs.declared.cmp.Ordering.{Ordering}
use Rattle.std.specs.declared.cmp.Ordering.TheVariants.{Less, Equal, Greater}
use Rattle.sql_types.specs.Row.{Row, value_at}
use Rattle.sql_types.specs.declared.value.Value.{Value}
use Rattle.sql_types.specs.declared.value.Value.TheVariants as value
use Rattle.sql_ast.specs.declared.columns.Column.{Column}
use Rattle.sql_ast.specs.declared.columns.ColumnType.{ColumnType}
use Rattle.sql_ast.specs.declared.columns.ColumnType.TheVariants as column_type
use Rattle.sql_ast.specs.Layout.{Layout, IsLayout, is_not_null_at}
use Rattle.sql_ast.specs.Fits.{FitsTable, FitsColumn, FitsColumnIfAny, IsOfType}
use Rattle.store.specs.Records.{Record, Records, key_cmp, found_by, lookup, entries_where, has_prefix, entry_at, entry_of}
use Rattle.store.proofs.Changes.{same_key, itself}
use Rattle.row_codec.specs.Cells.{key_cell}
use Rattle.row_codec.specs.Rows.{row_prefix, row_key, row_value}
use Rattle.abstract_database.specs.Lists.{TheName, Among}
use Rattle.abstract_database.specs.Whole.{Each}
use Rattle.abstract_database.proofs.ListLemmas.{bytes_same, same_bytes}
use Rattle.stored_database.specs.RecordFormat.{row_record}
use Rattle.kept_verifiers.specs.Verifiers.{is_text, are_two_texts, is_first_alone, maps_texts, text_in, is_same_text, is_row_of}

-- ---- records with a prefix

-- a key that passes is found among those that pass
pub found_where : (q : List ℕ → Bool) (key : List ℕ) (es : Records) → q key ≡ true → lookup key (entries_where q es) ≡ lookup key es
found_where q key [] h = refl
found_where q key (e ∷ es) h = go (q e.0) refl (key_cmp key e.0) refl (found_where q key es h)
  where
    go : (b : Bool) → b ≡ q e.0 → (r : Ordering) → r ≡ key_cmp key e.0 → lookup key (entries_where q es) ≡ lookup key es → lookup key (if b then e ∷ entries_where q es else entries_where q es) ≡ found_by r e.1 (lookup key es)
    go true i r c later = ap (λ o. found_by o e.1 (lookup key (entries_where q es))) (sym c) ∙ ap (found_by r e.1) later
    go false i Less c later = later
    go false i Greater c later = later
    go false i Equal c later = let same : key ≡ e.0 = same_key key e.0 (sym c) in let wrong : q e.0 ≡ true = subst (λ (k : List ℕ). q k ≡ true) same h in cc

-- what is found is among the others
pub found_among : {X : Type 0} (p : X → Bool) (xs : List X) (x : X) → find p xs ≡ Some x → Among x xs
found_among p [] x is = cc
found_among p (y ∷ ys) x is = go (p y) is (found_among p ys x)
  where
    go : (b : Bool) → cond b (Some y) (find p ys) ≡ Some x → (find p ys ≡ Some x → Among x ys) → Among x (y ∷ ys)
    go true at later = (let same : y ≡ x = cc in inl same)
    go false at later = inr (later at)

-- ---- a table that maps texts

key_alone : (key : List ℕ) → is_first_alone key ≡ true → key ≡ 0 ∷ []
key_alone [] is = cc
key_alone (i ∷ []) is = ap (λ (n : ℕ). n ∷ []) (eqb-true i 0 is)
key_alone (i ∷ j ∷ js) is = cc

-- its key is its first column
pub key_of : (layout : Layout) → maps_texts layout ≡ true → layout.key ≡ 0 ∷ []
key_of layout maps = key_alone layout.key (and_parts (are_two_texts layout.columns) (is_first_alone layout.key) maps).1

-- a text, which is not null
abbrev IsTextValue : Value → Type 0
IsTextValue v = (t : List ℕ) × (v ≡ value.Text t)

of_text_column : (c : Column) (v : Value) → is_text c.column_type ≡ true → c.not_null ≡ true → FitsColumn c v → IsTextValue v
of_text_column c value.Null text some fits = cc
of_text_column c (value.Text t) text some fits = (t, refl)
of_text_column c (value.Int z) text some fits = by_type c.column_type text fits
  where
    by_type : (k : ColumnType) → is_text k ≡ true → IsOfType k (value.Int z) → IsTextValue (value.Int z)
    by_type column_type.BigInt is of = cc
    by_type column_type.Text is of = absurd of
    by_type column_type.Boolean is of = absurd of
of_text_column c (value.Bool b) text some fits = by_type c.column_type text fits
  where
    by_type : (k : ColumnType) → is_text k ≡ true → IsOfType k (value.Bool b) → IsTextValue (value.Bool b)
    by_type column_type.BigInt is of = absurd of
    by_type column_type.Text is of = absurd of
    by_type column_type.Boolean is of = cc

first_text : (columns : List Column) (v : Value) → are_two_texts columns ≡ true → is_not_null_at columns 0 ≡ true → FitsColumnIfAny (slice_get columns 0) v → IsTextValue v
first_text [] v two some fits = cc
first_text (a ∷ []) v two some fits = cc
first_text (a ∷ b ∷ []) v two some fits = of_text_column a v (and_parts (is_text a.column_type) (is_text b.column_type) two).0 some fits
first_text (a ∷ b ∷ c ∷ cs) v two some fits = cc

-- in the first column of a row stands a text
pub first_is_text : (layout : Layout) (row : Row) → IsLayout layout → maps_texts layout ≡ true → FitsTable layout row → IsTextValue (value_at row 0)
first_is_text layout row is maps fits =
    let parts = and_parts (are_two_texts layout.columns) (is_first_alone layout.key) maps in
    first_text layout.columns (value_at row 0) parts.0 (first_not_null layout.columns layout.key (key_of layout maps) is.key_not_null) (fits.columns.each 0)
  where
    first_not_null : (columns : List Column) (key : List ℕ) → key ≡ 0 ∷ [] → IsTrue (list_all (is_not_null_at columns) key) → is_not_null_at columns 0 ≡ true
    first_not_null columns key at all = (and_parts (is_not_null_at columns 0) true (subst (λ (k : List ℕ). list_all (is_not_null_at columns) k ≡ true) at all)).0

-- ---- keys

module _ (id : ℕ) (layout : Layout) (role : TheName) (is : IsLayout layout) (maps : maps_texts layout ≡ true) where
  abbrev pub role_key : List ℕ
  role_key = row_prefix id ++ key_cell (value.Text role)

  key_spelled : (row : Row) (t : List ℕ) → value_at row 0 ≡ value.Text t → row_key layout row ≡ t ++ 0 ∷ []
  key_spelled row t at = rw (key_of layout maps, at) (append-nil (t ++ 0 ∷ []))

  of_role : (row : Row) (t : List ℕ) → value_at row 0 ≡ value.Text t → is_row_of role row ≡ bytes_eq t role
  of_role row t at = ap (λ (v : Value). is_same_text role (text_in v)) at

  -- a row's key is the role's where it is the row of the role
  same_role : (row : Row) (t : List ℕ) → value_at row 0 ≡ value.Text t → role_key ≡ row_prefix id ++ row_key layout row → is_row_of role row ≡ true
  same_role row t at same =
      let cells : role ++ 0 ∷ [] ≡ t ++ 0 ∷ [] = append_cancel_left (row_prefix id) (role ++ 0 ∷ []) (row_key layout row) same ∙ key_spelled row t at in
      let texts : role ≡ t = append_cancel_right role t (0 ∷ []) cells in
      of_role row t at ∙ same_bytes t role (sym texts)

  pub role_spelled : (row : Row) (t : List ℕ) → value_at row 0 ≡ value.Text t → is_row_of role row ≡ true → row_key layout row ≡ key_cell (value.Text role)
  role_spelled row t at row_of = key_spelled row t at ∙ ap (λ (x : List ℕ). x ++ 0 ∷ []) (bytes_same t role (sym (of_role row t at) ∙ row_of))

  equal : (row : Row) (t : List ℕ) → value_at row 0 ≡ value.Text t → is_row_of role row ≡ true → key_cmp role_key (row_prefix id ++ row_key layout row) ≡ Equal
  equal row t at row_of = ap (λ (k : List ℕ). key_cmp role_key (row_prefix id ++ k)) (role_spelled row t at row_of) ∙ itself role_key

  -- what is looked up is the row of the role
  one_found : (row : Row) (t : List ℕ) (o : Ordering) (b : Bool) (later : Option Row) → value_at row 0 ≡ value.Text t → o ≡ key_cmp role_key (row_prefix id ++ row_key layout row) → b ≡ is_row_of role row
      → found_by o (row_value layout row) (option_map (row_value layout) later) ≡ option_map (row_value layout) (cond b (Some row) later)
  one_found row t Equal true later at c i = refl
  one_found row t Equal false later at c i = (let no : false ≡ true = i ∙ same_role row t at (same_key role_key (row_prefix id ++ row_key layout row) (sym c)) in cc)
  one_found row t Less false later at c i = refl
  one_found row t Greater false later at c i = refl
  one_found row t Less true later at c i = (let no : Less ≡ Equal = c ∙ equal row t at (sym i) in cc)
  one_found row t Greater true later at c i = (let no : Greater ≡ Equal = c ∙ equal row t at (sym i) in cc)

  pub rows_looked_up : (rows : List Row) → Each (FitsTable layout) rows → lookup role_key (map (row_record id layout) rows) ≡ option_map (row_value layout) (find (is_row_of role) rows)
  rows_looked_up [] fit = refl
  rows_looked_up (row ∷ rows) fit =
      let text = first_is_text layout row is maps (fit row (inl refl)) in
      ap (λ (later : Option (List ℕ)). found_by (key_cmp role_key (row_prefix id ++ row_key layout row)) (row_value layout row) later) (rows_looked_up rows (λ x among. fit x (inr among)))
      ∙ one_found row text.0 _ _ (find (is_row_of role) rows) text.1 refl refl
