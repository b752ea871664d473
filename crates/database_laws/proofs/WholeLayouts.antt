-- The layout of a new table is one.
use Rattle.std.proofs.Common.{◌≡◌, ◌⊎◌, ℕ, zero, suc, ◌+◌, ◌<◌, ◌≤◌, Bool, true, false, not, cond, ◌||◌, nat_eq, nat_lt, List, [], ◌∷◌, ◌++◌, map, flat_map, length, bytes_eq, Option, Some, None, option_to_list, position, slice_get, refl, sym, ap, ◌∙◌, subst, inl, inr, arith}
use Rattle.std.specs.List.{list_any, list_all, position_or_len, sum_by, count_by}
use Rattle.std.specs.Option.{option_map}
use Rattle.std.proofs.lemmas.Bool.{and_from, or_left, both_ways, false_from_ne_true, lt-ltb, cond-true, or_parts, eqb-true}
use Rattle.std.proofs.lemmas.List.{length-map}
use Rattle.std.proofs.lemmas.List.Sums.{sum_by-cons}
use Rattle.std.proofs.lemmas.Option.{slice_get-map, slice_get_within}
use Rattle.sql_types.specs.Name.{IsUtf8Name}
use Rattle.sql_ast.specs.declared.columns.Column.{Column}
use Rattle.sql_ast.specs.declared.statement.CreateTable.{CreateTable}
use Rattle.sql_ast.specs.declared.statement.TableElement.{TableElement}
use Rattle.sql_ast.specs.declared.statement.TableElement.TheVariants as element
use Rattle.sql_ast.specs.declared.statement.ColumnDefinition.{ColumnDefinition}
use Rattle.sql_ast.specs.declared.statement.ColumnConstraint.{ColumnConstraint}
use Rattle.sql_ast.specs.declared.statement.ColumnConstraint.TheVariants as constraint
use Rattle.sql_ast.specs.Layout.{IsLayout, all_differ, is_not_null, is_not_null_at}
use Rattle.sql_ast.specs.Read.{IsReadElement, IsReadCreateTable, is_primary_key, primary_keys_in}
use Rattle.abstract_database.specs.Lists.{TheName, Among, has_name, has_double}
use Rattle.abstract_database.specs.Definitions.{is_key_mark, definitions_in, definitions_of, key_names_in, key_names, column_of, index_of, layout_of}
use Rattle.abstract_database.specs.Whole.{Each}
use Rattle.abstract_database.proofs.ListLemmas.{bytes_same, same_bytes}
use Rattle.abstract_database.proofs.ValueTypes.{new_names_differ}
use Rattle.abstract_database.proofs.ElementLemmas.{any_found, any_holds}
use Rattle.database_laws.proofs.WholeLists.{each_of, each_passes, of_map, of_flat_map}

-- ---- the first that passes, and its index

abbrev FirstAt : {X : Type 0} → (X → Bool) → List X → ℕ → Type 0
FirstAt {X} p xs i = (x : X) × (slice_get xs i ≡ Some x) × (p x ≡ true)

first_at : {X : Type 0} (p : X → Bool) (y : X) (ys : List X) (b : Bool) → p y ≡ b → (list_any p ys ≡ true → FirstAt p ys (position_or_len p ys)) → (b || list_any p ys) ≡ true →
    FirstAt p (y ∷ ys) (cond (not b) (1 + position_or_len p ys) 0)
first_at p y ys true e go h = (y, refl, e)
first_at p y ys false e go h =
    let later = go h in
    let next : 1 + position_or_len p ys ≡ suc (position_or_len p ys) = omega arith in
    (later.0, ap (slice_get (y ∷ ys)) next ∙ later.1, later.2)

first_found : {X : Type 0} (p : X → Bool) (xs : List X) → list_any p xs ≡ true → FirstAt p xs (position_or_len p xs)
first_found p [] e = cc
first_found p (y ∷ ys) e = first_at p y ys (p y) refl (first_found p ys) e

position_is : {X : Type 0} (p : X → Bool) (xs : List X) → list_any p xs ≡ true → position p xs ≡ Some (position_or_len p xs)
position_is p xs e =
    let at = first_found p xs e in
    cond-true (nat_lt (position_or_len p xs) (length xs)) (Some (position_or_len p xs)) None (lt-ltb (position_or_len p xs) (length xs) (slice_get_within xs (position_or_len p xs) at.0 at.1))

-- ---- the key

module _ (ds : List ColumnDefinition) where
  index : TheName → ℕ
  index name = position_or_len (λ (d : ColumnDefinition). bytes_eq d.column name) ds

  abbrev IsDefined : TheName → Type 0
  IsDefined name = list_any (λ (d : ColumnDefinition). bytes_eq d.column name) ds ≡ true

  indices_are : (names : List TheName) → Each IsDefined names → flat_map (index_of ds) names ≡ map index names
  unfolding index
  indices_are [] f = refl
  indices_are (n ∷ ns) f =
      ap (λ l. l ++ flat_map (index_of ds) ns) (ap option_to_list (position_is (λ (d : ColumnDefinition). bytes_eq d.column n) ds (f n (inl refl))))
      ∙ ap (λ l. position_or_len (λ (d : ColumnDefinition). bytes_eq d.column n) ds ∷ l) (indices_are ns (λ m h. f m (inr h)))

  -- columns of one index have one name
  one_name : (n m : TheName) → IsDefined n → IsDefined m → index n ≡ index m → n ≡ m
  unfolding index
  one_name n m f g e =
      let a = first_found (λ (d : ColumnDefinition). bytes_eq d.column n) ds f in
      let b = first_found (λ (d : ColumnDefinition). bytes_eq d.column m) ds g in
      let same : a.0 ≡ b.0 = some_inside a.0 b.0 (sym a.1 ∙ ap (slice_get ds) e ∙ b.1) in
      sym (bytes_same a.0.column n a.2) ∙ ap (λ (d : ColumnDefinition). d.column) same ∙ bytes_same b.0.column m b.2 where
        some_inside : (x y : ColumnDefinition) → ◌≡◌ {A = Option ColumnDefinition} (Some x) (Some y) → x ≡ y
        some_inside x y h = cc

  none_of : (n : TheName) (ns : List TheName) → IsDefined n → Each IsDefined ns → has_name n ns ≡ false → list_any (nat_eq (index n)) (map index ns) ≡ false
  none_of n ns f g e = false_from_ne_true (list_any (nat_eq (index n)) (map index ns)) (λ h.
      let at = any_found (nat_eq (index n)) (map index ns) h in
      let from = of_map index ns at.0 at.1 in
      let same : index n ≡ index from.0 = eqb-true (index n) at.0 at.2 ∙ sym from.2 in
      both_ways (has_name n ns) e (any_holds (bytes_eq n) ns from.0 from.1 (same_bytes n from.0 (one_name n from.0 f (g from.0 from.1) same))))

  indices_differ : (ns : List TheName) → Each IsDefined ns → has_double ns ≡ false → all_differ nat_eq (map index ns) ≡ true
  indices_differ [] f e = refl
  indices_differ (n ∷ ns) f e =
      let parts = or_parts (has_name n ns) (has_double ns) e in
      and_from (not (list_any (nat_eq (index n)) (map index ns))) (all_differ nat_eq (map index ns))
      (ap not (none_of n ns (f n (inl refl)) (λ m h. f m (inr h)) parts.0))
      (indices_differ ns (λ m h. f m (inr h)) parts.1)

  not_null_there : (key : List TheName) (n : TheName) → IsDefined n → Among n key → is_not_null_at (map (column_of key) ds) (index n) ≡ true
  unfolding index
  not_null_there key n f h =
      let at = first_found (λ (d : ColumnDefinition). bytes_eq d.column n) ds f in
      ap is_not_null (slice_get-map (column_of key) ds (index n) ∙ ap (option_map (column_of key)) at.1)
      ∙ or_left (has_name at.0.column key) (list_any (λ c. not (is_key_mark c)) at.0.constraints)
      (any_holds (bytes_eq at.0.column) key n h at.2)

  all_not_null : (key ns : List TheName) → Each IsDefined ns → ((n : TheName) → Among n ns → Among n key) → list_all (is_not_null_at (map (column_of key) ds)) (map index ns) ≡ true
  all_not_null key [] f g = refl
  all_not_null key (n ∷ ns) f g =
      and_from (is_not_null_at (map (column_of key) ds) (index n)) (list_all (is_not_null_at (map (column_of key) ds)) (map index ns))
      (not_null_there key n (f n (inl refl)) (g n (inl refl)))
      (all_not_null key ns (λ m h. f m (inr h)) (λ m h. g m (inr h)))

  some_column : (n : TheName) → IsDefined n → 0 < length ds
  unfolding index
  some_column n f =
      let at = first_found (λ (d : ColumnDefinition). bytes_eq d.column n) ds f in
      omega (arith, slice_get_within ds (index n) at.0 at.1)

-- ---- a table has a key

marks_same : (cs : List ColumnConstraint) → 0 < count_by is_primary_key cs → list_any is_key_mark cs ≡ true
marks_same [] h = absurd (no h) where
  no : 0 < 0 → ⊥
  no k = omega (arith, k)
marks_same (constraint.PrimaryKey ∷ cs) h = refl
marks_same (constraint.NotNull ∷ cs) h = marks_same cs (subst (λ n. 0 < n) (sum_by-cons (λ c. cond (is_primary_key c) 1 0) constraint.NotNull cs ∙ omega arith) h)

marked_name : (d : ColumnDefinition) (b : Bool) → b ≡ true → 0 < length (cond b (d.column ∷ []) [])
marked_name d true e = omega arith
marked_name d false e = cc

key_in : (e : TableElement) → IsReadElement e → 0 < primary_keys_in e → 0 < length (key_names_in e)
key_in (element.Column d) read h = marked_name d (list_any is_key_mark d.constraints) (marks_same d.constraints h)
key_in (element.PrimaryKey names) read h = read.some

longer : {X : Type 0} (xs ys : List X) → (0 < length xs) ⊎ (0 < length ys) → 0 < length (xs ++ ys)
longer [] ys (inl h) = absurd (no h) where
  no : 0 < 0 → ⊥
  no k = omega (arith, k)
longer [] ys (inr h) = h
longer (x ∷ xs) ys h = omega arith

either_more : (a b : ℕ) → 0 < a + b → (0 < a) ⊎ (0 < b)
either_more zero b h = inr (omega (arith, h))
either_more (suc a) b h = inl (omega arith)

some_key_name : (es : List TableElement) → Each IsReadElement es → 0 < sum_by primary_keys_in es → 0 < length (key_names es)
some_key_name [] read h = absurd (no h) where
  no : 0 < 0 → ⊥
  no k = omega (arith, k)
some_key_name (e ∷ es) read h =
    longer (key_names_in e) (key_names es)
    (elim (either_more (primary_keys_in e) (sum_by primary_keys_in es) (subst (λ n. 0 < n) (sum_by-cons primary_keys_in e es) h)) [
      | inl here ↦ inl (key_in e (read e (inl refl)) here)
      | inr later ↦ inr (some_key_name es (λ x k. read x (inr k)) later)
    ])

-- ---- names of columns

defined_names : (e : TableElement) → IsReadElement e → (d : ColumnDefinition) → Among d (definitions_in e) → IsUtf8Name d.column
defined_names (element.Column c) read d (inl is) = subst (λ (x : ColumnDefinition). IsUtf8Name x.column) is read
defined_names (element.Column c) read d (inr later) = absurd later
defined_names (element.PrimaryKey names) read d h = absurd h

pub new_column_names : (s : CreateTable) → IsReadCreateTable s → Each (λ (c : Column). IsUtf8Name c.name) (layout_of s.elements).columns
new_column_names s read c h =
    let from = of_map (column_of (key_names s.elements)) (definitions_of s.elements) c h in
    let in_element = of_flat_map definitions_in s.elements from.0 from.1 in
    subst (λ (x : Column). IsUtf8Name x.name) from.2 (defined_names in_element.0 (each_of IsReadElement s.elements read.elements.each in_element.0 in_element.1) from.0 in_element.2)

-- ---- all together

first_name : (names : List TheName) → 0 < length names → (n : TheName) × Among n names
first_name [] h = absurd (no h) where
  no : 0 < 0 → ⊥
  no k = omega (arith, k)
first_name (n ∷ ns) h = (n, inl refl)

pub new_layout : (s : CreateTable) → IsReadCreateTable s → has_double (map (λ (d : ColumnDefinition). d.column) (definitions_of s.elements)) ≡ false → has_double (key_names s.elements) ≡ false →
    list_all (λ name. list_any (λ (d : ColumnDefinition). bytes_eq d.column name) (definitions_of s.elements)) (key_names s.elements) ≡ true → length (definitions_of s.elements) ≤ 16 → IsLayout (layout_of s.elements)
new_layout s read once key_once key_found few =
    let ds = definitions_of s.elements in
    let key = key_names s.elements in
    let defined : Each (IsDefined ds) key = each_passes (λ name. list_any (λ (d : ColumnDefinition). bytes_eq d.column name) ds) key key_found in
    let are : flat_map (index_of ds) key ≡ map (index ds) key = indices_are ds key defined in
    let some : 0 < length key = some_key_name s.elements (each_of IsReadElement s.elements read.elements.each) (subst (λ n. 0 < n) (sym read.one_key) (omega arith)) in
    let first = first_name key some in
    record {
      some_column = subst (λ n. 0 < n) (sym (length-map ds (column_of key))) (some_column ds first.0 (defined first.0 first.1));
      few_columns = subst (λ n. n ≤ 16) (sym (length-map ds (column_of key))) few;
      names_differ = new_names_differ key ds once;
      some_key = subst (λ (l : List ℕ). 0 < length l) (sym are) (subst (λ n. 0 < n) (sym (length-map key (index ds))) some);
      key_differs = subst (λ (l : List ℕ). all_differ nat_eq l ≡ true) (sym are) (indices_differ ds key defined key_once);
      key_not_null = subst (λ (l : List ℕ). list_all (is_not_null_at (map (column_of key) ds)) l ≡ true) (sym are) (all_not_null ds key key defined (λ n h. h));
    }
