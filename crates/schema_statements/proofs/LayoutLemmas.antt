-- The layout that CREATE TABLE makes is one.
use Rattle.std.proofs.Common.{◌≡◌, ℕ, ◌<◌, ◌≤◌, Bool, true, false, ◌&&◌, ◌||◌, List, [], ◌∷◌, ◌++◌, length, map, flat_map, position, get_or, bytes_eq, nat_eq, nat_le, nat_lt, Option, Some, None, Result, Ok, Err, IsTrue, Bor, refl, sym, ap, ◌∙◌, subst, inl, inr, arith}
use Rattle.std.specs.List.{list_any, list_all}
use Rattle.std.specs.Option.{option_to_list, option_map}
use Rattle.std.specs.Result.{IsErrAnd}
use Rattle.std.proofs.lemmas.List.{length-map}
use Rattle.std.proofs.lemmas.Option.{slice_get-map, slice_get-get_or}
use Rattle.std.proofs.lemmas.List.Quantifiers.{position-Some}
use Rattle.sql_types.specs.declared.state.Refusal.{Refusal}
use Rattle.sql_types.specs.declared.state.SqlState.{SqlState}
use Rattle.sql_types.specs.declared.state.SqlState.TheVariants.{DuplicateColumn, UndefinedColumn, ProgramLimitExceeded}
use Rattle.sql_ast.specs.declared.statement.ColumnDefinition.{ColumnDefinition}
use Rattle.sql_ast.specs.declared.statement.TableElement.{TableElement}
use Rattle.sql_ast.specs.Layout.{IsLayout, all_differ, is_not_null, is_not_null_at}
use Rattle.abstract_database.specs.Lists.{TheName, Among, has_name, has_double}
use Rattle.expressions.specs.Stages.{◌>>=◌, require}
use Rattle.abstract_database.specs.Definitions.{definitions_of, key_names, column_of, index_of, layout_of}
use Rattle.std.proofs.lemmas.Bool.{or_left, or_right}
use Rattle.abstract_database.proofs.ListLemmas.{bytes_same, same_bytes}
use Rattle.abstract_database.proofs.ValueTypes.{new_names_differ}
use Rattle.schema_statements.specs.Refusing.{IsRightRefusal, Refines}
use Rattle.abstract_database.specs.Checks.{checked_layout}
use Rattle.schema_statements.proofs.ColumnLemmas.{any_unplaced}

to_true : (b : Bool) → b ≡ true → IsTrue b
to_true b e = e

both_false : (a b : Bool) → (a || b) ≡ false → (a ≡ false) × (b ≡ false)
both_false true b e = cc
both_false false b e = (refl, e)

both_true : (a b : Bool) → (a && b) ≡ true → (a ≡ true) × (b ≡ true)
both_true true b e = (refl, e)
both_true false b e = cc

abbrev is_of_name : TheName → ColumnDefinition → Bool
is_of_name name d = bytes_eq d.column name

abbrev is_found : List ColumnDefinition → TheName → Bool
is_found ds name = list_any (is_of_name name) ds

-- ---- indexes of names

placed_at : (ds : List ColumnDefinition) (name : TheName) (o : Option ℕ) → position (is_of_name name) ds ≡ o → is_found ds name ≡ true → (i : ℕ) × (position (is_of_name name) ds ≡ Some i)
placed_at ds name None e f = let contrary : true ≡ false = sym f ∙ any_unplaced (is_of_name name) ds e in cc
placed_at ds name (Some i) e f = (i, e)

named_alike : (ds : List ColumnDefinition) (n m : TheName) (i j : ℕ) (d : ColumnDefinition) → position (is_of_name n) ds ≡ Some i → position (is_of_name m) ds ≡ Some j → i ≡ j → n ≡ m
named_alike ds n m i j d e f same =
    let here = (position-Some (is_of_name n) ds i d e).1 in
    let there = (position-Some (is_of_name m) ds j d f).1 in
    sym (bytes_same (get_or ds i d).column n here) ∙ ap (λ k. (get_or ds k d).column) same ∙ bytes_same (get_or ds j d).column m there

eqb_same : (i j : ℕ) → nat_eq i j ≡ true → i ≡ j
eqb_same i j e = grind arith

other_place : (ds : List ColumnDefinition) (n m : TheName) (i j : ℕ) → position (is_of_name n) ds ≡ Some i → position (is_of_name m) ds ≡ Some j → bytes_eq n m ≡ false → nat_eq i j ≡ false
other_place [] n m i j e f differ = cc
other_place (d ∷ ds) n m i j e f differ = by_case (nat_eq i j) refl where
  by_case : (b : Bool) → nat_eq i j ≡ b → nat_eq i j ≡ false
  by_case true same =
      let alike = named_alike (d ∷ ds) n m i j d e f (eqb_same i j same) in
      let contrary : true ≡ false = sym (same_bytes n m alike) ∙ differ in cc
  by_case false same = same

other_places_at : (ds : List ColumnDefinition) (n m : TheName) (ms : List TheName) (i : ℕ) (o : Option ℕ) → position (is_of_name n) ds ≡ Some i → position (is_of_name m) ds ≡ o → bytes_eq n m ≡ false →
    list_any (nat_eq i) (flat_map (index_of ds) ms) ≡ false → list_any (nat_eq i) (option_to_list o ++ flat_map (index_of ds) ms) ≡ false
other_places_at ds n m ms i None e f differ go = go
other_places_at ds n m ms i (Some j) e f differ go = rw (other_place ds n m i j e f differ) go

other_places : (ds : List ColumnDefinition) (n : TheName) (ms : List TheName) (i : ℕ) → position (is_of_name n) ds ≡ Some i → has_name n ms ≡ false → list_any (nat_eq i) (flat_map (index_of ds) ms) ≡ false
other_places ds n [] i e f = refl
other_places ds n (m ∷ ms) i e f =
    let apart = both_false (bytes_eq n m) (has_name n ms) f in
    other_places_at ds n m ms i (position (is_of_name m) ds) e refl apart.0 (other_places ds n ms i e apart.1)

places_differ : (ds : List ColumnDefinition) (names : List TheName) → has_double names ≡ false → list_all (is_found ds) names ≡ true → all_differ nat_eq (flat_map (index_of ds) names) ≡ true
places_differ ds [] e f = refl
places_differ ds (n ∷ ns) e f =
    let apart = both_false (has_name n ns) (has_double ns) e in
    let found = both_true (is_found ds n) (list_all (is_found ds) ns) f in
    let at = placed_at ds n (position (is_of_name n) ds) refl found.0 in
    rw (at.1, other_places ds n ns at.0 at.1 apart.0) (places_differ ds ns apart.1 found.1)

-- ---- columns of the key are NOT NULL

keyed_at : (ds : List ColumnDefinition) (names : List TheName) (m : TheName) (i : ℕ) (d : ColumnDefinition) → position (is_of_name m) ds ≡ Some i → has_name m names ≡ true → is_not_null_at (map (column_of names) ds) i ≡ true
keyed_at ds names m i d e h =
    let at = position-Some (is_of_name m) ds i d e in
    let same = bytes_same (get_or ds i d).column m at.1 in
    ap is_not_null (slice_get-map (column_of names) ds i ∙ ap (option_map (column_of names)) (slice_get-get_or ds i d at.0))
    ∙ or_left (has_name (get_or ds i d).column names) _ (subst (λ n. has_name n names ≡ true) (sym same) h)

keys_not_null_at : (ds : List ColumnDefinition) (names : List TheName) (m : TheName) (ms : List TheName) (o : Option ℕ) → position (is_of_name m) ds ≡ o → has_name m names ≡ true →
    list_all (is_not_null_at (map (column_of names) ds)) (flat_map (index_of ds) ms) ≡ true → list_all (is_not_null_at (map (column_of names) ds)) (option_to_list o ++ flat_map (index_of ds) ms) ≡ true
keys_not_null_at ds names m ms None e h go = go
keys_not_null_at [] names m ms (Some i) e h go = cc
keys_not_null_at (d ∷ ds) names m ms (Some i) e h go = rw (keyed_at (d ∷ ds) names m i d e h) go

keys_not_null : (ds : List ColumnDefinition) (names ms : List TheName) → ((m : TheName) → Among m ms → has_name m names ≡ true) → list_all (is_not_null_at (map (column_of names) ds)) (flat_map (index_of ds) ms) ≡ true
keys_not_null ds names [] in_key = refl
keys_not_null ds names (m ∷ ms) in_key = keys_not_null_at ds names m ms (position (is_of_name m) ds) refl (in_key m (inl refl)) (keys_not_null ds names ms (λ n at. in_key n (inr at)))

has_each : (names : List TheName) (m : TheName) → Among m names → has_name m names ≡ true
has_each [] m at = absurd at
has_each (n ∷ ns) m (inl is) = or_left (bytes_eq m n) (has_name m ns) (same_bytes m n (sym is))
has_each (n ∷ ns) m (inr later) = or_right (bytes_eq m n) (has_name m ns) (has_each ns m later)

-- ---- the whole layout

some_place : (ds : List ColumnDefinition) (names : List TheName) → list_all (is_found ds) names ≡ true → 0 < length names → 0 < length (flat_map (index_of ds) names)
some_place ds [] f h = omega arith
some_place ds (n ∷ ns) f h =
    let found = both_true (is_found ds n) (list_all (is_found ds) ns) f in
    let at = placed_at ds n (position (is_of_name n) ds) refl found.0 in
    rw at.1 (omega arith)

some_definition : (ds : List ColumnDefinition) (names : List TheName) → list_all (is_found ds) names ≡ true → 0 < length names → 0 < length ds
some_definition [] [] f h = omega arith
some_definition [] (n ∷ ns) f h = cc
some_definition (d ∷ ds) names f h = omega arith

pub layout_is : (ds : List ColumnDefinition) (names : List TheName) → 0 < length names → has_double (map (λ d. d.column) ds) ≡ false → has_double names ≡ false →
    list_all (is_found ds) names ≡ true → length ds ≤ 16 → IsLayout (record { columns = map (column_of names) ds; key = flat_map (index_of ds) names })
layout_is ds names some once key_once found few = record {
  some_column = rw (length-map ds (column_of names)) (some_definition ds names found some);
  few_columns = rw (length-map ds (column_of names)) few;
  names_differ = to_true _ (new_names_differ names ds once);
  some_key = some_place ds names found some;
  key_differs = to_true _ (places_differ ds names key_once found);
  key_not_null = to_true _ (keys_not_null ds names names (has_each names));
}

-- ---- the stages of CREATE TABLE

pub columns_double : (elements : List TableElement) (count : ℕ) → has_double (map (λ d. d.column) (definitions_of elements)) ≡ true → checked_layout elements count ≡ Err DuplicateColumn
columns_double elements count e = rw e refl

pub key_double : (elements : List TableElement) (count : ℕ) → has_double (map (λ d. d.column) (definitions_of elements)) ≡ false → has_double (key_names elements) ≡ true → checked_layout elements count ≡ Err DuplicateColumn
key_double elements count e f = rw (e, f) refl

unfound_at : {X : Type 0} (r : Refusal) (b : Bool) (go : Unit {0} → Result X SqlState) → IsRightRefusal r (require b UndefinedColumn) → IsRightRefusal r (require b UndefinedColumn >>= go)
unfound_at r true go (inl memory) = inl memory
unfound_at r true go (inr is) = cc
unfound_at r false go (inl memory) = inl memory
unfound_at r false go (inr is) = inr (cc)

pub unfound : (elements : List TableElement) (count : ℕ) (r : Refusal) → has_double (map (λ d. d.column) (definitions_of elements)) ≡ false → has_double (key_names elements) ≡ false →
    IsRightRefusal r (require (list_all (is_found (definitions_of elements)) (key_names elements)) UndefinedColumn) → IsRightRefusal r (checked_layout elements count)
unfound elements count r e f right =
    rw (e, f) (unfound_at r (list_all (is_found (definitions_of elements)) (key_names elements)) (λ found. require (nat_le (length (definitions_of elements)) 16 && nat_lt count 1024) ProgramLimitExceeded >>= λ few. Ok (layout_of elements)) right)

pub too_many : (elements : List TableElement) (count : ℕ) → has_double (map (λ d. d.column) (definitions_of elements)) ≡ false → has_double (key_names elements) ≡ false →
    list_all (is_found (definitions_of elements)) (key_names elements) ≡ true → (nat_le (length (definitions_of elements)) 16 && nat_lt count 1024) ≡ false → checked_layout elements count ≡ Err ProgramLimitExceeded
too_many elements count e f g h = rw (e, f, g, h) refl

pub made : (elements : List TableElement) (count : ℕ) → has_double (map (λ d. d.column) (definitions_of elements)) ≡ false → has_double (key_names elements) ≡ false →
    list_all (is_found (definitions_of elements)) (key_names elements) ≡ true → (nat_le (length (definitions_of elements)) 16 && nat_lt count 1024) ≡ true → checked_layout elements count ≡ Ok (layout_of elements)
made elements count e f g h = rw (e, f, g, h) refl

-- ---- from lists of references

map_map : {X Y Z : Type 0} (f : X → Y) (g : Y → Z) (xs : List X) → map g (map f xs) ≡ map (λ x. g (f x)) xs
map_map f g [] = refl
map_map f g (x ∷ xs) = ap (λ (l : List _). g (f x) ∷ l) (map_map f g xs)

pub once_of : (elements : List TableElement) (lent : List (Bor ColumnDefinition)) (x b : Bool) → map (λ (d : Bor ColumnDefinition). d.now) lent ≡ definitions_of elements →
    x ≡ has_double (map (λ (d : Bor ColumnDefinition). d.now.column) lent) → x ≡ b → has_double (map (λ d. d.column) (definitions_of elements)) ≡ b
once_of elements lent x b is e f =
    ap (λ (l : List ColumnDefinition). has_double (map (λ d. d.column) l)) (sym is)
    ∙ ap has_double (map_map (λ (d : Bor ColumnDefinition). d.now) (λ (d : ColumnDefinition). d.column) lent) ∙ sym e ∙ f

pub key_once_of : (elements : List TableElement) (lent : List (Bor TheName)) (x b : Bool) → map (λ (n : Bor TheName). n.now) lent ≡ key_names elements →
    x ≡ has_double (map (λ (n : Bor TheName). n.now) lent) → x ≡ b → has_double (key_names elements) ≡ b
key_once_of elements lent x b is e f = ap has_double (sym is) ∙ sym e ∙ f

-- the indexes of a key whose names are all found
pub places_of : {V : Type 0} (v : V) (items : V → List ℕ) (meant : List ℕ) (b : Bool) → Refines {A = Unit {0}} (λ x found. items x ≡ meant) (Ok v) (require b UndefinedColumn) → (b ≡ true) × (items v ≡ meant)
places_of v items meant true h = (refl, h)
places_of v items meant false h = absurd h

pub few_of : (elements : List TableElement) (lent : List (Bor ColumnDefinition)) (n count : ℕ) (room : Bool) → map (λ (d : Bor ColumnDefinition). d.now) lent ≡ definitions_of elements → n ≡ length lent →
    room ≡ (nat_le n 16 && nat_lt count 1024) → (nat_le (length (definitions_of elements)) 16 && nat_lt count 1024) ≡ room
few_of elements lent n count room is e f = ap (λ k. nat_le k 16 && nat_lt count 1024) (ap length (sym is) ∙ length-map lent (λ (d : Bor ColumnDefinition). d.now) ∙ sym e) ∙ sym f

few_true : (n count : ℕ) → (nat_le n 16 && nat_lt count 1024) ≡ true → n ≤ 16
few_true n count e = let first : nat_le n 16 ≡ true = (both_true (nat_le n 16) (nat_lt count 1024) e).0 in grind arith

pub handed_on : {A B : Type 0} (P : B → A → Type 0) (r : Result B Refusal) (e : Refusal) (meant : Result A SqlState) → IsErrAnd r (λ y. y ≡ e) → IsRightRefusal e meant → Refines P r meant
handed_on P (Ok x) e meant is right = absurd is
handed_on P (Err y) e meant is right = subst (λ x. IsRightRefusal x meant) (sym is) right

-- the layout is one once all stages are passed
pub whole_layout : (elements : List TableElement) (count : ℕ) → 0 < length (key_names elements) → has_double (map (λ d. d.column) (definitions_of elements)) ≡ false → has_double (key_names elements) ≡ false →
    list_all (is_found (definitions_of elements)) (key_names elements) ≡ true → (nat_le (length (definitions_of elements)) 16 && nat_lt count 1024) ≡ true → IsLayout (layout_of elements)
whole_layout elements count some once key_once found full =
    layout_is (definitions_of elements) (key_names elements) some once key_once found (few_true (length (definitions_of elements)) count full)
