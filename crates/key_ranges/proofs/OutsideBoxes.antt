-- Outside of its boxes a condition is false.
use Rattle.std.proofs.Common.{◌≡◌, ℕ, Bool, true, false, not, ◌&&◌, ◌||◌, if◌then◌else◌, nat_eq, bytes_eq, List, [], ◌∷◌, ◌++◌, length, Option, Some, None, Ok, refl, sym, ap, subst, ◌∙◌}
use Rattle.std.specs.Prelude.{nat_lt, slice_get}
use Rattle.std.specs.Borrow.{Bor}
use Rattle.std.specs.List.{list_any, list_all}
use Rattle.std.specs.declared.cmp.Ordering.{Ordering}
use Rattle.std.specs.declared.cmp.Ordering.TheVariants.{Less, Equal, Greater}
use Rattle.std.specs.Ordering.{is_eq, nat_cmp}
use Rattle.std.specs.Cmp.Lexicographic.{slice_cmp}
use Rattle.std.proofs.lemmas.Map.Text.{is_eq-slice_cmp}
use Rattle.sql_types.specs.declared.value.Value.{Value}
use Rattle.sql_types.specs.declared.value.Value.TheVariants.{Null, Int, Text, Bool as Boolean}
use Rattle.sql_types.specs.Value.{compare_values}
use Rattle.sql_types.specs.Row.{Row, value_at}
use Rattle.sql_ast.specs.declared.columns.Column.{Column}
use Rattle.sql_ast.specs.declared.columns.ColumnType.{ColumnType}
use Rattle.sql_ast.specs.declared.columns.ColumnType.TheVariants as type
use Rattle.sql_ast.specs.declared.expression.Comparison.{Comparison}
use Rattle.sql_ast.specs.declared.expression.Comparison.TheVariants as op
use Rattle.sql_ast.specs.declared.scope.ColumnIndex.{ColumnIndex}
use Rattle.sql_ast.specs.Layout.{Layout, IsLayout, is_not_null, is_not_null_at}
use Rattle.sql_ast.specs.Fits.{IsOfType, FitsColumnIfAny, FitsTable}
use Rattle.sql_ast.specs.Term.{Term, literal, column, comparison, conjunction, disjunction, member_test}
use Rattle.expressions.specs.Outcome.{Outcome, with_value, with_both}
use Rattle.expressions.specs.Operators.{compared, holds, holds_in}
use Rattle.expressions.specs.Meaning.{UserNames, value_of, and_then, or_else, member_value}
use Rattle.expressions.specs.Infallible.{has_no_arithmetic}
use Rattle.expressions.specs.Truths.{false_value}
use Rattle.expressions.proofs.OrderLaws.{compared_less, compared_greater, compared_equal}
use Rattle.expressions.proofs.Infallibility.{HasValue, infallible_value}
use Rattle.row_codec.proofs.Layouts.{and_parts, of_type_fits}
use Rattle.key_ranges.specs.declared.bounds.BoundKind.{BoundKind}
use Rattle.key_ranges.specs.declared.bounds.BoundKind.TheVariants as kind
use Rattle.key_ranges.specs.Bounds.{exchanged, constant}
use Rattle.key_ranges.specs.Ranges.{IsBehind}
use Rattle.key_ranges.specs.Boxes.{Bound, Box, allows, allows_in, is_bounded_by, is_in_box, is_in_boxes, around, everything, same_boxes, same_kind, contradicts, contradicts_any, is_void, beside, all_beside, box_limit, pairs, both_boxes, either_boxes, kind_of, has_type, column_has_type, is_comparable, one_box, boxes_by, boxes_at, boxes_if, boxes_between, boxes_or, boxes_compared, boxes_for_roles, boxes_of_roles, boxes_of_name, boxes_of_member, boxes_of, AreRolesFor, IsFalseOutside}
use Rattle.key_ranges.proofs.Hulls.{none_around}
use Rattle.key_ranges.proofs.Conditions.{constant_true, held_less, held_greater, held_equal, same_index, same_number}

-- ---- tests

pub neither : (a b : Bool) → (a || b) ≡ false → (a ≡ false) × (b ≡ false)
neither true b h = cc
neither false b h = (refl, h)

pub any_append : {A : Type 0} (p : A → Bool) (xs ys : List A) → list_any p (xs ++ ys) ≡ (list_any p xs || list_any p ys)
any_append p [] ys = refl
any_append p (x ∷ xs) ys = go (p x) (any_append p xs ys)
  where
    go : (b : Bool) → list_any p (xs ++ ys) ≡ (list_any p xs || list_any p ys) → (b || list_any p (xs ++ ys)) ≡ ((b || list_any p xs) || list_any p ys)
    go true e = refl
    go false e = e

pub all_append : {A : Type 0} (p : A → Bool) (xs ys : List A) → list_all p (xs ++ ys) ≡ (list_all p xs && list_all p ys)
all_append p [] ys = refl
all_append p (x ∷ xs) ys = go (p x) (all_append p xs ys)
  where
    go : (b : Bool) → list_all p (xs ++ ys) ≡ (list_all p xs && list_all p ys) → (b && list_all p (xs ++ ys)) ≡ ((b && list_all p xs) && list_all p ys)
    go true e = e
    go false e = refl

key_column : (p : ℕ → Bool) (index : ℕ) (key : List ℕ) → list_any (nat_eq index) key ≡ true → list_all p key ≡ true → p index ≡ true
key_column p index [] h all = cc
key_column p index (k ∷ key) h all = go (nat_eq index k) refl h (and_parts (p k) (list_all p key) all) (λ f. key_column p index key f (and_parts (p k) (list_all p key) all).1)
  where
    go : (b : Bool) → b ≡ nat_eq index k → (b || list_any (nat_eq index) key) ≡ true → (p k ≡ true) × (list_all p key ≡ true) → (list_any (nat_eq index) key ≡ true → p index ≡ true) → p index ≡ true
    go true e f parts later = ap p (same_number index k (sym e)) ∙ parts.0
    go false e f parts later = later f

-- ---- boxes without rows

only_equal : (o : Option Ordering) → allows_in kind.Equal o ≡ true → o ≡ Some Equal
only_equal None h = cc
only_equal (Some Less) h = cc
only_equal (Some Equal) h = refl
only_equal (Some Greater) h = cc

-- no two bounds that a row meets contradict one another
compatible : (row : Row) (a b : Bound) → is_bounded_by row a ≡ true → is_bounded_by row b ≡ true → contradicts a b ≡ false
compatible row a b of_a of_b = by_kind a.kind of_a
  where
    allowed : a.column ≡ b.column → value_at row a.column ≡ a.value → allows_in b.kind (compare_values a.value b.value) ≡ true
    allowed same is =
        subst (λ v. allows_in b.kind (compare_values v b.value) ≡ true) is
        (subst (λ (c : ℕ). allows_in b.kind (compare_values (value_at row c) b.value) ≡ true) (sym same) of_b)

    by_column : value_at row a.column ≡ a.value → (t : Bool) → t ≡ nat_eq a.column b.column → (t && not (allows_in b.kind (compare_values a.value b.value))) ≡ false
    by_column is false e = refl
    by_column is true e = ap not (allowed (same_number a.column b.column (sym e)) is)

    by_kind : (k : BoundKind) → allows_in k (compare_values (value_at row a.column) a.value) ≡ true
        → (same_kind k kind.Equal && (nat_eq a.column b.column && not (allows_in b.kind (compare_values a.value b.value)))) ≡ false
    by_kind kind.Lower h = refl
    by_kind kind.Upper h = refl
    by_kind kind.Equal h = by_column (compared_equal (value_at row a.column) a.value (only_equal (compare_values (value_at row a.column) a.value) h)) (nat_eq a.column b.column) refl

not_contradicted : (row : Row) (a : Bound) → is_bounded_by row a ≡ true → (box : Box) → is_in_box row box ≡ true → contradicts_any box a ≡ false
not_contradicted row a of_a [] there = refl
not_contradicted row a of_a (b ∷ box) there =
    let parts = and_parts (is_bounded_by row b) (is_in_box row box) there in
    ap (λ t. t || contradicts_any box a) (compatible row a b of_a parts.0) ∙ not_contradicted row a of_a box parts.1

none_contradicted : (row : Row) (whole : Box) → is_in_box row whole ≡ true → (box : Box) → is_in_box row box ≡ true → list_any (contradicts_any whole) box ≡ false
none_contradicted row whole in_whole [] there = refl
none_contradicted row whole in_whole (a ∷ box) there =
    let parts = and_parts (is_bounded_by row a) (is_in_box row box) there in
    ap (λ t. t || list_any (contradicts_any whole) box) (not_contradicted row a parts.0 whole in_whole) ∙ none_contradicted row whole in_whole box parts.1

-- no row is in a box of which two bounds contradict one another
no_row : (row : Row) (box : Box) → is_void box ≡ true → is_in_box row box ≡ false
no_row row box void = go (is_in_box row box) refl
  where
    go : (b : Bool) → b ≡ is_in_box row box → b ≡ false
    go false e = refl
    go true e = sym void ∙ none_contradicted row box (sym e) box (sym e)

-- ---- boxes of two conditions

with_first : (row : Row) (x : Box) → is_in_box row x ≡ true → (ys : List Box) → is_in_boxes row (beside x ys) ≡ is_in_boxes row ys
with_first row x h [] = refl
with_first row x h (y ∷ ys) = go (is_void (x ++ y)) refl (with_first row x h ys)
  where
    here : is_in_box row (x ++ y) ≡ is_in_box row y
    here = all_append (is_bounded_by row) x y ∙ ap (λ b. b && is_in_box row y) h

    go : (b : Bool) → b ≡ is_void (x ++ y) → is_in_boxes row (beside x ys) ≡ is_in_boxes row ys → is_in_boxes row (if b then beside x ys else (x ++ y) ∷ beside x ys) ≡ is_in_boxes row (y ∷ ys)
    go true e later = later ∙ ap (λ b. b || is_in_boxes row ys) (sym (no_row row (x ++ y) (sym e)) ∙ here)
    go false e later = ap (λ b. b || is_in_boxes row (beside x ys)) here ∙ ap (λ b. is_in_box row y || b) later

none_beside : (row : Row) (xs ys : List Box) → is_in_boxes row (all_beside xs ys) ≡ false → is_in_boxes row xs ≡ true → is_in_boxes row ys ≡ false
none_beside row [] ys h k = cc
none_beside row (x ∷ xs) ys h k =
    let parts = neither (is_in_boxes row (beside x ys)) (is_in_boxes row (all_beside xs ys)) (sym (any_append (is_in_box row) (beside x ys) (all_beside xs ys)) ∙ h) in
    go (is_in_box row x) refl k parts (λ f. none_beside row xs ys parts.1 f)
  where
    go : (b : Bool) → b ≡ is_in_box row x → (b || is_in_boxes row xs) ≡ true → (is_in_boxes row (beside x ys) ≡ false) × (is_in_boxes row (all_beside xs ys) ≡ false)
        → (is_in_boxes row xs ≡ true → is_in_boxes row ys ≡ false) → is_in_boxes row ys ≡ false
    go true e f parts later = sym (with_first row x (sym e) ys) ∙ parts.0
    go false e f parts later = later f

-- a row that is in none of both, and in one of the first, is in none of the second
pub second_none : (row : Row) (xs ys : List Box) → is_in_boxes row (both_boxes xs ys) ≡ false → is_in_boxes row xs ≡ true → is_in_boxes row ys ≡ false
second_none row xs ys h k = go (nat_lt box_limit (pairs xs ys) || same_boxes xs ys) h
  where
    go : (b : Bool) → is_in_boxes row (if b then xs else all_beside xs ys) ≡ false → is_in_boxes row ys ≡ false
    go true f = let wrong : true ≡ false = sym k ∙ f in cc
    go false f = none_beside row xs ys f k

-- a row that is in none of either
either_none : (row : Row) (xs ys : List Box) → is_in_boxes row (either_boxes xs ys) ≡ false → (is_in_boxes row xs ≡ false) × (is_in_boxes row ys ≡ false)
either_none row xs ys h = go (nat_lt box_limit (length (xs ++ ys))) h
  where
    both : is_in_boxes row (xs ++ ys) ≡ false → (is_in_boxes row xs ≡ false) × (is_in_boxes row ys ≡ false)
    both f = neither (is_in_boxes row xs) (is_in_boxes row ys) (sym (any_append (is_in_box row) xs ys) ∙ f)

    go : (b : Bool) → is_in_boxes row (if b then around (xs ++ ys) else xs ++ ys) ≡ false → (is_in_boxes row xs ≡ false) × (is_in_boxes row ys ≡ false)
    go true f = both (none_around row (xs ++ ys) f)
    go false f = both f

-- ---- truths

false_first : (o p : Outcome) → o ≡ Ok false_value → with_value o (λ v. and_then v p) ≡ Ok false_value
false_first o p h = ap (λ r. with_value r (λ v. and_then v p)) h

false_second : (o p : Outcome) → HasValue o → p ≡ Ok false_value → with_value o (λ v. and_then v p) ≡ Ok false_value
false_second o p there h = ap (λ r. with_value r (λ v. and_then v p)) there.1 ∙ ap (λ r. and_then there.0 r) h ∙ go there.0
  where
    go : (v : Value) → and_then v (Ok false_value) ≡ Ok false_value
    go Null = refl
    go (Int n) = refl
    go (Text t) = refl
    go (Boolean true) = refl
    go (Boolean false) = refl

false_both : (o p : Outcome) → o ≡ Ok false_value → p ≡ Ok false_value → with_value o (λ v. or_else v p) ≡ Ok false_value
false_both o p h k = ap (λ r. with_value r (λ v. or_else v p)) h ∙ ap (λ r. or_else false_value r) k

-- where a condition has boxes only if it is not false, they are nothing or everything
none_if : (row : Row) (v : Value) → is_in_boxes row (boxes_if v) ≡ false → v ≡ false_value
none_if row Null h = cc
none_if row (Int n) h = cc
none_if row (Text t) h = cc
none_if row (Boolean true) h = cc
none_if row (Boolean false) h = refl

-- ---- comparisons

compare_typed : (t : ColumnType) (x v : Value) → IsOfType t x → has_type t v ≡ true → (o : Ordering) × (compare_values x v ≡ Some o)
compare_typed type.BigInt (Int a) (Int b) p q = (_, refl)
compare_typed type.Text (Text a) (Text b) p q = (_, refl)
compare_typed type.Boolean (Boolean a) (Boolean b) p q = (_, refl)
compare_typed type.BigInt (Int a) Null p q = cc
compare_typed type.BigInt (Int a) (Text t) p q = cc
compare_typed type.BigInt (Int a) (Boolean b) p q = cc
compare_typed type.Text (Text s) Null p q = cc
compare_typed type.Text (Text s) (Int b) p q = cc
compare_typed type.Text (Text s) (Boolean b) p q = cc
compare_typed type.Boolean (Boolean a) Null p q = cc
compare_typed type.Boolean (Boolean a) (Int b) p q = cc
compare_typed type.Boolean (Boolean a) (Text t) p q = cc
compare_typed type.BigInt Null v p q = absurd p
compare_typed type.BigInt (Text s) v p q = absurd p
compare_typed type.BigInt (Boolean b) v p q = absurd p
compare_typed type.Text Null v p q = absurd p
compare_typed type.Text (Int a) v p q = absurd p
compare_typed type.Text (Boolean b) v p q = absurd p
compare_typed type.Boolean Null v p q = absurd p
compare_typed type.Boolean (Int a) v p q = absurd p
compare_typed type.Boolean (Text s) v p q = absurd p

typed_column : (o : Option Column) (x v : Value) → is_not_null o ≡ true → FitsColumnIfAny o x → column_has_type o v ≡ true → (r : Ordering) × (compare_values x v ≡ Some r)
typed_column None x v marked fits has = cc
typed_column (Some c) x v marked fits has = compare_typed c.column_type x v (of_type_fits c x marked fits) has

not_held : (p : Comparison) (k : BoundKind) (o : Ordering) → kind_of p ≡ Some k → allows k o ≡ false → holds p o ≡ false
not_held op.Equal kind.Equal o e h = h
not_held op.Less kind.Upper Less e h = cc
not_held op.Less kind.Upper Equal e h = refl
not_held op.Less kind.Upper Greater e h = refl
not_held op.LessOrEqual kind.Upper o e h = h
not_held op.Greater kind.Lower Less e h = refl
not_held op.Greater kind.Lower Equal e h = refl
not_held op.Greater kind.Lower Greater e h = cc
not_held op.GreaterOrEqual kind.Lower o e h = h
not_held _ _ _ e h = cc

-- the value of a comparison with its operands exchanged
exchanged_false : (p : Comparison) (x v : Value) (o : Ordering) → compare_values x v ≡ Some o → holds (exchanged p) o ≡ false → compared p v x ≡ false_value
exchanged_false p x v Less e h = ap (holds_in p) (compared_less x v e) ∙ ap (λ b. Boolean b) (held_greater p ∙ h)
exchanged_false p x v Equal e h =
    let same : x ≡ v = compared_equal x v e in
    let turned : compare_values v x ≡ Some Equal = subst (λ z. compare_values v z ≡ Some Equal) (sym same) (subst (λ z. compare_values z v ≡ Some Equal) same e) in
    ap (holds_in p) turned ∙ ap (λ b. Boolean b) (held_equal p ∙ h)
exchanged_false p x v Greater e h = ap (holds_in p) (compared_greater x v e) ∙ ap (λ b. Boolean b) (held_less p ∙ h)

-- a row outside of one bound
not_bounded : (k : BoundKind) (o : Option Ordering) (r : Ordering) → o ≡ Some r → ((allows_in k o && true) || false) ≡ false → allows k r ≡ false
not_bounded k o r e h = go (allows k r) (ap (λ s. (allows_in k s && true) || false) (sym e) ∙ h)
  where
    go : (b : Bool) → ((b && true) || false) ≡ false → b ≡ false
    go true h = cc
    go false h = refl

-- what a value is that boxes come of
pub record IsOneBox (layout : Layout) (index : ℕ) (k : BoundKind) (v : Value) (boxes : List Box) : Type 0 where
  pub comparable : is_comparable layout index v ≡ true
  pub are : boxes ≡ (record { kind = k; column = index; value = v } ∷ []) ∷ []

pub one_box_is : (layout : Layout) (index : ℕ) (k : BoundKind) (v : Value) (boxes : List Box) → one_box layout index k v ≡ Some boxes → IsOneBox layout index k v boxes
one_box_is layout index k v boxes h = go (is_comparable layout index v) refl h
  where
    go : (b : Bool) → b ≡ is_comparable layout index v → (if b then Some ((record { kind = k; column = index; value = v } ∷ []) ∷ []) else None) ≡ Some boxes → IsOneBox layout index k v boxes
    go true e f = record { comparable = sym e; are = cc }
    go false e f = cc

module _ (layout : Layout) (is : IsLayout layout) (table : ℕ) (users : UserNames) (roles : List (List ℕ)) (are_roles : AreRolesFor users roles) (front : List (Bor Row))
    (cell : ColumnIndex → Value) (behind : IsBehind front cell) (row : Row) (fits : FitsTable layout row) (beside : (index : ℕ) → cell (record { table = table; column = index }) ≡ value_at row index) where
  pub comparable : (index : ℕ) (v : Value) → is_comparable layout index v ≡ true → (o : Ordering) × (compare_values (value_at row index) v ≡ Some o)
  comparable index v h =
      let parts = and_parts (list_any (nat_eq index) layout.key) (column_has_type (slice_get layout.columns index) v) h in
      typed_column (slice_get layout.columns index) (value_at row index) v (key_column (is_not_null_at layout.columns) index layout.key parts.0 is.key_not_null) (fits.columns.each index) parts.1

  pub own_cell : (c : ColumnIndex) → nat_eq c.table table ≡ true → cell c ≡ value_at row c.column
  own_cell c e =
      let at : ColumnIndex = record { table = table; column = c.column } in
      ap cell (same_index c at (same_number c.table table e) refl) ∙ beside c.column

  -- a comparison of which the boxes say that the row is in none, by its operands' values
  record BothKnown (p : Comparison) (a b : Term ColumnIndex) : Type 0 where
    pub x : Value
    pub v : Value
    pub left_is : value_of cell users a ≡ Ok x
    pub right_is : value_of cell users b ≡ Ok v
    pub order : Ordering
    pub compared_so : compare_values x v ≡ Some order
    pub refused : holds p order ≡ false

  side_false : (p : Comparison) (a b : Term ColumnIndex) (boxes : List Box) → boxes_at layout table users front p a b ≡ Some boxes → is_in_boxes row boxes ≡ false → BothKnown p a b
  side_false p (column c) b boxes h out = by_table (nat_eq c.table table) refl h
    where
      by_value : nat_eq c.table table ≡ true → (k : Option BoundKind) → k ≡ kind_of p → (w : Option Value) → w ≡ constant users front b → boxes_by layout c.column k w ≡ Some boxes → BothKnown p (column c) b
      by_value t None e w f g = cc
      by_value t (Some k) e None f g = cc
      by_value t (Some k) e (Some v) f g =
          let one = one_box_is layout c.column k v boxes g in
          let order = comparable c.column v one.comparable in
          record {
            x = value_at row c.column;
            v = v;
            left_is = ap (λ z. Ok z) (own_cell c t);
            right_is = (constant_true front cell behind users b v (sym f)).0;
            order = order.0;
            compared_so = order.1;
            refused = not_held p k order.0 (sym e) (not_bounded k (compare_values (value_at row c.column) v) order.0 order.1 (sym (ap (is_in_boxes row) one.are) ∙ out));
          }

      by_table : (t : Bool) → t ≡ nat_eq c.table table → (if t then boxes_by layout c.column (kind_of p) (constant users front b) else None) ≡ Some boxes → BothKnown p (column c) b
      by_table true e g = by_value (sym e) (kind_of p) refl (constant users front b) refl g
      by_table false e g = cc
  side_false p _ b boxes h out = cc

  at_once : (p : Comparison) (a b : Term ColumnIndex) → BothKnown p a b → value_of cell users (comparison p a b) ≡ Ok false_value
  at_once p a b known =
      ap (λ o. with_both o (value_of cell users b) (λ x y. Ok (compared p x y))) known.left_is
      ∙ ap (λ o. with_value o (λ y. Ok (compared p known.x y))) known.right_is
      ∙ ap (λ o. Ok (holds_in p o)) known.compared_so ∙ ap (λ b. Ok (Boolean b)) known.refused

  turned : (p : Comparison) (a b : Term ColumnIndex) → BothKnown (exchanged p) b a → value_of cell users (comparison p a b) ≡ Ok false_value
  turned p a b known =
      ap (λ o. with_both o (value_of cell users b) (λ x y. Ok (compared p x y))) known.right_is
      ∙ ap (λ o. with_value o (λ y. Ok (compared p known.v y))) known.left_is
      ∙ ap (λ z. Ok z) (exchanged_false p known.x known.v known.order known.compared_so known.refused)

  between : (p : Comparison) (a b : Term ColumnIndex) (v w : Option Value) → v ≡ constant users front a → w ≡ constant users front b → is_in_boxes row (boxes_between p v w) ≡ false
      → value_of cell users (comparison p a b) ≡ Ok false_value
  between p a b None w e f out = cc
  between p a b (Some v) None e f out = cc
  between p a b (Some v) (Some w) e f out =
      ap (λ o. with_both o (value_of cell users b) (λ x y. Ok (compared p x y))) (constant_true front cell behind users a v (sym e)).0
      ∙ ap (λ o. with_value o (λ y. Ok (compared p v y))) (constant_true front cell behind users b w (sym f)).0
      ∙ ap (λ z. Ok z) (none_if row (compared p v w) out)

  compared_false : (p : Comparison) (a b : Term ColumnIndex) → is_in_boxes row (boxes_compared layout table users front p a b) ≡ false → value_of cell users (comparison p a b) ≡ Ok false_value
  compared_false p a b out = go (boxes_at layout table users front p a b) refl (boxes_at layout table users front (exchanged p) b a) refl out
    where
      go : (s : Option (List Box)) → s ≡ boxes_at layout table users front p a b → (t : Option (List Box)) → t ≡ boxes_at layout table users front (exchanged p) b a
          → is_in_boxes row (boxes_or s (boxes_or t (boxes_between p (constant users front a) (constant users front b)))) ≡ false → value_of cell users (comparison p a b) ≡ Ok false_value
      go (Some boxes) e t f g = at_once p a b (side_false p a b boxes (sym e) g)
      go None e (Some boxes) f g = turned p a b (side_false (exchanged p) b a boxes (sym f) g)
      go None e None f g = between p a b (constant users front a) (constant users front b) refl refl g

  -- ---- MEMBER OF

  no_role : (t : List ℕ) (index : ℕ) → value_at row index ≡ Text t → (names : List (List ℕ)) → is_in_boxes row (boxes_for_roles names index) ≡ false → list_any (bytes_eq t) names ≡ false
  no_role t index e [] out = refl
  no_role t index e (name ∷ names) out =
      let parts = neither (allows_in kind.Equal (compare_values (value_at row index) (Text name)) && true) (is_in_boxes row (boxes_for_roles names index)) out in
      let differ : bytes_eq t name ≡ false = go (bytes_eq t name) (sym (is_eq-slice_cmp t name)) (sym (ap (λ x. allows_in kind.Equal (compare_values x (Text name)) && true) e) ∙ parts.0) in
      ap (λ b. b || list_any (bytes_eq t) names) differ ∙ no_role t index e names parts.1
    where
      go : (b : Bool) → b ≡ is_eq (slice_cmp nat_cmp t name) → (is_eq (slice_cmp nat_cmp t name) && true) ≡ false → b ≡ false
      go true s f = cc
      go false s f = refl

  none_of_roles : (t : List ℕ) (index : ℕ) → value_at row index ≡ Text t → is_in_boxes row (boxes_of_roles roles index) ≡ false → list_any (bytes_eq t) roles ≡ false
  none_of_roles t index e out = go (nat_lt box_limit (length roles)) out
    where
      go : (b : Bool) → is_in_boxes row (if b then around (boxes_for_roles roles index) else boxes_for_roles roles index) ≡ false → list_any (bytes_eq t) roles ≡ false
      go true f = no_role t index e roles (none_around row (boxes_for_roles roles index) f)
      go false f = no_role t index e roles f

  no_member : (index : ℕ) (x : Value) → x ≡ value_at row index → (o : Ordering) → compare_values x (Text []) ≡ Some o → is_in_boxes row (boxes_of_roles roles index) ≡ false → member_value users x ≡ false_value
  no_member index Null e o f out = cc
  no_member index (Int n) e o f out = cc
  no_member index (Boolean b) e o f out = cc
  no_member index (Text t) e o f out = ap (λ b. Boolean b) (are_roles t ∙ none_of_roles t index (sym e) out)

  name_false : (a : Term ColumnIndex) (v : Option Value) → v ≡ constant users front a → is_in_boxes row (boxes_of_name users v) ≡ false → value_of cell users (member_test a) ≡ Ok false_value
  name_false a None e out = cc
  name_false a (Some Null) e out = cc
  name_false a (Some (Int n)) e out = cc
  name_false a (Some (Boolean b)) e out = cc
  name_false a (Some (Text t)) e out =
      ap (λ o. with_value o (λ x. Ok (member_value users x))) (constant_true front cell behind users a (Text t) (sym e)).0
      ∙ ap (λ z. Ok z) (none_if row (Boolean (users.is_in t)) out)

  member_false : (a : Term ColumnIndex) → is_in_boxes row (boxes_of_member layout table users roles front a) ≡ false → value_of cell users (member_test a) ≡ Ok false_value
  member_false (column c) out = go (nat_eq c.table table) refl (is_comparable layout c.column (Text [])) refl out
    where
      go : (t : Bool) → t ≡ nat_eq c.table table → (b : Bool) → b ≡ is_comparable layout c.column (Text [])
          → is_in_boxes row (if t then (if b then boxes_of_roles roles c.column else everything) else boxes_of_name users (constant users front (column c))) ≡ false → value_of cell users (member_test (column c)) ≡ Ok false_value
      go false e b f g = name_false (column c) (constant users front (column c)) refl g
      go true e false f g = cc
      go true e true f g =
          let order = comparable c.column (Text []) (sym f) in
          ap (λ x. Ok (member_value users x)) (own_cell c (sym e)) ∙ ap (λ z. Ok z) (no_member c.column (value_at row c.column) refl order.0 order.1 g)
  member_false a out = name_false a (constant users front a) refl out

  -- ---- conditions

  pub false_outside : (t : Term ColumnIndex) → IsFalseOutside layout table users cell row t (boxes_of layout table users roles front t)
  false_outside (conjunction a b) out = go (has_no_arithmetic a) refl out (λ e. false_outside a e) (λ e. false_outside b e)
    where
      as_ : List Box
      as_ = boxes_of layout table users roles front a

      bs : List Box
      bs = boxes_of layout table users roles front b

      both : has_no_arithmetic a ≡ true → (i : Bool) → i ≡ is_in_boxes row as_ → is_in_boxes row (both_boxes as_ bs) ≡ false
          → (is_in_boxes row as_ ≡ false → value_of cell users a ≡ Ok false_value) → (is_in_boxes row bs ≡ false → value_of cell users b ≡ Ok false_value) → value_of cell users (conjunction a b) ≡ Ok false_value
      both infallible true e none of_a of_b = false_second (value_of cell users a) (value_of cell users b) (infallible_value cell users a infallible) (of_b (second_none row as_ bs none (sym e)))
      both infallible false e none of_a of_b = false_first (value_of cell users a) (value_of cell users b) (of_a (sym e))

      go : (q : Bool) → q ≡ has_no_arithmetic a → is_in_boxes row (if q then both_boxes as_ bs else as_) ≡ false
          → (is_in_boxes row as_ ≡ false → value_of cell users a ≡ Ok false_value) → (is_in_boxes row bs ≡ false → value_of cell users b ≡ Ok false_value) → value_of cell users (conjunction a b) ≡ Ok false_value
      go true e none of_a of_b = both (sym e) (is_in_boxes row as_) refl none of_a of_b
      go false e none of_a of_b = false_first (value_of cell users a) (value_of cell users b) (of_a none)
  false_outside (disjunction a b) out =
      let parts = either_none row (boxes_of layout table users roles front a) (boxes_of layout table users roles front b) out in
      false_both (value_of cell users a) (value_of cell users b) (false_outside a parts.0) (false_outside b parts.1)
  false_outside (comparison p a b) out = compared_false p a b out
  false_outside (member_test a) out = member_false a out
  false_outside (literal v) out = ap (λ z. Ok z) (none_if row v out)
  false_outside _ out = cc
