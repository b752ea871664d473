-- One box around many has their rows.
use Rattle.std.proofs.Common.{◌≡◌, ℕ, Bool, true, false, not, ◌&&◌, ◌||◌, if◌then◌else◌, nat_eq, List, [], ◌∷◌, ◌++◌, Option, Some, None, refl, sym, ap, subst, ◌∙◌}
use Rattle.std.specs.declared.cmp.Ordering.{Ordering}
use Rattle.std.specs.declared.cmp.Ordering.TheVariants.{Less, Equal, Greater}
use Rattle.sql_types.specs.declared.value.Value.{Value}
use Rattle.sql_types.specs.Value.{compare_values}
use Rattle.sql_types.specs.Row.{Row, value_at}
use Rattle.expressions.proofs.OrderLaws.{compared_less, compared_greater, compared_equal, compared_onward}
use Rattle.row_codec.proofs.Layouts.{and_parts}
use Rattle.key_ranges.specs.declared.bounds.BoundKind.{BoundKind}
use Rattle.key_ranges.specs.declared.bounds.BoundKind.TheVariants as kind
use Rattle.key_ranges.specs.Boxes.{Bound, Box, allows_in, is_bounded_by, is_in_box, is_in_boxes, same_kind, lesser, lesser_by, greater, greater_by, lowest_in, highest_in, lowest_of, highest_of, bound_if, box_around, around}
use Rattle.key_ranges.proofs.Conditions.{same_number}

-- ---- values in order

abbrev AtLeast : Value → Value → Type 0
AtLeast x v = allows_in kind.Lower (compare_values x v) ≡ true

abbrev AtMost : Value → Value → Type 0
AtMost x v = allows_in kind.Upper (compare_values x v) ≡ true

-- what is at least a value is at least a lesser one
at_least_lesser : (x v w : Value) → AtLeast x v → compare_values v w ≡ Some Greater → AtLeast x w
at_least_lesser x v w h greater = go (compare_values x v) refl h
  where
    go : (o : Option Ordering) → o ≡ compare_values x v → allows_in kind.Lower o ≡ true → AtLeast x w
    go None is e = cc
    go (Some Less) is e = cc
    go (Some Equal) is e = subst (λ y. AtLeast y w) (sym (compared_equal x v (sym is))) (ap (allows_in kind.Lower) greater)
    go (Some Greater) is e = ap (allows_in kind.Lower) (compared_less w x (compared_onward w v x (compared_greater v w greater) (compared_greater x v (sym is))))

at_most_greater : (x v w : Value) → AtMost x v → compare_values v w ≡ Some Less → AtMost x w
at_most_greater x v w h less = go (compare_values x v) refl h
  where
    go : (o : Option Ordering) → o ≡ compare_values x v → allows_in kind.Upper o ≡ true → AtMost x w
    go None is e = cc
    go (Some Less) is e = ap (allows_in kind.Upper) (compared_onward x v w (sym is) less)
    go (Some Equal) is e = subst (λ y. AtMost y w) (sym (compared_equal x v (sym is))) (ap (allows_in kind.Upper) less)
    go (Some Greater) is e = cc

module _ (row : Row) (column : ℕ) where
  abbrev x : Value
  x = value_at row column

  -- the column is within a value, if there is one
  abbrev IsAbove : Option Value → Type 0
  IsAbove None = Unit {0}
  IsAbove (Some v) = AtLeast x v

  abbrev IsBelow : Option Value → Type 0
  IsBelow None = Unit {0}
  IsBelow (Some v) = AtMost x v

  -- ---- the lesser and the greater

  lesser_first : (o p : Option Value) → IsAbove o → IsAbove (lesser o p)
  lesser_first None None h = tt
  lesser_first None (Some w) h = tt
  lesser_first (Some v) None h = tt
  lesser_first (Some v) (Some w) h = go (compare_values v w) refl
    where
      go : (c : Option Ordering) → c ≡ compare_values v w → IsAbove (lesser_by c v w)
      go None is = tt
      go (Some Less) is = h
      go (Some Equal) is = h
      go (Some Greater) is = at_least_lesser x v w h (sym is)

  lesser_second : (o p : Option Value) → IsAbove p → IsAbove (lesser o p)
  lesser_second None None h = tt
  lesser_second None (Some w) h = tt
  lesser_second (Some v) None h = tt
  lesser_second (Some v) (Some w) h = go (compare_values v w) refl
    where
      go : (c : Option Ordering) → c ≡ compare_values v w → IsAbove (lesser_by c v w)
      go None is = tt
      go (Some Less) is = at_least_lesser x w v h (compared_less v w (sym is))
      go (Some Equal) is = subst (λ y. AtLeast x y) (sym (compared_equal v w (sym is))) h
      go (Some Greater) is = h

  greater_first : (o p : Option Value) → IsBelow o → IsBelow (greater o p)
  greater_first None None h = tt
  greater_first None (Some w) h = tt
  greater_first (Some v) None h = tt
  greater_first (Some v) (Some w) h = go (compare_values v w) refl
    where
      go : (c : Option Ordering) → c ≡ compare_values v w → IsBelow (greater_by c v w)
      go None is = tt
      go (Some Less) is = at_most_greater x v w h (sym is)
      go (Some Equal) is = h
      go (Some Greater) is = h

  greater_second : (o p : Option Value) → IsBelow p → IsBelow (greater o p)
  greater_second None None h = tt
  greater_second None (Some w) h = tt
  greater_second (Some v) None h = tt
  greater_second (Some v) (Some w) h = go (compare_values v w) refl
    where
      go : (c : Option Ordering) → c ≡ compare_values v w → IsBelow (greater_by c v w)
      go None is = tt
      go (Some Less) is = h
      go (Some Equal) is = subst (λ y. AtMost x y) (sym (compared_equal v w (sym is))) h
      go (Some Greater) is = at_most_greater x w v h (compared_greater v w (sym is))

  -- ---- a box

  from_below : (k : BoundKind) (o : Option Ordering) → not (same_kind k kind.Upper) ≡ true → allows_in k o ≡ true → allows_in kind.Lower o ≡ true
  from_below kind.Upper o e h = cc
  from_below kind.Lower o e h = h
  from_below kind.Equal None e h = cc
  from_below kind.Equal (Some Less) e h = cc
  from_below kind.Equal (Some Equal) e h = refl
  from_below kind.Equal (Some Greater) e h = cc

  from_above : (k : BoundKind) (o : Option Ordering) → not (same_kind k kind.Lower) ≡ true → allows_in k o ≡ true → allows_in kind.Upper o ≡ true
  from_above kind.Lower o e h = cc
  from_above kind.Upper o e h = h
  from_above kind.Equal None e h = cc
  from_above kind.Equal (Some Less) e h = cc
  from_above kind.Equal (Some Equal) e h = refl
  from_above kind.Equal (Some Greater) e h = cc

  -- a bound of this column
  here : (b : Bound) → nat_eq b.column column ≡ true → is_bounded_by row b ≡ true → allows_in b.kind (compare_values x b.value) ≡ true
  here b same h = subst (λ n. allows_in b.kind (compare_values (value_at row n) b.value) ≡ true) (same_number b.column column same) h

  lowest_there : (box : Box) → is_in_box row box ≡ true → IsAbove (lowest_in column box)
  lowest_there [] h = tt
  lowest_there (b ∷ box) h = go (nat_eq b.column column) refl (not (same_kind b.kind kind.Upper)) refl (and_parts (is_bounded_by row b) (is_in_box row box) h) (λ e. lowest_there box e)
    where
      go : (s : Bool) → s ≡ nat_eq b.column column → (t : Bool) → t ≡ not (same_kind b.kind kind.Upper) → (is_bounded_by row b ≡ true) × (is_in_box row box ≡ true) → (is_in_box row box ≡ true → IsAbove (lowest_in column box))
          → IsAbove (if s && t then Some b.value else lowest_in column box)
      go true e true f parts later = from_below b.kind (compare_values x b.value) (sym f) (here b (sym e) parts.0)
      go true e false f parts later = later parts.1
      go false e t f parts later = later parts.1

  highest_there : (box : Box) → is_in_box row box ≡ true → IsBelow (highest_in column box)
  highest_there [] h = tt
  highest_there (b ∷ box) h = go (nat_eq b.column column) refl (not (same_kind b.kind kind.Lower)) refl (and_parts (is_bounded_by row b) (is_in_box row box) h) (λ e. highest_there box e)
    where
      go : (s : Bool) → s ≡ nat_eq b.column column → (t : Bool) → t ≡ not (same_kind b.kind kind.Lower) → (is_bounded_by row b ≡ true) × (is_in_box row box ≡ true) → (is_in_box row box ≡ true → IsBelow (highest_in column box))
          → IsBelow (if s && t then Some b.value else highest_in column box)
      go true e true f parts later = from_above b.kind (compare_values x b.value) (sym f) (here b (sym e) parts.0)
      go true e false f parts later = later parts.1
      go false e t f parts later = later parts.1

  -- ---- several boxes

  lowest_stays : (least : Option Value) (xs : List Box) → IsAbove least → IsAbove (lowest_of column least xs)
  lowest_stays least [] h = h
  lowest_stays least (b ∷ xs) h = lowest_stays (lesser least (lowest_in column b)) xs (lesser_first least (lowest_in column b) h)

  lowest_any : (least : Option Value) (xs : List Box) → is_in_boxes row xs ≡ true → IsAbove (lowest_of column least xs)
  lowest_any least [] h = cc
  lowest_any least (b ∷ xs) h = go (is_in_box row b) refl h (λ e. lowest_any (lesser least (lowest_in column b)) xs e)
    where
      go : (s : Bool) → s ≡ is_in_box row b → (s || is_in_boxes row xs) ≡ true → (is_in_boxes row xs ≡ true → IsAbove (lowest_of column (lesser least (lowest_in column b)) xs)) → IsAbove (lowest_of column (lesser least (lowest_in column b)) xs)
      go true e f later = lowest_stays (lesser least (lowest_in column b)) xs (lesser_second least (lowest_in column b) (lowest_there b (sym e)))
      go false e f later = later f

  highest_stays : (greatest : Option Value) (xs : List Box) → IsBelow greatest → IsBelow (highest_of column greatest xs)
  highest_stays greatest [] h = h
  highest_stays greatest (b ∷ xs) h = highest_stays (greater greatest (highest_in column b)) xs (greater_first greatest (highest_in column b) h)

  highest_any : (greatest : Option Value) (xs : List Box) → is_in_boxes row xs ≡ true → IsBelow (highest_of column greatest xs)
  highest_any greatest [] h = cc
  highest_any greatest (b ∷ xs) h = go (is_in_box row b) refl h (λ e. highest_any (greater greatest (highest_in column b)) xs e)
    where
      go : (s : Bool) → s ≡ is_in_box row b → (s || is_in_boxes row xs) ≡ true → (is_in_boxes row xs ≡ true → IsBelow (highest_of column (greater greatest (highest_in column b)) xs)) → IsBelow (highest_of column (greater greatest (highest_in column b)) xs)
      go true e f later = highest_stays (greater greatest (highest_in column b)) xs (greater_second greatest (highest_in column b) (highest_there b (sym e)))
      go false e f later = later f

  lowest_both : (b : Box) (xs : List Box) → is_in_boxes row (b ∷ xs) ≡ true → IsAbove (lowest_of column (lowest_in column b) xs)
  lowest_both b xs h = go (is_in_box row b) refl h
    where
      go : (s : Bool) → s ≡ is_in_box row b → (s || is_in_boxes row xs) ≡ true → IsAbove (lowest_of column (lowest_in column b) xs)
      go true e f = lowest_stays (lowest_in column b) xs (lowest_there b (sym e))
      go false e f = lowest_any (lowest_in column b) xs f

  highest_both : (b : Box) (xs : List Box) → is_in_boxes row (b ∷ xs) ≡ true → IsBelow (highest_of column (highest_in column b) xs)
  highest_both b xs h = go (is_in_box row b) refl h
    where
      go : (s : Bool) → s ≡ is_in_box row b → (s || is_in_boxes row xs) ≡ true → IsBelow (highest_of column (highest_in column b) xs)
      go true e f = highest_stays (highest_in column b) xs (highest_there b (sym e))
      go false e f = highest_any (highest_in column b) xs f

  in_bounds : (o p : Option Value) → IsAbove o → IsBelow p → is_in_box row (bound_if kind.Lower column o ++ bound_if kind.Upper column p) ≡ true
  in_bounds None None h k = refl
  in_bounds None (Some w) h k = ap (λ t. t && true) k
  in_bounds (Some v) None h k = ap (λ t. t && true) h
  in_bounds (Some v) (Some w) h k = ap (λ t. t && (allows_in kind.Upper (compare_values x w) && true)) h ∙ ap (λ t. t && true) k

  in_around : (b : Box) (xs : List Box) → is_in_boxes row (b ∷ xs) ≡ true → is_in_box row (box_around column b xs) ≡ true
  in_around b xs h = in_bounds (lowest_of column (lowest_in column b) xs) (highest_of column (highest_in column b) xs) (lowest_both b xs h) (highest_both b xs h)

pub around_loses_nothing : (row : Row) (boxes : List Box) → is_in_boxes row boxes ≡ true → is_in_boxes row (around boxes) ≡ true
around_loses_nothing row [] h = h
around_loses_nothing row ([] ∷ xs) h = refl
around_loses_nothing row ((b ∷ x) ∷ xs) h = ap (λ t. t || false) (in_around row b.column (b ∷ x) xs h)

-- outside of it a row is in none of them
pub none_around : (row : Row) (boxes : List Box) → is_in_boxes row (around boxes) ≡ false → is_in_boxes row boxes ≡ false
none_around row boxes h = go (is_in_boxes row boxes) refl
  where
    go : (s : Bool) → s ≡ is_in_boxes row boxes → s ≡ false
    go false e = refl
    go true e = let wrong : true ≡ false = sym (around_loses_nothing row boxes (sym e)) ∙ h in cc
