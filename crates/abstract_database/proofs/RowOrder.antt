-- The order of rows by their keys: rows that are put into a list in key order stand in key order.
use Rattle.std.proofs.Common.{◌≡◌, ◌⊎◌, ◌||◌, ℕ, Bool, true, false, cond, List, [], ◌∷◌, ◌++◌, slice_get, Option, Some, None, refl, sym, ap, ◌∙◌, subst, inl, inr, Ordering, Less, Equal, Greater, is_eq, is_lt, nat_cmp}
use Rattle.std.specs.List.{list_any}
use Rattle.std.specs.Ordering.{ordering_then, ordering_reverse}
use Rattle.std.specs.Cmp.{IsTotalOrder, bool_cmp_total}
use Rattle.std.specs.Cmp.Lexicographic.{slice_cmp, lists_total}
use Rattle.std.proofs.lemmas.Cmp.{nat_cmp_total, int_cmp_total}
use Rattle.sql_types.specs.declared.value.Value.{Value}
use Rattle.sql_types.specs.declared.value.Value.TheVariants.{Null, Int, Text, Bool as Boolean}
use Rattle.sql_types.specs.Value.{order_of}
use Rattle.sql_ast.specs.declared.columns.Column.{Column}
use Rattle.sql_ast.specs.declared.columns.ColumnType.{ColumnType}
use Rattle.sql_ast.specs.declared.columns.ColumnType.TheVariants as types
use Rattle.sql_ast.specs.Scope.{type_of}
use Rattle.expressions.specs.Types.{is_of}
use Rattle.abstract_database.specs.Lists.{Among, put, the_new, Rising}
use Rattle.sql_types.specs.Row.{Row, value_at}
use Rattle.abstract_database.specs.Changes.{has_double_key}
use Rattle.sql_ast.specs.Rows.{row_cmp}

-- ---- two elements apart

module _ {X : Type 0} (cmp : X → X → Ordering) (reversed : (x y : X) → cmp x y ≡ ordering_reverse (cmp y x)) where
  abbrev pub Apart : List X → Type 0
  Apart [] = Unit {0}
  Apart (x ∷ xs) = ((y : X) → Among y xs → is_eq (cmp x y) ≡ false) × Apart xs

  eq_reversed : (o : Ordering) → is_eq (ordering_reverse o) ≡ is_eq o
  eq_reversed Less = refl
  eq_reversed Equal = refl
  eq_reversed Greater = refl

  other_way : (x y : X) → is_eq (cmp x y) ≡ false → is_eq (cmp y x) ≡ false
  other_way x y e = ap is_eq (reversed y x) ∙ eq_reversed (cmp x y) ∙ e

  in_middle : (ys : List X) (x : X) (zs : List X) → Among x (ys ++ x ∷ zs)
  in_middle [] x zs = inl refl
  in_middle (y ∷ ys) x zs = inr (in_middle ys x zs)

  around : (ys : List X) (x : X) (zs : List X) (w : X) → Among w (ys ++ zs) → Among w (ys ++ x ∷ zs)
  around [] x zs w h = inr h
  around (y ∷ ys) x zs w (inl is) = inl is
  around (y ∷ ys) x zs w (inr later) = inr (around ys x zs w later)

  -- an element in the middle may stand in front
  to_front : (ys : List X) (x : X) (zs : List X) → Apart (ys ++ x ∷ zs) → Apart (x ∷ (ys ++ zs))
  to_front [] x zs a = a
  to_front (y ∷ ys) x zs a =
      let rest = to_front ys x zs a.1 in (
        λ w h. elim h [ inl is ↦ subst (λ z. is_eq (cmp x z) ≡ false) is (other_way y x (a.0 x (in_middle ys x zs))) | inr later ↦ rest.0 w later ],
        (λ w h. a.0 w (around ys x zs w h), rest.1),
      )

  of_put_at : (x y : X) (ys zs : List X) (w : X) (o : Ordering) → (Among w (put cmp the_new x ys ++ zs) → Among w (ys ++ x ∷ zs)) →
      Among w (cond (is_lt o) (x ∷ y ∷ ys) (cond (is_eq o) (the_new y x ∷ ys) (y ∷ put cmp the_new x ys)) ++ zs) → Among w ((y ∷ ys) ++ x ∷ zs)
  of_put_at x y ys zs w Less go (inl is) = subst (λ z. Among z ((y ∷ ys) ++ x ∷ zs)) is (in_middle (y ∷ ys) x zs)
  of_put_at x y ys zs w Less go (inr later) = around (y ∷ ys) x zs w later
  of_put_at x y ys zs w Equal go (inl is) = subst (λ z. Among z ((y ∷ ys) ++ x ∷ zs)) is (in_middle (y ∷ ys) x zs)
  of_put_at x y ys zs w Equal go (inr later) = inr (around ys x zs w later)
  of_put_at x y ys zs w Greater go (inl is) = inl is
  of_put_at x y ys zs w Greater go (inr later) = inr (go later)

  of_put : (x : X) (ys zs : List X) (w : X) → Among w (put cmp the_new x ys ++ zs) → Among w (ys ++ x ∷ zs)
  of_put x [] zs w h = h
  of_put x (y ∷ ys) zs w h = of_put_at x y ys zs w (cmp x y) (of_put x ys zs w) h

  apart_put_at : (x y : X) (ys zs : List X) (o : Ordering) → cmp x y ≡ o → Apart ((y ∷ ys) ++ x ∷ zs) → (Apart (ys ++ x ∷ zs) → Apart (put cmp the_new x ys ++ zs)) →
      Apart (cond (is_lt o) (x ∷ y ∷ ys) (cond (is_eq o) (the_new y x ∷ ys) (y ∷ put cmp the_new x ys)) ++ zs)
  apart_put_at x y ys zs Less e a go = to_front (y ∷ ys) x zs a
  apart_put_at x y ys zs Equal e a go =
      let front = to_front (y ∷ ys) x zs a in
      let contrary : true ≡ false = sym (ap is_eq e) ∙ front.0 y (inl refl) in cc
  apart_put_at x y ys zs Greater e a go = (λ w h. a.0 w (of_put x ys zs w h), go a.1)

  pub apart_put : (x : X) (ys zs : List X) → Apart (ys ++ x ∷ zs) → Apart (put cmp the_new x ys ++ zs)
  apart_put x [] zs a = a
  apart_put x (y ∷ ys) zs a = apart_put_at x y ys zs (cmp x y) refl a (apart_put x ys zs)

  into_put_at : (x y : X) (ys zs : List X) (w : X) (o : Ordering) → is_eq o ≡ false → (Among w (ys ++ x ∷ zs) → Among w (put cmp the_new x ys ++ zs)) →
      Among w ((y ∷ ys) ++ x ∷ zs) → Among w (x ∷ ((y ∷ ys) ++ zs)) → Among w (cond (is_lt o) (x ∷ y ∷ ys) (cond (is_eq o) (the_new y x ∷ ys) (y ∷ put cmp the_new x ys)) ++ zs)
  into_put_at x y ys zs w Less e go h k = k
  into_put_at x y ys zs w Equal e go h k = cc
  into_put_at x y ys zs w Greater e go (inl is) k = inl is
  into_put_at x y ys zs w Greater e go (inr later) k = inr (go later)

  front : (ys : List X) (x : X) (zs : List X) (w : X) → Among w (ys ++ x ∷ zs) → Among w (x ∷ (ys ++ zs))
  front [] x zs w h = h
  front (y ∷ ys) x zs w (inl is) = inr (inl is)
  front (y ∷ ys) x zs w (inr later) = elim (front ys x zs w later) [ inl is ↦ inl is | inr h ↦ inr (inr h) ]

  pub into_put : (x : X) (ys zs : List X) → Apart (ys ++ x ∷ zs) → (w : X) → Among w (ys ++ x ∷ zs) → Among w (put cmp the_new x ys ++ zs)
  into_put x [] zs a w h = h
  into_put x (y ∷ ys) zs a w h =
      into_put_at x y ys zs w (cmp x y) ((to_front (y ∷ ys) x zs a).0 y (inl refl)) (into_put x ys zs a.1 w) h (front (y ∷ ys) x zs w h)

  pub first_apart : (ys : List X) (x : X) (zs : List X) → Apart (ys ++ x ∷ zs) → (w : X) → Among w ys → is_eq (cmp x w) ≡ false
  first_apart ys x zs a w h = (to_front ys x zs a).0 w (among_left ys w h) where
    among_left : (l : List X) (w : X) → Among w l → Among w (l ++ zs)
    among_left [] w h = absurd h
    among_left (z ∷ l) w (inl is) = inl is
    among_left (z ∷ l) w (inr later) = inr (among_left l w later)

  pub of_put_of : (x : X) (ys zs : List X) (w : X) → Among w (put cmp the_new x ys ++ zs) → Among w (ys ++ x ∷ zs)
  of_put_of x ys zs w h = of_put x ys zs w h

  -- ---- rising

  module _ (Fits : X → Type 0) (follows : (x y z : X) → Fits x → Fits y → Fits z → cmp x y ≡ Less → cmp y z ≡ Less → cmp x z ≡ Less) where
    less_back : (x y : X) → cmp x y ≡ Greater → cmp y x ≡ Less
    less_back x y e = reversed y x ∙ ap ordering_reverse e

    rising_put_at : (x y : X) (ys : List X) (o : Ordering) → cmp x y ≡ o → is_eq (cmp x y) ≡ false → ((w : X) → Among w (x ∷ y ∷ ys) → Fits w) → Rising cmp (y ∷ ys) → Rising cmp (put cmp the_new x ys) →
        Rising cmp (cond (is_lt o) (x ∷ y ∷ ys) (cond (is_eq o) (the_new y x ∷ ys) (y ∷ put cmp the_new x ys)))
    rising_put_at x y ys Less e apart fit r go = (
      λ w h. elim h [
        | inl is ↦ sym (ap (cmp x) is) ∙ e
        | inr later ↦ follows x y w (fit x (inl refl)) (fit y (inr (inl refl))) (fit w (inr (inr later))) e (r.0 w later)
      ],
      r,
    )
    rising_put_at x y ys Equal e apart fit r go = let contrary : true ≡ false = sym (ap is_eq e) ∙ apart in cc
    rising_put_at x y ys Greater e apart fit r go = (
      λ w h. elim (split w (of_put x ys [] w (nil_right w h))) [
        | inl later ↦ r.0 w later
        | inr is ↦ sym (ap (cmp y) is) ∙ less_back x y e
      ],
      go,
    ) where
      nil_right : (w : X) → Among w (put cmp the_new x ys) → Among w (put cmp the_new x ys ++ [])
      nil_right w h = more (put cmp the_new x ys) w h where
        more : (l : List X) (w : X) → Among w l → Among w (l ++ [])
        more [] w h = h
        more (z ∷ l) w (inl is) = inl is
        more (z ∷ l) w (inr later) = inr (more l w later)

      split : (w : X) → Among w (ys ++ x ∷ []) → Among w ys ⊎ (x ≡ w)
      split w h = parts ys w h where
        parts : (l : List X) (w : X) → Among w (l ++ x ∷ []) → Among w l ⊎ (x ≡ w)
        parts [] w (inl is) = inr is
        parts [] w (inr h) = absurd h
        parts (z ∷ l) w (inl is) = inl (inl is)
        parts (z ∷ l) w (inr later) = elim (parts l w later) [ inl h ↦ inl (inr h) | inr is ↦ inr is ]

    pub rising_put : (x : X) (ys : List X) → ((w : X) → Among w ys → is_eq (cmp x w) ≡ false) → ((w : X) → Among w (x ∷ ys) → Fits w) → Rising cmp ys → Rising cmp (put cmp the_new x ys)
    rising_put x [] apart fit r = (λ w h. absurd h, tt)
    rising_put x (y ∷ ys) apart fit r =
        rising_put_at x y ys (cmp x y) refl (apart y (inl refl)) fit r
        (rising_put x ys (λ w h. apart w (inr h)) (λ w h. fit w (elim h [ inl is ↦ inl is | inr later ↦ inr (inr later) ])) r.1)

-- ---- the order of values of one type

texts_total : IsTotalOrder (slice_cmp nat_cmp)
texts_total = lists_total nat_cmp_total

value_reversed : (a b : Value) → order_of a b ≡ ordering_reverse (order_of b a)
value_reversed Null Null = refl
value_reversed Null (Int y) = refl
value_reversed Null (Text y) = refl
value_reversed Null (Boolean y) = refl
value_reversed (Int x) Null = refl
value_reversed (Int x) (Int y) = int_cmp_total.antisymm x y
value_reversed (Int x) (Text y) = refl
value_reversed (Int x) (Boolean y) = refl
value_reversed (Text x) Null = refl
value_reversed (Text x) (Int y) = refl
value_reversed (Text x) (Text y) = texts_total.antisymm x y
value_reversed (Text x) (Boolean y) = refl
value_reversed (Boolean x) Null = refl
value_reversed (Boolean x) (Int y) = refl
value_reversed (Boolean x) (Text y) = refl
value_reversed (Boolean x) (Boolean y) = bool_cmp_total.antisymm x y

-- an equal value stands as the other does
value_alike : (t : Option ColumnType) (a b c : Value) → is_of t a ≡ true → is_of t b ≡ true → is_of t c ≡ true → order_of a b ≡ Equal → order_of a c ≡ order_of b c
value_alike t Null Null c fa fb fc e = refl
value_alike t Null (Int y) c fa fb fc e = cc
value_alike t Null (Text y) c fa fb fc e = cc
value_alike t Null (Boolean y) c fa fb fc e = cc
value_alike t (Int x) Null c fa fb fc e = cc
value_alike t (Text x) Null c fa fb fc e = cc
value_alike t (Boolean x) Null c fa fb fc e = cc
value_alike t (Int x) (Int y) Null fa fb fc e = refl
value_alike t (Int x) (Int y) (Int z) fa fb fc e = int_cmp_total.congr x y z e
value_alike t (Int x) (Int y) (Text z) fa fb fc e = refl
value_alike t (Int x) (Int y) (Boolean z) fa fb fc e = refl
value_alike t (Text x) (Text y) Null fa fb fc e = refl
value_alike t (Text x) (Text y) (Int z) fa fb fc e = refl
value_alike t (Text x) (Text y) (Text z) fa fb fc e = texts_total.congr x y z e
value_alike t (Text x) (Text y) (Boolean z) fa fb fc e = refl
value_alike t (Boolean x) (Boolean y) Null fa fb fc e = refl
value_alike t (Boolean x) (Boolean y) (Int z) fa fb fc e = refl
value_alike t (Boolean x) (Boolean y) (Text z) fa fb fc e = refl
value_alike t (Boolean x) (Boolean y) (Boolean z) fa fb fc e = bool_cmp_total.congr x y z e
value_alike None (Int x) (Text y) c fa fb fc e = cc
value_alike (Some types.BigInt) (Int x) (Text y) c fa fb fc e = cc
value_alike (Some types.Text) (Int x) (Text y) c fa fb fc e = cc
value_alike (Some types.Boolean) (Int x) (Text y) c fa fb fc e = cc
value_alike None (Int x) (Boolean y) c fa fb fc e = cc
value_alike (Some types.BigInt) (Int x) (Boolean y) c fa fb fc e = cc
value_alike (Some types.Text) (Int x) (Boolean y) c fa fb fc e = cc
value_alike (Some types.Boolean) (Int x) (Boolean y) c fa fb fc e = cc
value_alike None (Text x) (Int y) c fa fb fc e = cc
value_alike (Some types.BigInt) (Text x) (Int y) c fa fb fc e = cc
value_alike (Some types.Text) (Text x) (Int y) c fa fb fc e = cc
value_alike (Some types.Boolean) (Text x) (Int y) c fa fb fc e = cc
value_alike None (Text x) (Boolean y) c fa fb fc e = cc
value_alike (Some types.BigInt) (Text x) (Boolean y) c fa fb fc e = cc
value_alike (Some types.Text) (Text x) (Boolean y) c fa fb fc e = cc
value_alike (Some types.Boolean) (Text x) (Boolean y) c fa fb fc e = cc
value_alike None (Boolean x) (Int y) c fa fb fc e = cc
value_alike (Some types.BigInt) (Boolean x) (Int y) c fa fb fc e = cc
value_alike (Some types.Text) (Boolean x) (Int y) c fa fb fc e = cc
value_alike (Some types.Boolean) (Boolean x) (Int y) c fa fb fc e = cc
value_alike None (Boolean x) (Text y) c fa fb fc e = cc
value_alike (Some types.BigInt) (Boolean x) (Text y) c fa fb fc e = cc
value_alike (Some types.Text) (Boolean x) (Text y) c fa fb fc e = cc
value_alike (Some types.Boolean) (Boolean x) (Text y) c fa fb fc e = cc

value_follows : (t : Option ColumnType) (a b c : Value) → is_of t a ≡ true → is_of t b ≡ true → is_of t c ≡ true → order_of a b ≡ Less → order_of b c ≡ Less → order_of a c ≡ Less
value_follows t Null b c fa fb fc e f = null_first b e where
  null_first : (b : Value) → order_of Null b ≡ Less → order_of Null c ≡ Less
  null_first Null e = cc
  null_first (Int y) e = cc
  null_first (Text y) e = cc
  null_first (Boolean y) e = cc
value_follows t (Int x) (Int y) (Int z) fa fb fc e f = int_cmp_total.trans x y z e f
value_follows t (Int x) (Int y) Null fa fb fc e f = refl
value_follows t (Int x) (Int y) (Text z) fa fb fc e f = cc
value_follows t (Int x) (Int y) (Boolean z) fa fb fc e f = cc
value_follows t (Int x) Null Null fa fb fc e f = cc
value_follows t (Int x) Null (Int z) fa fb fc e f = cc
value_follows t (Int x) Null (Text z) fa fb fc e f = cc
value_follows t (Int x) Null (Boolean z) fa fb fc e f = cc
value_follows t (Int x) (Text y) c fa fb fc e f = cc
value_follows t (Int x) (Boolean y) c fa fb fc e f = cc
value_follows t (Text x) (Text y) (Text z) fa fb fc e f = texts_total.trans x y z e f
value_follows t (Text x) (Text y) Null fa fb fc e f = refl
value_follows t (Text x) (Text y) (Int z) fa fb fc e f = cc
value_follows t (Text x) (Text y) (Boolean z) fa fb fc e f = cc
value_follows t (Text x) Null Null fa fb fc e f = cc
value_follows t (Text x) Null (Int z) fa fb fc e f = cc
value_follows t (Text x) Null (Text z) fa fb fc e f = cc
value_follows t (Text x) Null (Boolean z) fa fb fc e f = cc
value_follows t (Text x) (Int y) c fa fb fc e f = cc
value_follows t (Text x) (Boolean y) c fa fb fc e f = cc
value_follows t (Boolean x) (Boolean y) (Boolean z) fa fb fc e f = bool_cmp_total.trans x y z e f
value_follows t (Boolean x) (Boolean y) Null fa fb fc e f = refl
value_follows t (Boolean x) (Boolean y) (Int z) fa fb fc e f = cc
value_follows t (Boolean x) (Boolean y) (Text z) fa fb fc e f = cc
value_follows t (Boolean x) Null Null fa fb fc e f = cc
value_follows t (Boolean x) Null (Int z) fa fb fc e f = cc
value_follows t (Boolean x) Null (Text z) fa fb fc e f = cc
value_follows t (Boolean x) Null (Boolean z) fa fb fc e f = cc
value_follows t (Boolean x) (Int y) c fa fb fc e f = cc
value_follows t (Boolean x) (Text y) c fa fb fc e f = cc

-- ---- the order of rows

reverse_then : (o p : Ordering) → ordering_then (ordering_reverse o) (ordering_reverse p) ≡ ordering_reverse (ordering_then o p)
reverse_then Less p = refl
reverse_then Equal p = refl
reverse_then Greater p = refl

pub row_reversed : (key : List ℕ) (a b : Row) → row_cmp key a b ≡ ordering_reverse (row_cmp key b a)
row_reversed [] a b = refl
row_reversed (p ∷ ps) a b =
    ap (λ o. ordering_then o (row_cmp ps a b)) (value_reversed (value_at a p) (value_at b p))
    ∙ ap (λ o. ordering_then (ordering_reverse (order_of (value_at b p) (value_at a p))) o) (row_reversed ps a b)
    ∙ reverse_then (order_of (value_at b p) (value_at a p)) (row_cmp ps b a)

-- each value of the row is null or of its column's type
abbrev pub RowFits : List Column → Row → Type 0
RowFits columns row = (index : ℕ) → is_of (type_of (slice_get columns index)) (value_at row index) ≡ true

module _ (columns : List Column) where
  first_follows : (key : List ℕ) (p : ℕ) (a b c : Row) → RowFits columns a → RowFits columns b → RowFits columns c →
      ((row_cmp key a b ≡ Less) → (row_cmp key b c ≡ Less) → row_cmp key a c ≡ Less) →
      (o q : Ordering) → order_of (value_at a p) (value_at b p) ≡ o → order_of (value_at b p) (value_at c p) ≡ q →
      ordering_then o (row_cmp key a b) ≡ Less → ordering_then q (row_cmp key b c) ≡ Less → ordering_then (order_of (value_at a p) (value_at c p)) (row_cmp key a c) ≡ Less
  first_follows key p a b c fa fb fc go Less Less e f x y =
      ap (λ o. ordering_then o (row_cmp key a c)) (value_follows (type_of (slice_get columns p)) (value_at a p) (value_at b p) (value_at c p) (fa p) (fb p) (fc p) e f)
  first_follows key p a b c fa fb fc go Less Equal e f x y =
      let back : order_of (value_at c p) (value_at b p) ≡ Equal = value_reversed (value_at c p) (value_at b p) ∙ ap ordering_reverse f in
      let alike : order_of (value_at c p) (value_at a p) ≡ order_of (value_at b p) (value_at a p) = value_alike (type_of (slice_get columns p)) (value_at c p) (value_at b p) (value_at a p) (fc p) (fb p) (fa p) back in
      let less : order_of (value_at a p) (value_at c p) ≡ Less =
      value_reversed (value_at a p) (value_at c p) ∙ ap ordering_reverse alike ∙ sym (value_reversed (value_at a p) (value_at b p)) ∙ e in
      ap (λ o. ordering_then o (row_cmp key a c)) less
  first_follows key p a b c fa fb fc go Less Greater e f x y = cc
  first_follows key p a b c fa fb fc go Equal Less e f x y =
      ap (λ o. ordering_then o (row_cmp key a c)) (value_alike (type_of (slice_get columns p)) (value_at a p) (value_at b p) (value_at c p) (fa p) (fb p) (fc p) e ∙ f)
  first_follows key p a b c fa fb fc go Equal Equal e f x y =
      ap (λ o. ordering_then o (row_cmp key a c)) (value_alike (type_of (slice_get columns p)) (value_at a p) (value_at b p) (value_at c p) (fa p) (fb p) (fc p) e ∙ f) ∙ go x y
  first_follows key p a b c fa fb fc go Equal Greater e f x y = cc
  first_follows key p a b c fa fb fc go Greater q e f x y = cc

  pub row_follows : (key : List ℕ) (a b c : Row) → RowFits columns a → RowFits columns b → RowFits columns c → row_cmp key a b ≡ Less → row_cmp key b c ≡ Less → row_cmp key a c ≡ Less
  row_follows [] a b c fa fb fc e f = cc
  row_follows (p ∷ ps) a b c fa fb fc e f =
      first_follows ps p a b c fa fb fc (row_follows ps a b c fa fb fc) (order_of (value_at a p) (value_at b p)) (order_of (value_at b p) (value_at c p)) refl refl e f

-- ---- distinct keys

twin_at : (key : List ℕ) (x z y : Row) (zs : List Row) (b : Bool) → is_eq (row_cmp key x z) ≡ b → (b || list_any (λ other. is_eq (row_cmp key x other)) zs) ≡ false →
    (list_any (λ other. is_eq (row_cmp key x other)) zs ≡ false → Among y zs → is_eq (row_cmp key x y) ≡ false) → (z ≡ y) ⊎ Among y zs → is_eq (row_cmp key x y) ≡ false
twin_at key x z y zs true b e go h = cc
twin_at key x z y zs false b e go (inl is) = sym (ap (λ w. is_eq (row_cmp key x w)) is) ∙ b
twin_at key x z y zs false b e go (inr later) = go e later

no_twin : (key : List ℕ) (x : Row) (ys : List Row) → list_any (λ other. is_eq (row_cmp key x other)) ys ≡ false → (y : Row) → Among y ys → is_eq (row_cmp key x y) ≡ false
no_twin key x [] e y h = absurd h
no_twin key x (z ∷ zs) e y h = twin_at key x z y zs (is_eq (row_cmp key x z)) refl e (λ f k. no_twin key x zs f y k) h

no_twins : (key : List ℕ) (x : Row) (ys : List Row) → ((y : Row) → Among y ys → is_eq (row_cmp key x y) ≡ false) → list_any (λ other. is_eq (row_cmp key x other)) ys ≡ false
no_twins key x [] h = refl
no_twins key x (z ∷ zs) h = ap (λ b. b || list_any (λ other. is_eq (row_cmp key x other)) zs) (h z (inl refl)) ∙ no_twins key x zs (λ y k. h y (inr k))

or_parts : (a b : Bool) → (a || b) ≡ false → (a ≡ false) × (b ≡ false)
or_parts true b e = cc
or_parts false b e = (refl, e)

pub apart_of : (key : List ℕ) (rows : List Row) → has_double_key key rows ≡ false → Apart (row_cmp key) (row_reversed key) rows
apart_of key [] e = tt
apart_of key (x ∷ xs) e =
    let parts = or_parts (list_any (λ other. is_eq (row_cmp key x other)) xs) (has_double_key key xs) e in
    (no_twin key x xs parts.0, apart_of key xs parts.1)

pub of_apart : (key : List ℕ) (rows : List Row) → Apart (row_cmp key) (row_reversed key) rows → has_double_key key rows ≡ false
of_apart key [] a = refl
of_apart key (x ∷ xs) a = ap (λ b. b || has_double_key key xs) (no_twins key x xs a.0) ∙ of_apart key xs a.1
