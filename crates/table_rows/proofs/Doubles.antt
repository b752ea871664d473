-- Two rows with one key.
use Rattle.std.proofs.Common.{◌≡◌, ℕ, Bool, true, false, ◌||◌, if◌then◌else◌, List, [], ◌∷◌, ◌++◌, refl, sym, ap, ◌∙◌, inl, inr}
use Rattle.std.specs.List.{list_any}
use Rattle.std.specs.declared.cmp.Ordering.{Ordering}
use Rattle.std.specs.declared.cmp.Ordering.TheVariants.{Less, Equal, Greater}
use Rattle.std.specs.Ordering.{is_lt, is_eq, ordering_reverse}
use Rattle.sql_types.specs.Row.{Row}
use Rattle.sql_ast.specs.Rows.{row_cmp}
use Rattle.abstract_database.specs.Lists.{Among, Rising, put, the_new}
use Rattle.abstract_database.specs.Changes.{has_double_key}
use Rattle.abstract_database.proofs.RowOrder.{row_reversed}

pub or_parts : (a b : Bool) → (a || b) ≡ false → (a ≡ false) × (b ≡ false)
or_parts true b e = cc
or_parts false b e = (refl, e)

swap : (a b c : Bool) → (a || (b || c)) ≡ (b || (a || c))
swap true true c = refl
swap true false c = refl
swap false b c = refl

shuffle : (s a b c : Bool) → ((s || a) || (b || c)) ≡ ((s || b) || (a || c))
shuffle true a b c = refl
shuffle false true true c = refl
shuffle false true false c = refl
shuffle false false b c = refl

pub any_middle : (f : Row → Bool) (ys : List Row) (x : Row) (zs : List Row) → list_any f (ys ++ x ∷ zs) ≡ (f x || list_any f (ys ++ zs))
any_middle f [] x zs = refl
any_middle f (y ∷ ys) x zs = ap (λ b. f y || b) (any_middle f ys x zs) ∙ swap (f y) (f x) (list_any f (ys ++ zs))

any_left : (f : Row → Bool) (ys zs : List Row) → list_any f ys ≡ true → list_any f (ys ++ zs) ≡ true
any_left f [] zs e = cc
any_left f (y ∷ ys) zs e = go (f y) e (any_left f ys zs)
  where
    go : (b : Bool) → (b || list_any f ys) ≡ true → (list_any f ys ≡ true → list_any f (ys ++ zs) ≡ true) → (b || list_any f (ys ++ zs)) ≡ true
    go true e later = refl
    go false e later = later e

is_eq_reversed : (o : Ordering) → is_eq (ordering_reverse o) ≡ is_eq o
is_eq_reversed Less = refl
is_eq_reversed Equal = refl
is_eq_reversed Greater = refl

module _ (key : List ℕ) where
  abbrev same : Row → Row → Bool
  same a b = is_eq (row_cmp key a b)

  same_back : (a b : Row) → same a b ≡ same b a
  same_back a b = ap is_eq (row_reversed key a b) ∙ is_eq_reversed (row_cmp key b a)

  -- a row in the middle may stand in front
  pub double_front : (ys : List Row) (x : Row) (zs : List Row) → has_double_key key (ys ++ x ∷ zs) ≡ (list_any (λ other. same x other) (ys ++ zs) || has_double_key key (ys ++ zs))
  double_front [] x zs = refl
  double_front (y ∷ ys) x zs =
      ap (λ b. b || has_double_key key (ys ++ x ∷ zs)) (any_middle (λ other. same y other) ys x zs)
      ∙ ap (λ b. (same y x || list_any (λ other. same y other) (ys ++ zs)) || b) (double_front ys x zs)
      ∙ ap (λ b. (b || list_any (λ other. same y other) (ys ++ zs)) || (list_any (λ other. same x other) (ys ++ zs) || has_double_key key (ys ++ zs))) (same_back y x)
      ∙ shuffle (same x y) (list_any (λ other. same y other) (ys ++ zs)) (list_any (λ other. same x other) (ys ++ zs)) (has_double_key key (ys ++ zs))

  -- a row that has the key of one before it is a double
  pub found_double : (ys : List Row) (x : Row) (zs : List Row) → list_any (λ other. is_eq (row_cmp key x other)) ys ≡ true → has_double_key key (ys ++ x ∷ zs) ≡ true
  found_double ys x zs e = double_front ys x zs ∙ ap (λ b. b || has_double_key key (ys ++ zs)) (any_left (λ other. same x other) ys zs e)

  abbrev put_row : Row → List Row → List Row
  put_row x ys = put (row_cmp key) the_new x ys

  any_put : (f : Row → Bool) (x : Row) (ys zs : List Row) → list_any (λ other. same x other) ys ≡ false → list_any f (put_row x ys ++ zs) ≡ list_any f (ys ++ x ∷ zs)
  any_put f x [] zs e = refl
  any_put f x (y ∷ ys) zs e =
      let parts = or_parts (same x y) (list_any (λ other. same x other) ys) e in go (row_cmp key x y) parts.0 (any_put f x ys zs parts.1)
    where
      go : (o : Ordering) → is_eq o ≡ false → list_any f (put_row x ys ++ zs) ≡ list_any f (ys ++ x ∷ zs)
          → list_any f ((if is_lt o then x ∷ y ∷ ys else if is_eq o then x ∷ ys else y ∷ put_row x ys) ++ zs) ≡ (f y || list_any f (ys ++ x ∷ zs))
      go Less apart later = sym (any_middle f (y ∷ ys) x zs)
      go Equal apart later = cc
      go Greater apart later = ap (λ b. f y || b) later

  -- a row whose key no other has may be put in its place
  pub double_put : (x : Row) (ys zs : List Row) → list_any (λ other. is_eq (row_cmp key x other)) ys ≡ false → has_double_key key (put (row_cmp key) the_new x ys ++ zs) ≡ has_double_key key (ys ++ x ∷ zs)
  double_put x [] zs e = refl
  double_put x (y ∷ ys) zs e =
      let parts = or_parts (same x y) (list_any (λ other. same x other) ys) e in go (row_cmp key x y) parts.0 parts.1 (double_put x ys zs parts.1)
    where
      go : (o : Ordering) → is_eq o ≡ false → list_any (λ other. same x other) ys ≡ false → has_double_key key (put_row x ys ++ zs) ≡ has_double_key key (ys ++ x ∷ zs)
          → has_double_key key ((if is_lt o then x ∷ y ∷ ys else if is_eq o then x ∷ ys else y ∷ put_row x ys) ++ zs) ≡ has_double_key key ((y ∷ ys) ++ x ∷ zs)
      go Less apart free later = sym (double_front (y ∷ ys) x zs)
      go Equal apart free later = cc
      go Greater apart free later =
          ap (λ b. b || has_double_key key (put_row x ys ++ zs)) (any_put (λ other. same y other) x ys zs free)
          ∙ ap (λ b. list_any (λ other. same y other) (ys ++ x ∷ zs) || b) later

  none_same : (x : Row) (ys : List Row) → ((y : Row) → Among y ys → row_cmp key x y ≡ Less) → list_any (λ other. same x other) ys ≡ false
  none_same x [] h = refl
  none_same x (y ∷ ys) h = ap (λ o. is_eq o || list_any (λ other. same x other) ys) (h y (inl refl)) ∙ none_same x ys (λ z among. h z (inr among))

  -- rows in the order of their keys have no double
  pub no_double : (rows : List Row) → Rising (row_cmp key) rows → has_double_key key rows ≡ false
  no_double [] r = refl
  no_double (x ∷ xs) r = ap (λ b. b || has_double_key key xs) (none_same x xs r.0) ∙ no_double xs r.1
