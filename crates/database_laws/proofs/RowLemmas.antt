-- What the rows of a table are after a statement that changes them.
use Rattle.std.proofs.Common.{◌≡◌, ◌⊎◌, ℕ, Bool, true, false, not, cond, is_none, List, [], ◌∷◌, ◌++◌, Result, Ok, Option, Some, None, refl, sym, ap, ◌∙◌, subst, inl, inr, Ordering, option_to_list, Err}
use Rattle.std.specs.List.{list_all}
use Rattle.std.specs.Ordering.{ordering_reverse}
use Rattle.sql_types.specs.declared.state.SqlState.{SqlState}
use Rattle.sql_types.specs.declared.state.SqlState.TheVariants.{NotNullViolation, ProgramLimitExceeded, UniqueViolation}
use Rattle.sql_types.specs.declared.value.Value.{Value}
use Rattle.sql_types.specs.declared.value.Value.TheVariants.{Null, Int, Text, Bool as Boolean}
use Rattle.sql_ast.specs.declared.columns.Column.{Column}
use Rattle.sql_ast.specs.Layout.{Layout, all_differ, same_name}
use Rattle.expressions.specs.Outcome.{Outcome}
use Rattle.abstract_database.specs.Lists.{Among, put, the_new, Rising}
use Rattle.expressions.specs.Stages.{◌>>=◌, require, each}
use Rattle.abstract_database.specs.Database.{Table}
use Rattle.sql_types.specs.Row.{Row}
use Rattle.abstract_database.specs.Expressions.{when_true}
use Rattle.abstract_database.specs.Guards.{Guard}
use Rattle.sql_ast.specs.Rows.{fits_record, row_cmp}
use Rattle.abstract_database.specs.Changes.{has_double_key, with_rows, keeps_not_null, is_admitted, checked_rows, Chosen, choose, other_rows, new_rows, IsInKeyOrder}
use Rattle.database_laws.specs.Tables.{HasDistinctKeys, KeepsNotNull, HasTypes}
use Rattle.std.proofs.lemmas.Bool.{and_parts}
use Rattle.abstract_database.proofs.ResultLemmas.{ok_inside, bind_ok, require_ok, Every, every_bind, every_ok}
use Rattle.abstract_database.proofs.RowOrder.{RowFits, Apart, row_reversed, row_follows, rising_put, apart_put, into_put, of_put_of, first_apart, apart_of, of_apart}

-- ---- parts of a list, in its order

pub data Part {X : Type 0} : List X → List X → Type 0 where
  none : Part [] []
  keep : {x : X} {xs ys : List X} → Part xs ys → Part (x ∷ xs) (x ∷ ys)
  skip : {y : X} {xs ys : List X} → Part xs ys → Part xs (y ∷ ys)

pub whole : {X : Type 0} (xs : List X) → Part xs xs
whole [] = none
whole (x ∷ xs) = keep (whole xs)

pub of_part : {X : Type 0} {xs ys : List X} → Part xs ys → (z : X) → Among z xs → Among z ys
of_part none z h = h
of_part (keep p) z (inl is) = inl is
of_part (keep p) z (inr later) = inr (of_part p z later)
of_part (skip p) z h = inr (of_part p z h)

pub rising_part : {X : Type 0} (cmp : X → X → Ordering) {xs ys : List X} → Part xs ys → Rising cmp ys → Rising cmp xs
rising_part cmp none r = r
rising_part cmp (keep p) r = (λ y h. r.0 y (of_part p y h), rising_part cmp p r.1)
rising_part cmp (skip p) r = rising_part cmp p r.1

module _ {X : Type 0} (cmp : X → X → Ordering) (reversed : (x y : X) → cmp x y ≡ ordering_reverse (cmp y x)) where
  pub apart_part : {xs ys : List X} → Part xs ys → Apart cmp reversed ys → Apart cmp reversed xs
  apart_part none a = a
  apart_part (keep p) a = (λ y h. a.0 y (of_part p y h), apart_part p a.1)
  apart_part (skip p) a = apart_part p a.1

-- ---- new rows in key order

no_more : (l : List Row) → l ++ [] ≡ l
no_more [] = refl
no_more (z ∷ l) = ap (λ t. z ∷ t) (no_more l)

apart_with : (key : List ℕ) (new kept : List Row) → Apart (row_cmp key) (row_reversed key) (kept ++ new) → Apart (row_cmp key) (row_reversed key) (with_rows key new kept)
apart_with key [] kept a = subst (λ l. Apart (row_cmp key) (row_reversed key) l) (no_more kept) a
apart_with key (n ∷ ns) kept a = apart_with key ns (put (row_cmp key) the_new n kept) (apart_put (row_cmp key) (row_reversed key) n kept ns a)

pub into_with : (key : List ℕ) (new kept : List Row) → Apart (row_cmp key) (row_reversed key) (kept ++ new) → (w : Row) → Among w (kept ++ new) → Among w (with_rows key new kept)
into_with key [] kept a w h = subst (λ l. Among w l) (no_more kept) h
into_with key (n ∷ ns) kept a w h =
    into_with key ns (put (row_cmp key) the_new n kept) (apart_put (row_cmp key) (row_reversed key) n kept ns a) w (into_put (row_cmp key) (row_reversed key) n kept ns a w h)

pub of_with : (key : List ℕ) (new kept : List Row) (w : Row) → Among w (with_rows key new kept) → Among w (kept ++ new)
of_with key [] kept w h = subst (λ l. Among w l) (sym (no_more kept)) h
of_with key (n ∷ ns) kept w h = of_put_of (row_cmp key) (row_reversed key) n kept ns w (of_with key ns (put (row_cmp key) the_new n kept) w h)

left_of : (l zs : List Row) (w : Row) → Among w l → Among w (l ++ zs)
left_of [] zs w h = absurd h
left_of (z ∷ l) zs w (inl is) = inl is
left_of (z ∷ l) zs w (inr later) = inr (left_of l zs w later)

middle : (l : List Row) (x : Row) (zs : List Row) → Among x (l ++ x ∷ zs)
middle [] x zs = inl refl
middle (z ∷ l) x zs = inr (middle l x zs)

rising_with : (columns : List Column) (key : List ℕ) (new kept : List Row) → Apart (row_cmp key) (row_reversed key) (kept ++ new) →
    ((w : Row) → Among w (kept ++ new) → RowFits columns w) → Rising (row_cmp key) kept → Rising (row_cmp key) (with_rows key new kept)
rising_with columns key [] kept a fit r = r
rising_with columns key (n ∷ ns) kept a fit r =
    rising_with columns key ns (put (row_cmp key) the_new n kept) (apart_put (row_cmp key) (row_reversed key) n kept ns a)
    (λ w h. fit w (of_put_of (row_cmp key) (row_reversed key) n kept ns w h))
    (rising_put (row_cmp key) (row_reversed key) (RowFits columns) (λ x y z fx fy fz e f. row_follows columns key x y z fx fy fz e f) n kept
    (first_apart (row_cmp key) (row_reversed key) kept n ns a)
    (λ w h. elim h [ inl is ↦ subst (λ v. RowFits columns v) is (fit n (middle kept n ns)) | inr later ↦ fit w (left_of kept (n ∷ ns) w later) ]) r)

-- ---- checked rows

pub record Checked (layout : Layout) (kept new rows : List Row) : Type 0 where
  pub not_null : list_all (keeps_not_null layout.columns) new ≡ true
  pub unique : has_double_key layout.key (kept ++ new) ≡ false
  pub is : rows ≡ with_rows layout.key new kept

not_false : (b : Bool) → not b ≡ true → b ≡ false
not_false true e = cc
not_false false e = refl

pub checked : (layout : Layout) (guard : Guard) (kept new : List Row) → Every (Checked layout kept new) (checked_rows layout guard kept new)
checked layout guard kept new =
    every_bind (Checked layout kept new) (each (is_admitted guard) new) _ (λ l a.
    every_bind (Checked layout kept new) (require (list_all (keeps_not_null layout.columns) new) NotNullViolation) _ (λ u b.
    every_bind (Checked layout kept new) (require (list_all (fits_record layout) new) ProgramLimitExceeded) _ (λ v c.
    every_bind (Checked layout kept new) (require (not (has_double_key layout.key (kept ++ new))) UniqueViolation) _ (λ w d.
    every_ok (Checked layout kept new) (with_rows layout.key new kept) (record {
      not_null = require_ok (list_all (keeps_not_null layout.columns) new) NotNullViolation u b;
      unique = not_false (has_double_key layout.key (kept ++ new)) (require_ok (not (has_double_key layout.key (kept ++ new))) UniqueViolation w d);
      is = refl;
    })))))

-- what a statement may leave of the rows of a table: part of them, or part of them and new ones that were checked
pub data Written (t : Table) (rows : List Row) : Type 0 where
  removed : Part rows t.rows → Written t rows
  wrote : (kept new : List Row) → Part kept t.rows → Checked t.definition.layout kept new rows →
      (all_differ same_name t.definition.layout.columns ≡ true → HasTypes t → (row : Row) → Among row new → RowFits t.definition.layout.columns row) → Written t rows

-- ---- what UPDATE and DELETE choose

abbrev pub ChosenOf : (Row → Result Row SqlState) → Row → Chosen → Type 0
ChosenOf becomes row c = (c.row ≡ row) × ((r : Row) → c.new ≡ Some r → becomes row ≡ Ok r)

becomes_of : (expected : Value) (b : Result Row SqlState) (new : Option Row) (r : Row) → when_true expected (b >>= λ x. Ok (Some x)) (Ok None) ≡ Ok new → new ≡ Some r → b ≡ Ok r
becomes_of (Boolean true) (Ok x) new r e f = cc
becomes_of (Boolean true) (Err code) new r e f = cc
becomes_of (Boolean false) b new r e f = cc
becomes_of Null b new r e f = cc
becomes_of (Int n) b new r e f = cc
becomes_of (Text t) b new r e f = cc

pub chosen_row : (guard : Guard) (condition : Row → Outcome) (becomes : Row → Result Row SqlState) (row : Row) → Every (ChosenOf becomes row) (choose guard condition becomes row)
chosen_row guard condition becomes row =
    every_bind (ChosenOf becomes row) (guard row) _ (λ seen a.
    every_bind (ChosenOf becomes row) (when_true seen (condition row) (Ok (Boolean false))) _ (λ expected b.
    every_bind (ChosenOf becomes row) (when_true expected (becomes row >>= λ r. Ok (Some r)) (Ok None)) _ (λ new c.
    every_ok (ChosenOf becomes row) (record { row = row; new = new }) (refl, λ r e. becomes_of expected (becomes row) new r c e))))

new_row_at : (o : Option Row) (c : Chosen) (cs : List Chosen) (row : Row) → c.new ≡ o → (Among row (new_rows cs) → (d : Chosen) × Among d cs × (d.new ≡ Some row)) →
    Among row (option_to_list o ++ new_rows cs) → (d : Chosen) × Among d (c ∷ cs) × (d.new ≡ Some row)
new_row_at None c cs row e go h = let found = go h in (found.0, inr found.1, found.2)
new_row_at (Some x) c cs row e go (inl is) = (c, inl refl, e ∙ ap (λ y. Some y) is)
new_row_at (Some x) c cs row e go (inr later) = let found = go later in (found.0, inr found.1, found.2)

pub of_new_rows : (chosen : List Chosen) (row : Row) → Among row (new_rows chosen) → (c : Chosen) × Among c chosen × (c.new ≡ Some row)
of_new_rows [] row h = absurd h
of_new_rows (c ∷ cs) row h = new_row_at c.new c cs row refl (of_new_rows cs row) h

others_at : (c : Chosen) (row : Row) (cs : List Chosen) (rows : List Row) (b : Bool) → c.row ≡ row → Part (other_rows cs) rows → Part (cond b (c.row ∷ []) [] ++ other_rows cs) (row ∷ rows)
others_at c row cs rows true e p = subst (λ r. Part (r ∷ other_rows cs) (row ∷ rows)) (sym e) (keep p)
others_at c row cs rows false e p = skip p

pub others_part : (becomes : Row → Result Row SqlState) (f : Row → Result Chosen SqlState) → ((row : Row) → Every (ChosenOf becomes row) (f row)) → (rows : List Row) (chosen : List Chosen) → each f rows ≡ Ok chosen → Part (other_rows chosen) rows
others_part becomes f of [] chosen e = subst (λ l. Part (other_rows l) []) (ok_inside [] chosen e) none
others_part becomes f of (row ∷ rows) chosen e =
    let first = bind_ok (f row) (λ y. each f rows >>= λ l. Ok (y ∷ l)) chosen e in
    let rest = bind_ok (each f rows) (λ l. Ok (first.0 ∷ l)) chosen first.2 in
    subst (λ l. Part (other_rows l) (row ∷ rows)) (ok_inside (first.0 ∷ rest.0) chosen rest.2)
    (others_at first.0 row rest.0 rows (is_none first.0.new) (of row first.0 first.1).0 (others_part becomes f of rows rest.0 rest.1))

-- ---- what is left is sound

pub all_of_list : {X : Type 0} (f : X → Bool) (xs : List X) → list_all f xs ≡ true → (x : X) → Among x xs → f x ≡ true
all_of_list f [] e x h = absurd h
all_of_list f (y ∷ ys) e x h = let parts = and_parts (f y) (list_all f ys) e in elim h [ inl is ↦ sym (ap f is) ∙ parts.0 | inr later ↦ all_of_list f ys parts.1 x later ]

pub either_side : (xs ys : List Row) (w : Row) → Among w (xs ++ ys) → Among w xs ⊎ Among w ys
either_side [] ys w h = inr h
either_side (x ∷ xs) ys w (inl is) = inl (inl is)
either_side (x ∷ xs) ys w (inr later) = elim (either_side xs ys w later) [ inl h ↦ inl (inr h) | inr h ↦ inr h ]

pub written_distinct : (t : Table) (rows : List Row) → HasDistinctKeys t → Written t rows → HasDistinctKeys (record t { rows = rows })
written_distinct t rows q (removed p) = of_apart t.definition.layout.key rows (apart_part (row_cmp t.definition.layout.key) (row_reversed t.definition.layout.key) p (apart_of t.definition.layout.key t.rows q))
written_distinct t rows q (wrote kept new p c f) =
    subst (λ l. has_double_key t.definition.layout.key l ≡ false) (sym c.is) (of_apart t.definition.layout.key (with_rows t.definition.layout.key new kept) (apart_with t.definition.layout.key new kept (apart_of t.definition.layout.key (kept ++ new) c.unique)))

pub written_not_null : (t : Table) (rows : List Row) → KeepsNotNull t → Written t rows → KeepsNotNull (record t { rows = rows })
written_not_null t rows q (removed p) = λ row h. q row (of_part p row h)
written_not_null t rows q (wrote kept new p c f) = λ row h.
    elim (either_side kept new row (of_with t.definition.layout.key new kept row (subst (λ l. Among row l) c.is h))) [
      | inl old ↦ q row (of_part p row old)
      | inr fresh ↦ all_of_list (keeps_not_null t.definition.layout.columns) new c.not_null row fresh
    ]

pub written_rising : (t : Table) (rows : List Row) → HasTypes (record t { rows = rows }) → IsInKeyOrder t → Written t rows → IsInKeyOrder (record t { rows = rows })
written_rising t rows types q (removed p) = rising_part (row_cmp t.definition.layout.key) p q
written_rising t rows types q (wrote kept new p c f) =
    let apart = apart_of t.definition.layout.key (kept ++ new) c.unique in
    subst (λ l. Rising (row_cmp t.definition.layout.key) l) (sym c.is)
    (rising_with t.definition.layout.columns t.definition.layout.key new kept apart
    (λ w h. types w (subst (λ l. Among w l) (sym c.is) (into_with t.definition.layout.key new kept apart w h)))
    (rising_part (row_cmp t.definition.layout.key) p q))

pub written_types : (t : Table) (rows : List Row) → all_differ same_name t.definition.layout.columns ≡ true → HasTypes t → Written t rows → HasTypes (record t { rows = rows })
written_types t rows d q (removed p) = λ row h. q row (of_part p row h)
written_types t rows d q (wrote kept new p c f) = λ row h.
    elim (either_side kept new row (of_with t.definition.layout.key new kept row (subst (λ l. Among row l) c.is h))) [
      | inl old ↦ q row (of_part p row old)
      | inr fresh ↦ f d q row fresh
    ]
