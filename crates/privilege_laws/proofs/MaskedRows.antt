-- Keys, checks and choices over rows of which columns are changed.
use Rattle.std.proofs.Common.{◌≡◌, ◌||◌, ℕ, Bool, true, false, not, cond, is_none, map, option_to_list, List, [], ◌∷◌, ◌++◌, Option, Some, None, Result, Ok, Err, refl, sym, ap, ◌∙◌, inl, inr, Ordering, Less, Equal, Greater, is_eq, is_lt}
use Rattle.std.specs.List.{list_any}
use Rattle.std.specs.Option.{option_map}
use Rattle.std.specs.Ordering.{ordering_then}
use Rattle.std.proofs.lemmas.List.{map-append}
use Rattle.sql_types.specs.Row.{Row, value_at}
use Rattle.sql_types.specs.Value.{order_of}
use Rattle.sql_types.specs.declared.state.SqlState.{SqlState}
use Rattle.sql_types.specs.declared.state.SqlState.TheVariants.{NotNullViolation, ProgramLimitExceeded, UniqueViolation, InsufficientPrivilege}
use Rattle.sql_types.specs.declared.value.Value.{Value}
use Rattle.sql_types.specs.declared.value.Value.TheVariants.{Null, Int, Text, Bool as Boolean}
use Rattle.sql_ast.specs.Rows.{row_cmp}
use Rattle.expressions.specs.Outcome.{Outcome}
use Rattle.expressions.specs.Stages.{◌>>=◌, require, each}
use Rattle.abstract_database.specs.Lists.{TheName, Among, put, the_new}
use Rattle.abstract_database.specs.Database.{TableOf}
use Rattle.abstract_database.specs.Expressions.{when_true}
use Rattle.abstract_database.specs.Guards.{Guard}
use Rattle.abstract_database.specs.Changes.{has_double_key, with_rows, is_admitted, Chosen, choose, new_rows, other_rows}
use Rattle.privilege_laws.proofs.Masks.{masked_in, Shows, shown_value}
use Rattle.privilege_laws.proofs.MaskedSelect.{each_same}

module _ (change : TheName → ℕ → Value → Value) (t : TableOf) where
  abbrev M : Row → Row
  M row = masked_in change t row

  -- ---- keys

  abbrev pub KeyShown : List ℕ → Type 0
  KeyShown key = (i : ℕ) → Among i key → Shows change t i

  order_so : (key : List ℕ) → KeyShown key → (a b : Row) → row_cmp key (M a) (M b) ≡ row_cmp key a b
  order_so [] shown a b = refl
  order_so (i ∷ is) shown a b =
      ap (λ (v : Value). ordering_then (order_of v (value_at (M b) i)) (row_cmp is (M a) (M b))) (shown_value change t a i (shown i (inl refl)))
      ∙ ap (λ (v : Value). ordering_then (order_of (value_at a i) v) (row_cmp is (M a) (M b))) (shown_value change t b i (shown i (inl refl)))
      ∙ ap (λ (o : Ordering). ordering_then (order_of (value_at a i) (value_at b i)) o) (order_so is (λ j h. shown j (inr h)) a b)

  module _ (key : List ℕ) (shown : KeyShown key) where
    any_so : (row : Row) (rows : List Row) → list_any (λ other. is_eq (row_cmp key (M row) other)) (map M rows) ≡ list_any (λ other. is_eq (row_cmp key row other)) rows
    any_so row [] = refl
    any_so row (r ∷ rs) =
        ap (λ (o : Ordering). is_eq o || list_any (λ other. is_eq (row_cmp key (M row) other)) (map M rs)) (order_so key shown row r)
        ∙ ap (λ (b : Bool). is_eq (row_cmp key row r) || b) (any_so row rs)

    double_so : (rows : List Row) → has_double_key key (map M rows) ≡ has_double_key key rows
    double_so [] = refl
    double_so (row ∷ rows) = ap (λ (b : Bool). b || has_double_key key (map M rows)) (any_so row rows) ∙ ap (λ (b : Bool). list_any (λ other. is_eq (row_cmp key row other)) rows || b) (double_so rows)

    put_so : (x : Row) (ys : List Row) → put (row_cmp key) the_new (M x) (map M ys) ≡ map M (put (row_cmp key) the_new x ys)
    put_so x [] = refl
    put_so x (y ∷ ys) =
        ap (λ (o : Ordering). cond (is_lt o) (M x ∷ M y ∷ map M ys) (cond (is_eq o) (M x ∷ map M ys) (M y ∷ put (row_cmp key) the_new (M x) (map M ys)))) (order_so key shown x y)
        ∙ at (row_cmp key x y) (put_so x ys)
      where
        at : (o : Ordering) → put (row_cmp key) the_new (M x) (map M ys) ≡ map M (put (row_cmp key) the_new x ys) →
            cond (is_lt o) (M x ∷ M y ∷ map M ys) (cond (is_eq o) (M x ∷ map M ys) (M y ∷ put (row_cmp key) the_new (M x) (map M ys))) ≡ map M (cond (is_lt o) (x ∷ y ∷ ys) (cond (is_eq o) (x ∷ ys) (y ∷ put (row_cmp key) the_new x ys)))
        at Less go = refl
        at Equal go = refl
        at Greater go = ap (λ (l : List Row). M y ∷ l) go

    with_rows_so : (new others : List Row) → with_rows key (map M new) (map M others) ≡ map M (with_rows key new others)
    with_rows_so [] others = refl
    with_rows_so (n ∷ ns) others = ap (with_rows key (map M ns)) (put_so n others) ∙ with_rows_so ns (put (row_cmp key) the_new n others)

    -- ---- the checks of new rows, by what is found of nulls and of sizes

    abbrev pub by_checks : Guard → List Row → List Row → Bool → Bool → Result (List Row) SqlState
    by_checks g others new kept sized = do
      admitted ← each (is_admitted g) new
      not_null ← require kept NotNullViolation
      fits ← require sized ProgramLimitExceeded
      unique ← require (not (has_double_key key (others ++ new))) UniqueViolation
      Ok (with_rows key new others)

    abbrev after : Result (List (Unit {0})) SqlState → Bool → Bool → Bool → List Row → Result (List Row) SqlState
    after r kept sized double rows = do
      admitted ← r
      not_null ← require kept NotNullViolation
      fits ← require sized ProgramLimitExceeded
      unique ← require (not double) UniqueViolation
      Ok rows

    module _ (g : Guard) (sees : (row : Row) → g (M row) ≡ g row) where
      admitted_so : (row : Row) → is_admitted g (M row) ≡ is_admitted g row
      admitted_so row = ap (λ (o : Outcome). o >>= λ value. require (when_true value true false) InsufficientPrivilege) (sees row)

      checks_so : (others new : List Row) (kept sized : Bool) → by_checks g (map M others) (map M new) kept sized ≡ (by_checks g others new kept sized >>= λ rows. Ok (map M rows))
      checks_so others new kept sized =
          ap (λ (r : Result (List (Unit {0})) SqlState). after r kept sized (has_double_key key (map M others ++ map M new)) (with_rows key (map M new) (map M others))) (each_same M (is_admitted g) new admitted_so)
          ∙ ap (λ (b : Bool). after (each (is_admitted g) new) kept sized b (with_rows key (map M new) (map M others)))
          (ap (has_double_key key) (sym (map-append M others new)) ∙ double_so (others ++ new))
          ∙ ap (after (each (is_admitted g) new) kept sized (has_double_key key (others ++ new))) (with_rows_so new others)
          ∙ at (each (is_admitted g) new) kept sized (has_double_key key (others ++ new))
        where
          at : (r : Result (List (Unit {0})) SqlState) (k s b : Bool) → after r k s b (map M (with_rows key new others)) ≡ (after r k s b (with_rows key new others) >>= λ rows. Ok (map M rows))
          at (Err code) k s b = refl
          at (Ok u) false s b = refl
          at (Ok u) true false b = refl
          at (Ok u) true true true = refl
          at (Ok u) true true false = refl

      pub checks_alike : (others there new again : List Row) (kept sized : Bool) → map M others ≡ map M there → map M new ≡ map M again →
          (by_checks g others new kept sized >>= λ rows. Ok (map M rows)) ≡ (by_checks g there again kept sized >>= λ rows. Ok (map M rows))
      checks_alike others there new again kept sized one two =
          sym (checks_so others new kept sized)
          ∙ ap (λ (l : List Row). by_checks g l (map M new) kept sized) one
          ∙ ap (λ (l : List Row). by_checks g (map M there) l kept sized) two
          ∙ checks_so there again kept sized

  -- ---- choices

  abbrev pub mask_chosen : Chosen → Chosen
  mask_chosen c = record { row = M c.row; new = option_map M c.new }

  module _ (again : (row : Row) → M (M row) ≡ M row) (g condition : Row → Outcome) (becomes : Row → Result Row SqlState) (sees : (row : Row) → g (M row) ≡ g row) (meets : (row : Row) → condition (M row) ≡ condition row)
      (comes : (row : Row) → (becomes (M row) >>= λ r. Ok (M r)) ≡ (becomes row >>= λ r. Ok (M r))) where
    abbrev become : Value → Result Row SqlState → Result (Option Row) SqlState
    become v r = when_true v (r >>= λ x. Ok (Some x)) (Ok None)

    become_so : (v : Value) (r q : Result Row SqlState) (a b : Row) → M a ≡ M b → (r >>= λ x. Ok (M x)) ≡ (q >>= λ x. Ok (M x)) →
        ((become v r >>= λ new. Ok (record { row = a; new = new })) >>= λ c. Ok (mask_chosen c)) ≡ ((become v q >>= λ new. Ok (record { row = b; new = new })) >>= λ c. Ok (mask_chosen c))
    become_so (Boolean true) (Ok x) (Ok y) a b e f =
        ap (λ (row : Row). Ok (record { row = row; new = Some (M x) })) e ∙ ap (λ (o : Result Row SqlState). o >>= λ (z : Row). Ok (record { row = M b; new = Some z })) f
    become_so (Boolean true) (Err c) (Err k) a b e f = ap (λ (o : Result Row SqlState). o >>= λ (z : Row). Ok (record { row = M b; new = Some z })) f
    become_so (Boolean true) (Ok x) (Err k) a b e f = cc
    become_so (Boolean true) (Err c) (Ok y) a b e f = cc
    become_so (Boolean false) r q a b e f = ap (λ (row : Row). Ok (record { row = row; new = None })) e
    become_so Null r q a b e f = ap (λ (row : Row). Ok (record { row = row; new = None })) e
    become_so (Int n) r q a b e f = ap (λ (row : Row). Ok (record { row = row; new = None })) e
    become_so (Text x) r q a b e f = ap (λ (row : Row). Ok (record { row = row; new = None })) e

    abbrev chosen_by : Outcome → Outcome → Result Row SqlState → Row → Result Chosen SqlState
    chosen_by visible met r row = do
      v ← visible
      w ← when_true v met (Ok (Boolean false))
      new ← become w r
      Ok (record { row = row; new = new })

    chosen_so : (o p : Outcome) (r q : Result Row SqlState) (a b : Row) → M a ≡ M b → (r >>= λ x. Ok (M x)) ≡ (q >>= λ x. Ok (M x)) →
        (chosen_by o p r a >>= λ c. Ok (mask_chosen c)) ≡ (chosen_by o p q b >>= λ c. Ok (mask_chosen c))
    chosen_so (Err code) p r q a b e f = refl
    chosen_so (Ok v) p r q a b e f = at (when_true v p (Ok (Boolean false))) where
      at : (w : Outcome) → ((w >>= λ x. become x r >>= λ new. Ok (record { row = a; new = new })) >>= λ c. Ok (mask_chosen c)) ≡ ((w >>= λ x. become x q >>= λ new. Ok (record { row = b; new = new })) >>= λ c. Ok (mask_chosen c))
      at (Err code) = refl
      at (Ok x) = become_so x r q a b e f

    abbrev step : Row → Result Chosen SqlState
    step = choose g condition becomes

    step_so : (row : Row) → (step (M row) >>= λ c. Ok (mask_chosen c)) ≡ (step row >>= λ c. Ok (mask_chosen c))
    step_so row =
        ap (λ (o : Outcome). chosen_by o (condition (M row)) (becomes (M row)) (M row) >>= λ c. Ok (mask_chosen c)) (sees row)
        ∙ ap (λ (o : Outcome). chosen_by (g row) o (becomes (M row)) (M row) >>= λ c. Ok (mask_chosen c)) (meets row)
        ∙ chosen_so (g row) (condition row) (becomes (M row)) (becomes row) (M row) row (again row) (comes row)

    apart : (r : Result Chosen SqlState) (q : Result (List Chosen) SqlState) →
        ((r >>= λ y. q >>= λ ys. Ok (y ∷ ys)) >>= λ zs. Ok (map mask_chosen zs)) ≡ ((r >>= λ c. Ok (mask_chosen c)) >>= λ y. (q >>= λ ys. Ok (map mask_chosen ys)) >>= λ ys. Ok (y ∷ ys))
    apart (Ok y) (Ok ys) = refl
    apart (Ok y) (Err code) = refl
    apart (Err code) q = refl

    each_so : (rows : List Row) → (each step (map M rows) >>= λ cs. Ok (map mask_chosen cs)) ≡ (each step rows >>= λ cs. Ok (map mask_chosen cs))
    each_so [] = refl
    each_so (row ∷ rows) =
        apart (step (M row)) (each step (map M rows))
        ∙ ap (λ (r : Result Chosen SqlState). r >>= λ y. (each step (map M rows) >>= λ ys. Ok (map mask_chosen ys)) >>= λ ys. Ok (y ∷ ys)) (step_so row)
        ∙ ap (λ (q : Result (List Chosen) SqlState). (step row >>= λ c. Ok (mask_chosen c)) >>= λ y. q >>= λ ys. Ok (y ∷ ys)) (each_so rows)
        ∙ sym (apart (step row) (each step rows))

    pub chosen_alike : (rows there : List Row) → map M rows ≡ map M there → (each step rows >>= λ cs. Ok (map mask_chosen cs)) ≡ (each step there >>= λ cs. Ok (map mask_chosen cs))
    chosen_alike rows there same = sym (each_so rows) ∙ ap (λ (l : List Row). each step l >>= λ cs. Ok (map mask_chosen cs)) same ∙ each_so there

  pub new_masked : (cs : List Chosen) → new_rows (map mask_chosen cs) ≡ map M (new_rows cs)
  new_masked [] = refl
  new_masked (c ∷ cs) = at c.new (new_masked cs) where
    at : (o : Option Row) → new_rows (map mask_chosen cs) ≡ map M (new_rows cs) → (option_to_list (option_map M o) ++ new_rows (map mask_chosen cs)) ≡ map M (option_to_list o ++ new_rows cs)
    at None go = go
    at (Some row) go = ap (λ (l : List Row). M row ∷ l) go

  pub others_masked : (cs : List Chosen) → other_rows (map mask_chosen cs) ≡ map M (other_rows cs)
  others_masked [] = refl
  others_masked (c ∷ cs) = at c.new (others_masked cs) where
    at : (o : Option Row) → other_rows (map mask_chosen cs) ≡ map M (other_rows cs) →
        (cond (is_none (option_map M o)) (M c.row ∷ []) [] ++ other_rows (map mask_chosen cs)) ≡ map M (cond (is_none o) (c.row ∷ []) [] ++ other_rows cs)
    at None go = ap (λ (l : List Row). M c.row ∷ l) go
    at (Some row) go = go
