-- Parts and columns, one more at a time.
use Rattle.std.proofs.Common.{◌≡◌, ℕ, zero, suc, ◌+◌, ◌<◌, ◌≤◌, Bool, true, false, ◌&&◌, List, [], ◌∷◌, ◌++◌, map, take, drop, length, get_or, refl, sym, ap, ◌∙◌, append-nil, add-one, arith}
use Rattle.std.specs.List.{list_all, range_with_len}
use Rattle.std.proofs.Math.Seq.{drop-cons}
use Rattle.std.proofs.lemmas.List.{nil_from_length}
use Rattle.std.proofs.lemmas.List.Folds.{list_all-append}
use Rattle.sql_ast.specs.declared.expression.ColumnName.{ColumnName}
use Rattle.sql_ast.specs.Layout.{Layout}
use Rattle.sql_ast.specs.Scope.{Table as ScopeTable}
use Rattle.sql_ast.specs.Term.{Term}
use Rattle.expressions.specs.Parts.{Part}
use Rattle.abstract_database.specs.Checks.{value_parts}

-- ---- values beside their columns

no_values : (scope : List ScopeTable) (layout : Layout) (cs : List ℕ) → value_parts scope layout cs [] ≡ []
no_values scope layout [] = refl
no_values scope layout (c ∷ cs) = refl

module _ (scope : List ScopeTable) (layout : Layout) (whole done : List Part) where
  pub no_column_left : (cs : List ℕ) (vs : List (Term ColumnName)) → whole ≡ done ++ value_parts scope layout cs vs → length cs ≡ 0 → done ≡ whole
  no_column_left cs vs e f = sym (e ∙ ap (λ l. done ++ value_parts scope layout l vs) (nil_from_length cs f) ∙ append-nil done)

  pub no_value_left : {X : Type 0} (value : X → Term ColumnName) (cs : List ℕ) (xs : List X) → whole ≡ done ++ value_parts scope layout cs (map value xs) → length xs ≡ 0 → done ≡ whole
  no_value_left value cs xs e f =
      sym (e ∙ ap (λ l. done ++ value_parts scope layout cs (map value l)) (nil_from_length xs f) ∙ ap (λ l. done ++ l) (no_values scope layout cs) ∙ append-nil done)

  pub no_expression_left : (cs : List ℕ) (vs : List (Term ColumnName)) → whole ≡ done ++ value_parts scope layout cs vs → length vs ≡ 0 → done ≡ whole
  no_expression_left cs vs e f = sym (e ∙ ap (λ l. done ++ value_parts scope layout cs l) (nil_from_length vs f) ∙ ap (λ l. done ++ l) (no_values scope layout cs) ∙ append-nil done)

-- ---- lists

pub here : {A : Type 0} (xs : List A) (i : ℕ) (x : A) → x ≡ get_or xs i x → i < length xs → drop i xs ≡ x ∷ drop (i + 1) xs
here xs i x e lt = drop-cons xs i x lt ∙ ap (λ h. h ∷ drop (suc i) xs) (sym e) ∙ ap (λ n. x ∷ drop n xs) (sym (add-one i))

-- one more of the values is taken
pub one_taken : {X : Type 0} (i : ℕ) (xs rest : List X) (v : X) → drop i xs ≡ v ∷ rest → (take (i + 1) xs ≡ take i xs ++ v ∷ []) × (drop (i + 1) xs ≡ rest)
one_taken {X} i xs rest v e = (ap (λ n. take n xs) (add-one i) ∙ taken i xs e, ap (λ n. drop n xs) (add-one i) ∙ left i xs e) where
  taken : (n : ℕ) (ys : List X) → drop n ys ≡ v ∷ rest → take (suc n) ys ≡ take n ys ++ v ∷ []
  taken zero [] h = cc
  taken zero (y ∷ ys) h = let same : y ≡ v = cc in ap (λ z. z ∷ []) same
  taken (suc n) [] h = cc
  taken (suc n) (y ∷ ys) h = ap (λ l. y ∷ l) (taken n ys h)

  left : (n : ℕ) (ys : List X) → drop n ys ≡ v ∷ rest → drop (suc n) ys ≡ rest
  left zero [] h = cc
  left zero (y ∷ ys) h = cc
  left (suc n) [] h = cc
  left (suc n) (y ∷ ys) h = left n ys h

take_none : {X : Type 0} (n : ℕ) → take {A = X} n [] ≡ []
take_none zero = refl
take_none (suc n) = refl

drop_none : {X : Type 0} (n : ℕ) → drop {A = X} n [] ≡ []
drop_none zero = refl
drop_none (suc n) = refl

-- or none is left
pub none_taken : {X : Type 0} (i n : ℕ) (xs : List X) → drop i xs ≡ [] → i ≤ n → (take i xs ≡ take n xs) × (drop n xs ≡ [])
none_taken zero n [] e le = (sym (take_none n), drop_none n)
none_taken zero n (x ∷ xs) e le = cc
none_taken (suc i) n [] e le = (sym (take_none n), drop_none n)
none_taken (suc i) zero (x ∷ xs) e le = absurd (omega (arith, le))
none_taken (suc i) (suc n) (x ∷ xs) e le = let rest = none_taken i n xs e (omega (arith, le)) in (ap (λ l. x ∷ l) rest.0, rest.1)

-- ---- columns from the left

pub range_more : (a n : ℕ) → range_with_len a (n + 1) ≡ range_with_len a n ++ (a + n) ∷ []
range_more a n = ap (range_with_len a) (add-one n) ∙ more a n where
  more : (a n : ℕ) → range_with_len a (suc n) ≡ range_with_len a n ++ (a + n) ∷ []
  more a zero = ap (λ m. m ∷ []) (omega arith)
  more a (suc n) = ap (λ l. a ∷ l) (more (a + 1) n ∙ ap (λ m. range_with_len (a + 1) n ++ m ∷ []) (omega arith))

pub all_in_range_more : (p : ℕ → Bool) (n : ℕ) → list_all p (range_with_len 0 n) ≡ true → p n ≡ true → list_all p (range_with_len 0 (n + 1)) ≡ true
all_in_range_more p n e f = ap (list_all p) (range_more 0 n) ∙ list_all-append p (range_with_len 0 n) ((0 + n) ∷ []) ∙ ap (λ b. b && list_all p ((0 + n) ∷ [])) e ∙ ap (λ b. b && true) (ap p (omega arith) ∙ f)

pub all_in_range_fails : (p : ℕ → Bool) (a n i : ℕ) → i < n → p (a + i) ≡ false → list_all p (range_with_len a n) ≡ false
all_in_range_fails p a zero i lt e = absurd (omega (arith, lt))
all_in_range_fails p a (suc n) zero lt e = ap (λ b. b && list_all p (range_with_len (a + 1) n)) (ap p (omega arith) ∙ e)
all_in_range_fails p a (suc n) (suc i) lt e = ap (λ b. p a && b) (all_in_range_fails p (a + 1) n i (omega (arith, lt)) (ap p (omega arith) ∙ e)) ∙ no (p a) where
  no : (b : Bool) → (b && false) ≡ false
  no true = refl
  no false = refl
