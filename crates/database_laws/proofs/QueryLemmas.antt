-- Which rows a SELECT of one table answers.
use Rattle.std.proofs.Common.{◌≡◌, ◌⊎◌, ℕ, zero, suc, Bool, true, false, cond, List, [], ◌∷◌, map, take, Ok, Option, Some, None, refl, sym, ap, ◌∙◌, subst, inl, inr, append-nil, Ordering, is_gt}
use Rattle.sql_types.specs.declared.value.Value.TheVariants.{Bool as Boolean}
use Rattle.sql_ast.specs.declared.scope.ColumnIndex.{ColumnIndex}
use Rattle.sql_ast.specs.Term.{Term}
use Rattle.expressions.specs.Meaning.{UserNames}
use Rattle.abstract_database.specs.Lists.{Among}
use Rattle.expressions.specs.Stages.{◌>>=◌, each}
use Rattle.sql_types.specs.Row.{Row}
use Rattle.abstract_database.specs.Expressions.{passing, bound_value}
use Rattle.abstract_database.specs.Guards.{Guard}
use Rattle.abstract_database.specs.Queries.{Combination, product, put_before, sorted, cut, BoundKey, each_column, Keyed, with_keys, keys_cmp, ordered, all_columns, condition_value, listed, Source, query}
use Rattle.abstract_database.proofs.ResultLemmas.{ok_inside, bind_ok, each_to, each_from, passing_from, passing_to}

module _ {A : Type 0} (cmp : A → A → Ordering) where
  in_put : (x y : A) (ys : List A) (z : A) (b : Bool) → (Among z (put_before cmp x ys) → (x ≡ z) ⊎ Among z ys) → Among z (cond b (y ∷ put_before cmp x ys) (x ∷ y ∷ ys)) → (x ≡ z) ⊎ Among z (y ∷ ys)
  in_put x y ys z true go (inl is) = inr (inl is)
  in_put x y ys z true go (inr later) = elim (go later) [ inl is ↦ inl is | inr h ↦ inr (inr h) ]
  in_put x y ys z false go (inl is) = inl is
  in_put x y ys z false go (inr later) = inr later

  pub of_put : (x : A) (ys : List A) (z : A) → Among z (put_before cmp x ys) → (x ≡ z) ⊎ Among z ys
  of_put x [] z (inl is) = inl is
  of_put x [] z (inr h) = absurd h
  of_put x (y ∷ ys) z h = in_put x y ys z (is_gt (cmp x y)) (of_put x ys z) h

  put_in : (x y : A) (ys : List A) (z : A) (b : Bool) → ((x ≡ z) ⊎ Among z ys → Among z (put_before cmp x ys)) → (x ≡ z) ⊎ Among z (y ∷ ys) → Among z (cond b (y ∷ put_before cmp x ys) (x ∷ y ∷ ys))
  put_in x y ys z true go (inl is) = inr (go (inl is))
  put_in x y ys z true go (inr (inl is)) = inl is
  put_in x y ys z true go (inr (inr h)) = inr (go (inr h))
  put_in x y ys z false go (inl is) = inl is
  put_in x y ys z false go (inr h) = inr h

  into_put : (x : A) (ys : List A) (z : A) → (x ≡ z) ⊎ Among z ys → Among z (put_before cmp x ys)
  into_put x [] z (inl is) = inl is
  into_put x [] z (inr h) = absurd h
  into_put x (y ∷ ys) z h = put_in x y ys z (is_gt (cmp x y)) (into_put x ys z) h

  pub of_sorted : (xs : List A) (z : A) → Among z (sorted cmp xs) → Among z xs
  of_sorted [] z h = h
  of_sorted (x ∷ xs) z h = elim (of_put x (sorted cmp xs) z h) [ inl is ↦ inl is | inr later ↦ inr (of_sorted xs z later) ]

  pub into_sorted : (xs : List A) (z : A) → Among z xs → Among z (sorted cmp xs)
  into_sorted [] z h = h
  into_sorted (x ∷ xs) z (inl is) = into_put x (sorted cmp xs) z (inl is)
  into_sorted (x ∷ xs) z (inr later) = into_put x (sorted cmp xs) z (inr (into_sorted xs z later))

module _ {A : Type 0} where
  of_take : (n : ℕ) (xs : List A) (z : A) → Among z (take n xs) → Among z xs
  of_take zero [] z h = absurd h
  of_take zero (x ∷ xs) z h = absurd h
  of_take (suc n) [] z h = absurd h
  of_take (suc n) (x ∷ xs) z (inl is) = inl is
  of_take (suc n) (x ∷ xs) z (inr later) = inr (of_take n xs z later)

  of_cut : (limit : Option ℕ) (xs : List A) (z : A) → Among z (cut limit xs) → Among z xs
  of_cut None xs z h = h
  of_cut (Some n) xs z h = of_take n xs z h

module _ {A B : Type 0} (f : A → B) where
  pub of_map : (xs : List A) (z : B) → Among z (map f xs) → (x : A) × Among x xs × (f x ≡ z)
  of_map [] z h = absurd h
  of_map (x ∷ xs) z (inl is) = (x, inl refl, is)
  of_map (x ∷ xs) z (inr later) = let found = of_map xs z later in (found.0, inr found.1, found.2)

  pub into_map : (xs : List A) (x : A) → Among x xs → Among (f x) (map f xs)
  into_map [] x h = absurd h
  into_map (y ∷ ys) x (inl is) = inl (ap f is)
  into_map (y ∷ ys) x (inr later) = inr (into_map ys x later)

-- ---- the combinations of one table are its rows

of_alone : (rows : List Row) (c : Combination) → Among c (product (rows ∷ [])) → (row : Row) × Among row rows × (c ≡ row ∷ [])
of_alone [] c h = absurd h
of_alone (row ∷ rows) c (inl is) = (row, inl refl, sym is)
of_alone (row ∷ rows) c (inr later) = let found = of_alone rows c later in (found.0, inr found.1, found.2)

into_alone : (rows : List Row) (row : Row) → Among row rows → Among (row ∷ []) (product (rows ∷ []))
into_alone [] row h = absurd h
into_alone (r ∷ rows) row (inl is) = inl (ap (λ x. x ∷ []) is)
into_alone (r ∷ rows) row (inr later) = inr (into_alone rows row later)

all_columns_alone : (row : Row) → all_columns (row ∷ []) ≡ row
all_columns_alone row = append-nil row

-- ---- order and limit

module _ (users : UserNames) (keys : List BoundKey) where
  keyed_of : (c : Combination) (k : Keyed) → with_keys users keys c ≡ Ok k → k.combination ≡ c
  keyed_of c k e =
      let values = bind_ok (each (λ key. bound_value users c key.term) keys) (λ vs. Ok (record { keys = vs; combination = c })) k e in
      let same : record { keys = values.0; combination = c } ≡ k = ok_inside (record { keys = values.0; combination = c }) k values.2 in
      sym (ap (λ x. x.combination) same)

  pub of_ordered : (limit : Option ℕ) (cs out : List Combination) → ordered users keys limit cs ≡ Ok out → (c : Combination) → Among c out → Among c cs
  of_ordered limit cs out e c h =
      let steps = bind_ok (each (with_keys users keys) cs) (λ ks. Ok (map (λ k. k.combination) (cut limit (sorted (λ a b. keys_cmp keys a.keys b.keys) ks)))) out e in
      let same : map (λ k. k.combination) (cut limit (sorted (λ a b. keys_cmp keys a.keys b.keys) steps.0)) ≡ out = ok_inside (map (λ k. k.combination) (cut limit (sorted (λ a b. keys_cmp keys a.keys b.keys) steps.0))) out steps.2 in
      let at = of_map (λ (k : Keyed). k.combination) (cut limit (sorted (λ a b. keys_cmp keys a.keys b.keys) steps.0)) c (subst (λ l. Among c l) (sym same) h) in
      let among = of_sorted (λ a b. keys_cmp keys a.keys b.keys) steps.0 at.0 (of_cut limit (sorted (λ a b. keys_cmp keys a.keys b.keys) steps.0) at.0 at.1) in
      let from = each_from (with_keys users keys) cs steps.0 steps.1 at.0 among in
      subst (λ x. Among x cs) (sym (keyed_of from.0 at.0 from.2) ∙ at.2) from.1

  pub into_ordered : (cs out : List Combination) → ordered users keys None cs ≡ Ok out → (c : Combination) → Among c cs → Among c out
  into_ordered cs out e c h =
      let steps = bind_ok (each (with_keys users keys) cs) (λ ks. Ok (map (λ k. k.combination) (sorted (λ a b. keys_cmp keys a.keys b.keys) ks))) out e in
      let same : map (λ k. k.combination) (sorted (λ a b. keys_cmp keys a.keys b.keys) steps.0) ≡ out = ok_inside (map (λ k. k.combination) (sorted (λ a b. keys_cmp keys a.keys b.keys) steps.0)) out steps.2 in
      let to = each_to (with_keys users keys) cs steps.0 steps.1 c h in
      let at = into_map (λ (k : Keyed). k.combination) (sorted (λ a b. keys_cmp keys a.keys b.keys) steps.0) to.0 (into_sorted (λ a b. keys_cmp keys a.keys b.keys) steps.0 to.0 to.2) in
      subst (λ l. Among c l) same (subst (λ x. Among x (map (λ k. k.combination) (sorted (λ a b. keys_cmp keys a.keys b.keys) steps.0))) (keyed_of c to.0 to.1) at)

-- ---- a SELECT of all columns of one table

module _ (guard : Guard) (rows : List Row) (users : UserNames) (conditions : List (Term ColumnIndex)) (keys : List BoundKey) (limit : Option ℕ) where
  -- the rows that pass, the combinations that are chosen, those in order
  pub record Steps (out : List Row) : Type 0 where
    pub visible : List Row
    pub passed : passing guard rows ≡ Ok visible
    pub chosen : List Combination
    pub met : passing (condition_value users conditions) (product (visible ∷ [])) ≡ Ok chosen
    pub arranged : List Combination
    pub in_order : ordered users keys limit chosen ≡ Ok arranged
    pub columns : map all_columns arranged ≡ out

  pub steps_of : (out : List Row) → query (record { guard = guard; rows = rows } ∷ []) users (record { list = each_column; conditions = conditions; keys = keys; limit = limit }) ≡ Ok out → Steps out
  steps_of out e =
      let go = λ (visible : List (List Row)). passing (condition_value users conditions) (product visible) >>= λ chosen. listed users each_column keys limit chosen in
      let first = bind_ok (each (λ (s : Source). passing s.guard s.rows) (record { guard = guard; rows = rows } ∷ [])) go out e in
      let one = bind_ok (passing guard rows) (λ (v : List Row). Ok (v ∷ [])) first.0 first.1 in
      let only : one.0 ∷ [] ≡ first.0 = ok_inside (one.0 ∷ []) first.0 one.2 in
      let second = bind_ok (passing (condition_value users conditions) (product first.0)) (λ chosen. listed users each_column keys limit chosen) out first.2 in
      let third = bind_ok (ordered users keys limit second.0) (λ (l : List Combination). Ok (map all_columns l)) out second.2 in
      record {
        visible = one.0;
        passed = one.1;
        chosen = second.0;
        met = ap (λ v. passing (condition_value users conditions) (product v)) only ∙ second.1;
        arranged = third.0;
        in_order = third.1;
        columns = ok_inside (map all_columns third.0) out third.2;
      }

  pub shown_passed : (out : List Row) → Steps out → (row : Row) → Among row out → Among row rows × (guard row ≡ Ok (Boolean true))
  shown_passed out s row h =
      let at = of_map all_columns s.arranged row (subst (λ l. Among row l) (sym s.columns) h) in
      let chosen = of_ordered users keys limit s.chosen s.arranged s.in_order at.0 at.1 in
      let met = passing_from (condition_value users conditions) (product (s.visible ∷ [])) s.chosen s.met at.0 chosen in
      let of = of_alone s.visible at.0 met.0 in
      let same : of.0 ≡ row = sym (all_columns_alone of.0) ∙ sym (ap all_columns of.2) ∙ at.2 in
      passing_from guard rows s.visible s.passed row (subst (λ r. Among r s.visible) same of.1)

  pub passed_shown : (out : List Row) → conditions ≡ [] → limit ≡ None → Steps out → (row : Row) → Among row rows → guard row ≡ Ok (Boolean true) → Among row out
  passed_shown out no_condition no_limit s row h t =
      let visible = passing_to guard rows s.visible s.passed row h t in
      let holds : condition_value users conditions (row ∷ []) ≡ Ok (Boolean true) = ap (λ c. condition_value users c (row ∷ [])) no_condition in
      let chosen = passing_to (condition_value users conditions) (product (s.visible ∷ [])) s.chosen s.met (row ∷ []) (into_alone s.visible row visible) holds in
      let unlimited : ordered users keys None s.chosen ≡ Ok s.arranged = ap (λ l. ordered users keys l s.chosen) (sym no_limit) ∙ s.in_order in
      let arranged = into_ordered users keys s.chosen s.arranged unlimited (row ∷ []) chosen in
      subst (λ l. Among row l) s.columns (subst (λ r. Among r (map all_columns s.arranged)) (all_columns_alone row) (into_map all_columns s.arranged (row ∷ []) arranged))
