-- A SELECT over rows of which columns are changed that it does not read.
use Rattle.std.proofs.Common.{◌≡◌, ℕ, Bool, true, false, cond, map, flat_map, List, [], ◌∷◌, ◌++◌, Option, Some, None, Result, Ok, Err, refl, sym, ap, ◌∙◌, inl, inr, Ordering, is_gt, pos}
use Rattle.std.proofs.lemmas.List.{map-append, length-map, take-map}
use Rattle.sql_types.specs.Row.{Row}
use Rattle.sql_types.specs.declared.state.SqlState.{SqlState}
use Rattle.sql_types.specs.declared.value.Value.{Value}
use Rattle.sql_types.specs.declared.value.Value.TheVariants.{Null, Int, Text, Bool as Boolean}
use Rattle.sql_ast.specs.declared.scope.ColumnIndex.{ColumnIndex}
use Rattle.sql_ast.specs.Term.{Term}
use Rattle.expressions.specs.Outcome.{Outcome}
use Rattle.expressions.specs.Operators.{bigint}
use Rattle.expressions.specs.Meaning.{UserNames}
use Rattle.expressions.specs.Stages.{◌>>=◌, each}
use Rattle.abstract_database.specs.Lists.{TheName, Among}
use Rattle.abstract_database.specs.Database.{TableOf}
use Rattle.abstract_database.specs.Expressions.{bound_value, all_of, passing, when_true}
use Rattle.abstract_database.specs.Queries.{BoundList, each_column, each_value, their_count, BoundKey, BoundQuery, Combination, product, condition_value, keys_cmp, put_before, sorted, cut, Keyed, with_keys, ordered, listed, Source, query}
use Rattle.privilege_laws.proofs.Masks.{masked_in, masks, IsClean, same_bound}

-- ---- lists that are changed, and steps over them

module _ {A B : Type 0} (f : A → A) where
  -- what each step gives of a changed element is what it gives of the element, changed
  pub each_changed : (g : B → B) (step : A → Result B SqlState) (xs : List A) → ((x : A) → step (f x) ≡ (step x >>= λ y. Ok (g y))) → each step (map f xs) ≡ (each step xs >>= λ ys. Ok (map g ys))
  each_changed g step [] so = refl
  each_changed g step (x ∷ xs) so =
      ap (λ (r : Result B SqlState). r >>= λ y. each step (map f xs) >>= λ ys. Ok (y ∷ ys)) (so x)
      ∙ ap (λ (r : Result (List B) SqlState). (step x >>= λ y. Ok (g y)) >>= λ y. r >>= λ ys. Ok (y ∷ ys)) (each_changed g step xs so)
      ∙ at (step x) (each step xs)
    where
      at : (r : Result B SqlState) (q : Result (List B) SqlState) →
          ((r >>= λ y. Ok (g y)) >>= λ y. (q >>= λ ys. Ok (map g ys)) >>= λ ys. Ok (y ∷ ys)) ≡ ((r >>= λ y. q >>= λ ys. Ok (y ∷ ys)) >>= λ ys. Ok (map g ys))
      at (Ok y) (Ok ys) = refl
      at (Ok y) (Err code) = refl
      at (Err code) q = refl

  pub each_same : (step : A → Result B SqlState) (xs : List A) → ((x : A) → step (f x) ≡ step x) → each step (map f xs) ≡ each step xs
  each_same step [] so = refl
  each_same step (x ∷ xs) so =
      ap (λ (r : Result B SqlState). r >>= λ y. each step (map f xs) >>= λ ys. Ok (y ∷ ys)) (so x)
      ∙ ap (λ (r : Result (List B) SqlState). step x >>= λ y. r >>= λ ys. Ok (y ∷ ys)) (each_same step xs so)

module _ {A : Type 0} (f : A → A) (test : A → Outcome) (so : (x : A) → test (f x) ≡ test x) where
  kept_true : (v : Value) (x : A) (ys : List A) → when_true v (f x ∷ map f ys) (map f ys) ≡ map f (when_true v (x ∷ ys) ys)
  kept_true (Boolean true) x ys = refl
  kept_true (Boolean false) x ys = refl
  kept_true Null x ys = refl
  kept_true (Int n) x ys = refl
  kept_true (Text t) x ys = refl

  pub passing_changed : (xs : List A) → passing test (map f xs) ≡ (passing test xs >>= λ ys. Ok (map f ys))
  passing_changed [] = refl
  passing_changed (x ∷ xs) =
      ap (λ (o : Outcome). o >>= λ v. passing test (map f xs) >>= λ rest. Ok (when_true v (f x ∷ rest) rest)) (so x)
      ∙ ap (λ (r : Result (List A) SqlState). test x >>= λ v. r >>= λ rest. Ok (when_true v (f x ∷ rest) rest)) (passing_changed xs)
      ∙ at (test x) (passing test xs)
    where
      at : (o : Outcome) (q : Result (List A) SqlState) →
          (o >>= λ v. (q >>= λ ys. Ok (map f ys)) >>= λ rest. Ok (when_true v (f x ∷ rest) rest)) ≡ ((o >>= λ v. q >>= λ rest. Ok (when_true v (x ∷ rest) rest)) >>= λ ys. Ok (map f ys))
      at (Ok v) (Ok ys) = ap (λ (l : List A). Ok l) (kept_true v x ys)
      at (Ok v) (Err code) = refl
      at (Err code) q = refl

-- ---- combinations

module _ (change : TheName → ℕ → Value → Value) where
  abbrev pub mask_lists : List TableOf → List (List Row) → List (List Row)
  mask_lists [] lists = lists
  mask_lists (t ∷ ts) [] = []
  mask_lists (t ∷ ts) (rows ∷ lists) = map (masked_in change t) rows ∷ mask_lists ts lists

  module _ (t : TableOf) (ts : List TableOf) where
    one_row : (row : Row) (cs : List Combination) → map (λ (c : Combination). masked_in change t row ∷ c) (map (masks change ts) cs) ≡ map (masks change (t ∷ ts)) (map (λ (c : Combination). row ∷ c) cs)
    one_row row [] = refl
    one_row row (c ∷ cs) = ap (λ (l : List Combination). (masked_in change t row ∷ masks change ts c) ∷ l) (one_row row cs)

    each_row : (cs : List Combination) (rows : List Row) →
        flat_map (λ row. map (λ (c : Combination). row ∷ c) (map (masks change ts) cs)) (map (masked_in change t) rows) ≡ map (masks change (t ∷ ts)) (flat_map (λ row. map (λ (c : Combination). row ∷ c) cs) rows)
    each_row cs [] = refl
    each_row cs (row ∷ rows) =
        ap (λ (l : List Combination). l ++ flat_map (λ r. map (λ (c : Combination). r ∷ c) (map (masks change ts) cs)) (map (masked_in change t) rows)) (one_row row cs)
        ∙ ap (λ (l : List Combination). map (masks change (t ∷ ts)) (map (λ (c : Combination). row ∷ c) cs) ++ l) (each_row cs rows)
        ∙ sym (map-append (masks change (t ∷ ts)) (map (λ (c : Combination). row ∷ c) cs) (flat_map (λ r. map (λ (c : Combination). r ∷ c) cs) rows))

  unmasked : (cs : List Combination) → map (masks change []) cs ≡ cs
  unmasked [] = refl
  unmasked (c ∷ cs) = ap (λ (l : List Combination). c ∷ l) (unmasked cs)

  masked_product : (ts : List TableOf) (lists : List (List Row)) → product (mask_lists ts lists) ≡ map (masks change ts) (product lists)
  masked_product [] lists = sym (unmasked (product lists))
  masked_product (t ∷ ts) [] = refl
  masked_product (t ∷ ts) (rows ∷ lists) =
      ap (λ (cs : List Combination). flat_map (λ row. map (λ (c : Combination). row ∷ c) cs) (map (masked_in change t) rows)) (masked_product ts lists)
      ∙ each_row t ts (product lists) rows

  -- ---- a query

  module _ (users : UserNames) (ts : List TableOf) where
    abbrev pub Clean : Term ColumnIndex → Type 0
    Clean e = IsClean change ts e

    abbrev pub AllClean : List (Term ColumnIndex) → Type 0
    AllClean es = (e : Term ColumnIndex) → Among e es → Clean e

    same_values : (c : Combination) (es : List (Term ColumnIndex)) → AllClean es → map (bound_value users (masks change ts c)) es ≡ map (bound_value users c) es
    same_values c [] clean = refl
    same_values c (e ∷ es) clean =
        ap (λ (o : Outcome). o ∷ map (bound_value users (masks change ts c)) es) (same_bound change users ts c e (clean e (inl refl)))
        ∙ ap (λ (l : List Outcome). bound_value users c e ∷ l) (same_values c es (λ x k. clean x (inr k)))

    same_condition : (es : List (Term ColumnIndex)) → AllClean es → (c : Combination) → condition_value users es (masks change ts c) ≡ condition_value users es c
    same_condition es clean c = ap all_of (same_values c es clean)

    pub each_value_same : (c : Combination) (es : List (Term ColumnIndex)) → AllClean es → each (bound_value users (masks change ts c)) es ≡ each (bound_value users c) es
    each_value_same c [] clean = refl
    each_value_same c (e ∷ es) clean =
        ap (λ (o : Outcome). o >>= λ y. each (bound_value users (masks change ts c)) es >>= λ ys. Ok (y ∷ ys)) (same_bound change users ts c e (clean e (inl refl)))
        ∙ ap (λ (r : Result (List Value) SqlState). bound_value users c e >>= λ y. r >>= λ ys. Ok (y ∷ ys)) (each_value_same c es (λ x k. clean x (inr k)))

    abbrev pub KeysClean : List BoundKey → Type 0
    KeysClean keys = (k : BoundKey) → Among k keys → Clean k.term

    key_values_same : (c : Combination) (keys : List BoundKey) → KeysClean keys → each (λ (k : BoundKey). bound_value users (masks change ts c) k.term) keys ≡ each (λ (k : BoundKey). bound_value users c k.term) keys
    key_values_same c [] clean = refl
    key_values_same c (k ∷ ks) clean =
        ap (λ (o : Outcome). o >>= λ y. each (λ (x : BoundKey). bound_value users (masks change ts c) x.term) ks >>= λ ys. Ok (y ∷ ys)) (same_bound change users ts c k.term (clean k (inl refl)))
        ∙ ap (λ (r : Result (List Value) SqlState). bound_value users c k.term >>= λ y. r >>= λ ys. Ok (y ∷ ys)) (key_values_same c ks (λ x h. clean x (inr h)))

    -- ---- order

    abbrev mask_keyed : Keyed → Keyed
    mask_keyed k = record k { combination = masks change ts k.combination }

    keyed_so : (keys : List BoundKey) → KeysClean keys → (c : Combination) → with_keys users keys (masks change ts c) ≡ (with_keys users keys c >>= λ k. Ok (mask_keyed k))
    keyed_so keys clean c =
        ap (λ (r : Result (List Value) SqlState). r >>= λ values. Ok (record { keys = values; combination = masks change ts c })) (key_values_same c keys clean)
        ∙ at (each (λ (k : BoundKey). bound_value users c k.term) keys)
      where
        at : (r : Result (List Value) SqlState) → (r >>= λ values. Ok (record { keys = values; combination = masks change ts c })) ≡ ((r >>= λ values. Ok (record { keys = values; combination = c })) >>= λ k. Ok (mask_keyed k))
        at (Ok values) = refl
        at (Err code) = refl

    module _ (keys : List BoundKey) where
      abbrev by_keys : Keyed → Keyed → Ordering
      by_keys a b = keys_cmp keys a.keys b.keys

      put_masked : (x : Keyed) (ys : List Keyed) → put_before by_keys (mask_keyed x) (map mask_keyed ys) ≡ map mask_keyed (put_before by_keys x ys)
      put_masked x [] = refl
      put_masked x (y ∷ ys) = at (is_gt (by_keys x y)) (put_masked x ys) where
        at : (b : Bool) → put_before by_keys (mask_keyed x) (map mask_keyed ys) ≡ map mask_keyed (put_before by_keys x ys) →
            cond b (mask_keyed y ∷ put_before by_keys (mask_keyed x) (map mask_keyed ys)) (mask_keyed x ∷ mask_keyed y ∷ map mask_keyed ys) ≡ map mask_keyed (cond b (y ∷ put_before by_keys x ys) (x ∷ y ∷ ys))
        at true go = ap (λ (l : List Keyed). mask_keyed y ∷ l) go
        at false go = refl

      sorted_masked : (xs : List Keyed) → sorted by_keys (map mask_keyed xs) ≡ map mask_keyed (sorted by_keys xs)
      sorted_masked [] = refl
      sorted_masked (x ∷ xs) = ap (put_before by_keys (mask_keyed x)) (sorted_masked xs) ∙ put_masked x (sorted by_keys xs)

    cut_masked : (limit : Option ℕ) (xs : List Keyed) → cut limit (map mask_keyed xs) ≡ map mask_keyed (cut limit xs)
    cut_masked None xs = refl
    cut_masked (Some n) xs = take-map mask_keyed n xs

    combinations_of : (xs : List Keyed) → map (λ (k : Keyed). k.combination) (map mask_keyed xs) ≡ map (masks change ts) (map (λ (k : Keyed). k.combination) xs)
    combinations_of [] = refl
    combinations_of (x ∷ xs) = ap (λ (l : List Combination). masks change ts x.combination ∷ l) (combinations_of xs)

    ordered_masked : (keys : List BoundKey) (limit : Option ℕ) → KeysClean keys → (cs : List Combination) → ordered users keys limit (map (masks change ts) cs) ≡ (ordered users keys limit cs >>= λ rows. Ok (map (masks change ts) rows))
    ordered_masked keys limit clean cs =
        ap (λ (r : Result (List Keyed) SqlState). r >>= λ keyed. Ok (map (λ k. k.combination) (cut limit (sorted (by_keys keys) keyed))))
        (each_keyed cs)
        ∙ at (each (with_keys users keys) cs)
      where
        each_keyed : (xs : List Combination) → each (with_keys users keys) (map (masks change ts) xs) ≡ (each (with_keys users keys) xs >>= λ ks. Ok (map mask_keyed ks))
        each_keyed [] = refl
        each_keyed (x ∷ xs) =
            ap (λ (r : Result Keyed SqlState). r >>= λ y. each (with_keys users keys) (map (masks change ts) xs) >>= λ ys. Ok (y ∷ ys)) (keyed_so keys clean x)
            ∙ ap (λ (r : Result (List Keyed) SqlState). (with_keys users keys x >>= λ y. Ok (mask_keyed y)) >>= λ y. r >>= λ ys. Ok (y ∷ ys)) (each_keyed xs)
            ∙ both (with_keys users keys x) (each (with_keys users keys) xs)
          where
            both : (r : Result Keyed SqlState) (q : Result (List Keyed) SqlState) →
                ((r >>= λ y. Ok (mask_keyed y)) >>= λ y. (q >>= λ ys. Ok (map mask_keyed ys)) >>= λ ys. Ok (y ∷ ys)) ≡ ((r >>= λ y. q >>= λ ys. Ok (y ∷ ys)) >>= λ ys. Ok (map mask_keyed ys))
            both (Ok y) (Ok ys) = refl
            both (Ok y) (Err code) = refl
            both (Err code) q = refl

        at : (r : Result (List Keyed) SqlState) →
            ((r >>= λ ks. Ok (map mask_keyed ks)) >>= λ keyed. Ok (map (λ k. k.combination) (cut limit (sorted (by_keys keys) keyed))))
            ≡ ((r >>= λ keyed. Ok (map (λ k. k.combination) (cut limit (sorted (by_keys keys) keyed)))) >>= λ rows. Ok (map (masks change ts) rows))
        at (Ok ks) = ap (λ (l : List Combination). Ok l)
            (ap (λ (l : List Keyed). map (λ k. k.combination) (cut limit l)) (sorted_masked keys ks)
            ∙ ap (λ (l : List Keyed). map (λ k. k.combination) l) (cut_masked limit (sorted (by_keys keys) ks))
            ∙ combinations_of (cut limit (sorted (by_keys keys) ks)))
        at (Err code) = refl

    -- ---- the list

    -- no column of any table is changed, where each is shown
    abbrev pub AllShown : Type 0
    AllShown = (c : Combination) → masks change ts c ≡ c

    abbrev pub ListClean : BoundList → Type 0
    ListClean each_column = AllShown
    ListClean (each_value es) = AllClean es
    ListClean their_count = Unit {0}

    all_same : AllShown → (cs : List Combination) → map (masks change ts) cs ≡ cs
    all_same same [] = refl
    all_same same (c ∷ cs) = ap (λ (x : Combination). x ∷ map (masks change ts) cs) (same c) ∙ ap (λ (l : List Combination). c ∷ l) (all_same same cs)

    listed_masked : (l : BoundList) → ListClean l → (keys : List BoundKey) (limit : Option ℕ) → KeysClean keys → (cs : List Combination) → listed users l keys limit (map (masks change ts) cs) ≡ listed users l keys limit cs
    listed_masked each_column clean keys limit keys_clean cs = ap (listed users each_column keys limit) (all_same clean cs)
    listed_masked their_count clean keys limit keys_clean cs = ap (λ (n : ℕ). bigint (pos n) >>= λ count. Ok ((count ∷ []) ∷ [])) (length-map cs (masks change ts))
    listed_masked (each_value es) clean keys limit keys_clean cs =
        ap (λ (r : Result (List Combination) SqlState). r >>= λ rows. each (λ row. each (bound_value users row) es) rows) (ordered_masked keys limit keys_clean cs)
        ∙ at (ordered users keys limit cs)
      where
        at : (r : Result (List Combination) SqlState) → ((r >>= λ rows. Ok (map (masks change ts) rows)) >>= λ rows. each (λ row. each (bound_value users row) es) rows) ≡ (r >>= λ rows. each (λ row. each (bound_value users row) es) rows)
        at (Ok rows) = each_same (masks change ts) (λ (row : Combination). each (bound_value users row) es) rows (λ row. each_value_same row es clean)
        at (Err code) = refl

    -- ---- the whole

    pub record QueryClean (q : BoundQuery) : Type 0 where
      pub list : ListClean q.list
      pub conditions : AllClean q.conditions
      pub keys : KeysClean q.keys

    rest_masked : (q : BoundQuery) → QueryClean q → (lists : List (List Row)) →
        (passing (condition_value users q.conditions) (product (mask_lists ts lists)) >>= λ chosen. listed users q.list q.keys q.limit chosen)
        ≡ (passing (condition_value users q.conditions) (product lists) >>= λ chosen. listed users q.list q.keys q.limit chosen)
    rest_masked q clean lists =
        ap (λ (cs : List Combination). passing (condition_value users q.conditions) cs >>= λ chosen. listed users q.list q.keys q.limit chosen) (masked_product ts lists)
        ∙ ap (λ (r : Result (List Combination) SqlState). r >>= λ chosen. listed users q.list q.keys q.limit chosen) (passing_changed (masks change ts) (condition_value users q.conditions) (same_condition q.conditions clean.conditions) (product lists))
        ∙ at (passing (condition_value users q.conditions) (product lists))
      where
        at : (r : Result (List Combination) SqlState) → ((r >>= λ cs. Ok (map (masks change ts) cs)) >>= λ chosen. listed users q.list q.keys q.limit chosen) ≡ (r >>= λ chosen. listed users q.list q.keys q.limit chosen)
        at (Ok cs) = listed_masked q.list clean.list q.keys q.limit clean.keys cs
        at (Err code) = refl

  -- the rows of each table, changed
  abbrev pub mask_source : TableOf → Source → Source
  mask_source t s = record s { rows = map (masked_in change t) s.rows }

  abbrev pub mask_sources : List TableOf → List Source → List Source
  mask_sources [] sources = sources
  mask_sources (t ∷ ts) [] = []
  mask_sources (t ∷ ts) (s ∷ sources) = mask_source t s ∷ mask_sources ts sources

  -- each guard sees no difference
  abbrev pub GuardsShow : List TableOf → List Source → Type 0
  GuardsShow [] sources = Unit {0}
  GuardsShow (t ∷ ts) [] = Unit {0}
  GuardsShow (t ∷ ts) (s ∷ sources) = ((row : Row) → s.guard (masked_in change t row) ≡ s.guard row) × GuardsShow ts sources

  abbrev visible : List Source → Result (List (List Row)) SqlState
  visible sources = each (λ (s : Source). passing s.guard s.rows) sources

  visible_masked : (ts : List TableOf) (sources : List Source) → GuardsShow ts sources → visible (mask_sources ts sources) ≡ (visible sources >>= λ lists. Ok (mask_lists ts lists))
  visible_masked [] sources show = at (visible sources) where
    at : (r : Result (List (List Row)) SqlState) → r ≡ (r >>= λ lists. Ok lists)
    at (Ok lists) = refl
    at (Err code) = refl
  visible_masked (t ∷ ts) [] show = refl
  visible_masked (t ∷ ts) (s ∷ sources) show =
      ap (λ (r : Result (List Row) SqlState). r >>= λ y. visible (mask_sources ts sources) >>= λ ys. Ok (y ∷ ys)) (passing_changed (masked_in change t) s.guard show.0 s.rows)
      ∙ ap (λ (r : Result (List (List Row)) SqlState). (passing s.guard s.rows >>= λ y. Ok (map (masked_in change t) y)) >>= λ y. r >>= λ ys. Ok (y ∷ ys)) (visible_masked ts sources show.1)
      ∙ at (passing s.guard s.rows) (visible sources)
    where
      at : (r : Result (List Row) SqlState) (q : Result (List (List Row)) SqlState) →
          ((r >>= λ y. Ok (map (masked_in change t) y)) >>= λ y. (q >>= λ lists. Ok (mask_lists ts lists)) >>= λ ys. Ok (y ∷ ys)) ≡ ((r >>= λ y. q >>= λ ys. Ok (y ∷ ys)) >>= λ lists. Ok (mask_lists (t ∷ ts) lists))
      at (Ok y) (Ok ys) = refl
      at (Ok y) (Err code) = refl
      at (Err code) q = refl

  pub query_masked : (users : UserNames) (ts : List TableOf) (q : BoundQuery) (sources : List Source) → QueryClean users ts q → GuardsShow ts sources → query (mask_sources ts sources) users q ≡ query sources users q
  query_masked users ts q sources clean show =
      ap (λ (r : Result (List (List Row)) SqlState). r >>= λ lists. passing (condition_value users q.conditions) (product lists) >>= λ chosen. listed users q.list q.keys q.limit chosen) (visible_masked ts sources show)
      ∙ at (visible sources)
    where
      at : (r : Result (List (List Row)) SqlState) →
          ((r >>= λ lists. Ok (mask_lists ts lists)) >>= λ lists. passing (condition_value users q.conditions) (product lists) >>= λ chosen. listed users q.list q.keys q.limit chosen)
          ≡ (r >>= λ lists. passing (condition_value users q.conditions) (product lists) >>= λ chosen. listed users q.list q.keys q.limit chosen)
      at (Ok lists) = rest_masked users ts q clean lists
      at (Err code) = refl
