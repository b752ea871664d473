-- Three ways to leave out what is in hidden columns: null, what is left of a null, and what is left of a column that has none.
use Rattle.std.proofs.Common.{◌≡◌, ◌+◌, ◌&&◌, ℕ, suc, arith, nat_eq, Bool, true, false, not, cond, map, List, [], ◌∷◌, slice_get, Option, Some, None, refl, sym, ap, ◌∙◌, subst, inl, inr}
use Rattle.std.proofs.lemmas.Bool.{and_parts}
use Rattle.std.specs.List.{list_all}
use Rattle.sql_types.specs.Row.{Row}
use Rattle.sql_types.specs.declared.value.Value.{Value}
use Rattle.sql_types.specs.declared.value.Value.TheVariants.{Null, Int, Text, Bool as Boolean}
use Rattle.sql_ast.specs.declared.columns.Column.{Column}
use Rattle.expressions.specs.Operators.{is_null}
use Rattle.abstract_database.specs.Lists.{Among}
use Rattle.abstract_database.specs.Changes.{keeps_not_null, value_beside, replaced_from}
use Rattle.privilege_laws.specs.HiddenColumns.{changed_from, null_where, masked}

-- ---- one value

-- whether it is null is kept of a column that is NOT NULL
abbrev pub shade : Bool → Bool → Value → Value
shade hides kept v = cond hides (cond (kept && not (is_null v)) (Boolean true) Null) v

-- as if it were not
abbrev full : Bool → Bool → Value → Value
full hides kept v = cond hides (cond kept (Boolean true) Null) v

shade_twice : (b k : Bool) (v : Value) → shade b k (shade b k v) ≡ shade b k v
shade_twice false k v = refl
shade_twice true false v = refl
shade_twice true true Null = refl
shade_twice true true (Int n) = refl
shade_twice true true (Text t) = refl
shade_twice true true (Boolean x) = refl

shade_null : (b k : Bool) (v : Value) → not (k && is_null (shade b k v)) ≡ not (k && is_null v)
shade_null b false v = refl
shade_null false true v = refl
shade_null true true Null = refl
shade_null true true (Int n) = refl
shade_null true true (Text t) = refl
shade_null true true (Boolean x) = refl

shade_full : (b k : Bool) (v : Value) → not (k && is_null v) ≡ true → shade b k v ≡ full b k v
shade_full false k v e = refl
shade_full true false v e = refl
shade_full true true Null e = cc
shade_full true true (Int n) e = refl
shade_full true true (Text t) e = refl
shade_full true true (Boolean x) e = refl

full_masked : (b k : Bool) (v : Value) → full b k (cond b Null v) ≡ full b k v
full_masked true k v = refl
full_masked false k v = refl

masked_shade : (b k : Bool) (v : Value) → cond b Null (shade b k v) ≡ cond b Null v
masked_shade true k v = refl
masked_shade false k v = refl

-- ---- rows

module _ (hidden : ℕ → Bool) (columns : List Column) where
  abbrev is_kept_in : Option Column → Bool
  is_kept_in None = false
  is_kept_in (Some c) = c.not_null

  abbrev pub is_kept : ℕ → Bool
  is_kept index = is_kept_in (slice_get columns index)

  abbrev pub shading : ℕ → Value → Value
  shading index v = shade (hidden index) (is_kept index) v

  abbrev filling : ℕ → Value → Value
  filling index v = full (hidden index) (is_kept index) v

  pub shaded_twice : (first : ℕ) (row : Row) → changed_from first shading (changed_from first shading row) ≡ changed_from first shading row
  shaded_twice first [] = refl
  shaded_twice first (v ∷ vs) = ap (λ (w : Value). w ∷ changed_from (first + 1) shading (changed_from (first + 1) shading vs)) (shade_twice (hidden first) (is_kept first) v) ∙ ap (λ (l : Row). shading first v ∷ l) (shaded_twice (first + 1) vs)

  -- a new value stands in both, or none does
  beside_so : (index : ℕ) (cs : List ℕ) (ws : List Value) (v : Value) → shading index (value_beside index cs ws (shading index v)) ≡ shading index (value_beside index cs ws v)
  beside_so index [] ws v = shade_twice (hidden index) (is_kept index) v
  beside_so index (c ∷ cs) [] v = shade_twice (hidden index) (is_kept index) v
  beside_so index (c ∷ cs) (w ∷ ws) v = at (nat_eq index c) (beside_so index cs ws v) where
    at : (b : Bool) → shading index (value_beside index cs ws (shading index v)) ≡ shading index (value_beside index cs ws v) →
        shading index (cond b w (value_beside index cs ws (shading index v))) ≡ shading index (cond b w (value_beside index cs ws v))
    at true go = refl
    at false go = go

  pub replaced_so : (first : ℕ) (cs : List ℕ) (ws : List Value) (row : Row) →
      changed_from first shading (replaced_from first cs ws (changed_from first shading row)) ≡ changed_from first shading (replaced_from first cs ws row)
  replaced_so first cs ws [] = refl
  replaced_so first cs ws (v ∷ vs) =
      ap (λ (x : Value). x ∷ changed_from (first + 1) shading (replaced_from (first + 1) cs ws (changed_from (first + 1) shading vs))) (beside_so first cs ws v)
      ∙ ap (λ (l : Row). shading first (value_beside first cs ws v) ∷ l) (replaced_so (first + 1) cs ws vs)

  -- these columns stand from this index on
  abbrev StandFrom : ℕ → List Column → Type 0
  StandFrom first cs = (i : ℕ) → is_kept (first + i) ≡ is_kept_in (slice_get cs i)

  first_stands : (first : ℕ) (c : Column) (cs : List Column) → StandFrom first (c ∷ cs) → is_kept first ≡ c.not_null
  first_stands first c cs stand = let at : first + 0 ≡ first = omega arith in subst (λ (n : ℕ). is_kept n ≡ c.not_null) at (stand 0)

  later_stand : (first : ℕ) (c : Column) (cs : List Column) → StandFrom first (c ∷ cs) → StandFrom (first + 1) cs
  later_stand first c cs stand i = let at : first + suc i ≡ (first + 1) + i = omega arith in subst (λ (n : ℕ). is_kept n ≡ is_kept_in (slice_get cs i)) at (stand (suc i))

  none_stand : (first : ℕ) → StandFrom first [] → StandFrom (first + 1) []
  none_stand first stand i = let at : first + suc i ≡ (first + 1) + i = omega arith in subst (λ (n : ℕ). is_kept n ≡ false) at (stand (suc i))

  all_stand : StandFrom 0 columns
  all_stand i = let at : i ≡ 0 + i = omega arith in subst (λ (n : ℕ). is_kept n ≡ is_kept_in (slice_get columns i)) at refl

  keeps_from : (first : ℕ) (cs : List Column) → StandFrom first cs → (row : Row) → keeps_not_null cs (changed_from first shading row) ≡ keeps_not_null cs row
  keeps_from first [] stand row = refl
  keeps_from first (c ∷ cs) stand [] = refl
  keeps_from first (c ∷ cs) stand (v ∷ vs) =
      ap (λ (k : Bool). not (c.not_null && is_null (shade (hidden first) k v)) && keeps_not_null cs (changed_from (first + 1) shading vs)) (first_stands first c cs stand)
      ∙ ap (λ (b : Bool). b && keeps_not_null cs (changed_from (first + 1) shading vs)) (shade_null (hidden first) c.not_null v)
      ∙ ap (λ (b : Bool). not (c.not_null && is_null v) && b) (keeps_from (first + 1) cs (later_stand first c cs stand) vs)

  pub keeps_so : (row : Row) → keeps_not_null columns (changed_from 0 shading row) ≡ keeps_not_null columns row
  keeps_so row = keeps_from 0 columns all_stand row

  filled_from : (first : ℕ) (cs : List Column) → StandFrom first cs → (row : Row) → keeps_not_null cs row ≡ true → changed_from first shading row ≡ changed_from first filling row
  filled_from first cs stand [] keeps = refl
  filled_from first [] stand (v ∷ vs) keeps =
      let at : first + 0 ≡ first = omega arith in
      let none : is_kept first ≡ false = subst (λ (n : ℕ). is_kept n ≡ false) at (stand 0) in
      ap (λ (x : Value). x ∷ changed_from (first + 1) shading vs) (ap (λ (k : Bool). shade (hidden first) k v) none ∙ shade_full (hidden first) false v refl ∙ sym (ap (λ (k : Bool). full (hidden first) k v) none))
      ∙ ap (λ (l : Row). filling first v ∷ l) (filled_from (first + 1) [] (none_stand first stand) vs refl)
  filled_from first (c ∷ cs) stand (v ∷ vs) keeps =
      let parts = and_parts (not (c.not_null && is_null v)) (keeps_not_null cs vs) keeps in
      let one = first_stands first c cs stand in
      ap (λ (x : Value). x ∷ changed_from (first + 1) shading vs) (ap (λ (k : Bool). shade (hidden first) k v) one ∙ shade_full (hidden first) c.not_null v parts.0 ∙ sym (ap (λ (k : Bool). full (hidden first) k v) one))
      ∙ ap (λ (l : Row). filling first v ∷ l) (filled_from (first + 1) cs (later_stand first c cs stand) vs parts.1)

  filled_masked : (first : ℕ) (row : Row) → changed_from first filling (changed_from first (null_where hidden) row) ≡ changed_from first filling row
  filled_masked first [] = refl
  filled_masked first (v ∷ vs) =
      ap (λ (x : Value). x ∷ changed_from (first + 1) filling (changed_from (first + 1) (null_where hidden) vs)) (full_masked (hidden first) (is_kept first) v)
      ∙ ap (λ (l : Row). filling first v ∷ l) (filled_masked (first + 1) vs)

  masked_shaded : (first : ℕ) (row : Row) → changed_from first (null_where hidden) (changed_from first shading row) ≡ changed_from first (null_where hidden) row
  masked_shaded first [] = refl
  masked_shaded first (v ∷ vs) =
      ap (λ (x : Value). x ∷ changed_from (first + 1) (null_where hidden) (changed_from (first + 1) shading vs)) (masked_shade (hidden first) (is_kept first) v)
      ∙ ap (λ (l : Row). null_where hidden first v ∷ l) (masked_shaded (first + 1) vs)

  -- ---- lists of rows

  abbrev shaded : Row → Row
  shaded row = changed_from 0 shading row

  abbrev pub AllKeep : List Row → Type 0
  AllKeep rows = (row : Row) → Among row rows → keeps_not_null columns row ≡ true

  all_filled : (rows : List Row) → AllKeep rows → map shaded rows ≡ map (λ (row : Row). changed_from 0 filling row) (map (masked hidden) rows)
  all_filled [] keep = refl
  all_filled (row ∷ rows) keep =
      ap (λ (x : Row). x ∷ map shaded rows) (filled_from 0 columns all_stand row (keep row (inl refl)) ∙ sym (filled_masked 0 row))
      ∙ ap (λ (l : List Row). changed_from 0 filling (masked hidden row) ∷ l) (all_filled rows (λ r h. keep r (inr h)))

  -- of rows that keep NOT NULL
  pub shaded_alike : (rows there : List Row) → AllKeep rows → AllKeep there → map (masked hidden) rows ≡ map (masked hidden) there → map shaded rows ≡ map shaded there
  shaded_alike rows there keep keep_there same = all_filled rows keep ∙ ap (map (λ (row : Row). changed_from 0 filling row)) same ∙ sym (all_filled there keep_there)

  all_masked : (rows : List Row) → map (masked hidden) rows ≡ map (masked hidden) (map shaded rows)
  all_masked [] = refl
  all_masked (row ∷ rows) = ap (λ (x : Row). x ∷ map (masked hidden) rows) (sym (masked_shaded 0 row)) ∙ ap (λ (l : List Row). masked hidden (shaded row) ∷ l) (all_masked rows)

  pub masked_alike : (rows there : List Row) → map shaded rows ≡ map shaded there → map (masked hidden) rows ≡ map (masked hidden) there
  masked_alike rows there same = all_masked rows ∙ ap (map (masked hidden)) same ∙ sym (all_masked there)

  pub all_keep_so : (rows : List Row) → list_all (keeps_not_null columns) (map shaded rows) ≡ list_all (keeps_not_null columns) rows
  all_keep_so [] = refl
  all_keep_so (row ∷ rows) = ap (λ (b : Bool). b && list_all (keeps_not_null columns) (map shaded rows)) (keeps_so row) ∙ ap (λ (b : Bool). keeps_not_null columns row && b) (all_keep_so rows)
