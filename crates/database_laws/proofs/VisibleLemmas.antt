-- Rows that pass are those of a filter.
use Rattle.std.proofs.Common.{◌≡◌, ◌&&◌, ◌||◌, not, Bool, true, false, cond, is_none, option_to_list, List, [], ◌∷◌, ◌++◌, filter, Option, Some, None, Result, Ok, Err, refl, sym, ap, ◌∙◌, subst, inl, inr}
use Rattle.sql_types.specs.Row.{Row}
use Rattle.sql_types.specs.declared.state.SqlState.{SqlState}
use Rattle.sql_types.specs.declared.value.Value.{Value}
use Rattle.sql_types.specs.declared.value.Value.TheVariants.{Null, Int, Text, Bool as Boolean}
use Rattle.sql_ast.specs.declared.privilege.Action.TheVariants as action
use Rattle.expressions.specs.Outcome.{Outcome}
use Rattle.expressions.specs.Meaning.{UserNames}
use Rattle.expressions.specs.Stages.{◌>>=◌, each}
use Rattle.abstract_database.specs.Lists.{Among, drop_where}
use Rattle.abstract_database.specs.Database.{TableOf, Database}
use Rattle.abstract_database.specs.Expressions.{passing, when_true}
use Rattle.abstract_database.specs.Guards.{Guard, guard, using_clause, with_select}
use Rattle.abstract_database.specs.Changes.{Chosen, choose, new_rows, other_rows}
use Rattle.abstract_database.proofs.ResultLemmas.{ok_inside, bind_ok, Every, every_bind, every_ok}
use Rattle.database_laws.specs.Visible.{is_met, HasValue}

when_met : {A : Type 0} (v : Value) (this other : A) → when_true v this other ≡ cond (is_met (Ok v)) this other
when_met (Boolean true) this other = refl
when_met (Boolean false) this other = refl
when_met Null this other = refl
when_met (Int n) this other = refl
when_met (Text t) this other = refl

-- ---- passing

module _ {A : Type 0} (p : A → Outcome) where
  pub passing_is_filter : (xs ys : List A) → passing p xs ≡ Ok ys → ys ≡ filter (λ x. is_met (p x)) xs
  passing_is_filter [] ys e = sym (ok_inside [] ys e)
  passing_is_filter (x ∷ xs) ys e =
      let first = bind_ok (p x) (λ v. passing p xs >>= λ l. Ok (when_true v (x ∷ l) l)) ys e in
      let rest = bind_ok (passing p xs) (λ l. Ok (when_true first.0 (x ∷ l) l)) ys first.2 in
      sym (ok_inside (when_true first.0 (x ∷ rest.0) rest.0) ys rest.2)
      ∙ when_met first.0 (x ∷ rest.0) rest.0
      ∙ ap (λ o. cond (is_met o) (x ∷ rest.0) rest.0) (sym first.1)
      ∙ ap (λ l. cond (is_met (p x)) (x ∷ l) l) (passing_is_filter xs rest.0 rest.1)

  -- without a failure the filter is what passes
  pub filter_is_passing : (xs : List A) → ((x : A) → Among x xs → HasValue (p x)) → passing p xs ≡ Ok (filter (λ x. is_met (p x)) xs)
  filter_is_passing [] h = refl
  filter_is_passing (x ∷ xs) h =
      let v = h x (inl refl) in
      let rest = filter (λ y. is_met (p y)) xs in
      ap (λ (o : Outcome). o >>= λ w. passing p xs >>= λ l. Ok (when_true w (x ∷ l) l)) v.1
      ∙ ap (λ (r : Result (List A) SqlState). r >>= λ l. Ok (when_true v.0 (x ∷ l) l)) (filter_is_passing xs (λ y k. h y (inr k)))
      ∙ ap (λ (l : List A). Ok l) (when_met v.0 (x ∷ rest) rest ∙ ap (λ o. cond (is_met o) (x ∷ rest) rest) (sym v.1))

-- ---- guards

pub and_true : (b : Bool) → b ≡ (b && true)
and_true true = refl
and_true false = refl

pub and_assoc : (a b c : Bool) → ((a && b) && c) ≡ (a && (b && c))
and_assoc true b c = refl
and_assoc false b c = refl

both_met : (o p : Outcome) → is_met (o >>= λ v. when_true v p (Ok v)) ≡ (is_met o && is_met p)
both_met (Ok (Boolean true)) p = refl
both_met (Ok (Boolean false)) p = refl
both_met (Ok Null) p = refl
both_met (Ok (Int n)) p = refl
both_met (Ok (Text t)) p = refl
both_met (Err code) p = refl

module _ (db : Database) (users : UserNames) (t : TableOf) where
  pub with_select_met : (reads : Bool) (first : Guard) (row : Row) →
      is_met (with_select db users t reads first row) ≡ (is_met (first row) && (not reads || is_met (guard db users t action.Select using_clause row)))
  with_select_met false first row = and_true (is_met (first row))
  with_select_met true first row = both_met (first row) (guard db users t action.Select using_clause row)

-- ---- rows that are chosen

-- what a row becomes, if anything
abbrev pub becoming : Bool → Result Row SqlState → Result (Option Row) SqlState
becoming b r = cond b (r >>= λ x. Ok (Some x)) (Ok None)

pub record IsChosenAs (b : Bool) (becomes : Row → Result Row SqlState) (row : Row) (c : Chosen) : Type 0 where
  pub row_is : c.row ≡ row
  pub new_is : becoming b (becomes row) ≡ Ok c.new

when_and : (v : Value) (o : Outcome) → is_met (when_true v o (Ok (Boolean false))) ≡ (is_met (Ok v) && is_met o)
when_and (Boolean true) o = refl
when_and (Boolean false) o = refl
when_and Null o = refl
when_and (Int n) o = refl
when_and (Text t) o = refl

pub chosen_as : (g : Guard) (condition : Row → Outcome) (becomes : Row → Result Row SqlState) (row : Row) →
    Every (IsChosenAs (is_met (g row) && is_met (condition row)) becomes row) (choose g condition becomes row)
chosen_as g condition becomes row =
    let P = IsChosenAs (is_met (g row) && is_met (condition row)) becomes row in
    every_bind P (g row) _ (λ seen a.
    every_bind P (when_true seen (condition row) (Ok (Boolean false))) _ (λ expected b.
    every_bind P (when_true expected (becomes row >>= λ r. Ok (Some r)) (Ok None)) _ (λ new c.
    let met : is_met (g row) && is_met (condition row) ≡ is_met (Ok expected) =
    ap (λ o. is_met o && is_met (condition row)) a ∙ sym (when_and seen (condition row)) ∙ ap is_met b in
    every_ok P (record { row = row; new = new }) (record {
      row_is = refl;
      new_is = ap (λ m. becoming m (becomes row)) met ∙ sym (when_met expected (becomes row >>= λ r. Ok (Some r)) (Ok None)) ∙ c;
    }))))

-- the rows that a test chooses are replaced, and the others stay
pub record IsSplitBy (test : Row → Bool) (becomes : Row → Result Row SqlState) (rows : List Row) (chosen : List Chosen) : Type 0 where
  pub others : other_rows chosen ≡ drop_where test rows
  pub new : each becomes (filter test rows) ≡ Ok (new_rows chosen)

none_becomes : (b : Bool) (r : Result Row SqlState) → becoming b r ≡ Ok None → b ≡ false
none_becomes true (Ok x) e = cc
none_becomes true (Err code) e = cc
none_becomes false r e = refl

some_becomes : (b : Bool) (r : Result Row SqlState) (x : Row) → becoming b r ≡ Ok (Some x) → (b ≡ true) × (r ≡ Ok x)
some_becomes true (Ok y) x e = (refl, cc)
some_becomes true (Err code) x e = cc
some_becomes false r x e = cc

others_at : (b : Bool) (r : Result Row SqlState) (new : Option Row) (old row : Row) (others : List Row) → old ≡ row → becoming b r ≡ Ok new →
    cond (is_none new) (old ∷ []) [] ++ others ≡ cond (not b) (row ∷ others) others
others_at b r None old row others is e = ap (λ z. z ∷ others) is ∙ ap (λ m. cond (not m) (row ∷ others) others) (sym (none_becomes b r e))
others_at b r (Some x) old row others is e = ap (λ m. cond (not m) (row ∷ others) others) (sym (some_becomes b r x e).0)

new_at : (becomes : Row → Result Row SqlState) (row : Row) (b : Bool) (new : Option Row) (rows news : List Row) → becoming b (becomes row) ≡ Ok new → each becomes rows ≡ Ok news →
    each becomes (cond b (row ∷ rows) rows) ≡ Ok (option_to_list new ++ news)
new_at becomes row b None rows news e f = ap (λ m. each becomes (cond m (row ∷ rows) rows)) (none_becomes b (becomes row) e) ∙ f
new_at becomes row b (Some x) rows news e f =
    let made = some_becomes b (becomes row) x e in
    ap (λ m. each becomes (cond m (row ∷ rows) rows)) made.0
    ∙ ap (λ (r : Result Row SqlState). r >>= λ y. each becomes rows >>= λ ys. Ok (y ∷ ys)) made.1
    ∙ ap (λ (r : Result (List Row) SqlState). r >>= λ ys. Ok (x ∷ ys)) f

module _ (test : Row → Bool) (becomes : Row → Result Row SqlState) (f : Row → Result Chosen SqlState) (of : (row : Row) → Every (IsChosenAs (test row) becomes row) (f row)) where
  pub split : (rows : List Row) (chosen : List Chosen) → each f rows ≡ Ok chosen → IsSplitBy test becomes rows chosen
  split [] chosen e = subst (IsSplitBy test becomes []) (ok_inside [] chosen e) (record { others = refl; new = refl })
  split (row ∷ rows) chosen e =
      let first = bind_ok (f row) (λ y. each f rows >>= λ l. Ok (y ∷ l)) chosen e in
      let rest = bind_ok (each f rows) (λ l. Ok (first.0 ∷ l)) chosen first.2 in
      let one = of row first.0 first.1 in
      let more = split rows rest.0 rest.1 in
      subst (IsSplitBy test becomes (row ∷ rows)) (ok_inside (first.0 ∷ rest.0) chosen rest.2) (record {
        others = ap (λ l. cond (is_none first.0.new) (first.0.row ∷ []) [] ++ l) more.others ∙ others_at (test row) (becomes row) first.0.new first.0.row row (drop_where test rows) one.row_is one.new_is;
        new = new_at becomes row (test row) first.0.new (filter test rows) (new_rows rest.0) one.new_is more.new;
      })
