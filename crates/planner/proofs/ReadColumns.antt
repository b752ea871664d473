-- The columns that bound expressions read, and those that a mask does not cover.
use Rattle.std.proofs.Common.{◌≡◌, ℕ, ◌+◌, nat_eq, nat_lt, Bool, true, false, not, cond, ◌&&◌, ◌||◌, List, [], ◌∷◌, ◌++◌, map, filter, flat_map, length, refl, sym, ap, ◌∙◌}
use Rattle.std.specs.List.{list_any, list_all, range_with_len}
use Rattle.std.proofs.lemmas.List.Folds.{list_any-append}
use Rattle.sql_ast.specs.declared.scope.ColumnIndex.{ColumnIndex}
use Rattle.sql_ast.specs.Term.{Term, literal, column, current_user, session_user, comparison, operation, minus, conjunction, disjunction, negation, null_test, not_null_test, member_test}
use Rattle.expressions.specs.Types.{TypedTerm}
use Rattle.abstract_database.specs.Expressions.{columns_in}
use Rattle.abstract_database.specs.Needs.{has_any, columns_read, columns_of_query, terms_of_list, terms_of_query}
use Rattle.abstract_database.specs.Queries.{BoundList, each_column, each_value, their_count, BoundKey, BoundQuery}
use Rattle.sql_ast.specs.Layout.{Layout}
use Rattle.gathering.specs.declared.query.TypedSortKey.{TypedSortKey}
use Rattle.gathering.specs.declared.query.OutputList.{OutputList}
use Rattle.gathering.specs.declared.query.OutputList.TheVariants.{Rows, Count}
use Rattle.gathering.specs.declared.query.Query.{Query}
use Rattle.gathering.specs.declared.query.RowList.TheVariants.{Columns, Values}
use Rattle.gathering.specs.Queries.{bound_of, key_of, list_of}
use Rattle.gathering.specs.Reads.{list_reads, names, reads}
use Rattle.catalogue.specs.Grants.{has_bit}
use Rattle.planner.specs.Reading.{lacks, is_each_column}
use Rattle.planner.specs.Rights.{covers}
use Rattle.planner.proofs.MaskBits.{no_bit}

module _ (kind : ColumnIndex → Bool) where
  both : (a b : Term ColumnIndex) → names kind a ≡ list_any kind (columns_in a) → names kind b ≡ list_any kind (columns_in b) → (names kind a || names kind b) ≡ list_any kind (columns_in a ++ columns_in b)
  both a b e f = ap (λ x. x || names kind b) e ∙ ap (λ x. list_any kind (columns_in a) || x) f ∙ sym (list_any-append kind (columns_in a) (columns_in b))

  names_any : (t : Term ColumnIndex) → names kind t ≡ list_any kind (columns_in t)
  names_any (literal v) = refl
  names_any (column c) = or_none (kind c) where
    or_none : (b : Bool) → b ≡ (b || false)
    or_none true = refl
    or_none false = refl
  names_any current_user = refl
  names_any session_user = refl
  names_any (comparison op a b) = both a b (names_any a) (names_any b)
  names_any (operation op a b) = both a b (names_any a) (names_any b)
  names_any (minus a) = names_any a
  names_any (conjunction a b) = both a b (names_any a) (names_any b)
  names_any (disjunction a b) = both a b (names_any a) (names_any b)
  names_any (negation a) = names_any a
  names_any (null_test a) = names_any a
  names_any (not_null_test a) = names_any a
  names_any (member_test a) = names_any a

  any_names : (ts : List (Term ColumnIndex)) → list_any (names kind) ts ≡ list_any kind (flat_map columns_in ts)
  any_names [] = refl
  any_names (t ∷ ts) =
      ap (λ b. b || list_any (names kind) ts) (names_any t) ∙ ap (λ b. list_any kind (columns_in t) || b) (any_names ts)
      ∙ sym (list_any-append kind (columns_in t) (flat_map columns_in ts))

all_kept : (p : ColumnIndex → Bool) (q : ℕ → Bool) (cs : List ColumnIndex) → list_all q (map (λ c. c.column) (filter p cs)) ≡ not (list_any (λ c. p c && not (q c.column)) cs)
all_kept p q [] = refl
all_kept p q (c ∷ cs) = step (p c) (all_kept p q cs) where
  turned : (x y : Bool) → (x && not y) ≡ not (not x || y)
  turned true y = refl
  turned false y = refl

  step : (x : Bool) → list_all q (map (λ c. c.column) (filter p cs)) ≡ not (list_any (λ c. p c && not (q c.column)) cs) → list_all q (map (λ c. c.column) (cond x (c ∷ filter p cs) (filter p cs))) ≡ not ((x && not (q c.column)) || list_any (λ c. p c && not (q c.column)) cs)
  step false rest = rest
  step true rest = ap (λ b. q c.column && b) rest ∙ turned (q c.column) (list_any (λ c. p c && not (q c.column)) cs)

-- each column that is read is covered where none is named that is not
pub read_covered : (bit : ℕ → Bool) (number : ℕ) (ts : List (Term ColumnIndex)) → list_all (covers bit) (columns_read number ts) ≡ not (list_any (names (lacks bit number)) ts)
read_covered bit number ts = all_kept (λ c. nat_eq c.table number) (covers bit) (flat_map columns_in ts) ∙ ap not (sym (any_names (lacks bit number) ts))

-- the empty mask covers none
none_covered : (c : ℕ) → covers (has_bit 0) c ≡ false
none_covered c = ap (λ b. b || (nat_lt c 31 && has_bit 0 (c + 1))) (no_bit 0) ∙ ap (λ b. nat_lt c 31 && b) (no_bit (c + 1)) ∙ nothing (nat_lt c 31) where
  nothing : (b : Bool) → (b && false) ≡ false
  nothing true = refl
  nothing false = refl

-- what the empty mask does not cover is each column that is read
kept : (number : ℕ) (cs : List ColumnIndex) → list_any (lacks (has_bit 0) number) cs ≡ has_any (map (λ c. c.column) (filter (λ c. nat_eq c.table number) cs))
kept number [] = refl
kept number (c ∷ cs) = ap (λ b. (nat_eq c.table number && not b) || list_any (lacks (has_bit 0) number) cs) (none_covered c.column) ∙ step (nat_eq c.table number) (kept number cs) where
  step : (x : Bool) → list_any (lacks (has_bit 0) number) cs ≡ has_any (map (λ c. c.column) (filter (λ c. nat_eq c.table number) cs)) →
      ((x && true) || list_any (lacks (has_bit 0) number) cs) ≡ has_any (map (λ c. c.column) (cond x (c ∷ filter (λ c. nat_eq c.table number) cs) (filter (λ c. nat_eq c.table number) cs)))
  step true rest = refl
  step false rest = rest

pub reads_any : (number : ℕ) (ts : List (Term ColumnIndex)) → list_any (names (lacks (has_bit 0) number)) ts ≡ has_any (columns_read number ts)
reads_any number ts = any_names (lacks (has_bit 0) number) ts ∙ kept number (flat_map columns_in ts)

-- the bit of the table covers each column
pub whole_covers : (bit : ℕ → Bool) → bit 0 ≡ true → (cs : List ℕ) → list_all (covers bit) cs ≡ true
whole_covers bit e [] = refl
whole_covers bit e (c ∷ cs) = ap (λ b. (b || (nat_lt c 31 && bit (c + 1))) && list_all (covers bit) cs) e ∙ whole_covers bit e cs

pub any_through : {X : Type 0} (f : X → Term ColumnIndex) (kind : ColumnIndex → Bool) (xs : List X) → list_any (λ x. names kind (f x)) xs ≡ list_any (names kind) (map f xs)
any_through f kind [] = refl
any_through f kind (x ∷ xs) = ap (λ b. names kind (f x) || b) (any_through f kind xs)

-- values, and what stands behind them
module _ (kind : ColumnIndex → Bool) where
  pub either : (us : List TypedTerm) (more : List (Term ColumnIndex)) (a b : Bool) → a ≡ list_any (λ (u : TypedTerm). names kind u.term) us → b ≡ list_any (names kind) more →
      (a || b) ≡ list_any (names kind) (map (λ (u : TypedTerm). u.term) us ++ more)
  either us more a b e f =
      ap (λ x. x || b) (e ∙ any_through (λ (u : TypedTerm). u.term) kind us) ∙ ap (λ x. list_any (names kind) (map (λ (u : TypedTerm). u.term) us) || x) f
      ∙ sym (list_any-append (names kind) (map (λ (u : TypedTerm). u.term) us) more)

pub first_so : (a b : Bool) → a ≡ true → a ≡ (a || b)
first_so a b e = e ∙ sym (ap (λ x. x || b) e)

pub then_so : (a b : Bool) → a ≡ false → b ≡ (a || b)
then_so a b e = sym (ap (λ x. x || b) e)

-- ---- queries

keys_by_value : (keys : List TypedSortKey) → map (λ (key : TypedSortKey). key.value.term) keys ≡ map (λ (key : BoundKey). key.term) (map key_of keys)
keys_by_value [] = refl
keys_by_value (key ∷ keys) = ap (λ l. key.value.term ∷ l) (keys_by_value keys)

module _ (q : BoundQuery) (number : ℕ) (layout : Layout) where
  pub each_read : is_each_column q.list ≡ true → columns_of_query q number layout ≡ range_with_len 0 (length layout.columns)
  each_read h = go q.list refl h where
    go : (l : BoundList) → q.list ≡ l → is_each_column l ≡ true → columns_of_query q number layout ≡ range_with_len 0 (length layout.columns)
    go each_column e k = rw e refl
    go (each_value terms) e k = cc
    go their_count e k = cc

  pub named_read : is_each_column q.list ≡ false → columns_of_query q number layout ≡ columns_read number (terms_of_query q)
  named_read h = go q.list refl h where
    go : (l : BoundList) → q.list ≡ l → is_each_column l ≡ false → columns_of_query q number layout ≡ columns_read number (terms_of_query q)
    go each_column e k = cc
    go (each_value terms) e k = rw e refl
    go their_count e k = rw e refl

-- what the program reads of a query is what its expressions name
module _ (kind : ColumnIndex → Bool) where
  list_named : (l : OutputList) → is_each_column (list_of l) ≡ false → list_reads l kind ≡ list_any (names kind) (terms_of_list (list_of l))
  list_named (Rows (Columns widths)) e = cc
  list_named (Rows (Values values)) e = any_through (λ (u : TypedTerm). u.term) kind values
  list_named Count e = refl

  pub query_named : (q : Query) → is_each_column (list_of q.list) ≡ false → reads q kind ≡ list_any (names kind) (terms_of_query (bound_of q))
  query_named q e =
      let list = terms_of_list (list_of q.list) in
      let keys = map (λ (key : BoundKey). key.term) (map key_of q.keys) in
      let behind = list_any (λ (u : TypedTerm). names kind u.term) q.conditions || list_any (λ (key : TypedSortKey). names kind key.value.term) q.keys in
      let keys_named = any_through (λ (key : TypedSortKey). key.value.term) kind q.keys ∙ ap (list_any (names kind)) (keys_by_value q.keys) in
      ap (λ b. b || behind) (list_named q.list e)
      ∙ ap (λ b. list_any (names kind) list || b) (either kind q.conditions keys _ _ refl keys_named)
      ∙ sym (list_any-append (names kind) list (map (λ (u : TypedTerm). u.term) q.conditions ++ keys))
