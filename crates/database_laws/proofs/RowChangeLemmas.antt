-- The rows that INSERT, UPDATE and DELETE change.
use Rattle.std.proofs.Common.{◌≡◌, Bool, true, false, cond, find, map, bytes_eq, List, [], ◌∷◌, ◌++◌, Some, refl, sym, ap, ◌∙◌, subst, inl, inr, ℕ, Ordering, Less, Equal, Greater, is_lt, is_eq}
use Rattle.std.specs.List.Sorted.{IsPermutation}
use Rattle.std.proofs.lemmas.List.Sorted.{IsPermutation-refl, IsPermutation-trans, IsPermutation-cons, IsPermutation-middle, IsPermutation-append_left}
use Rattle.sql_types.specs.Row.{Row}
use Rattle.sql_ast.specs.Rows.{row_cmp}
use Rattle.abstract_database.specs.Lists.{TheName, Among, change_first, put, the_new}
use Rattle.abstract_database.specs.Database.{Table, Database, is_table_named, rows_in, without_its_rows}
use Rattle.abstract_database.specs.Definitions.{with_rows_of}
use Rattle.abstract_database.specs.Changes.{with_rows}
use Rattle.abstract_database.proofs.ListLemmas.{bytes_same, same_bytes}
use Rattle.abstract_database.proofs.RowOrder.{Apart, apart_put, first_apart, row_reversed}
use Rattle.database_laws.specs.RowChanges.{ChangesRowsOf}

-- ---- one table

module _ (name : TheName) (rows : List Row) where
  abbrev set_rows : Table → Table
  set_rows t = record t { rows = rows }

  no_rows_at : (b : Bool) (t : Table) (ts : List Table) → map without_its_rows (change_first (is_table_named name) set_rows ts) ≡ map without_its_rows ts →
      map without_its_rows (cond b (set_rows t ∷ ts) (t ∷ change_first (is_table_named name) set_rows ts)) ≡ map without_its_rows (t ∷ ts)
  no_rows_at true t ts go = refl
  no_rows_at false t ts go = ap (λ l. without_its_rows t ∷ l) go

  no_rows : (ts : List Table) → map without_its_rows (change_first (is_table_named name) set_rows ts) ≡ map without_its_rows ts
  no_rows [] = refl
  no_rows (t ∷ ts) = no_rows_at (is_table_named name t) t ts (no_rows ts)

  module _ (other : TheName) (differs : bytes_eq other name ≡ false) where
    not_named : (t : Table) → is_table_named name t ≡ true → is_table_named other t ≡ false
    not_named t e = by_test (is_table_named other t) refl where
      by_test : (b : Bool) → is_table_named other t ≡ b → b ≡ false
      by_test true f =
          let same : other ≡ name = sym (bytes_same t.definition.name other f) ∙ bytes_same t.definition.name name e in
          let contrary : true ≡ false = sym (same_bytes other name same) ∙ differs in cc
      by_test false f = refl

    found_at : (b : Bool) (t : Table) (ts : List Table) → is_table_named name t ≡ b → find (is_table_named other) (change_first (is_table_named name) set_rows ts) ≡ find (is_table_named other) ts →
        find (is_table_named other) (cond b (set_rows t ∷ ts) (t ∷ change_first (is_table_named name) set_rows ts)) ≡ find (is_table_named other) (t ∷ ts)
    found_at true t ts e go =
        ap (λ b. cond b (Some (set_rows t)) (find (is_table_named other) ts)) (not_named t e)
        ∙ sym (ap (λ b. cond b (Some t) (find (is_table_named other) ts)) (not_named t e))
    found_at false t ts e go = ap (λ l. cond (is_table_named other t) (Some t) l) go

    found : (ts : List Table) → find (is_table_named other) (change_first (is_table_named name) set_rows ts) ≡ find (is_table_named other) ts
    found [] = refl
    found (t ∷ ts) = found_at (is_table_named name t) t ts refl (found ts)

  pub rows_of_one : (db : Database) → ChangesRowsOf name db (with_rows_of name rows db)
  rows_of_one db = record {
    definitions = ap (λ (ts : List Table). record db { tables = ts }) (no_rows db.tables);
    others = λ other differs. ap rows_in (found other differs db.tables);
  }

-- ---- new rows in key order

put_at : (key : List ℕ) (x y : Row) (ys : List Row) (o : Ordering) → is_eq o ≡ false → IsPermutation (x ∷ ys) (put (row_cmp key) the_new x ys) →
    IsPermutation (x ∷ y ∷ ys) (cond (is_lt o) (x ∷ y ∷ ys) (cond (is_eq o) (the_new y x ∷ ys) (y ∷ put (row_cmp key) the_new x ys)))
put_at key x y ys Less e go = IsPermutation-refl (x ∷ y ∷ ys)
put_at key x y ys Equal e go = cc
put_at key x y ys Greater e go =
    IsPermutation-trans (x ∷ y ∷ ys) (y ∷ x ∷ ys) (y ∷ put (row_cmp key) the_new x ys)
    (IsPermutation-middle (x ∷ []) y ys) (IsPermutation-cons y (x ∷ ys) (put (row_cmp key) the_new x ys) go)

put_permutes : (key : List ℕ) (x : Row) (ys : List Row) → ((w : Row) → Among w ys → is_eq (row_cmp key x w) ≡ false) → IsPermutation (x ∷ ys) (put (row_cmp key) the_new x ys)
put_permutes key x [] h = IsPermutation-refl (x ∷ [])
put_permutes key x (y ∷ ys) h = put_at key x y ys (row_cmp key x y) (h y (inl refl)) (put_permutes key x ys (λ w k. h w (inr k)))

no_more : (l : List Row) → l ++ [] ≡ l
no_more [] = refl
no_more (z ∷ l) = ap (λ t. z ∷ t) (no_more l)

pub with_rows_permutes : (key : List ℕ) (new others : List Row) → Apart (row_cmp key) (row_reversed key) (others ++ new) → IsPermutation (others ++ new) (with_rows key new others)
with_rows_permutes key [] others a = subst (λ l. IsPermutation l others) (sym (no_more others)) (IsPermutation-refl others)
with_rows_permutes key (n ∷ ns) others a =
    let after = put (row_cmp key) the_new n others in
    let one = IsPermutation-append_left ns (n ∷ others) after (put_permutes key n others (first_apart (row_cmp key) (row_reversed key) others n ns a)) in
    let first = IsPermutation-trans (others ++ n ∷ ns) (n ∷ (others ++ ns)) (after ++ ns) (IsPermutation-middle others n ns) one in
    IsPermutation-trans (others ++ n ∷ ns) (after ++ ns) (with_rows key (n ∷ ns) others) first
    (with_rows_permutes key ns after (apart_put (row_cmp key) (row_reversed key) n others ns a))
