-- Records that spell rows hold them.
use Rattle.std.proofs.Common.{◌≡◌, ℕ, true, List, [], ◌∷◌, ◌++◌, map, drop, length, refl, sym, ap, ◌∙◌, arith, nat_eq}
use Rattle.std.proofs.lemmas.Bool.{and_parts}
use Rattle.std.proofs.lemmas.Bool.Decides.{nat_tests}
use Rattle.std.specs.List.{AllByRecursion}
use Rattle.sql_types.specs.Row.{Row}
use Rattle.sql_ast.specs.Layout.{Layout}
use Rattle.sql_ast.specs.Fits.{FitsTable}
use Rattle.store.specs.Records.{Record, Records, has_prefix}
use Rattle.row_codec.specs.Rows.{row_prefix, row_key, row_value}
use Rattle.stored_database.specs.RecordFormat.{row_record}
use Rattle.stored_database.proofs.Lengths.{prefix_long}
use Rattle.table_rows.specs.HeldRows.{AreRecordsOf, SpellsRow}
use Rattle.table_rows.proofs.Changing.{each_of}

-- a key that begins so is that front and what follows it
front_is : (p k : List ℕ) → has_prefix p k ≡ true → k ≡ p ++ drop (length p) k
front_is [] k h = refl
front_is (x ∷ p) [] h = cc
front_is (x ∷ p) (y ∷ k) h =
    let both = and_parts (nat_eq x y) (has_prefix p k) h in
    let same : x ≡ y = grind (arith, nat_tests, both.0) in
    ap (λ n. n ∷ k) (sym same) ∙ ap (λ (rest : List ℕ). x ∷ rest) (front_is p k both.1)

record_is : (id : ℕ) (layout : Layout) (e : Record) (s : SpellsRow layout e) → has_prefix (row_prefix id) e.0 ≡ true → e ≡ row_record id layout s.0
record_is id layout e s h =
    let long : length (row_prefix id) ≡ 5 = (let four = prefix_long id in omega (arith, four)) in
    let key : e.0 ≡ row_prefix id ++ row_key layout s.0 = front_is (row_prefix id) e.0 h ∙ ap (λ (n : ℕ). row_prefix id ++ drop n e.0) long ∙ ap (λ (k : List ℕ). row_prefix id ++ k) s.1.key_spelled in
    let value : e.1 ≡ row_value layout s.0 = s.1.value_spelled in
    ap (λ (k : List ℕ). (k, e.1)) key ∙ ap (λ (v : List ℕ). (row_prefix id ++ row_key layout s.0, v)) value

-- records that spell rows are the records of rows
pub record RecordFormat (id : ℕ) (layout : Layout) (records : Records) : Type 0 where
  pub rows : List Row
  pub are : records ≡ map (row_record id layout) rows
  pub fit : AllByRecursion (FitsTable layout) rows

record_format_of : (id : ℕ) (layout : Layout) (es : Records) → AllByRecursion (λ e. has_prefix (row_prefix id) e.0 ≡ true) es → AllByRecursion (SpellsRow layout) es → RecordFormat id layout es
record_format_of id layout [] prefixed all = record { rows = []; are = refl; fit = tt }
record_format_of id layout (e ∷ es) prefixed all =
    let rest = record_format_of id layout es prefixed.1 all.1 in
    let first : e ≡ row_record id layout all.0.0 = record_is id layout e all.0 prefixed.0 in
    record {
      rows = all.0.0 ∷ rest.rows;
      are = ap (λ (f : Record). f ∷ es) first ∙ ap (λ (fs : Records). row_record id layout all.0.0 ∷ fs) rest.are;
      fit = (all.0.1.fits, rest.fit);
    }

-- the rows that they hold
pub rows_spelled : (id : ℕ) (layout : Layout) (es : Records) → AllByRecursion (λ e. has_prefix (row_prefix id) e.0 ≡ true) es → AllByRecursion (SpellsRow layout) es → (rows : List Row) × AreRecordsOf id layout rows es
rows_spelled id layout es prefixed all =
    let s = record_format_of id layout es prefixed all in
    (s.rows, record { are = s.are; fit = each_of (FitsTable layout) s.rows s.fit })
