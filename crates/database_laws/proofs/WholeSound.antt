-- A whole database is sound.
use Rattle.std.proofs.Common.{◌≡◌, ◌&&◌, ◌||◌, ℕ, zero, suc, Bool, true, false, not, length, List, [], ◌∷◌, slice_get, refl, ap, inl, inr, arith, Less}
use Rattle.std.specs.List.{list_any}
use Rattle.std.specs.declared.cmp.Ordering.{Ordering}
use Rattle.sql_types.specs.Row.{Row, value_at}
use Rattle.sql_types.specs.declared.value.Value.{Value}
use Rattle.sql_types.specs.declared.value.Value.TheVariants.{Null, Int, Text, Bool as Boolean}
use Rattle.sql_ast.specs.declared.columns.Column.{Column}
use Rattle.std.specs.Ordering.{is_eq}
use Rattle.sql_ast.specs.Rows.{row_cmp}
use Rattle.sql_ast.specs.Fits.{FitsColumn, FitsColumnIfAny}
use Rattle.expressions.specs.Operators.{is_null}
use Rattle.abstract_database.specs.Lists.{Among, Rising}
use Rattle.abstract_database.specs.Changes.{has_double_key, keeps_not_null}
use Rattle.database_laws.specs.WholeDatabases.{whole_databases_are_sound}
use Rattle.abstract_database.proofs.NewRows.{types_of}

-- ---- nulls

both_true : (a b : Bool) → a ≡ true → b ≡ true → (a && b) ≡ true
both_true true b e f = f
both_true false b e f = cc

no_null : (b : Bool) → not (b && false) ≡ true
no_null true = refl
no_null false = refl

null_fits : (c : Column) (v : Value) → FitsColumn c v → not (c.not_null && is_null v) ≡ true
null_fits c Null f = ap (λ (b : Bool). not (b && true)) f
null_fits c (Int z) f = no_null c.not_null
null_fits c (Text t) f = no_null c.not_null
null_fits c (Boolean b) f = no_null c.not_null

kept : (columns : List Column) (row : Row) → length row ≡ length columns → ((index : ℕ) → FitsColumnIfAny (slice_get columns index) (value_at row index)) → keeps_not_null columns row ≡ true
kept [] row width f = refl
kept (c ∷ cs) [] width f = refl
kept (c ∷ cs) (v ∷ vs) width f = both_true (not (c.not_null && is_null v)) (keeps_not_null cs vs) (null_fits c v (f zero)) (kept cs vs (omega (arith, width)) (λ i. f (suc i)))

-- ---- keys

both_false : (a b : Bool) → a ≡ false → b ≡ false → (a || b) ≡ false
both_false true b e f = cc
both_false false b e f = f

module _ (key : List ℕ) where
  not_equal : (row : Row) (rows : List Row) → ((y : Row) → Among y rows → row_cmp key row y ≡ Less) → list_any (λ other. is_eq (row_cmp key row other)) rows ≡ false
  not_equal row [] less = refl
  not_equal row (y ∷ rows) less =
      both_false (is_eq (row_cmp key row y)) (list_any (λ other. is_eq (row_cmp key row other)) rows)
      (ap (λ (o : Ordering). is_eq o) (less y (inl refl))) (not_equal row rows (λ z h. less z (inr h)))

  no_double : (rows : List Row) → Rising (row_cmp key) rows → has_double_key key rows ≡ false
  no_double [] rises = refl
  no_double (row ∷ rows) rises =
      both_false (list_any (λ other. is_eq (row_cmp key row other)) rows) (has_double_key key rows) (not_equal row rows rises.0) (no_double rows rises.1)

-- ---- databases

pub whole_sound : whole_databases_are_sound
whole_sound db whole = (
  λ t h. ((whole.definitions.tables.tables t h).layout.names_differ, λ row k. types_of t.definition.layout.columns row ((whole.rows t h).fit row k).columns.width ((whole.rows t h).fit row k).columns.each),
  λ t h. (whole.rows t h).order,
  λ t h. no_double t.definition.layout.key t.rows (whole.rows t h).order,
  λ t h. λ row k. kept t.definition.layout.columns row ((whole.rows t h).fit row k).columns.width ((whole.rows t h).fit row k).columns.each,
)
