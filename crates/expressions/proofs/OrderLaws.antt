-- The order of values, type by type.
use Rattle.std.proofs.Common.{◌≡◌, ◌<◌, refl, ap, ◌∙◌, ℕ, Bool, true, false, List, [], ◌∷◌, ◌++◌, arith}
use Rattle.std.specs.Prelude.{Option, Some, None}
use Rattle.std.specs.declared.cmp.Ordering.{Ordering}
use Rattle.std.specs.declared.cmp.Ordering.TheVariants.{Less, Equal, Greater}
use Rattle.std.specs.Ordering.{nat_cmp, bool_cmp, ordering_reverse}
use Rattle.std.specs.Cmp.{bool_cmp_total}
use Rattle.std.specs.Cmp.Lexicographic.{slice_cmp}
use Rattle.std.proofs.lemmas.Cmp.{int_cmp_total, nat_list_cmp_total, nat_cmp_total, tied_itself}
use Rattle.std.proofs.lemmas.Map.Lookups.{exact_signed, exact_bytes}
use Rattle.sql_types.specs.declared.value.Value.{Value}
use Rattle.sql_types.specs.declared.value.Value.TheVariants.{Null, Int, Text, Bool as Boolean}
use Rattle.sql_types.specs.Value.{compare_values}
use Rattle.sql_ast.specs.declared.columns.ColumnType.{ColumnType}
use Rattle.expressions.specs.Types.{type_of_value}

some_same : {a b : Ordering} → Some a ≡ Some b → a ≡ b
some_same h = cc

-- a value of a type is the same as itself
pub compared_itself : (t : ColumnType) (x : Value) → type_of_value x ≡ Some t → compare_values x x ≡ Some Equal
compared_itself t Null h = cc
compared_itself t (Int a) h = ap Some (tied_itself int_cmp_total a)
compared_itself t (Text a) h = ap Some (tied_itself nat_list_cmp_total a)
compared_itself t (Boolean a) h = ap Some (tied_itself bool_cmp_total a)

bool_exact : (a b : Bool) → bool_cmp a b ≡ Equal → a ≡ b
bool_exact true true h = refl
bool_exact true false h = cc
bool_exact false true h = cc
bool_exact false false h = refl

-- values that are the same are equal
pub compared_equal : (x y : Value) → compare_values x y ≡ Some Equal → x ≡ y
compared_equal (Int a) (Int b) h = ap Int (exact_signed a b (some_same h))
compared_equal (Text a) (Text b) h = ap Text (exact_bytes a b (some_same h))
compared_equal (Boolean a) (Boolean b) h = ap Boolean (bool_exact a b (some_same h))
compared_equal _ _ h = cc

abbrev turned_round : Option Ordering → Option Ordering
turned_round None = None
turned_round (Some o) = Some (ordering_reverse o)

-- the order of two values is that of the second with the first, turned round
pub compared_turned : (x y : Value) → compare_values x y ≡ turned_round (compare_values y x)
compared_turned (Int a) (Int b) = ap Some (int_cmp_total.antisymm a b)
compared_turned (Text a) (Text b) = ap Some (nat_list_cmp_total.antisymm a b)
compared_turned (Boolean a) (Boolean b) = ap Some (bool_cmp_total.antisymm a b)
compared_turned Null Null = refl
compared_turned Null (Int b) = refl
compared_turned Null (Text b) = refl
compared_turned Null (Boolean b) = refl
compared_turned (Int a) Null = refl
compared_turned (Int a) (Text b) = refl
compared_turned (Int a) (Boolean b) = refl
compared_turned (Text a) Null = refl
compared_turned (Text a) (Int b) = refl
compared_turned (Text a) (Boolean b) = refl
compared_turned (Boolean a) Null = refl
compared_turned (Boolean a) (Int b) = refl
compared_turned (Boolean a) (Text b) = refl

pub compared_less : (x y : Value) → compare_values x y ≡ Some Less → compare_values y x ≡ Some Greater
compared_less x y h = compared_turned y x ∙ ap turned_round h

pub compared_greater : (x y : Value) → compare_values x y ≡ Some Greater → compare_values y x ≡ Some Less
compared_greater x y h = compared_turned y x ∙ ap turned_round h

-- less goes on from one pair to the next
pub compared_onward : (x y z : Value) → compare_values x y ≡ Some Less → compare_values y z ≡ Some Less → compare_values x z ≡ Some Less
compared_onward (Int a) (Int b) (Int c) h k = ap Some (int_cmp_total.trans a b c (some_same h) (some_same k))
compared_onward (Text a) (Text b) (Text c) h k = ap Some (nat_list_cmp_total.trans a b c (some_same h) (some_same k))
compared_onward (Boolean a) (Boolean b) (Boolean c) h k = ap Some (bool_cmp_total.trans a b c (some_same h) (some_same k))
compared_onward _ _ _ h k = cc

-- ---- texts

-- the first byte that differs decides
pub bytes_less : (front rest other : List ℕ) (b c : ℕ) → b < c → slice_cmp nat_cmp (front ++ b ∷ rest) (front ++ c ∷ other) ≡ Less
bytes_less [] rest other b c h = grind arith
bytes_less (x ∷ front) rest other b c h = rw (tied_itself nat_cmp_total x) (bytes_less front rest other b c h)

-- a text comes before those that go on
pub bytes_longer : (front rest : List ℕ) (b : ℕ) → slice_cmp nat_cmp front (front ++ b ∷ rest) ≡ Less
bytes_longer [] rest b = refl
bytes_longer (x ∷ front) rest b = rw (tied_itself nat_cmp_total x) (bytes_longer front rest b)
