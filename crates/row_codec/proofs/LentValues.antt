-- The values of rows that are lent.
use Rattle.std.proofs.Common.{◌≡◌, ℕ, zero, suc, ◌<◌, [], ◌∷◌, get_or, length, refl, sym, ◌∙◌, arith}
use Rattle.sql_types.specs.declared.value.Value.{Value}
use Rattle.sql_types.specs.declared.value.Value.TheVariants.{Null}
use Rattle.sql_types.specs.Row.{Row, value_at}

-- the value of a column that is there
pub value_there : (row : Row) (i : ℕ) (d : Value) → i < length row → value_at row i ≡ get_or row i d
value_there [] i d inside = let none : ⊥ = omega (arith, inside) in absurd none
value_there (v ∷ vs) zero d inside = refl
value_there (v ∷ vs) (suc i) d inside = value_there vs i d (omega (arith, inside))

-- a value that is there, whatever stands for one that is not
pub get_or_same : (row : Row) (i : ℕ) → i < length row → get_or row i Null ≡ get_or row i (get_or row i Null)
get_or_same row i inside = sym (value_there row i Null inside) ∙ value_there row i (get_or row i Null) inside
