-- The combinations of a product, each in its place.
use Rattle.std.proofs.Common.{◌≡◌, ◌+◌, ◌*◌, ℕ, zero, suc, List, [], ◌∷◌, ◌++◌, map, flat_map, length, slice_get, Some, sym, ap, ◌∙◌, arith}
use Rattle.std.proofs.lemmas.List.{length-map, length-append}
use Rattle.std.proofs.lemmas.Option.{same_Some}
use Rattle.std.proofs.Math.Nat.{zero-mul, suc-mul}
use Rattle.sql_types.specs.Row.{Row}
use Rattle.abstract_database.specs.Queries.{Combination, product}
use Rattle.database_laws.specs.Selections.{IsProduct}

module _ {X : Type 0} where
  in_first : (xs ys : List X) (i : ℕ) (x : X) → slice_get xs i ≡ Some x → slice_get (xs ++ ys) i ≡ Some x
  in_first [] ys i x e = cc
  in_first (z ∷ zs) ys zero x e = e
  in_first (z ∷ zs) ys (suc i) x e = in_first zs ys i x e

  in_second : (xs ys : List X) (i : ℕ) → slice_get (xs ++ ys) (length xs + i) ≡ slice_get ys i
  in_second [] ys i = let n : 0 + i ≡ i = omega arith in ap (slice_get ys) n
  in_second (z ∷ zs) ys i =
      let n : length (z ∷ zs) + i ≡ suc (length zs + i) = omega arith in
      ap (slice_get ((z ∷ zs) ++ ys)) n ∙ in_second zs ys i

map_get : (row : Row) (others : List Combination) (j : ℕ) (rest : Combination) → slice_get others j ≡ Some rest → slice_get (map (λ (c : Combination). row ∷ c) others) j ≡ Some (row ∷ rest)
map_get row [] j rest e = cc
map_get row (c ∷ cs) zero rest e = ap (λ (x : Combination). Some (row ∷ x)) (same_Some c rest e)
map_get row (c ∷ cs) (suc j) rest e = map_get row cs j rest e

abbrev pairs : List Combination → List Row → List Combination
pairs others rows = flat_map (λ row. map (λ rest. row ∷ rest) others) rows

many_pairs : (others : List Combination) (rows : List Row) → length (pairs others rows) ≡ length rows * length others
many_pairs others [] = sym (zero-mul (length others))
many_pairs others (row ∷ rows) =
    length-append (map (λ (c : Combination). row ∷ c) others) (pairs others rows)
    ∙ ap (λ n. n + length (pairs others rows)) (length-map others (λ (c : Combination). row ∷ c))
    ∙ ap (λ n. length others + n) (many_pairs others rows)
    ∙ omega (arith, suc-mul (length rows) (length others))

pair_at : (others : List Combination) (rows : List Row) (i j : ℕ) (row : Row) (rest : Combination) → slice_get rows i ≡ Some row → slice_get others j ≡ Some rest →
    slice_get (pairs others rows) (i * length others + j) ≡ Some (row ∷ rest)
pair_at others [] i j row rest e f = cc
pair_at others (r ∷ rs) zero j row rest e f =
    let n : 0 * length others + j ≡ j = ap (λ k. k + j) (zero-mul (length others)) ∙ omega arith in
    ap (slice_get (pairs others (r ∷ rs))) n
    ∙ in_first (map (λ (c : Combination). r ∷ c) others) (pairs others rs) j (r ∷ rest) (map_get r others j rest f)
    ∙ ap (λ (x : Row). Some (x ∷ rest)) (same_Some r row e)
pair_at others (r ∷ rs) (suc i) j row rest e f =
    let first = map (λ (c : Combination). r ∷ c) others in
    let long : length first ≡ length others = length-map others (λ (c : Combination). r ∷ c) in
    let times = suc-mul i (length others) in
    let n : suc i * length others + j ≡ length first + (i * length others + j) = omega (arith, long, times) in
    ap (slice_get (pairs others (r ∷ rs))) n ∙ in_second first (pairs others rs) (i * length others + j) ∙ pair_at others rs i j row rest e f

pub product_in_order : (rows : List Row) (tables : List (List Row)) → IsProduct rows (product tables) (product (rows ∷ tables))
product_in_order rows tables = record { many = many_pairs (product tables) rows; placed = pair_at (product tables) rows }
