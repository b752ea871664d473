-- Numbers of four bytes each, one after the other. All numbers are big-endian.
use Rattle.std.specs.Prelude.{ℕ, zero, suc, List, [], ◌∷◌, drop}
use Rattle.std.specs.List.{flat_map}
use Rattle.byteorder.specs.Endian.{big_number, big_bytes}

-- the bytes of the numbers
abbrev pub bytes_of_numbers : List ℕ → List ℕ
bytes_of_numbers ns = flat_map (λ n. big_bytes 4 n) ns

-- the first so many numbers in the bytes, or fewer where the bytes end
unfoldable pub numbers_in : ℕ → List ℕ → List ℕ
numbers_in zero bytes = []
numbers_in (suc count) [] = []
numbers_in (suc count) (byte ∷ bytes) = big_number 4 (byte ∷ bytes) ∷ numbers_in count (drop 4 (byte ∷ bytes))
