-- A number of four bytes, read at the front of a list.
use Rattle.std.proofs.Common.{◌≡◌, ◌<◌, ◌≤◌, ◌^◌, ℕ, List, ◌++◌, length, slice_index, refl, arith}
use Rattle.std.specs.Int.{w32, to_be_bytes, from_be_bytes}
use Rattle.std.proofs.lemmas.List.{get_or_append_left}
use Rattle.std.proofs.lemmas.Nat.{from_be_bytes-to_be_bytes_4}

-- bytes behind the four change nothing
pub number_append : (bytes more : List ℕ) → 4 ≤ length bytes → from_be_bytes w32 (bytes ++ more) ≡ from_be_bytes w32 bytes
number_append bytes more le =
    let a : slice_index (bytes ++ more) 0 ≡ slice_index bytes 0 = get_or_append_left bytes more 0 0 (omega arith) in
    let b : slice_index (bytes ++ more) 1 ≡ slice_index bytes 1 = get_or_append_left bytes more 0 1 (omega arith) in
    let c : slice_index (bytes ++ more) 2 ≡ slice_index bytes 2 = get_or_append_left bytes more 0 2 (omega arith) in
    let d : slice_index (bytes ++ more) 3 ≡ slice_index bytes 3 = get_or_append_left bytes more 0 3 (omega arith) in
    rw (a, b, c, d) refl

pub number_read : (n : ℕ) (rest : List ℕ) → n < 2 ^ 32 → from_be_bytes w32 (to_be_bytes w32 n ++ rest) ≡ n
number_read n rest fits = from_be_bytes-to_be_bytes_4 n fits
