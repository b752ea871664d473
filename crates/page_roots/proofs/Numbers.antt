-- Numbers are read from the bytes that they were written to.
use Rattle.std.proofs.Common.{◌≡◌, ℕ, zero, suc, ◌+◌, ◌*◌, ◌-◌, ◌/◌, ◌%◌, ◌^◌, ◌<◌, ◌≤◌, List, [], ◌∷◌, ◌++◌, length, All, take, drop, get_or, refl, sym, ap, ◌∙◌, arith}
use Rattle.std.proofs.lemmas.List.{length-drop, length-take-le, drop-drop, drop-take, get_or-drop, ext_get_or}
use Rattle.byteorder.specs.Endian.{big_number, big_bytes}
use Rattle.byteorder.specs.Numbers.{big_number-reads_back, big_from-lt, big_from-take}
use Rattle.page_roots.specs.Numbers.{bytes_of_numbers, numbers_in}

pub length-bytes_of_numbers : (ns : List ℕ) → length (bytes_of_numbers ns) ≡ 4 * length ns
length-bytes_of_numbers [] = refl
length-bytes_of_numbers (n ∷ ns) = let rest = length-bytes_of_numbers ns in omega arith

-- what was written is read, whatever stands behind it
pub numbers_in-bytes_of_numbers : (ns rest : List ℕ) → All (λ n. n < 2 ^ 32) ns → numbers_in (length ns) (bytes_of_numbers ns ++ rest) ≡ ns
unfolding numbers_in
numbers_in-bytes_of_numbers [] rest fit = refl
numbers_in-bytes_of_numbers (n ∷ ns) rest fit =
    let first : big_number 4 (big_bytes 4 n ++ (bytes_of_numbers ns ++ rest)) ≡ n = big_number-reads_back 4 n (bytes_of_numbers ns ++ rest) (fit 0 0 (omega arith)) in
    let others : numbers_in (length ns) (bytes_of_numbers ns ++ rest) ≡ ns = numbers_in-bytes_of_numbers ns rest (λ k d lt. fit (suc k) d (omega arith)) in
    cc

-- as many numbers are read as the bytes have room for
pub length-numbers_in : (count : ℕ) (bytes : List ℕ) → 4 * count ≤ length bytes → length (numbers_in count bytes) ≡ count
unfolding numbers_in
length-numbers_in zero bytes room = refl
length-numbers_in (suc count) [] room = absurd (omega arith)
length-numbers_in (suc count) (byte ∷ bytes) room = ap suc (length-numbers_in count (drop 4 (byte ∷ bytes)) (omega (arith, length-drop 4 (byte ∷ bytes))))

-- a list of bytes
abbrev pub IsBytes : List ℕ → Type 0
IsBytes bytes = (i : ℕ) → get_or bytes i 0 < 256

pub IsBytes-drop : (n : ℕ) (bytes : List ℕ) → IsBytes bytes → IsBytes (drop n bytes)
IsBytes-drop n bytes fit i = rw get_or-drop (fit (n + i))

-- numbers of four bytes fit 32 bits
pub numbers_in-fit : (count : ℕ) (bytes : List ℕ) → IsBytes bytes → All (λ n. n < 2 ^ 32) (numbers_in count bytes)
unfolding numbers_in
numbers_in-fit zero bytes fit k d lt = absurd (omega arith)
numbers_in-fit (suc count) [] fit k d lt = absurd (omega arith)
numbers_in-fit (suc count) (byte ∷ bytes) fit zero d lt = big_from-lt 0 4 (byte ∷ bytes) fit
numbers_in-fit (suc count) (byte ∷ bytes) fit (suc k) d lt = numbers_in-fit count (drop 4 (byte ∷ bytes)) (IsBytes-drop 4 (byte ∷ bytes) fit) k d (omega arith)

-- the number at a place
at-numbers_in : (count : ℕ) (bytes : List ℕ) (k : ℕ) → 4 * count ≤ length bytes → k < count → get_or (numbers_in count bytes) k 0 ≡ big_number 4 (drop (4 * k) bytes)
unfolding numbers_in
at-numbers_in zero bytes k room lt = absurd (omega arith)
at-numbers_in (suc count) [] k room lt = absurd (omega arith)
at-numbers_in (suc count) (byte ∷ bytes) zero room lt = refl
at-numbers_in (suc count) (byte ∷ bytes) (suc k) room lt =
    at-numbers_in count (drop 4 (byte ∷ bytes)) k (omega (arith, length-drop 4 (byte ∷ bytes))) (omega arith)
    ∙ ap (big_number 4) (drop-drop (4 * k) 4 (byte ∷ bytes) ∙ ap (λ (n : ℕ). drop n (byte ∷ bytes)) (omega arith))

-- numbers that were read one by one
pub numbers_read : (bytes numbers : List ℕ) (count : ℕ) → length numbers ≡ count → length bytes ≡ 4 * count
    → ((k : ℕ) → k < length numbers → get_or numbers k 0 ≡ big_number 4 (drop (4 * k) bytes)) → numbers ≡ numbers_in count bytes
numbers_read bytes numbers count is room each =
    let total = length-numbers_in count bytes (omega arith) in
    ext_get_or 0 numbers (numbers_in count bytes) (omega (arith, total)) (λ k lt. each k lt ∙ sym (at-numbers_in count bytes k (omega arith) (omega arith)))

-- what stands behind the numbers does not matter
pub numbers_in-take : (count : ℕ) (bytes : List ℕ) → 4 * count ≤ length bytes → numbers_in count (take (4 * count) bytes) ≡ numbers_in count bytes
numbers_in-take count bytes room =
    let front : length (take (4 * count) bytes) ≡ 4 * count = length-take-le (4 * count) bytes room in
    let total = length-numbers_in count bytes room in
    let total_front = length-numbers_in count (take (4 * count) bytes) (omega arith) in
    ext_get_or 0 (numbers_in count (take (4 * count) bytes)) (numbers_in count bytes) (omega arith) (λ k lt.
    at-numbers_in count (take (4 * count) bytes) k (omega arith) (omega arith)
    ∙ (let m : ℕ = 4 * count - 4 * k in
    let parts : 4 * count ≡ 4 * k + m = omega arith in
    ap (big_number 4) (ap (λ (n : ℕ). drop (4 * k) (take n bytes)) parts ∙ drop-take (4 * k) m bytes) ∙ big_from-take 0 4 m (drop (4 * k) bytes) (omega arith))
    ∙ sym (at-numbers_in count bytes k room (omega arith)))

-- four bytes are those of the number that they spell
four_bytes : (a b c d : ℕ) (rest : List ℕ) → a < 256 → b < 256 → c < 256 → d < 256 → big_bytes 4 (big_number 4 (a ∷ b ∷ c ∷ d ∷ rest)) ≡ a ∷ b ∷ c ∷ d ∷ []
four_bytes a b c d rest fa fb fc fd =
    let n : ℕ = a * 16777216 + (b * 65536 + (c * 256 + (d * 1 + 0))) in
    let ea : n / 16777216 % 256 ≡ a = omega arith in
    let eb : n / 65536 % 256 ≡ b = omega arith in
    let ec : n / 256 % 256 ≡ c = omega arith in
    let ed : n % 256 ≡ d = omega arith in
    rw (ea, eb, ec, ed) refl

-- bytes are those of the numbers that they spell
pub bytes_of_numbers-numbers_in : (count : ℕ) (bytes : List ℕ) → IsBytes bytes → length bytes ≡ 4 * count → bytes_of_numbers (numbers_in count bytes) ≡ bytes
unfolding numbers_in
bytes_of_numbers-numbers_in zero [] fit is = refl
bytes_of_numbers-numbers_in zero (a ∷ bytes) fit is = absurd (omega arith)
bytes_of_numbers-numbers_in (suc count) [] fit is = absurd (omega arith)
bytes_of_numbers-numbers_in (suc count) (a ∷ []) fit is = absurd (omega arith)
bytes_of_numbers-numbers_in (suc count) (a ∷ b ∷ []) fit is = absurd (omega arith)
bytes_of_numbers-numbers_in (suc count) (a ∷ b ∷ c ∷ []) fit is = absurd (omega arith)
bytes_of_numbers-numbers_in (suc count) (a ∷ b ∷ c ∷ d ∷ bytes) fit is =
    let first = four_bytes a b c d bytes (fit 0) (fit 1) (fit 2) (fit 3) in
    let others = bytes_of_numbers-numbers_in count bytes (λ i. fit (suc (suc (suc (suc i))))) (omega arith) in
    ap (λ (front : List ℕ). front ++ bytes_of_numbers (numbers_in count bytes)) first ∙ ap (λ (rest : List ℕ). a ∷ b ∷ c ∷ d ∷ rest) others
