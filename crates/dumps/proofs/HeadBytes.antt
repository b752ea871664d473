-- The head of a dump, written to the first sector of a page of zeros.
use Rattle.std.proofs.Common.{◌≡◌, ℕ, zero, suc, ◌+◌, ◌*◌, ◌<◌, ◌≤◌, List, [], ◌∷◌, ◌++◌, length, take, drop, replicate, refl, sym, ap, ◌∙◌, arith}
use Rattle.std.proofs.Math.Seq.{take-add}
use Rattle.std.proofs.lemmas.List.{append_assoc, take_at, drop_at, take-replicate, replicate-append-replicate}
use Rattle.byteorder.specs.Numbers.{length-bytes_high_first}
use Rattle.sector_device.specs.Device.{Image}
use Rattle.dumps.specs.Form.{fields, fill, head, in_pages}
use Rattle.dumps.specs.OnDevice.{bytes_from}
use Rattle.dumps.proofs.Sectors.{joined}

pub fields_long : (number : ℕ) → length (fields number) ≡ 28
unfolding fields
fields_long number = omega (arith, length-bytes_high_first 8 number)

pub head_parts : (number : ℕ) → head number ≡ fields number ++ replicate (fill 28) 0
unfolding head in_pages
head_parts number = ap (λ (n : ℕ). fields number ++ replicate (fill n) 0) (fields_long number)

-- sectors of zeros
zeros_from : (image : Image) (n first : ℕ) → ((k : ℕ) → k < n → image (first + k) ≡ replicate 512 0) → bytes_from image first n ≡ replicate (n * 512) 0
zeros_from image zero first zeros = refl
zeros_from image (suc n) first zeros =
    let at : first + 0 ≡ first = omega arith in
    let here : image first ≡ replicate 512 0 = ap image (sym at) ∙ zeros 0 (omega arith) in
    let rest = zeros_from image n (first + 1) (λ k lt. let next : first + 1 + k ≡ first + suc k = omega arith in ap image next ∙ zeros (suc k) (omega (arith, lt))) in
    let count : 512 + n * 512 ≡ suc n * 512 = omega arith in
    ap (λ (l : List ℕ). l ++ bytes_from image (first + 1) n) here ∙ ap (λ (l : List ℕ). replicate 512 0 ++ l) rest ∙ replicate-append-replicate 512 (n * 512) 0 ∙ ap (λ (m : ℕ). replicate m 0) count

first_sector : (f : List ℕ) (a b c : ℕ) → length f ≡ a → take (a + b) (f ++ replicate (b + c) 0) ≡ f ++ replicate b 0
first_sector f a b c long =
    take-add a b (f ++ replicate (b + c) 0)
    ∙ ap (λ (l : List ℕ). l ++ take b (drop a (f ++ replicate (b + c) 0))) (take_at f (replicate (b + c) 0) a long)
    ∙ ap (λ (l : List ℕ). f ++ take b l) (drop_at f (replicate (b + c) 0) a long)
    ∙ ap (λ (l : List ℕ). f ++ l) (take-replicate b (b + c) 0 (omega arith))

one_sector : (image : Image) (first : ℕ) → bytes_from image first 1 ≡ image first
one_sector image first = none (image first)
  where
    none : (l : List ℕ) → l ++ [] ≡ l
    none [] = refl
    none (x ∷ l) = ap (λ (r : List ℕ). x ∷ r) (none l)

pub head_written : (number : ℕ) (image : Image) → image 0 ≡ take 512 (head number) → ((s : ℕ) → 1 ≤ s → s < 8 → image s ≡ replicate 512 0) → bytes_from image 0 8 ≡ head number
head_written number image first zeros =
    let f = fields number in
    let sector : image 0 ≡ f ++ replicate 484 0 = first ∙ ap (take 512) (head_parts number) ∙ first_sector f 28 484 3584 (fields_long number) in
    let others : bytes_from image 1 7 ≡ replicate (7 * 512) 0 = zeros_from image 7 1 (λ k lt. zeros (1 + k) (omega arith) (omega (arith, lt))) in
    joined image 1 7 0
    ∙ ap (λ (l : List ℕ). l ++ bytes_from image 1 7) (one_sector image 0 ∙ sector)
    ∙ ap (λ (l : List ℕ). (f ++ replicate 484 0) ++ l) others
    ∙ append_assoc f (replicate 484 0) (replicate (7 * 512) 0)
    ∙ ap (λ (l : List ℕ). f ++ l) (replicate-append-replicate 484 (7 * 512) 0)
    ∙ sym (head_parts number)
