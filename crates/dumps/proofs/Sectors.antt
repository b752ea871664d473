-- The bytes of sectors that follow one another.
use Rattle.std.proofs.Common.{◌≡◌, ℕ, zero, suc, ◌+◌, ◌*◌, ◌<◌, List, ◌++◌, refl, sym, ap, ◌∙◌, arith}
use Rattle.std.proofs.lemmas.List.{append_assoc}
use Rattle.sector_device.specs.Device.{Image}
use Rattle.sector_device.specs.Page.{page_at}
use Rattle.dumps.specs.OnDevice.{bytes_from}

-- first so many, and then the others
pub joined : (image : Image) (n m first : ℕ) → bytes_from image first (n + m) ≡ bytes_from image first n ++ bytes_from image (first + n) m
joined image zero m first =
    let count : zero + m ≡ m = omega arith in
    let place : first + zero ≡ first = omega arith in
    ap (λ (k : ℕ). bytes_from image first k) count ∙ sym (ap (λ (s : ℕ). bytes_from image s m) place)
joined image (suc n) m first =
    let count : suc n + m ≡ suc (n + m) = omega arith in
    let place : first + 1 + n ≡ first + suc n = omega arith in
    ap (λ (k : ℕ). bytes_from image first k) count
    ∙ ap (λ (l : List ℕ). image first ++ l) (joined image n m (first + 1) ∙ ap (λ (s : ℕ). bytes_from image (first + 1) n ++ bytes_from image s m) place)
    ∙ sym (append_assoc (image first) (bytes_from image (first + 1) n) (bytes_from image (first + suc n) m))

-- one page more
pub page_more : (image : Image) (first i : ℕ) → bytes_from image first (8 * (i + 1)) ≡ bytes_from image first (8 * i) ++ page_at image (first + 8 * i)
page_more image first i =
    let count : 8 * (i + 1) ≡ 8 * i + 8 = omega arith in
    ap (λ (k : ℕ). bytes_from image first k) count ∙ joined image (8 * i) 8 first

-- the same sectors have the same bytes
pub same_bytes : (a b : Image) (n first : ℕ) → ((k : ℕ) → k < n → a (first + k) ≡ b (first + k)) → bytes_from a first n ≡ bytes_from b first n
same_bytes a b zero first same = refl
same_bytes a b (suc n) first same =
    let at : first + 0 ≡ first = omega arith in
    let here : a first ≡ b first = ap (λ (s : ℕ). a s) (sym at) ∙ same 0 (omega arith) ∙ ap (λ (s : ℕ). b s) at in
    let rest = same_bytes a b n (first + 1) (λ k lt.
    let next : first + 1 + k ≡ first + suc k = omega arith in
    ap (λ (s : ℕ). a s) next ∙ same (suc k) (omega (arith, lt)) ∙ ap (λ (s : ℕ). b s) (sym next)) in
    ap (λ (l : List ℕ). l ++ bytes_from a (first + 1) n) here ∙ ap (λ (l : List ℕ). b first ++ l) rest
