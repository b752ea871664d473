-- Numbers in turn, while they are gone through.
use Rattle.std.proofs.Common.{◌≡◌, ◌<◌, ◌≤◌, ◌+◌, ◌-◌, ℕ, zero, suc, Bool, true, false, nat_lt, List, [], ◌∷◌, filter, refl, sym, ap, ◌∙◌, subst, arith}
use Rattle.std.specs.List.{range_with_len}
use Rattle.descriptions.proofs.Finding.{Finds, ends}

-- the numbers from one on begin with it
pub range_from : (i end : ℕ) → i < end → range_with_len i (end - i) ≡ i ∷ range_with_len (i + 1) (end - (i + 1))
range_from i end lt = ap (range_with_len i) (let e : end - i ≡ suc (end - (i + 1)) = omega (arith, lt) in e)

-- and once none is left, all were gone through
pub range_end : (test : ℕ → Bool) (i end n : ℕ) (found : List ℕ) → end ≤ i → end ≡ n → Finds test (range_with_len 0 end) (range_with_len i (end - i)) found → found ≡ filter test (range_with_len 0 n)
range_end test i end n found past same h =
    ends test (range_with_len 0 end) found (subst (λ k. Finds test (range_with_len 0 end) (range_with_len i k) found) (let e : end - i ≡ 0 = omega (arith, past) in e) h)
    ∙ ap (λ k. filter test (range_with_len 0 k)) same
