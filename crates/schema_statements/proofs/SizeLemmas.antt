-- Sums that stop at the greatest number of their type, beside a limit that is far below it.
use Rattle.std.proofs.Common.{◌≡◌, ℕ, ◌+◌, ◌-◌, ◌^◌, ◌≤◌, ◌<◌, Bool, true, false, nat_le, min, refl, sym, ap, ◌∙◌, inl, inr, arith}
use Rattle.std.proofs.lemmas.Bool.{leb-true, le-leb, false_from_ne_true}

same_limit : (x y n : ℕ) → (x ≤ n → y ≤ n) → (y ≤ n → x ≤ n) → nat_le x n ≡ nat_le y n
same_limit x y n f g = go (nat_le x n) refl where
  no : false ≡ true → ⊥
  no h = cc

  go : (b : Bool) → nat_le x n ≡ b → nat_le x n ≡ nat_le y n
  go true e = e ∙ sym (le-leb y n (f (leb-true x n e)))
  go false e = e ∙ sym (false_from_ne_true (nat_le y n) (λ h. no (sym e ∙ le-leb x n (g (leb-true y n h)))))

pub sums_alike : (using check roles clauses size : ℕ) → roles ≤ 16320 → clauses ≡ min (using + check) (2 ^ 64 - 1) → size ≡ min (clauses + (3 + roles)) (2 ^ 64 - 1)
    → nat_le size 1200 ≡ nat_le (3 + roles + using + check) 1200
sums_alike using check roles clauses size few e f = same_limit size (3 + roles + using + check) 1200
    (λ h. omega (arith, h, e, f, few))
    (λ h. omega (arith, h, e, f, few))
