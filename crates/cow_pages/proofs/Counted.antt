-- How many pages are in use in maps that are the same but for some entries.
use Rattle.std.proofs.Common.{◌≡◌, ◌<◌, ◌≤◌, ◌+◌, ◌-◌, ℕ, zero, suc, List, length, get_or, inl, inr, refl, ap, sym, ◌∙◌, subst, arith}
use Rattle.std.proofs.lemmas.Bool.{cases_lt}
use Rattle.std.proofs.lemmas.List.{get_or_past}
use Rattle.cow_pages.specs.Used.{named, named_below, used_in, grown}

-- an entry names one page at most
pub named_one : (entry : ℕ) → named entry ≤ 1
named_one zero = omega arith
named_one (suc page) = omega arith

-- with one entry more
pub named_next : (n : ℕ) (es : List ℕ) → named_below (n + 1) es ≡ named_below n es + named (get_or es n 0)
named_next n es = let next : suc n ≡ n + 1 = omega arith in sym (ap (λ (k : ℕ). named_below k es) next)

-- the first entries of two maps that are the same there name as many
pub same_below : (n : ℕ) (a b : List ℕ) → ((l : ℕ) → l < n → get_or a l 0 ≡ get_or b l 0) → named_below n a ≡ named_below n b
same_below zero a b same = refl
same_below (suc n) a b same =
    let before = same_below n a b (λ l lt. same l (omega (arith, lt))) in
    let here = ap named (same n (omega arith)) in
    omega (arith, before, here)

-- entries that are the same name as many pages
same_on : (n k : ℕ) (a b : List ℕ) → ((l : ℕ) → n ≤ l → l < n + k → get_or a l 0 ≡ get_or b l 0) → named_below (n + k) a + named_below n b ≡ named_below (n + k) b + named_below n a
same_on n zero a b same =
    let none : n + 0 ≡ n = omega arith in
    omega (arith, ap (λ (m : ℕ). named_below m a) none, ap (λ (m : ℕ). named_below m b) none)
same_on n (suc k) a b same =
    let next : n + suc k ≡ suc (n + k) = omega arith in
    let before = same_on n k a b (λ l least lt. same l least (omega (arith, lt))) in
    let here = ap named (same (n + k) (omega arith) (omega arith)) in
    omega (arith, before, here, ap (λ (m : ℕ). named_below m a) next, ap (λ (m : ℕ). named_below m b) next)

-- between two places, whichever is the first
pub same_between : (m n : ℕ) (a b : List ℕ) → ((l : ℕ) → m ≤ l → get_or a l 0 ≡ get_or b l 0) → m ≤ n → named_below n a + named_below m b ≡ named_below n b + named_below m a
same_between m n a b same le =
    let whole : m + (n - m) ≡ n = omega (arith, le) in
    subst (λ (k : ℕ). named_below k a + named_below m b ≡ named_below k b + named_below m a) whole (same_on m (n - m) a b (λ l least lt. same l least))

-- where the entries below one, and those from another on, are the same, only those between them count
pub grown_by : (durable working : List ℕ) (e before after : ℕ) → length durable ≡ length working → ((l : ℕ) → e ≤ l → get_or working l 0 ≡ get_or durable l 0)
    → after + named_below e durable ≡ before + named_below e working → after - before ≡ grown durable working
grown_by durable working e before after long same counted =
    let n = length durable in
    let past : (l : ℕ) → n ≤ l → get_or working l 0 ≡ get_or durable l 0 = λ l le. get_or_past working l 0 (omega (arith, le, long)) ∙ sym (get_or_past durable l 0 le) in
    let all : after + named_below n durable ≡ before + named_below n working = elim (cases_lt e n) [
      | inl lt ↦ omega (arith, counted, same_between e n working durable same (omega (arith, lt)))
      | inr le ↦ omega (arith, counted, same_between n e working durable past (omega (arith, le)))
    ] in
    let used : used_in working ≡ named_below n working = ap (λ (k : ℕ). named_below k working) (sym long) in
    omega (arith, all, used)
