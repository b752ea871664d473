-- The bytes of changes, one after the other.
use Rattle.std.proofs.Common.{◌≡◌, ℕ, zero, suc, ◌+◌, ◌<◌, List, [], ◌∷◌, ◌++◌, Option, Some, None, length, take, get_or, replicate, refl, sym, ap, subst, ◌∙◌, arith, append_assoc}
use Rattle.std.specs.List.{AllByRecursion}
use Rattle.std.proofs.lemmas.List.{take_more}
use Rattle.store.specs.Records.{Changes}
use Rattle.store.specs.Batch.{all_changes}
use Rattle.journal.specs.Changes.{change_then, changes_then}

pub changes_then-append : (xs ys : Changes) (rest : List ℕ) → changes_then (xs ++ ys) rest ≡ changes_then xs (changes_then ys rest)
changes_then-append [] ys rest = refl
changes_then-append (c ∷ xs) ys rest = ap (λ (bytes : List ℕ). change_then c.0 c.1 bytes) (changes_then-append xs ys rest)

-- one change more
pub one_change_more : (cs : Changes) (i : ℕ) (c : List ℕ × Option (List ℕ)) (rest : List ℕ) → i < length cs → c ≡ get_or cs i c
    → changes_then (take (i + 1) cs) rest ≡ changes_then (take i cs) (change_then c.0 c.1 rest)
one_change_more cs i c rest inside is =
    ap (λ (xs : Changes). changes_then xs rest) (take_more cs i c inside ∙ ap (λ (x : List ℕ × Option (List ℕ)). take i cs ++ x ∷ []) (sym is))
    ∙ changes_then-append (take i cs) (c ∷ []) rest

all_changes_with : (ps : List Changes) (p : Changes) → all_changes (ps ++ p ∷ []) ≡ all_changes ps ++ p
all_changes_with [] p = append_none p
  where
    append_none : (xs : Changes) → xs ++ [] ≡ xs
    append_none [] = refl
    append_none (x ∷ xs) = ap (λ (zs : Changes). x ∷ zs) (append_none xs)
all_changes_with (q ∷ ps) p = ap (λ (cs : Changes). q ++ cs) (all_changes_with ps p) ∙ sym (append_assoc q (all_changes ps) p)

-- one piece more
pub one_piece_more : (ps : List Changes) (i : ℕ) (p : Changes) (rest : List ℕ) → i < length ps → p ≡ get_or ps i p
    → changes_then (all_changes (take (i + 1) ps)) rest ≡ changes_then (all_changes (take i ps)) (changes_then p rest)
one_piece_more ps i p rest inside is =
    ap (λ (qs : List Changes). changes_then (all_changes qs) rest) (take_more ps i p inside ∙ ap (λ (q : Changes). take i ps ++ q ∷ []) (sym is))
    ∙ ap (λ (cs : Changes). changes_then cs rest) (all_changes_with (take i ps) p)
    ∙ changes_then-append (all_changes (take i ps)) p rest

-- what holds of each change holds of one
pub holds_at : (P : List ℕ × Option (List ℕ) → Type 0) (cs : Changes) (i : ℕ) (c : List ℕ × Option (List ℕ)) → i < length cs → c ≡ get_or cs i c → AllByRecursion P cs → P c
holds_at P [] i c inside is all = absurd (omega (arith, inside))
holds_at P (d ∷ cs) zero c inside is all = subst P (sym is) all.0
holds_at P (d ∷ cs) (suc i) c inside is all = holds_at P cs i c (omega (arith, inside)) is all.1

pub both_hold : (P : List ℕ × Option (List ℕ) → Type 0) (xs ys : Changes) → AllByRecursion P (xs ++ ys) → AllByRecursion P xs × AllByRecursion P ys
both_hold P [] ys all = (tt, all)
both_hold P (x ∷ xs) ys all = let rest = both_hold P xs ys all.1 in ((all.0, rest.0), rest.1)

-- and what holds of each change of the pieces holds of each change of one
pub holds_in_piece : (P : List ℕ × Option (List ℕ) → Type 0) (ps : List Changes) (i : ℕ) (p : Changes) → i < length ps → p ≡ get_or ps i p → AllByRecursion P (all_changes ps) → AllByRecursion P p
holds_in_piece P [] i p inside is all = absurd (omega (arith, inside))
holds_in_piece P (q ∷ ps) zero p inside is all = subst (λ (cs : Changes). AllByRecursion P cs) (sym is) (both_hold P q (all_changes ps) all).0
holds_in_piece P (q ∷ ps) (suc i) p inside is all = holds_in_piece P ps i p (omega (arith, inside)) is (both_hold P q (all_changes ps) all).1

-- bytes that are zeros
pub zeros_are : (bytes : List ℕ) → ((k : ℕ) → k < length bytes → get_or bytes k 0 ≡ 0) → bytes ≡ replicate (length bytes) 0
zeros_are [] zeros = refl
zeros_are (b ∷ bytes) zeros = rw (zeros 0 (omega arith)) (ap (λ (rest : List ℕ). 0 ∷ rest) (zeros_are bytes (λ k lt. zeros (suc k) (omega (arith, lt)))))

pub zero_at : (n k : ℕ) → get_or {A = ℕ} (replicate n 0) k 0 ≡ 0
zero_at zero k = refl
zero_at (suc n) zero = refl
zero_at (suc n) (suc k) = zero_at n k

-- no change begins with a zero
pub no_change_in_zeros : (n : ℕ) (key : List ℕ) (value : Option (List ℕ)) (rest : List ℕ) → replicate n 0 ≡ change_then key value rest → ⊥
no_change_in_zeros zero key (Some value) rest is = absurd cc
no_change_in_zeros zero key None rest is = absurd cc
no_change_in_zeros (suc n) key (Some value) rest is = let first : 0 ≡ 1 = ap (λ (bytes : List ℕ). get_or bytes 0 0) is in omega (arith, first)
no_change_in_zeros (suc n) key None rest is = let first : 0 ≡ 2 = ap (λ (bytes : List ℕ). get_or bytes 0 0) is in omega (arith, first)
