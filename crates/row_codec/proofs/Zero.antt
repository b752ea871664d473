-- The first zero byte of a list: what stands before it is free of zeros.
use Rattle.std.proofs.Common.{◌≡◌, ℕ, ◌+◌, ◌-◌, ◌<◌, ◌≤◌, suc, zero, Bool, true, false, cond, nat_eq, List, [], ◌∷◌, ◌++◌, refl, ap, sym, ◌∙◌, take, drop, length, nat_lt, Some, None, position, arith, subst, add-one, length-append}
use Rattle.std.specs.List.{position_or_len}
use Rattle.std.proofs.lemmas.List.{take_all, length-drop, append_cancel_left}
use Rattle.std.proofs.Math.Seq.{take-append_seam}
use Rattle.std.proofs.lemmas.Bool.{lt-ltb}
use Rattle.std.proofs.lemmas.Bool.Decides.{nat_tests}
use Rattle.std.proofs.lemmas.Option.{cond_some}
use Rattle.sql_types.specs.Domain.{HasNoZero}

abbrev is_zero : ℕ → Bool
is_zero b = nat_eq b 0

not_zero : (b : ℕ) → is_zero (suc b) ≡ false
not_zero b = grind (arith, nat_tests)

-- a byte that is not zero moves the index on by one
moved_on : (b : ℕ) (bytes : List ℕ) → position_or_len is_zero (suc b ∷ bytes) ≡ suc (position_or_len is_zero bytes)
moved_on b bytes = rw (not_zero b) (omega arith)

free_before : (bytes : List ℕ) → HasNoZero (take (position_or_len is_zero bytes) bytes)
free_before [] = tt
free_before (zero ∷ bytes) = tt
free_before (suc b ∷ bytes) =
    let Free : ℕ → Type 0 = λ n. HasNoZero (take n (suc b ∷ bytes)) in
    subst Free (sym (moved_on b bytes)) ((λ e. cc), free_before bytes)

parted : (bytes : List ℕ) → position_or_len is_zero bytes < length bytes
    → bytes ≡ take (position_or_len is_zero bytes) bytes ++ 0 ∷ drop (suc (position_or_len is_zero bytes)) bytes
parted [] inside = absurd (omega arith)
parted (zero ∷ bytes) inside = refl
parted (suc b ∷ bytes) inside =
    let later : position_or_len is_zero bytes < length bytes = omega (arith, moved_on b bytes) in
    let Parted : ℕ → Type 0 = λ n. suc b ∷ bytes ≡ take n (suc b ∷ bytes) ++ 0 ∷ drop (suc n) (suc b ∷ bytes) in
    subst Parted (sym (moved_on b bytes)) (ap (λ (zs : List ℕ). suc b ∷ zs) (parted bytes later))

-- before the first zero byte there is none
pub front_free : (bytes : List ℕ) (n : ℕ) → position (λ b. nat_eq b 0) bytes ≡ Some n → HasNoZero (take n bytes)
front_free bytes n found = subst (λ (k : ℕ). HasNoZero (take k bytes)) (cond_some _ _ _ found).1 (free_before bytes)

-- the bytes are what stands before it, a zero byte and the rest
pub at_zero : (bytes : List ℕ) (n : ℕ) → position (λ b. nat_eq b 0) bytes ≡ Some n
    → bytes ≡ take n bytes ++ 0 ∷ take (length bytes - (n + 1)) (drop (n + 1) bytes)
at_zero bytes n found =
    let test : nat_lt (position_or_len is_zero bytes) (length bytes) ≡ true = (cond_some _ _ _ found).0 in
    let at : position_or_len is_zero bytes ≡ n = (cond_some _ _ _ found).1 in
    let inside : position_or_len is_zero bytes < length bytes = grind (arith, nat_tests) in
    let whole : bytes ≡ take n bytes ++ 0 ∷ drop (suc n) bytes =
    subst (λ (k : ℕ). bytes ≡ take k bytes ++ 0 ∷ drop (suc k) bytes) at (parted bytes inside) in
    let all : take (length bytes - (n + 1)) (drop (n + 1) bytes) ≡ drop (suc n) bytes =
    rw add-one (take_all (length bytes - suc n) (drop (suc n) bytes) (omega (arith, length-drop (suc n) bytes))) in
    whole ∙ ap (λ (zs : List ℕ). take n bytes ++ 0 ∷ zs) (sym all)

counted : (front rest : List ℕ) → HasNoZero front → position_or_len is_zero (front ++ 0 ∷ rest) ≡ length front
counted [] rest free = refl
counted (zero ∷ front) rest free = absurd (free.0 refl)
counted (suc b ∷ front) rest free = moved_on b (front ++ 0 ∷ rest) ∙ ap suc (counted front rest free.1)

-- the first zero byte stands after a front that is free of zeros
pub zero_after : (front rest : List ℕ) → HasNoZero front → position (λ b. nat_eq b 0) (front ++ 0 ∷ rest) ≡ Some (length front)
zero_after front rest free =
    let at : position_or_len is_zero (front ++ 0 ∷ rest) ≡ length front = counted front rest free in
    let inside : length front < length (front ++ 0 ∷ rest) = omega (arith, length-append front (0 ∷ rest)) in
    let test : nat_lt (length front) (length (front ++ 0 ∷ rest)) ≡ true = lt-ltb _ _ inside in
    rw at (rw test refl)

-- so that front and what stands after the zero byte are known from the bytes
pub same_parts : (bytes front rest : List ℕ) (n : ℕ) → position (λ b. nat_eq b 0) bytes ≡ Some n → HasNoZero front → bytes ≡ front ++ 0 ∷ rest
    → (take n bytes ≡ front) × (take (length bytes - (n + 1)) (drop (n + 1) bytes) ≡ rest)
same_parts bytes front rest n found free spelled =
    let at : length front ≡ n =
    let same : Some n ≡ Some (length front) = sym found ∙ ap (λ (zs : List ℕ). position is_zero zs) spelled ∙ zero_after front rest free in cc in
    let first : take n bytes ≡ front = rw (sym at, spelled) (take-append_seam front (0 ∷ rest)) in
    let whole : front ++ 0 ∷ rest ≡ take n bytes ++ 0 ∷ take (length bytes - (n + 1)) (drop (n + 1) bytes) = sym spelled ∙ at_zero bytes n found in
    let after : 0 ∷ rest ≡ 0 ∷ take (length bytes - (n + 1)) (drop (n + 1) bytes) =
    append_cancel_left front _ _ (whole ∙ ap (λ (zs : List ℕ). zs ++ 0 ∷ take (length bytes - (n + 1)) (drop (n + 1) bytes)) first) in
    (first, cc)

cond_none : {A : Type 0} (b : Bool) (x : A) → cond b (Some x) None ≡ None → b ≡ false
cond_none true x e = cc
cond_none false x e = refl

pub free_where_none : (bytes : List ℕ) → position (λ b. nat_eq b 0) bytes ≡ None → HasNoZero bytes
free_where_none bytes none =
    let test : nat_lt (position_or_len is_zero bytes) (length bytes) ≡ false = cond_none _ _ none in
    let past : length bytes ≤ position_or_len is_zero bytes = grind (arith, nat_tests) in
    subst HasNoZero (take_all (position_or_len is_zero bytes) bytes past) (free_before bytes)

all_counted : (bytes : List ℕ) → HasNoZero bytes → position_or_len is_zero bytes ≡ length bytes
all_counted [] free = refl
all_counted (zero ∷ bytes) free = absurd (free.0 refl)
all_counted (suc b ∷ bytes) free = moved_on b bytes ∙ ap suc (all_counted bytes free.1)

pub none_where_free : (bytes : List ℕ) → HasNoZero bytes → position (λ b. nat_eq b 0) bytes ≡ None
none_where_free bytes free =
    let test : nat_lt (position_or_len is_zero bytes) (length bytes) ≡ false = rw (all_counted bytes free) (grind (arith, nat_tests)) in
    rw test refl
