-- Reading parts one after the other, as a loop does.
use Rattle.std.proofs.Common.{◌≡◌, ℕ, zero, suc, ◌-◌, ◌+◌, ◌≤◌, ◌<◌, eqb, true, false, List, [], ◌∷◌, ◌++◌, length, get_or, take, drop, Option, Some, None, refl, sym, ap, ◌∙◌, append_assoc, arith}
use Rattle.std.proofs.lemmas.List.{append-nil}
use Rattle.std.proofs.lemmas.Bool.Decides.{nat_tests}
use Rattle.postgres_messages.specs.declared.read_error.ReadError.{ReadError}
use Rattle.postgres_messages.specs.declared.read_error.ReadError.TheVariants as errors
use Rattle.postgres_messages.specs.Reading.{◌>>=◌, string_at, parts_at}
use Rattle.postgres_messages.specs.Views.{FailsReading}
use Rattle.postgres_messages.specs.Start.{TheParameter}
use Rattle.postgres_messages.specs.StartReading.{parameter_at, parameters_at}

-- what was read before, and what is still read
abbrev pub with_front : {A : Type 0} → List A → Option (List A × List ℕ) → Option (List A × List ℕ)
with_front front read = read >>= λ x. Some (front ++ x.0, x.1)

regroup : {A : Type 0} (front : List A) (x : A) (read : Option (List A × List ℕ)) → with_front front (read >>= λ y. Some (x ∷ y.0, y.1)) ≡ with_front (front ++ x ∷ []) read
regroup {A} front x (Some y) = ap (λ (xs : List A). Some (xs, y.1)) (simp append_assoc)
regroup front x None = refl

pub goes_on : {A : Type 0} (part : List ℕ → Option (A × List ℕ)) (front : List A) (count i : ℕ) (bytes : List ℕ) (x : A) (after : List ℕ) (total : Option (List A × List ℕ)) → i < count → part bytes ≡ Some (x, after)
    → with_front front (parts_at part (count - i) bytes) ≡ total → with_front (front ++ x ∷ []) (parts_at part (count - (i + 1)) after) ≡ total
unfolding parts_at
goes_on part front count i bytes x after total lt h so_far =
    let k : count - i ≡ suc (count - (i + 1)) = omega arith in
    let one : with_front front (parts_at part (count - i) bytes) ≡ with_front (front ++ x ∷ []) (parts_at part (count - (i + 1)) after) = rw (k, h) (regroup front x (parts_at part (count - (i + 1)) after)) in
    sym one ∙ so_far

pub ends : {A : Type 0} (part : List ℕ → Option (A × List ℕ)) (e : ReadError) (front : List A) (count i : ℕ) (bytes : List ℕ) (total : Option (List A × List ℕ)) → i < count → FailsReading e (part bytes)
    → with_front front (parts_at part (count - i) bytes) ≡ total → FailsReading e total
unfolding parts_at
ends part errors.Memory front count i bytes total lt h so_far = tt
ends part errors.Malformed front count i bytes total lt h so_far =
    let k : count - i ≡ suc (count - (i + 1)) = omega arith in
    let one : with_front front (parts_at part (count - i) bytes) ≡ None = rw (k, h) refl in
    sym so_far ∙ one
ends part errors.NotText front count i bytes total lt h so_far = h

pub is_done : {A : Type 0} (part : List ℕ → Option (A × List ℕ)) (front : List A) (count i : ℕ) (bytes : List ℕ) (total : Option (List A × List ℕ)) → count ≤ i → with_front front (parts_at part (count - i) bytes) ≡ total → total ≡ Some (front, bytes)
unfolding parts_at
is_done {A} part front count i bytes total le so_far =
    let k : count - i ≡ 0 = omega arith in
    let one : with_front front (parts_at part (count - i) bytes) ≡ Some (front, bytes) = rw k (ap (λ (xs : List A). Some (xs, bytes)) (append-nil front)) in
    sym so_far ∙ one

-- ---- the text up to the first zero

pub string_found : (bytes : List ℕ) (i : ℕ) → i < length bytes → get_or bytes i 0 ≡ 0 → ((k : ℕ) → k < i → get_or bytes k 0 ≡ 0 → ⊥) → string_at bytes ≡ Some (take i bytes, drop (suc i) bytes)
unfolding string_at
string_found [] i lt here before = absurd (omega arith)
string_found (zero ∷ rest) zero lt here before = refl
string_found (zero ∷ rest) (suc i) lt here before = absurd (before 0 (omega arith) refl)
string_found (suc b ∷ rest) zero lt here before = absurd (omega (arith, here))
string_found (suc b ∷ rest) (suc i) lt here before =
    let more : string_at rest ≡ Some (take i rest, drop (suc i) rest) = string_found rest i (omega arith) here (λ k below. before (suc k) (omega arith)) in
    rw more refl

pub string_missing : (bytes : List ℕ) → ((k : ℕ) → k < length bytes → get_or bytes k 0 ≡ 0 → ⊥) → string_at bytes ≡ None
unfolding string_at
string_missing [] before = refl
string_missing (zero ∷ rest) before = absurd (before 0 (omega arith) refl)
string_missing (suc b ∷ rest) before =
    let more : string_at rest ≡ None = string_missing rest (λ k below. before (suc k) (omega arith)) in
    rw more refl

-- ---- parameters up to an empty name

pub one_parameter : (front : List TheParameter) (count i : ℕ) (bytes name behind after : List ℕ) (p : TheParameter) (total : Option (List TheParameter × List ℕ)) → i < count → string_at bytes ≡ Some (name, behind) → (length name ≡ 0 → ⊥)
    → parameter_at name behind ≡ Some (p, after) → with_front front (parameters_at (count - i) bytes) ≡ total → with_front (front ++ p ∷ []) (parameters_at (count - (i + 1)) after) ≡ total
unfolding parameters_at
one_parameter front count i bytes name behind after p total lt named some is so_far =
    let k : count - i ≡ suc (count - (i + 1)) = omega arith in
    let t : eqb (length name) 0 ≡ false = grind (arith, nat_tests) in
    let one : with_front front (parameters_at (count - i) bytes) ≡ with_front (front ++ p ∷ []) (parameters_at (count - (i + 1)) after) = rw (k, named, t, is) (regroup front p (parameters_at (count - (i + 1)) after)) in
    sym one ∙ so_far

pub no_name : (e : ReadError) (front : List TheParameter) (count i : ℕ) (bytes : List ℕ) (total : Option (List TheParameter × List ℕ)) → i < count → FailsReading e (string_at bytes)
    → with_front front (parameters_at (count - i) bytes) ≡ total → FailsReading e total
unfolding parameters_at
no_name errors.Memory front count i bytes total lt h so_far = tt
no_name errors.Malformed front count i bytes total lt h so_far =
    let k : count - i ≡ suc (count - (i + 1)) = omega arith in
    let one : with_front front (parameters_at (count - i) bytes) ≡ None = rw (k, h) refl in
    sym so_far ∙ one
no_name errors.NotText front count i bytes total lt h so_far = h

pub no_value : (e : ReadError) (front : List TheParameter) (count i : ℕ) (bytes name behind : List ℕ) (total : Option (List TheParameter × List ℕ)) → i < count → string_at bytes ≡ Some (name, behind) → (length name ≡ 0 → ⊥)
    → FailsReading e (parameter_at name behind) → with_front front (parameters_at (count - i) bytes) ≡ total → FailsReading e total
unfolding parameters_at
no_value errors.Memory front count i bytes name behind total lt named some h so_far = tt
no_value errors.Malformed front count i bytes name behind total lt named some h so_far =
    let k : count - i ≡ suc (count - (i + 1)) = omega arith in
    let t : eqb (length name) 0 ≡ false = grind (arith, nat_tests) in
    let one : with_front front (parameters_at (count - i) bytes) ≡ None = rw (k, named, t, h) refl in
    sym so_far ∙ one
no_value errors.NotText front count i bytes name behind total lt named some h so_far = h

pub last_parameter : (front : List TheParameter) (count i : ℕ) (bytes name behind : List ℕ) (total : Option (List TheParameter × List ℕ)) → i < count → string_at bytes ≡ Some (name, behind) → length name ≡ 0
    → with_front front (parameters_at (count - i) bytes) ≡ total → total ≡ Some (front, behind)
unfolding parameters_at
last_parameter front count i bytes name behind total lt named none so_far =
    let k : count - i ≡ suc (count - (i + 1)) = omega arith in
    let t : eqb (length name) 0 ≡ true = grind (arith, nat_tests) in
    let one : with_front front (parameters_at (count - i) bytes) ≡ Some (front, behind) = rw (k, named, t) (ap (λ (xs : List TheParameter). Some (xs, behind)) (append-nil front)) in
    sym so_far ∙ one

pub no_end : (front : List TheParameter) (count i : ℕ) (bytes : List ℕ) (total : Option (List TheParameter × List ℕ)) → count ≤ i → with_front front (parameters_at (count - i) bytes) ≡ total → total ≡ None
unfolding parameters_at
no_end front count i bytes total le so_far =
    let k : count - i ≡ 0 = omega arith in
    let one : with_front front (parameters_at (count - i) bytes) ≡ None = rw k refl in
    sym so_far ∙ one
