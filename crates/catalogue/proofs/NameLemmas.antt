-- Names that are twice in a list.
use Rattle.std.proofs.Common.{◌≡◌, Bool, true, false, not, cond, ◌||◌, List, [], ◌∷◌, ◌++◌, map, bytes_eq, refl, sym, ap, ◌∙◌, inl, inr}
use Rattle.std.specs.List.{list_any}
use Rattle.std.proofs.lemmas.List.Folds.{list_any-append}
use Rattle.abstract_database.specs.Lists.{TheName, has_name, has_double}
use Rattle.std.proofs.lemmas.Bool.{or_cases, or_left, or_right}

both_false : (a b : Bool) → (a || b) ≡ false → (a ≡ false) × (b ≡ false)
both_false true b e = cc
both_false false b e = (refl, e)

or_false : (a b : Bool) → a ≡ false → b ≡ false → (a || b) ≡ false
or_false true b e f = cc
or_false false b e f = f

pub any_map : {X Y : Type 0} (p : Y → Bool) (f : X → Y) (xs : List X) → list_any p (map f xs) ≡ list_any (λ x. p (f x)) xs
any_map p f [] = refl
any_map p f (x ∷ xs) = ap (λ b. p (f x) || b) (any_map p f xs)

-- a name that differs from those before
pub new_differs : (xs : List TheName) (x : TheName) → has_double xs ≡ false → list_any (λ n. bytes_eq n x) xs ≡ false → has_double (xs ++ x ∷ []) ≡ false
new_differs [] x e f = refl
new_differs (n ∷ ns) x e f =
    let apart = both_false (has_name n ns) (has_double ns) e in
    let other = both_false (bytes_eq n x) (list_any (λ m. bytes_eq m x) ns) f in
    or_false (has_name n (ns ++ x ∷ [])) (has_double (ns ++ x ∷ []))
    (list_any-append (bytes_eq n) ns (x ∷ []) ∙ or_false (has_name n ns) (bytes_eq n x || false) apart.0 (or_false (bytes_eq n x) false other.0 refl))
    (new_differs ns x apart.1 other.1)

-- a name that is among those before
pub stands_twice : (xs : List TheName) (x : TheName) → list_any (λ n. bytes_eq n x) xs ≡ true → has_double (xs ++ x ∷ []) ≡ true
stands_twice [] x e = cc
stands_twice (n ∷ ns) x e = elim (or_cases (bytes_eq n x) (list_any (λ m. bytes_eq m x) ns) e) [
  | inl same ↦ or_left (has_name n (ns ++ x ∷ [])) (has_double (ns ++ x ∷ []))
      (list_any-append (bytes_eq n) ns (x ∷ []) ∙ or_right (has_name n ns) (bytes_eq n x || false) (or_left (bytes_eq n x) false same))
  | inr later ↦ or_right (has_name n (ns ++ x ∷ [])) (has_double (ns ++ x ∷ [])) (stands_twice ns x later)
]

-- more names after
pub still_double : (xs ys : List TheName) → has_double xs ≡ true → has_double (xs ++ ys) ≡ true
still_double [] ys e = cc
still_double (n ∷ ns) ys e = elim (or_cases (has_name n ns) (has_double ns) e) [
  | inl here ↦ or_left (has_name n (ns ++ ys)) (has_double (ns ++ ys)) (list_any-append (bytes_eq n) ns ys ∙ or_left (has_name n ns) (has_name n ys) here)
  | inr later ↦ or_right (has_name n (ns ++ ys)) (has_double (ns ++ ys)) (still_double ns ys later)
]

pub told_true : (f b : Bool) → f ≡ not b → f ≡ false → b ≡ true
told_true f true e g = refl
told_true f false e g = let contrary : false ≡ true = sym g ∙ e in cc

pub told_false : (f b : Bool) → f ≡ not b → f ≡ true → b ≡ false
told_false f true e g = let contrary : true ≡ false = sym g ∙ e in cc
told_false f false e g = refl

pub cond_or : (a b : Bool) → cond a true b ≡ (b || a)
cond_or true true = refl
cond_or true false = refl
cond_or false true = refl
cond_or false false = refl
