-- Places and tests over lists of references.
use Rattle.std.proofs.Common.{◌≡◌, ℕ, zero, ◌+◌, ◌<◌, ◌≤◌, suc, ◌||◌, Bool, true, false, not, ◌&&◌, cond, List, [], ◌∷◌, ◌++◌, length, map, position, get_or, nat_lt, Some, None, refl, ap, ◌∙◌, arith, inl, inr}
use Rattle.std.specs.List.{list_any, list_all, position_or_len}
use Rattle.std.proofs.lemmas.List.{length-map}
use Rattle.std.proofs.lemmas.List.Quantifiers.{position-Some}
use Rattle.abstract_database.specs.Lists.{Among}

in_list : {X : Type 0} (xs : List X) (k : ℕ) (d : X) → k < length xs → Among (get_or xs k d) xs
in_list [] k d h = omega arith
in_list (y ∷ ys) zero d h = inl refl
in_list (y ∷ ys) (suc k) d h = inr (in_list ys k d (omega arith))

one_any : {X : Type 0} (p : X → Bool) (xs : List X) (y : X) → Among y xs → p y ≡ true → list_any p xs ≡ true
one_any p [] y at e = absurd at
one_any p (x ∷ xs) y (inl is) e = rw (ap p is ∙ e) refl
one_any p (x ∷ xs) y (inr later) e = or_true (p x) (list_any p xs) (one_any p xs y later e) where
  or_true : (a b : Bool) → b ≡ true → (a || b) ≡ true
  or_true true b e = refl
  or_true false b e = e

place_map : {X Y : Type 0} (p : Y → Bool) (f : X → Y) (xs : List X) → position_or_len p (map f xs) ≡ position_or_len (λ x. p (f x)) xs
place_map p f [] = refl
place_map p f (x ∷ xs) = ap (λ n. cond (not (p (f x))) (1 + n) 0) (place_map p f xs)

pub position_map : {X Y : Type 0} (p : Y → Bool) (f : X → Y) (xs : List X) → position p (map f xs) ≡ position (λ x. p (f x)) xs
position_map p f xs = rw (place_map p f xs, length-map xs f) refl

pub any_placed : {X : Type 0} (p : X → Bool) (xs : List X) (i : ℕ) → position p xs ≡ Some i → list_any p xs ≡ true
any_placed p [] i e = cc
any_placed p (x ∷ xs) i e = let at = position-Some p (x ∷ xs) i x e in one_any p (x ∷ xs) (get_or (x ∷ xs) i x) (in_list (x ∷ xs) i x at.0) at.1

any_below_at : {X : Type 0} (p : X → Bool) (x : X) (xs : List X) (b : Bool) → p x ≡ b → (b || list_any p xs) ≡ true → (list_any p xs ≡ true → position_or_len p xs < length xs) →
    cond (not b) (1 + position_or_len p xs) 0 < suc (length xs)
any_below_at p x xs true e f go = omega arith
any_below_at p x xs false e f go = let below = go f in omega (arith, below)

any_below : {X : Type 0} (p : X → Bool) (xs : List X) → list_any p xs ≡ true → position_or_len p xs < length xs
any_below p [] e = cc
any_below p (x ∷ xs) e = any_below_at p x xs (p x) refl e (any_below p xs)

cond_none : {A : Type 0} (b : Bool) (x : A) → cond b (Some x) None ≡ None → b ≡ false
cond_none true x e = cc
cond_none false x e = refl

pub any_unplaced : {X : Type 0} (p : X → Bool) (xs : List X) → position p xs ≡ None → list_any p xs ≡ false
any_unplaced p xs e = by_case (list_any p xs) refl where
  by_case : (b : Bool) → list_any p xs ≡ b → list_any p xs ≡ false
  by_case true f =
      let below = any_below p xs f in
      let past : nat_lt (position_or_len p xs) (length xs) ≡ false = cond_none _ _ e in
      let far : length xs ≤ position_or_len p xs = grind arith in
      let no : ⊥ = omega (arith, below, far) in
      absurd no
  by_case false f = f

pub all_map : {X Y : Type 0} (p : Y → Bool) (f : X → Y) (xs : List X) → list_all p (map f xs) ≡ list_all (λ x. p (f x)) xs
all_map p f [] = refl
all_map p f (x ∷ xs) = ap (λ b. p (f x) && b) (all_map p f xs)

one_fails : {X : Type 0} (p : X → Bool) (xs : List X) (x : X) → Among x xs → p x ≡ false → list_all p xs ≡ false
one_fails p [] x at e = absurd at
one_fails p (y ∷ ys) x (inl is) e = rw (ap p is ∙ e) refl
one_fails p (y ∷ ys) x (inr later) e = and_false (p y) (list_all p ys) (one_fails p ys x later e) where
  and_false : (a b : Bool) → b ≡ false → (a && b) ≡ false
  and_false true b e = e
  and_false false b e = refl

pub fails_at : {X : Type 0} (p : X → Bool) (xs : List X) (i : ℕ) (d : X) → i < length xs → p (get_or xs i d) ≡ false → list_all p xs ≡ false
fails_at p xs i d h e = one_fails p xs (get_or xs i d) (in_list xs i d h) e

found_more_at : {X : Type 0} (p : X → Bool) (ys : List X) (x : X) (b : Bool) → (b && list_all p ys) ≡ true → (list_all p ys ≡ true → list_all p (ys ++ x ∷ []) ≡ true) → (b && list_all p (ys ++ x ∷ [])) ≡ true
found_more_at p ys x true e go = go e
found_more_at p ys x false e go = cc

pub found_more : {X : Type 0} (p : X → Bool) (xs : List X) (x : X) → list_all p xs ≡ true → p x ≡ true → list_all p (xs ++ x ∷ []) ≡ true
found_more p [] x e f = rw f refl
found_more p (y ∷ ys) x e f = found_more_at p ys x (p y) e (λ g. found_more p ys x g f)
