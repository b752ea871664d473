-- What is gathered of a list while it is gone through.
use Rattle.std.proofs.Common.{◌≡◌, ◌<◌, ◌+◌, ℕ, zero, suc, Bool, true, false, ◌&&◌, ◌||◌, cond, List, [], ◌∷◌, ◌++◌, map, filter, drop, get_or, length, refl, sym, ap, ◌∙◌, subst, append_assoc, append-nil, arith, inl, inr}
use Rattle.std.specs.List.{list_any}
use Rattle.abstract_database.specs.Lists.{Among}
use Rattle.descriptions.proofs.Finding.{Finds, takes, passes, here}

in_list : {X : Type 0} (xs : List X) (k : ℕ) (d : X) → k < length xs → Among (get_or xs k d) xs
in_list [] k d h = omega arith
in_list (y ∷ ys) zero d h = inl refl
in_list (y ∷ ys) (suc k) d h = inr (in_list ys k d (omega arith))

-- the element at a place is among them
pub among_item : {X : Type 0} (xs : List X) (i : ℕ) (x : X) → x ≡ get_or xs i x → i < length xs → Among x xs
among_item xs i x is lt = subst (λ y. Among y xs) (sym is) (in_list xs i x lt)

-- ---- what passes a test of what is seen of the elements

module _ {X Y : Type 0} (g : X → Y) (test : Y → Bool) (all : List Y) (xs : List X) (i : ℕ) (x : X) (is : x ≡ get_or xs i x) (lt : i < length xs) where
  rest : map g (drop i xs) ≡ g x ∷ map g (drop (i + 1) xs)
  rest = ap (map g) (here xs i x is lt)

  pub seen_takes : (found : List Y) → test (g x) ≡ true → Finds test all (map g (drop i xs)) found → Finds test all (map g (drop (i + 1) xs)) (found ++ g x ∷ [])
  seen_takes found e h = takes test all (g x) (map g (drop (i + 1) xs)) found e (subst (λ r. Finds test all r found) rest h)

  pub seen_passes : (found : List Y) → test (g x) ≡ false → Finds test all (map g (drop i xs)) found → Finds test all (map g (drop (i + 1) xs)) found
  seen_passes found e h = passes test all (g x) (map g (drop (i + 1) xs)) found e (subst (λ r. Finds test all r found) rest h)

-- ---- what is seen of those that pass a test

-- what was gathered, and what is seen of those of the rest, is what is seen of those of all
abbrev pub Gathers : {X Y : Type 0} → (X → Y) → (X → Bool) → List X → List X → List Y → Type 0
Gathers g test all rest found = found ++ map g (filter test rest) ≡ map g (filter test all)

module _ {X Y : Type 0} (g : X → Y) (test : X → Bool) (xs : List X) (i : ℕ) (x : X) (is : x ≡ get_or xs i x) (lt : i < length xs) where
  split : (b : Bool) → test x ≡ b → map g (filter test (drop i xs)) ≡ map g (cond b (x ∷ filter test (drop (i + 1) xs)) (filter test (drop (i + 1) xs)))
  split b e = ap (λ r. map g (filter test r)) (here xs i x is lt) ∙ ap (λ c. map g (cond c (x ∷ filter test (drop (i + 1) xs)) (filter test (drop (i + 1) xs)))) e

  pub gathers_one : (found : List Y) → test x ≡ true → Gathers g test xs (drop i xs) found → Gathers g test xs (drop (i + 1) xs) (found ++ g x ∷ [])
  gathers_one found e h =
      append_assoc found (g x ∷ []) (map g (filter test (drop (i + 1) xs)))
      ∙ ap (λ r. found ++ r) (sym (split true e))
      ∙ h

  pub gathers_none : (found : List Y) → test x ≡ false → Gathers g test xs (drop i xs) found → Gathers g test xs (drop (i + 1) xs) found
  gathers_none found e h = ap (λ r. found ++ r) (sym (split false e)) ∙ h

pub gathered : {X Y : Type 0} (g : X → Y) (test : X → Bool) (xs : List X) (found : List Y) → Gathers g test xs [] found → found ≡ map g (filter test xs)
gathered g test xs found h = sym (append-nil found) ∙ h

-- ---- what is seen of each

abbrev pub Copies : {X Y : Type 0} → (X → Y) → List Y → List X → List Y → Type 0
Copies g all rest found = found ++ map g rest ≡ all

pub copies_one : {X Y : Type 0} (g : X → Y) (all : List Y) (xs : List X) (i : ℕ) (x : X) → x ≡ get_or xs i x → i < length xs → (found : List Y)
    → Copies g all (drop i xs) found → Copies g all (drop (i + 1) xs) (found ++ g x ∷ [])
copies_one g all xs i x is lt found h =
    append_assoc found (g x ∷ []) (map g (drop (i + 1) xs))
    ∙ ap (λ r. found ++ map g r) (sym (here xs i x is lt))
    ∙ h

pub copied : {X Y : Type 0} (g : X → Y) (all : List Y) (found : List Y) → Copies g all [] found → found ≡ all
copied g all found h = sym (append-nil found) ∙ h

-- ---- tests of what is seen

-- those that pass a test, seen, are those of the seen ones that pass another, where both say the same of each
module _ {X Y : Type 0} (g : X → Y) (p : X → Bool) (q : Y → Bool) where
  seen_one : (x : X) (xs : List X) (b : Bool) → map g (filter p xs) ≡ filter q (map g xs) → map g (cond b (x ∷ filter p xs) (filter p xs)) ≡ cond b (g x ∷ filter q (map g xs)) (filter q (map g xs))
  seen_one x xs true later = ap (λ l. g x ∷ l) later
  seen_one x xs false later = later

  pub seen_filter : (xs : List X) → ((x : X) → Among x xs → p x ≡ q (g x)) → map g (filter p xs) ≡ filter q (map g xs)
  seen_filter [] same = refl
  seen_filter (x ∷ xs) same =
      ap (λ c. map g (cond c (x ∷ filter p xs) (filter p xs))) (same x (inl refl))
      ∙ seen_one x xs (q (g x)) (seen_filter xs (λ y among. same y (inr among)))

pub seen_any : {X Y : Type 0} (g : X → Y) (q : Y → Bool) (xs : List X) → list_any (λ x. q (g x)) xs ≡ list_any q (map g xs)
seen_any g q [] = refl
seen_any g q (x ∷ xs) = ap (λ b. q (g x) || b) (seen_any g q xs)

-- whether any is left of two tests is whether one passes both
module _ {X : Type 0} (p q : X → Bool) where
  abbrev any : List X → Bool
  any xs = list_any (λ (x : X). true) xs

  second : (x : X) (c : Bool) (left : List X) (others : Bool) → any left ≡ others → any (cond c (x ∷ left) left) ≡ (c || others)
  second x true left others e = refl
  second x false left others e = e

  first : (x : X) (b : Bool) (left : List X) (others : Bool) → any (filter p left) ≡ others → any (filter p (cond b (x ∷ left) left)) ≡ ((b && p x) || others)
  first x true left others e = second x (p x) (filter p left) others e
  first x false left others e = e

  pub any_left : (xs : List X) → list_any (λ (x : X). true) (filter p (filter q xs)) ≡ list_any (λ x. q x && p x) xs
  any_left [] = refl
  any_left (x ∷ xs) = first x (q x) (filter q xs) (list_any (λ y. q y && p y) xs) (any_left xs)
