-- Lists of items, and the records that spell them.
use Rattle.std.proofs.Common.{◌≡◌, ◌⊎◌, ℕ, List, [], ◌∷◌, ◌++◌, map, flat_map, length, refl, ap, sym, subst, inl, inr, arith}
use Rattle.store.specs.Records.{Record}
use Rattle.abstract_database.specs.Lists.{Among}
use Rattle.abstract_database.specs.Whole.{Each}

-- two lists that begin alike, and how they go on
pub record SameFront {X : Type 0} (a b : X) (r s : List ℕ) : Type 0 where
  pub item : a ≡ b
  pub rest : r ≡ s

pub same_cons : {X : Type 0} {x y : X} {xs ys : List X} → x ≡ y → xs ≡ ys → x ∷ xs ≡ y ∷ ys
same_cons p q = cc

pub first_of_each : {X : Type 0} (P : X → Type 0) (x : X) (xs : List X) → Each P (x ∷ xs) → P x
first_of_each P x xs h = h x (inl refl)

pub rest_of_each : {X : Type 0} (P : X → Type 0) (x : X) (xs : List X) → Each P (x ∷ xs) → Each P xs
rest_of_each P x xs h y among = h y (inr among)

-- lists with the same spellings are the same, where no two items have one spelling
pub same_items : {X : Type 0} (P : X → Type 0) (spell : X → Record) → ((x y : X) → P x → P y → spell x ≡ spell y → x ≡ y)
    → (xs ys : List X) → Each P xs → Each P ys → map spell xs ≡ map spell ys → xs ≡ ys
same_items P spell one [] [] a b h = refl
same_items P spell one [] (y ∷ ys) a b h = cc
same_items P spell one (x ∷ xs) [] a b h = cc
same_items {X} P spell one (x ∷ xs) (y ∷ ys) a b h =
    let heads : spell x ≡ spell y = cc in
    let tails : map spell xs ≡ map spell ys = cc in
    same_cons
    (one x y (first_of_each P x xs a) (first_of_each P y ys b) heads)
    (same_items P spell one xs ys (rest_of_each P x xs a) (rest_of_each P y ys b) tails)

-- lists of one length with the same bytes before a rest
pub same_texts : (x y r s : List ℕ) → length x ≡ length y → x ++ r ≡ y ++ s → SameFront x y r s
same_texts [] [] r s n h = record { item = refl; rest = h }
same_texts [] (b ∷ y) r s n h = absurd (omega (arith, n))
same_texts (a ∷ x) [] r s n h = absurd (omega (arith, n))
same_texts (a ∷ x) (b ∷ y) r s n h =
    let heads : a ≡ b = cc in
    let tails : x ++ r ≡ y ++ s = cc in
    let later = same_texts x y r s (omega (arith, n)) tails in
    record { item = same_cons heads later.item; rest = later.rest }

-- ---- elements

pub into_map : {X Y : Type 0} (f : X → Y) (xs : List X) (x : X) → Among x xs → Among (f x) (map f xs)
into_map f [] x h = h
into_map f (y ∷ xs) x (inl is) = inl (ap f is)
into_map f (y ∷ xs) x (inr later) = inr (into_map f xs x later)

pub of_map : {X Y : Type 0} (f : X → Y) (xs : List X) (y : Y) → Among y (map f xs) → (x : X) × Among x xs × (f x ≡ y)
of_map f [] y h = absurd h
of_map f (x ∷ xs) y (inl is) = (x, inl refl, is)
of_map f (x ∷ xs) y (inr later) = let found = of_map f xs y later in (found.0, inr found.1, found.2)

pub into_left : {X : Type 0} (xs ys : List X) (x : X) → Among x xs → Among x (xs ++ ys)
into_left [] ys x h = absurd h
into_left (z ∷ xs) ys x (inl is) = inl is
into_left (z ∷ xs) ys x (inr later) = inr (into_left xs ys x later)

pub into_right : {X : Type 0} (xs ys : List X) (x : X) → Among x ys → Among x (xs ++ ys)
into_right [] ys x h = h
into_right (z ∷ xs) ys x h = inr (into_right xs ys x h)

pub of_append : {X : Type 0} (xs ys : List X) (x : X) → Among x (xs ++ ys) → Among x xs ⊎ Among x ys
of_append [] ys x h = inr h
of_append (z ∷ xs) ys x (inl is) = inl (inl is)
of_append (z ∷ xs) ys x (inr later) = elim (of_append xs ys x later) [ inl h ↦ inl (inr h) | inr h ↦ inr h ]

pub into_flat_map : {X Y : Type 0} (f : X → List Y) (xs : List X) (x : X) (y : Y) → Among x xs → Among y (f x) → Among y (flat_map f xs)
into_flat_map f [] x y h k = absurd h
into_flat_map f (z ∷ xs) x y (inl is) k = into_left (f z) (flat_map f xs) y (subst (λ v. Among y (f v)) (sym is) k)
into_flat_map f (z ∷ xs) x y (inr later) k = into_right (f z) (flat_map f xs) y (into_flat_map f xs x y later k)

pub of_flat_map : {X Y : Type 0} (f : X → List Y) (xs : List X) (y : Y) → Among y (flat_map f xs) → (x : X) × Among x xs × Among y (f x)
of_flat_map f [] y h = absurd h
of_flat_map f (x ∷ xs) y h = elim (of_append (f x) (flat_map f xs) y h) [
  | inl here ↦ (x, inl refl, here)
  | inr later ↦ let found = of_flat_map f xs y later in (found.0, inr found.1, found.2)
]
