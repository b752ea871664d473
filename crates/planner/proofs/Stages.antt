-- Steps over lists, each of which may be refused.
use Rattle.std.proofs.Common.{◌≡◌, Bool, ◌&&◌, List, [], ◌∷◌, ◌++◌, map, length, take, drop, Result, Ok, Err, refl, ap, ◌∙◌}
use Rattle.std.specs.List.{list_all}
use Rattle.sql_types.specs.declared.state.SqlState.{SqlState}
use Rattle.expressions.specs.Stages.{◌>>=◌, each}

joined : {A : Type 0} (a : Result A SqlState) (b c : Result (List A) SqlState) →
    (a >>= λ x. (b >>= λ xs. c >>= λ ys. Ok (xs ++ ys)) >>= λ l. Ok (x ∷ l)) ≡ ((a >>= λ x. b >>= λ xs. Ok (x ∷ xs)) >>= λ xs. c >>= λ ys. Ok (xs ++ ys))
joined (Ok x) (Ok xs) (Ok ys) = refl
joined (Ok x) (Ok xs) (Err code) = refl
joined (Ok x) (Err code) c = refl
joined (Err code) b c = refl

unit : {A : Type 0} (r : Result (List A) SqlState) → r ≡ (r >>= λ ys. Ok ([] ++ ys))
unit (Ok ys) = refl
unit (Err code) = refl

pub each_append : {A B : Type 0} (f : A → Result B SqlState) (xs ys : List A) → each f (xs ++ ys) ≡ (each f xs >>= λ zs. each f ys >>= λ ws. Ok (zs ++ ws))
each_append f [] ys = unit (each f ys)
each_append f (x ∷ xs) ys = ap (λ r. f x >>= λ y. r >>= λ l. Ok (y ∷ l)) (each_append f xs ys) ∙ joined (f x) (each f xs) (each f ys)

pub each_map : {A B C : Type 0} (f : B → Result C SqlState) (g : A → B) (xs : List A) → each f (map g xs) ≡ each (λ x. f (g x)) xs
each_map f g [] = refl
each_map f g (x ∷ xs) = ap (λ r. f (g x) >>= λ y. r >>= λ ys. Ok (y ∷ ys)) (each_map f g xs)

pub each_same : {A B : Type 0} (f g : A → Result B SqlState) → ((x : A) → f x ≡ g x) → (xs : List A) → each f xs ≡ each g xs
each_same f g h [] = refl
each_same f g h (x ∷ xs) = ap (λ r. r >>= λ y. each f xs >>= λ ys. Ok (y ∷ ys)) (h x) ∙ ap (λ r. g x >>= λ y. r >>= λ ys. Ok (y ∷ ys)) (each_same f g h xs)

pub front : {A : Type 0} (xs ys : List A) → take (length xs) (xs ++ ys) ≡ xs
front [] ys = refl
front (x ∷ xs) ys = ap (λ l. x ∷ l) (front xs ys)

pub behind : {A : Type 0} (xs ys : List A) → drop (length xs) (xs ++ ys) ≡ ys
behind [] ys = refl
behind (x ∷ xs) ys = behind xs ys

pub map_map : {A B C : Type 0} (f : B → C) (g : A → B) (xs : List A) → map f (map g xs) ≡ map (λ x. f (g x)) xs
map_map f g [] = refl
map_map f g (x ∷ xs) = ap (λ ys. f (g x) ∷ ys) (map_map f g xs)

pub all_map : {A B : Type 0} (p : B → Bool) (g : A → B) (xs : List A) → list_all p (map g xs) ≡ list_all (λ x. p (g x)) xs
all_map p g [] = refl
all_map p g (x ∷ xs) = ap (λ b. p (g x) && b) (all_map p g xs)
