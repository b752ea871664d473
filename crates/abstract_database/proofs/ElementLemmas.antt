-- Elements of lists, and tests over them.
use Rattle.std.proofs.Common.{◌≡◌, ◌⊎◌, ℕ, zero, suc, Bool, true, false, not, cond, List, [], ◌∷◌, filter, length, slice_get, Some, refl, sym, ap, ◌∙◌, inl, inr}
use Rattle.std.proofs.lemmas.Option.{same_Some}
use Rattle.std.specs.List.{list_any}
use Rattle.std.proofs.lemmas.Bool.{or_cases, or_left, or_right}
use Rattle.abstract_database.specs.Lists.{Among, drop_where}

module _ {X : Type 0} where
  pub any_found : (f : X → Bool) (xs : List X) → list_any f xs ≡ true → (x : X) × Among x xs × (f x ≡ true)
  any_found f [] e = cc
  any_found f (x ∷ xs) e = elim (or_cases (f x) (list_any f xs) e) [
    | inl h ↦ (x, inl refl, h)
    | inr h ↦ let rest = any_found f xs h in (rest.0, inr rest.1, rest.2)
  ]

  pub any_holds : (f : X → Bool) (xs : List X) (x : X) → Among x xs → f x ≡ true → list_any f xs ≡ true
  any_holds f [] x h e = absurd h
  any_holds f (y ∷ xs) x h e = elim h [
    | inl is ↦ or_left (f y) (list_any f xs) (ap f is ∙ e)
    | inr later ↦ or_right (f y) (list_any f xs) (any_holds f xs x later e)
  ]

  -- the list without the element that this says
  abbrev pub rest_of : (xs : List X) (x : X) → Among x xs → List X
  rest_of [] x h = []
  rest_of (y ∷ ys) x (inl is) = ys
  rest_of (y ∷ ys) x (inr later) = y ∷ rest_of ys x later

  pub length-rest_of : (xs : List X) (x : X) (h : Among x xs) → length xs ≡ suc (length (rest_of xs x h))
  length-rest_of [] x h = absurd h
  length-rest_of (y ∷ ys) x (inl is) = refl
  length-rest_of (y ∷ ys) x (inr later) = ap suc (length-rest_of ys x later)

  pub in_rest_of : (xs : List X) (x : X) (h : Among x xs) (z : X) → Among z xs → (z ≡ x) ⊎ Among z (rest_of xs x h)
  in_rest_of [] x h z k = absurd k
  in_rest_of (y ∷ ys) x (inl is) z (inl at) = inl (sym at ∙ is)
  in_rest_of (y ∷ ys) x (inl is) z (inr later) = inr later
  in_rest_of (y ∷ ys) x (inr later) z (inl at) = inr (inl at)
  in_rest_of (y ∷ ys) x (inr later) z (inr below) = elim (in_rest_of ys x later z below) [ inl e ↦ inl e | inr r ↦ inr (inr r) ]

  pub of_rest_of : (xs : List X) (x : X) (h : Among x xs) (z : X) → Among z (rest_of xs x h) → Among z xs
  of_rest_of [] x h z k = k
  of_rest_of (y ∷ ys) x (inl is) z k = inr k
  of_rest_of (y ∷ ys) x (inr later) z (inl at) = inl at
  of_rest_of (y ∷ ys) x (inr later) z (inr below) = inr (of_rest_of ys x later z below)

  kept_in : (f : X → Bool) (y : X) (ys : List X) (x : X) → (b : Bool) → f y ≡ b → Among x (cond b (y ∷ filter f ys) (filter f ys)) → (Among x (filter f ys) → Among x ys × (f x ≡ true)) → Among x (y ∷ ys) × (f x ≡ true)
  kept_in f y ys x true e (inl is) go = (inl is, sym (ap f is) ∙ e)
  kept_in f y ys x true e (inr later) go = (inr (go later).0, (go later).1)
  kept_in f y ys x false e h go = (inr (go h).0, (go h).1)

  pub of_filter : (f : X → Bool) (xs : List X) (x : X) → Among x (filter f xs) → Among x xs × (f x ≡ true)
  of_filter f [] x h = absurd h
  of_filter f (y ∷ ys) x h = kept_in f y ys x (f y) refl h (of_filter f ys x)

  into_kept : (f : X → Bool) (y : X) (ys : List X) (x : X) (b : Bool) → f y ≡ b → f x ≡ true → (y ≡ x) ⊎ Among x (filter f ys) → Among x (cond b (y ∷ filter f ys) (filter f ys))
  into_kept f y ys x true e t (inl is) = inl is
  into_kept f y ys x true e t (inr later) = inr later
  into_kept f y ys x false e t (inl is) = let no_way : false ≡ true = sym e ∙ ap f is ∙ t in cc
  into_kept f y ys x false e t (inr later) = later

  pub into_filter : (f : X → Bool) (xs : List X) (x : X) → Among x xs → f x ≡ true → Among x (filter f xs)
  into_filter f [] x h t = absurd h
  into_filter f (y ∷ ys) x (inl is) t = into_kept f y ys x (f y) refl t (inl is)
  into_filter f (y ∷ ys) x (inr later) t = into_kept f y ys x (f y) refl t (inr (into_filter f ys x later t))

  -- an element stands at some index
  pub among_at : (xs : List X) (i : ℕ) (x : X) → slice_get xs i ≡ Some x → Among x xs
  among_at [] i x e = cc
  among_at (y ∷ ys) zero x e = inl (same_Some y x e)
  among_at (y ∷ ys) (suc i) x e = inr (among_at ys i x e)

  pub index_of : (xs : List X) (x : X) → Among x xs → (i : ℕ) × (slice_get xs i ≡ Some x)
  index_of [] x h = absurd h
  index_of (y ∷ ys) x (inl is) = (0, ap Some is)
  index_of (y ∷ ys) x (inr later) = let rest = index_of ys x later in (suc rest.0, rest.1)

-- what a test drops and keeps where it passes each element
module _ {X : Type 0} (test : X → Bool) where
  pub drop_all : (xs : List X) → ((x : X) → Among x xs → test x ≡ true) → drop_where test xs ≡ []
  drop_all [] h = refl
  drop_all (x ∷ xs) h = ap (λ b. cond (not b) (x ∷ drop_where test xs) (drop_where test xs)) (h x (inl refl)) ∙ drop_all xs (λ y k. h y (inr k))

  pub keep_all : (xs : List X) → ((x : X) → Among x xs → test x ≡ true) → filter test xs ≡ xs
  keep_all [] h = refl
  keep_all (x ∷ xs) h = ap (λ b. cond b (x ∷ filter test xs) (filter test xs)) (h x (inl refl)) ∙ ap (λ ys. x ∷ ys) (keep_all xs (λ y k. h y (inr k)))
