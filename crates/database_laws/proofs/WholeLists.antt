-- The elements of a list after a change of it, and lists whose elements are all alike.
use Rattle.std.proofs.Common.{◌≡◌, ◌⊎◌, ◌≤◌, suc, Bool, true, false, not, cond, List, [], ◌∷◌, ◌++◌, map, flat_map, length, Some, None, refl, sym, ap, ◌∙◌, subst, inl, inr, Ordering, Less, Equal, Greater, is_lt, is_eq, arith, find}
use Rattle.std.specs.List.{AllByRecursion, list_all}
use Rattle.std.proofs.lemmas.Bool.{and_parts, not-true}
use Rattle.abstract_database.specs.Lists.{Among, put, change_first, change_where, drop_where}
use Rattle.abstract_database.specs.Whole.{Each}
use Rattle.abstract_database.proofs.ElementLemmas.{of_filter, into_filter}

-- ---- put

-- where an element comes from after x was put into the list
pub data PutFrom {X : Type 0} (cmp : X → X → Ordering) (joined : X → X → X) (x : X) (ys : List X) (w : X) : Type 0 where
  fresh : x ≡ w → PutFrom cmp joined x ys w
  there : Among w ys → PutFrom cmp joined x ys w
  merged : (y : X) → Among y ys → cmp x y ≡ Equal → joined y x ≡ w → PutFrom cmp joined x ys w

later_from : {X : Type 0} (cmp : X → X → Ordering) (joined : X → X → X) (x y : X) (ys : List X) (w : X) → PutFrom cmp joined x ys w → PutFrom cmp joined x (y ∷ ys) w
later_from cmp joined x y ys w (fresh is) = fresh is
later_from cmp joined x y ys w (there h) = there (inr h)
later_from cmp joined x y ys w (merged z h e is) = merged z (inr h) e is

of_put_at : {X : Type 0} (cmp : X → X → Ordering) (joined : X → X → X) (x y : X) (ys : List X) (w : X) (o : Ordering) → cmp x y ≡ o → (Among w (put cmp joined x ys) → PutFrom cmp joined x ys w) →
    Among w (cond (is_lt o) (x ∷ y ∷ ys) (cond (is_eq o) (joined y x ∷ ys) (y ∷ put cmp joined x ys))) → PutFrom cmp joined x (y ∷ ys) w
of_put_at cmp joined x y ys w Less e go (inl is) = fresh is
of_put_at cmp joined x y ys w Less e go (inr later) = there later
of_put_at cmp joined x y ys w Equal e go (inl is) = merged y (inl refl) e is
of_put_at cmp joined x y ys w Equal e go (inr later) = there (inr later)
of_put_at cmp joined x y ys w Greater e go (inl is) = there (inl is)
of_put_at cmp joined x y ys w Greater e go (inr later) = later_from cmp joined x y ys w (go later)

pub of_put : {X : Type 0} (cmp : X → X → Ordering) (joined : X → X → X) (x : X) (ys : List X) (w : X) → Among w (put cmp joined x ys) → PutFrom cmp joined x ys w
of_put cmp joined x [] w (inl is) = fresh is
of_put cmp joined x [] w (inr later) = absurd later
of_put cmp joined x (y ∷ ys) w h = of_put_at cmp joined x y ys w (cmp x y) refl (of_put cmp joined x ys w) h

-- an element of the list stays, or is joined with x
abbrev pub StaysOrJoins : {X : Type 0} → (X → X → Ordering) → (X → X → X) → X → X → List X → Type 0
StaysOrJoins cmp joined x y after = Among y after ⊎ ((cmp x y ≡ Equal) × Among (joined y x) after)

put_old_at : {X : Type 0} (cmp : X → X → Ordering) (joined : X → X → X) (x y : X) (ys : List X) (w : X) (o : Ordering) → cmp x y ≡ o → (Among w ys → StaysOrJoins cmp joined x w (put cmp joined x ys)) →
    Among w (y ∷ ys) → StaysOrJoins cmp joined x w (cond (is_lt o) (x ∷ y ∷ ys) (cond (is_eq o) (joined y x ∷ ys) (y ∷ put cmp joined x ys)))
put_old_at cmp joined x y ys w Less e go h = inl (inr h)
put_old_at cmp joined x y ys w Equal e go (inl is) = inr (sym (ap (cmp x) is) ∙ e, inl (ap (λ z. joined z x) is))
put_old_at cmp joined x y ys w Equal e go (inr later) = inl (inr later)
put_old_at cmp joined x y ys w Greater e go (inl is) = inl (inl is)
put_old_at cmp joined x y ys w Greater e go (inr later) = elim (go later) [ inl h ↦ inl (inr h) | inr h ↦ inr (h.0, inr h.1) ]

pub put_old : {X : Type 0} (cmp : X → X → Ordering) (joined : X → X → X) (x : X) (ys : List X) (w : X) → Among w ys → StaysOrJoins cmp joined x w (put cmp joined x ys)
put_old cmp joined x [] w h = absurd h
put_old cmp joined x (y ∷ ys) w h = put_old_at cmp joined x y ys w (cmp x y) refl (put_old cmp joined x ys w) h

-- x is there, or joined with an element of the list
abbrev pub IsThereOrJoined : {X : Type 0} → (X → X → Ordering) → (X → X → X) → X → List X → List X → Type 0
IsThereOrJoined {X} cmp joined x ys after = Among x after ⊎ ((y : X) × Among y ys × (cmp x y ≡ Equal) × Among (joined y x) after)

put_new_at : {X : Type 0} (cmp : X → X → Ordering) (joined : X → X → X) (x y : X) (ys : List X) (o : Ordering) → cmp x y ≡ o → IsThereOrJoined cmp joined x ys (put cmp joined x ys) →
    IsThereOrJoined cmp joined x (y ∷ ys) (cond (is_lt o) (x ∷ y ∷ ys) (cond (is_eq o) (joined y x ∷ ys) (y ∷ put cmp joined x ys)))
put_new_at cmp joined x y ys Less e go = inl (inl refl)
put_new_at cmp joined x y ys Equal e go = inr (y, inl refl, e, inl refl)
put_new_at cmp joined x y ys Greater e go = elim go [ inl h ↦ inl (inr h) | inr h ↦ inr (h.0, inr h.1, h.2, inr h.3) ]

pub put_new : {X : Type 0} (cmp : X → X → Ordering) (joined : X → X → X) (x : X) (ys : List X) → IsThereOrJoined cmp joined x ys (put cmp joined x ys)
put_new cmp joined x [] = inl (inl refl)
put_new cmp joined x (y ∷ ys) = put_new_at cmp joined x y ys (cmp x y) refl (put_new cmp joined x ys)

put_length_at : {X : Type 0} (cmp : X → X → Ordering) (joined : X → X → X) (x y : X) (ys : List X) (o : Ordering) → length (put cmp joined x ys) ≤ suc (length ys) →
    length (cond (is_lt o) (x ∷ y ∷ ys) (cond (is_eq o) (joined y x ∷ ys) (y ∷ put cmp joined x ys))) ≤ suc (suc (length ys))
put_length_at cmp joined x y ys Less go = omega arith
put_length_at cmp joined x y ys Equal go = omega arith
put_length_at cmp joined x y ys Greater go = omega (arith, go)

pub put_length : {X : Type 0} (cmp : X → X → Ordering) (joined : X → X → X) (x : X) (ys : List X) → length (put cmp joined x ys) ≤ suc (length ys)
put_length cmp joined x [] = omega arith
put_length cmp joined x (y ∷ ys) = put_length_at cmp joined x y ys (cmp x y) (put_length cmp joined x ys)

-- ---- changing the first

-- an element after the first that passes was changed: it was there, or is that one changed
abbrev pub ChangedFrom : {X : Type 0} → (X → Bool) → (X → X) → List X → X → Type 0
ChangedFrom {X} test change xs w = Among w xs ⊎ ((z : X) × Among z xs × (find test xs ≡ Some z) × (change z ≡ w))

of_change_at : {X : Type 0} (test : X → Bool) (change : X → X) (x : X) (xs : List X) (w : X) (b : Bool) → (Among w (change_first test change xs) → ChangedFrom test change xs w) →
    Among w (cond b (change x ∷ xs) (x ∷ change_first test change xs)) → Among w (x ∷ xs) ⊎ ((z : X) × Among z (x ∷ xs) × (cond b (Some x) (find test xs) ≡ Some z) × (change z ≡ w))
of_change_at test change x xs w true go (inl is) = inr (x, inl refl, refl, is)
of_change_at test change x xs w true go (inr later) = inl (inr later)
of_change_at test change x xs w false go (inl is) = inl (inl is)
of_change_at test change x xs w false go (inr later) = elim (go later) [ inl h ↦ inl (inr h) | inr h ↦ inr (h.0, inr h.1, h.2, h.3) ]

pub of_change_first : {X : Type 0} (test : X → Bool) (change : X → X) (xs : List X) (w : X) → Among w (change_first test change xs) → ChangedFrom test change xs w
of_change_first test change [] w h = absurd h
of_change_first test change (x ∷ xs) w h = of_change_at test change x xs w (test x) (of_change_first test change xs w) h

into_change_at : {X : Type 0} (test : X → Bool) (change : X → X) (x : X) (xs : List X) (w : X) (b : Bool) → (Among w xs → Among w (change_first test change xs) ⊎ Among (change w) (change_first test change xs)) →
    Among w (x ∷ xs) → Among w (cond b (change x ∷ xs) (x ∷ change_first test change xs)) ⊎ Among (change w) (cond b (change x ∷ xs) (x ∷ change_first test change xs))
into_change_at test change x xs w true go (inl is) = inr (inl (ap change is))
into_change_at test change x xs w true go (inr later) = inl (inr later)
into_change_at test change x xs w false go (inl is) = inl (inl is)
into_change_at test change x xs w false go (inr later) = elim (go later) [ inl h ↦ inl (inr h) | inr h ↦ inr (inr h) ]

pub into_change_first : {X : Type 0} (test : X → Bool) (change : X → X) (xs : List X) (w : X) → Among w xs → Among w (change_first test change xs) ⊎ Among (change w) (change_first test change xs)
into_change_first test change [] w h = absurd h
into_change_first test change (x ∷ xs) w h = into_change_at test change x xs w (test x) (into_change_first test change xs w) h

change_length_at : {X : Type 0} (test : X → Bool) (change : X → X) (x : X) (xs : List X) (b : Bool) → length (change_first test change xs) ≡ length xs →
    length (cond b (change x ∷ xs) (x ∷ change_first test change xs)) ≡ suc (length xs)
change_length_at test change x xs true go = refl
change_length_at test change x xs false go = ap suc go

pub change_first_length : {X : Type 0} (test : X → Bool) (change : X → X) (xs : List X) → length (change_first test change xs) ≡ length xs
change_first_length test change [] = refl
change_first_length test change (x ∷ xs) = change_length_at test change x xs (test x) (change_first_length test change xs)

-- ---- changing all, and dropping

pub of_change_where : {X : Type 0} (test : X → Bool) (change : X → X) (xs : List X) (w : X) → Among w (change_where test change xs) → (z : X) × Among z xs × (cond (test z) (change z) z ≡ w)
of_change_where test change [] w h = absurd h
of_change_where test change (x ∷ xs) w (inl is) = (x, inl refl, is)
of_change_where test change (x ∷ xs) w (inr later) = let found = of_change_where test change xs w later in (found.0, inr found.1, found.2)

pub into_change_where : {X : Type 0} (test : X → Bool) (change : X → X) (xs : List X) (z : X) → Among z xs → Among (cond (test z) (change z) z) (change_where test change xs)
into_change_where test change [] z h = absurd h
into_change_where test change (x ∷ xs) z (inl is) = inl (ap (λ y. cond (test y) (change y) y) is)
into_change_where test change (x ∷ xs) z (inr later) = inr (into_change_where test change xs z later)

pub of_drop : {X : Type 0} (test : X → Bool) (xs : List X) (w : X) → Among w (drop_where test xs) → Among w xs × (test w ≡ false)
of_drop test xs w h = let found = of_filter (λ x. not (test x)) xs w h in (found.0, not-true (test w) found.1)

pub into_drop : {X : Type 0} (test : X → Bool) (xs : List X) (w : X) → Among w xs → test w ≡ false → Among w (drop_where test xs)
into_drop test xs w h e = into_filter (λ x. not (test x)) xs w h (ap not e)

filter_length_at : {X : Type 0} (test : X → Bool) (x : X) (xs : List X) (b : Bool) → length (drop_where test xs) ≤ length xs →
    length (cond b (x ∷ drop_where test xs) (drop_where test xs)) ≤ suc (length xs)
filter_length_at test x xs true go = omega (arith, go)
filter_length_at test x xs false go = omega (arith, go)

pub drop_length : {X : Type 0} (test : X → Bool) (xs : List X) → length (drop_where test xs) ≤ length xs
drop_length test [] = omega arith
drop_length test (x ∷ xs) = filter_length_at test x xs (not (test x)) (drop_length test xs)

-- ---- made of other lists

pub of_append : {X : Type 0} (xs ys : List X) (w : X) → Among w (xs ++ ys) → Among w xs ⊎ Among w ys
of_append [] ys w h = inr h
of_append (x ∷ xs) ys w (inl is) = inl (inl is)
of_append (x ∷ xs) ys w (inr later) = elim (of_append xs ys w later) [ inl h ↦ inl (inr h) | inr h ↦ inr h ]

pub into_left : {X : Type 0} (xs ys : List X) (w : X) → Among w xs → Among w (xs ++ ys)
into_left [] ys w h = absurd h
into_left (x ∷ xs) ys w (inl is) = inl is
into_left (x ∷ xs) ys w (inr later) = inr (into_left xs ys w later)

pub into_right : {X : Type 0} (xs ys : List X) (w : X) → Among w ys → Among w (xs ++ ys)
into_right [] ys w h = h
into_right (x ∷ xs) ys w h = inr (into_right xs ys w h)

pub of_map : {X Y : Type 0} (f : X → Y) (xs : List X) (w : Y) → Among w (map f xs) → (x : X) × Among x xs × (f x ≡ w)
of_map f [] w h = absurd h
of_map f (x ∷ xs) w (inl is) = (x, inl refl, is)
of_map f (x ∷ xs) w (inr later) = let found = of_map f xs w later in (found.0, inr found.1, found.2)

pub of_flat_map : {X Y : Type 0} (f : X → List Y) (xs : List X) (w : Y) → Among w (flat_map f xs) → (x : X) × Among x xs × Among w (f x)
of_flat_map f [] w h = absurd h
of_flat_map f (x ∷ xs) w h = elim (of_append (f x) (flat_map f xs) w h) [
  | inl here ↦ (x, inl refl, here)
  | inr later ↦ let found = of_flat_map f xs w later in (found.0, inr found.1, found.2)
]

pub into_flat_map : {X Y : Type 0} (f : X → List Y) (xs : List X) (x : X) (w : Y) → Among x xs → Among w (f x) → Among w (flat_map f xs)
into_flat_map f [] x w h k = absurd h
into_flat_map f (z ∷ zs) x w (inl is) k = into_left (f z) (flat_map f zs) w (subst (λ v. Among w (f v)) (sym is) k)
into_flat_map f (z ∷ zs) x w (inr later) k = into_right (f z) (flat_map f zs) w (into_flat_map f zs x w later k)

-- ---- the first that passes

found_at : {X : Type 0} (test : X → Bool) (x : X) (xs : List X) (z : X) (b : Bool) → test x ≡ b → (find test xs ≡ Some z → Among z xs × (test z ≡ true)) →
    cond b (Some x) (find test xs) ≡ Some z → Among z (x ∷ xs) × (test z ≡ true)
found_at test x xs z true e go f = let same : x ≡ z = cc in (inl same, sym (ap test same) ∙ e)
found_at test x xs z false e go f = let rest = go f in (inr rest.0, rest.1)

pub find_found : {X : Type 0} (test : X → Bool) (xs : List X) (z : X) → find test xs ≡ Some z → Among z xs × (test z ≡ true)
find_found test [] z f = cc
find_found test (x ∷ xs) z f = found_at test x xs z (test x) refl (find_found test xs z) f

none_at : {X : Type 0} (test : X → Bool) (x : X) (xs : List X) (z : X) (b : Bool) → test x ≡ b → (find test xs ≡ None → Among z xs → test z ≡ false) →
    cond b (Some x) (find test xs) ≡ None → Among z (x ∷ xs) → test z ≡ false
none_at test x xs z true e go f h = cc
none_at test x xs z false e go f (inl is) = sym (ap test is) ∙ e
none_at test x xs z false e go f (inr later) = go f later

pub find_none : {X : Type 0} (test : X → Bool) (xs : List X) (z : X) → find test xs ≡ None → Among z xs → test z ≡ false
find_none test [] z f h = absurd h
find_none test (x ∷ xs) z f h = none_at test x xs z (test x) refl (find_none test xs z) f h

-- ---- all alike

pub each_of : {X : Type 0} (P : X → Type 0) (xs : List X) → AllByRecursion P xs → Each P xs
each_of P [] a x h = absurd h
each_of P (y ∷ ys) a x (inl is) = subst P is a.0
each_of P (y ∷ ys) a x (inr later) = each_of P ys a.1 x later

pub each_passes : {X : Type 0} (test : X → Bool) (xs : List X) → list_all test xs ≡ true → (x : X) → Among x xs → test x ≡ true
each_passes test [] e x h = absurd h
each_passes test (y ∷ ys) e x h = let parts = and_parts (test y) (list_all test ys) e in elim h [
  | inl is ↦ sym (ap test is) ∙ parts.0
  | inr later ↦ each_passes test ys parts.1 x later
]
