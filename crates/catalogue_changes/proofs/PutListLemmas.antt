-- What of a list passes a test after an element was put in it, and what does not.
use Rattle.std.proofs.Common.{◌≡◌, Bool, true, false, not, cond, List, [], ◌∷◌, ◌++◌, filter, refl, ap, sym, ◌∙◌, subst, inl, inr}
use Rattle.std.specs.Ordering.{is_lt, is_eq}
use Rattle.std.specs.declared.cmp.Ordering.{Ordering}
use Rattle.std.specs.declared.cmp.Ordering.TheVariants.{Less, Equal, Greater}
use Rattle.std.specs.Cmp.{IsTotalOrder}
use Rattle.abstract_database.specs.Lists.{Among, Rising, put, drop_where}
use Rattle.abstract_database.proofs.ElementLemmas.{of_filter}

module _ {X : Type 0} (cmp : X → X → Ordering) (joined : X → X → X) where
  -- a list with an element put in it, by how that compares with the first one
  abbrev pub put_at : Ordering → X → X → List X → List X → List X
  put_at o x y ys later = cond (is_lt o) (x ∷ y ∷ ys) (cond (is_eq o) (joined y x ∷ ys) (y ∷ later))

  pub put_first : (x : X) (ys : List X) → ((y : X) → Among y ys → cmp x y ≡ Less) → put cmp joined x ys ≡ x ∷ ys
  put_first x [] before = refl
  put_first x (y ∷ ys) before = ap (λ (o : Ordering). put_at o x y ys (put cmp joined x ys)) (before y (inl refl))

  pub put_last : (x : X) (ys : List X) → ((y : X) → Among y ys → cmp x y ≡ Greater) → put cmp joined x ys ≡ ys ++ x ∷ []
  put_last x [] behind = refl
  put_last x (y ∷ ys) behind =
      ap (λ (o : Ordering). put_at o x y ys (put cmp joined x ys)) (behind y (inl refl)) ∙ ap (λ (zs : List X). y ∷ zs) (put_last x ys (λ z among. behind z (inr among)))

  -- an element of the list, or the one that is put, or the two of them joined
  pub each_put : (P : X → Type 0) → ((x y : X) → P x → P y → P (joined y x)) → (x : X) (ys : List X) → P x → ((y : X) → Among y ys → P y) → (z : X) → Among z (put cmp joined x ys) → P z
  each_put P both x [] p each z (inl is) = subst P is p
  each_put P both x [] p each z (inr h) = absurd h
  each_put P both x (y ∷ ys) p each z h = go (cmp x y) h (λ k. each_put P both x ys p (λ w among. each w (inr among)) z k) where
    go : (o : Ordering) → Among z (put_at o x y ys (put cmp joined x ys)) → (Among z (put cmp joined x ys) → P z) → P z
    go Less (inl is) later = subst P is p
    go Less (inr among) later = each z among
    go Equal (inl is) later = subst P is (both x y p (each y (inl refl)))
    go Equal (inr among) later = each z (inr among)
    go Greater (inl is) later = each z (inl is)
    go Greater (inr among) later = later among

  module _ (test : X → Bool) where
    -- what is put takes the place only of what passes, by what passes
    abbrev pub TakesPassing : X → Type 0
    TakesPassing x = (y : X) → cmp x y ≡ Equal → (test y ≡ true) × (test (joined y x) ≡ true)

    abbrev part : Bool → X → List X → List X
    part b x ys = cond b (x ∷ ys) ys

    -- what does not pass stays where what passes is put
    pub drop_put : (x : X) (ys : List X) → test x ≡ true → TakesPassing x → drop_where test (put cmp joined x ys) ≡ drop_where test ys
    drop_put x [] passes takes = ap (λ (b : Bool). part (not b) x []) passes
    drop_put x (y ∷ ys) passes takes = go (cmp x y) refl (drop_put x ys passes takes) where
      go : (o : Ordering) → cmp x y ≡ o → drop_where test (put cmp joined x ys) ≡ drop_where test ys → drop_where test (put_at o x y ys (put cmp joined x ys)) ≡ drop_where test (y ∷ ys)
      go Less c later = ap (λ (b : Bool). part (not b) x (drop_where test (y ∷ ys))) passes
      go Equal c later =
          ap (λ (b : Bool). part (not b) (joined y x) (drop_where test ys)) (takes y c).1 ∙ sym (ap (λ (b : Bool). part (not b) y (drop_where test ys)) (takes y c).0)
      go Greater c later = ap (part (not (test y)) y) later

    module _ (total : IsTotalOrder cmp) where
      -- what passes is what passed, with what is put
      pub filter_put : (x : X) (ys : List X) → test x ≡ true → TakesPassing x → Rising cmp ys → filter test (put cmp joined x ys) ≡ put cmp joined x (filter test ys)
      filter_put x [] passes takes rising = ap (λ (b : Bool). part b x []) passes
      filter_put x (y ∷ ys) passes takes rising = go (cmp x y) (test y) refl refl (filter_put x ys passes takes rising.1) where
        beyond : cmp x y ≡ Less → (z : X) → Among z (filter test ys) → cmp x z ≡ Less
        beyond c z among = total.trans x y z c (rising.0 z (of_filter test ys z among).0)

        go : (o : Ordering) (b : Bool) → cmp x y ≡ o → test y ≡ b → filter test (put cmp joined x ys) ≡ put cmp joined x (filter test ys)
            → filter test (put_at o x y ys (put cmp joined x ys)) ≡ put cmp joined x (part b y (filter test ys))
        go Less true c e later =
            ap (λ (a : Bool). part a x (filter test (y ∷ ys))) passes ∙ ap (λ (a : Bool). x ∷ part a y (filter test ys)) e
            ∙ sym (ap (λ (o : Ordering). put_at o x y (filter test ys) (put cmp joined x (filter test ys))) c)
        go Less false c e later =
            ap (λ (a : Bool). part a x (filter test (y ∷ ys))) passes ∙ ap (λ (a : Bool). x ∷ part a y (filter test ys)) e ∙ sym (put_first x (filter test ys) (beyond c))
        go Equal true c e later =
            ap (λ (a : Bool). part a (joined y x) (filter test ys)) (takes y c).1 ∙ sym (ap (λ (o : Ordering). put_at o x y (filter test ys) (put cmp joined x (filter test ys))) c)
        go Equal false c e later = absurd (no (sym e ∙ (takes y c).0)) where
          no : false ≡ true → ⊥
          no h = cc
        go Greater true c e later =
            ap (λ (a : Bool). part a y (filter test (put cmp joined x ys))) e ∙ ap (λ (zs : List X). y ∷ zs) later
            ∙ sym (ap (λ (o : Ordering). put_at o x y (filter test ys) (put cmp joined x (filter test ys))) c)
        go Greater false c e later = ap (λ (a : Bool). part a y (filter test (put cmp joined x ys))) e ∙ later

-- ---- what is dropped

module _ {X : Type 0} (test other own : X → Bool) where
  abbrev part_of : Bool → X → List X → List X
  part_of b x xs = cond b (x ∷ xs) xs

  -- of what passes the one test, what passes the other: where these agree
  pub filter_twice : (xs : List X) → ((x : X) → Among x xs → test x ≡ true → other x ≡ own x) → filter test (filter other xs) ≡ filter own (filter test xs)
  filter_twice [] agree = refl
  filter_twice (x ∷ xs) agree = go (test x) (other x) (own x) refl refl refl (filter_twice xs (λ y among. agree y (inr among))) where
    go : (a b c : Bool) → test x ≡ a → other x ≡ b → own x ≡ c → filter test (filter other xs) ≡ filter own (filter test xs)
        → filter test (part_of b x (filter other xs)) ≡ filter own (part_of a x (filter test xs))
    go true true true p q r later = ap (λ (d : Bool). part_of d x (filter test (filter other xs))) p ∙ ap (λ (zs : List X). x ∷ zs) later ∙ sym (ap (λ (d : Bool). part_of d x (filter own (filter test xs))) r)
    go true true false p q r later = absurd (no (sym q ∙ agree x (inl refl) p ∙ r)) where
      no : true ≡ false → ⊥
      no h = cc
    go true false true p q r later = absurd (no (sym r ∙ sym (agree x (inl refl) p) ∙ q)) where
      no : true ≡ false → ⊥
      no h = cc
    go true false false p q r later = later ∙ sym (ap (λ (d : Bool). part_of d x (filter own (filter test xs))) r)
    go false true c p q r later = ap (λ (d : Bool). part_of d x (filter test (filter other xs))) p ∙ later
    go false false c p q r later = later

-- what passes the second test of all that pass the first
pub filter_within : {X : Type 0} (test other : X → Bool) (xs : List X) → ((x : X) → Among x xs → test x ≡ true → other x ≡ true) → filter test (filter other xs) ≡ filter test xs
filter_within test other [] all = refl
filter_within {X} test other (x ∷ xs) all = go (test x) (other x) refl refl (filter_within test other xs (λ y among. all y (inr among))) where
  go : (a b : Bool) → test x ≡ a → other x ≡ b → filter test (filter other xs) ≡ filter test xs → filter test (cond b (x ∷ filter other xs) (filter other xs)) ≡ cond a (x ∷ filter test xs) (filter test xs)
  go a true p q later = ap (λ (d : Bool). cond d (x ∷ filter test (filter other xs)) (filter test (filter other xs))) p ∙ ap (λ (zs : List X). cond a (x ∷ zs) zs) later
  go true false p q later = absurd (no (sym q ∙ all x (inl refl) p)) where
    no : false ≡ true → ⊥
    no h = cc
  go false false p q later = later
