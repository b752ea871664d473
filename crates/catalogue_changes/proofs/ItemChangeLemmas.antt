-- The differences of a list in order and the same without some items and with others: those of the items alone.
use Rattle.std.proofs.Common.{◌≡◌, ℕ, zero, suc, ◌+◌, ◌≤◌, Bool, true, false, not, ◌||◌, cond, List, [], ◌∷◌, map, length, bytes_eq, refl, ap, sym, ◌∙◌, subst, inl, inr, arith}
use Rattle.std.specs.List.{list_any}
use Rattle.std.specs.declared.cmp.Ordering.{Ordering}
use Rattle.std.specs.declared.cmp.Ordering.TheVariants.{Less, Equal, Greater}
use Rattle.std.specs.Ordering.{is_lt, is_eq, ordering_reverse}
use Rattle.std.specs.Cmp.{IsTotalOrder}
use Rattle.store.specs.Records.{Record, Records, Changes, key_cmp}
use Rattle.abstract_database.specs.Lists.{Among, Rising, put, the_new, drop_where}
use Rattle.abstract_database.specs.Whole.{Each}
use Rattle.abstract_database.proofs.ElementLemmas.{any_found, any_holds, of_filter}
use Rattle.catalogue.specs.Descriptors.{put_each}
use Rattle.catalogue_changes.specs.Differences.{removal, put_of, differences, differences_by, differences_from}
use Rattle.catalogue_changes.proofs.ItemLemmas.{same_front}

module _ {X : Type 0} (cmp : X → X → Ordering) (total : IsTotalOrder cmp) where
  abbrev pub named_in : List X → X → Bool
  named_in removed x = list_any (λ n. is_eq (cmp n x)) removed

  -- the list without those that go and with those that come
  abbrev pub items_after : List X → List X → List X → List X
  items_after added removed xs = put_each cmp the_new added (drop_where (named_in removed) xs)

  turned_to : (x y : X) (o : Ordering) → cmp x y ≡ o → cmp y x ≡ ordering_reverse o
  turned_to x y o e = total.antisymm y x ∙ ap ordering_reverse e

  own_order : (o : Ordering) → o ≡ ordering_reverse o → o ≡ Equal
  own_order Less e = cc
  own_order Equal e = refl
  own_order Greater e = cc

  itself_equal : (x : X) → cmp x x ≡ Equal
  itself_equal x = own_order (cmp x x) (total.antisymm x x)

  abbrev AreAfter : X → List X → Type 0
  AreAfter x ys = (y : X) → Among y ys → cmp x y ≡ Less

  equal_is : (o : Ordering) → is_eq o ≡ true → o ≡ Equal
  equal_is Less e = cc
  equal_is Equal e = refl
  equal_is Greater e = cc

  -- ---- puts

  put_at : (o : Ordering) (d y : X) (ys : List X) → cmp d y ≡ o → put cmp the_new d (y ∷ ys) ≡ cond (is_lt o) (d ∷ y ∷ ys) (cond (is_eq o) (d ∷ ys) (y ∷ put cmp the_new d ys))
  put_at o d y ys e = ap (λ (p : Ordering). cond (is_lt p) (d ∷ y ∷ ys) (cond (is_eq p) (d ∷ ys) (y ∷ put cmp the_new d ys))) e

  -- what stands before all that come stays the first
  stays_first : (added : List X) (y : X) (ys : List X) → AreAfter y added → put_each cmp the_new added (y ∷ ys) ≡ y ∷ put_each cmp the_new added ys
  stays_first [] y ys after = refl
  stays_first (d ∷ added) y ys after =
      ap (put_each cmp the_new added) (put_at Greater d y ys (turned_to y d Less (after d (inl refl))))
      ∙ stays_first added y (put cmp the_new d ys) (λ x h. after x (inr h))

  -- what stands before all others is put first
  put_first : (d : X) (ys : List X) → AreAfter d ys → put cmp the_new d ys ≡ d ∷ ys
  put_first d [] after = refl
  put_first d (y ∷ ys) after = put_at Less d y ys (after y (inl refl))

  put_among_none : (added : List X) → Rising cmp added → put_each cmp the_new added [] ≡ added
  put_among_none [] r = refl
  put_among_none (d ∷ added) r = stays_first added d [] r.0 ∙ ap (λ (l : List X). d ∷ l) (put_among_none added r.1)

  of_put_after : (x d : X) (ys : List X) → cmp x d ≡ Less → AreAfter x ys → AreAfter x (put cmp the_new d ys)
  of_put_after x d [] less after y (inl is) = subst (λ (v : X). cmp x v ≡ Less) is less
  of_put_after x d [] less after y (inr h) = absurd h
  of_put_after x d (z ∷ zs) less after y h = go (cmp d z) h (of_put_after x d zs less (λ v among. after v (inr among)) y) where
    go : (o : Ordering) → Among y (cond (is_lt o) (d ∷ z ∷ zs) (cond (is_eq o) (d ∷ zs) (z ∷ put cmp the_new d zs))) → (Among y (put cmp the_new d zs) → cmp x y ≡ Less) → cmp x y ≡ Less
    go Less (inl is) later = subst (λ (v : X). cmp x v ≡ Less) is less
    go Less (inr k) later = after y k
    go Equal (inl is) later = subst (λ (v : X). cmp x v ≡ Less) is less
    go Equal (inr k) later = after y (inr k)
    go Greater (inl is) later = after y (inl is)
    go Greater (inr k) later = later k

  of_each_after : (x : X) (added ys : List X) → AreAfter x added → AreAfter x ys → AreAfter x (put_each cmp the_new added ys)
  of_each_after x [] ys come_after after = after
  of_each_after x (d ∷ added) ys come_after after = of_each_after x added (put cmp the_new d ys) (λ v among. come_after v (inr among)) (of_put_after x d ys (come_after d (inl refl)) after)

  -- ---- what goes

  -- an item that stands after x is not it
  not_it : (x y : X) → cmp x y ≡ Less → is_eq (cmp x y) ≡ false
  not_it x y less = ap is_eq less

  first_out : (x : X) (removed ys : List X) → AreAfter x ys → drop_where (named_in (x ∷ removed)) ys ≡ drop_where (named_in removed) ys
  first_out x removed [] after = refl
  first_out x removed (y ∷ ys) after =
      ap (λ (b : Bool). cond (not b) (y ∷ drop_where (named_in (x ∷ removed)) ys) (drop_where (named_in (x ∷ removed)) ys)) (is_other (is_eq (cmp x y)) (named_in removed y) (not_it x y (after y (inl refl))))
      ∙ ap (λ (l : List X). cond (not (named_in removed y)) (y ∷ l) l) (first_out x removed ys (λ v among. after v (inr among))) where
        is_other : (a b : Bool) → a ≡ false → (a || b) ≡ b
        is_other true b e = cc
        is_other false b e = refl

  kept_at : (removed ys : List X) (y : X) (b : Bool) → named_in removed y ≡ b → drop_where (named_in removed) (y ∷ ys) ≡ cond (not b) (y ∷ drop_where (named_in removed) ys) (drop_where (named_in removed) ys)
  kept_at removed ys y b e = ap (λ (c : Bool). cond (not c) (y ∷ drop_where (named_in removed) ys) (drop_where (named_in removed) ys)) e

  left_after : (x : X) (removed ys : List X) → AreAfter x ys → AreAfter x (drop_where (named_in removed) ys)
  left_after x removed ys after y h = after y (of_filter (λ v. not (named_in removed v)) ys y h).0

  abbrev AreThere : List X → List X → Type 0
  AreThere removed xs = (g : X) → Among g removed → Among g xs

  -- what goes and is no first item is there behind it
  there_behind : (x : X) (xs removed : List X) → AreThere removed (x ∷ xs) → named_in removed x ≡ false → AreThere removed xs
  there_behind x xs removed there none g of = elim (there g of) [
    | inl is ↦
        let found : named_in removed x ≡ true = any_holds (λ n. is_eq (cmp n x)) removed g of (subst (λ (v : X). is_eq (cmp v x) ≡ true) is (ap is_eq (itself_equal x))) in
        let no : true ≡ false = sym found ∙ none in cc
    | inr later ↦ later
  ]

  -- a first item that goes is the first of those that go
  is_first : (x g : X) (xs removed : List X) → Rising cmp (x ∷ xs) → Rising cmp (g ∷ removed) → AreThere (g ∷ removed) (x ∷ xs) → named_in (g ∷ removed) x ≡ true → x ≡ g
  is_first x g xs removed r q there named =
      let n = any_found (λ n. is_eq (cmp n x)) (g ∷ removed) named in
      let equal : cmp n.0 x ≡ Equal = equal_is (cmp n.0 x) n.2 in
      elim (there g (inl refl)) [
        | inl is ↦ is
        | inr later ↦
            let less : cmp x g ≡ Less = r.0 g later in
            elim n.1 [
              | inl here ↦ let e : cmp g x ≡ Equal = subst (λ (v : X). cmp v x ≡ Equal) (sym here) equal in let no : Greater ≡ Equal = sym (turned_to x g Less less) ∙ e in cc
              | inr behind ↦
                  let before : cmp g n.0 ≡ Less = q.0 n.0 behind in
                  let after : cmp x n.0 ≡ Less = total.trans x g n.0 less before in
                  let no : Greater ≡ Equal = sym (turned_to x n.0 Less after) ∙ equal in cc
            ]
      ]

  there_rest : (x : X) (xs removed : List X) → Rising cmp (x ∷ removed) → AreThere (x ∷ removed) (x ∷ xs) → AreThere removed xs
  there_rest x xs removed q there g of = elim (there g (inr of)) [
    | inl is ↦ let no : Equal ≡ Less = sym (itself_equal x) ∙ subst (λ (v : X). cmp x v ≡ Less) (sym is) (q.0 g of) in cc
    | inr later ↦ later
  ]

  -- ---- the differences

  module _ (spell : X → Record) (P : X → Type 0) (agrees : (a b : X) → P a → P b → key_cmp (spell a).0 (spell b).0 ≡ cmp a b) where
    abbrev all : List X → Records
    all xs = map spell xs

    -- a first record that stands before all others is removed
    first_removed : (x : X) (xs ys : List X) → P x → Each P ys → AreAfter x ys → differences (spell x ∷ all xs) (all ys) ≡ removal (spell x) ∷ differences (all xs) (all ys)
    first_removed x xs [] p each after = refl
    first_removed x xs (y ∷ ys) p each after =
        ap (λ (o : Ordering). differences_by o (spell x) (spell y) (differences (all xs) (all (y ∷ ys))) (differences (all xs) (all ys)) (differences_from (spell x) (differences (all xs)) (all ys)))
        (agrees x y p (each y (inl refl)) ∙ after y (inl refl))

    -- one that comes before all others is put
    first_put : (c : X) (xs ys : List X) → P c → Each P xs → AreAfter c xs → differences (all xs) (spell c ∷ all ys) ≡ put_of (spell c) ∷ differences (all xs) (all ys)
    first_put c [] ys p each after = refl
    first_put c (x ∷ xs) ys p each after =
        ap (λ (o : Ordering). differences_by o (spell x) (spell c) (differences (all xs) (all (c ∷ ys))) (differences (all xs) (all ys)) (differences_from (spell x) (differences (all xs)) (all ys)))
        (agrees x c (each x (inl refl)) p ∙ turned_to c x Less (after x (inl refl)))

    -- one that comes in place of another is put
    first_replaced : (x c : X) (xs ys : List X) → P x → P c → cmp x c ≡ Equal → bytes_eq (spell x).1 (spell c).1 ≡ false → differences (all (x ∷ xs)) (spell c ∷ all ys) ≡ put_of (spell c) ∷ differences (all xs) (all ys)
    first_replaced x c xs ys p q equal other =
        ap (λ (o : Ordering). differences_by o (spell x) (spell c) (differences (all xs) (all (c ∷ ys))) (differences (all xs) (all ys)) (differences_from (spell x) (differences (all xs)) (all ys)))
        (agrees x c p q ∙ equal)
        ∙ ap (λ (b : Bool). cond b (differences (all xs) (all ys)) (put_of (spell c) ∷ differences (all xs) (all ys))) other

    each_put : (d : X) (ys : List X) → P d → Each P ys → Each P (put cmp the_new d ys)
    each_put d [] p each y (inl is) = subst P is p
    each_put d [] p each y (inr h) = absurd h
    each_put d (z ∷ zs) p each y h = go (cmp d z) h (each_put d zs p (λ v among. each v (inr among)) y) where
      go : (o : Ordering) → Among y (cond (is_lt o) (d ∷ z ∷ zs) (cond (is_eq o) (d ∷ zs) (z ∷ put cmp the_new d zs))) → (Among y (put cmp the_new d zs) → P y) → P y
      go Less (inl is) later = subst P is p
      go Less (inr k) later = each y k
      go Equal (inl is) later = subst P is p
      go Equal (inr k) later = each y (inr k)
      go Greater (inl is) later = each y (inl is)
      go Greater (inr k) later = later k

    each_put_of : (added ys : List X) → Each P added → Each P ys → Each P (put_each cmp the_new added ys)
    each_put_of [] ys comes each = each
    each_put_of (d ∷ added) ys comes each = each_put_of added (put cmp the_new d ys) (λ v among. comes v (inr among)) (each_put d ys (comes d (inl refl)) each)

    each_kept : (xs removed added : List X) → Each P xs → Each P added → Each P (items_after added removed xs)
    each_kept xs removed added each comes = each_put_of added (drop_where (named_in removed) xs) comes (λ x h. each x (of_filter (λ v. not (named_in removed v)) xs x h).0)

    -- what the lists are to be, to tell what goes and comes by the differences
    pub record AreChanges (added removed xs : List X) : Type 0 where
      pub held : Each P xs
      pub comes : Each P added
      pub order : Rising cmp xs
      pub gone_order : Rising cmp removed
      pub come_order : Rising cmp added
      pub there : AreThere removed xs
      pub apart : (c : X) → Among c added → named_in removed c ≡ false
      pub new : (c : X) → Among c added → (x : X) → Among x xs → cmp x c ≡ Equal → bytes_eq (spell x).1 (spell c).1 ≡ false

    abbrev Agree : List X → List X → List X → Type 0
    Agree added removed xs = differences (all xs) (all (items_after added removed xs)) ≡ differences (all removed) (all added)

    without_first : (x : X) (xs added removed removed' : List X) → AreChanges added removed (x ∷ xs) → Rising cmp removed' → AreThere removed' xs → ((c : X) → Among c added → named_in removed' c ≡ false) → AreChanges added removed' xs
    without_first x xs added removed removed' e q there apart = record {
      held = λ v among. e.held v (inr among);
      comes = e.comes;
      order = e.order.1;
      gone_order = q;
      come_order = e.come_order;
      there = there;
      apart = apart;
      new = λ c of v among. e.new c of v (inr among);
    }

    -- all that comes stands after the first item
    step_past : (x : X) (xs added removed : List X) → AreChanges added removed (x ∷ xs) → AreAfter x added → ((removed' : List X) → AreChanges added removed' xs → Agree added removed' xs) → Agree added removed (x ∷ xs)
    step_past x xs added removed e after later = go (named_in removed x) refl where
      stays : named_in removed x ≡ false → Agree added removed (x ∷ xs)
      stays none =
          ap (λ (l : List X). differences (all (x ∷ xs)) (all (put_each cmp the_new added l))) (kept_at removed xs x false none)
          ∙ ap (λ (l : List X). differences (all (x ∷ xs)) (all l)) (stays_first added x (drop_where (named_in removed) xs) after)
          ∙ same_front (spell x) (all xs) (all (items_after added removed xs))
          ∙ later removed (without_first x xs added removed removed e e.gone_order (there_behind x xs removed e.there none) e.apart)

      goes : (removed' : List X) → removed ≡ x ∷ removed' → named_in removed x ≡ true → Agree added removed (x ∷ xs)
      goes removed' is named =
          let e' : AreChanges added (x ∷ removed') (x ∷ xs) = subst (λ (l : List X). AreChanges added l (x ∷ xs)) is e in
          let named' : named_in (x ∷ removed') x ≡ true = subst (λ (l : List X). named_in l x ≡ true) is named in
          let are_changes : AreChanges added removed' xs = without_first x xs added (x ∷ removed') removed' e' e'.gone_order.1 (there_rest x xs removed' e'.gone_order e'.there) (λ c of. rest_apart (is_eq (cmp x c)) (named_in removed' c) (e'.apart c of)) in
          subst (λ (l : List X). Agree added l (x ∷ xs)) (sym is)
          (ap (λ (l : List X). differences (all (x ∷ xs)) (all (put_each cmp the_new added l))) (kept_at (x ∷ removed') xs x true named' ∙ first_out x removed' xs e'.order.0)
          ∙ first_removed x xs (items_after added removed' xs) (e'.held x (inl refl)) (each_kept xs removed' added (λ v among. e'.held v (inr among)) e'.comes)
          (of_each_after x added (drop_where (named_in removed') xs) after (left_after x removed' xs e'.order.0))
          ∙ ap (λ (cs : Changes). removal (spell x) ∷ cs) (later removed' are_changes)
          ∙ sym (first_removed x removed' added (e'.held x (inl refl)) e'.comes after)) where
            rest_apart : (a b : Bool) → (a || b) ≡ false → b ≡ false
            rest_apart true b f = cc
            rest_apart false b f = f

      first_of : (l : List X) → removed ≡ l → named_in removed x ≡ true → Agree added removed (x ∷ xs)
      first_of [] is named = let no : false ≡ true = sym (ap (λ (l : List X). named_in l x) is) ∙ named in cc
      first_of (g ∷ gs) is named =
          let e' : AreChanges added (g ∷ gs) (x ∷ xs) = subst (λ (l : List X). AreChanges added l (x ∷ xs)) is e in
          let same : x ≡ g = is_first x g xs gs e'.order e'.gone_order e'.there (subst (λ (l : List X). named_in l x ≡ true) is named) in
          goes gs (is ∙ ap (λ (v : X). v ∷ gs) (sym same)) named

      go : (b : Bool) → named_in removed x ≡ b → Agree added removed (x ∷ xs)
      go true named = first_of removed refl named
      go false none = stays none

    gone_after : (c x : X) (xs removed : List X) → cmp c x ≡ Less → Rising cmp (x ∷ xs) → AreThere removed (x ∷ xs) → AreAfter c removed
    gone_after c x xs removed less r there g of = elim (there g of) [
      | inl is ↦ subst (λ (v : X). cmp c v ≡ Less) is less
      | inr later ↦ total.trans c x g less (r.0 g later)
    ]

    all_after : (c x : X) (xs : List X) → cmp c x ≡ Less → Rising cmp (x ∷ xs) → AreAfter c (x ∷ xs)
    all_after c x xs less r y (inl is) = subst (λ (v : X). cmp c v ≡ Less) is less
    all_after c x xs less r y (inr later) = total.trans c x y less (r.0 y later)

    neither : (a b : Bool) → (a || b) ≡ false → (a ≡ false) × (b ≡ false)
    neither true b f = cc
    neither false b f = (refl, f)

    same_named : (removed : List X) (x c : X) → cmp x c ≡ Equal → named_in removed c ≡ false → named_in removed x ≡ false
    same_named [] x c equal e = refl
    same_named (g ∷ gs) x c equal e =
        let behind : cmp g x ≡ cmp g c = total.antisymm g x ∙ ap ordering_reverse (total.congr x c g equal) ∙ sym (total.antisymm g c) in
        let none = neither (is_eq (cmp g c)) (named_in gs c) e in
        ap (λ (a : Bool). a || named_in gs x) (ap is_eq behind ∙ none.0) ∙ same_named gs x c equal none.1

    -- the differences are those of what goes and comes; n counts the items
    by_count : (n : ℕ) (xs added removed : List X) → length xs + length added ≤ n → AreChanges added removed xs → Agree added removed xs
    by_count n [] added [] le e = ap (λ (l : List X). map put_of (all l)) (put_among_none added e.come_order)
    by_count n [] added (g ∷ gs) le e = absurd (e.there g (inl refl))
    by_count zero (x ∷ xs) added removed le e = absurd (omega (arith, le))
    by_count (suc n) (x ∷ xs) [] removed le e = step_past x xs [] removed e (λ y h. absurd h) (λ removed' e'. by_count n xs [] removed' (omega (arith, le)) e')
    by_count (suc n) (x ∷ xs) (c ∷ added) removed le e = go (cmp c x) refl (λ xs' added' removed' le' e'. by_count n xs' added' removed' le' e') where
      rest_come : AreChanges added removed (x ∷ xs)
      rest_come = record {
        held = e.held;
        comes = λ v among. e.comes v (inr among);
        order = e.order;
        gone_order = e.gone_order;
        come_order = e.come_order.1;
        there = e.there;
        apart = λ v of. e.apart v (inr of);
        new = λ v of. e.new v (inr of);
      }

      after_come : AreAfter c added
      after_come = e.come_order.0

      go : (o : Ordering) → cmp c x ≡ o → ((xs' added' removed' : List X) → length xs' + length added' ≤ n → AreChanges added' removed' xs' → Agree added' removed' xs') → Agree (c ∷ added) removed (x ∷ xs)
      go Less less rec =
          let after : AreAfter c (x ∷ xs) = all_after c x xs less e.order in
          let left : AreAfter c (drop_where (named_in removed) (x ∷ xs)) = left_after c removed (x ∷ xs) after in
          ap (λ (l : List X). differences (all (x ∷ xs)) (all (put_each cmp the_new added l))) (put_first c (drop_where (named_in removed) (x ∷ xs)) left)
          ∙ ap (λ (l : List X). differences (all (x ∷ xs)) (all l)) (stays_first added c (drop_where (named_in removed) (x ∷ xs)) after_come)
          ∙ first_put c (x ∷ xs) (items_after added removed (x ∷ xs)) (e.comes c (inl refl)) e.held after
          ∙ ap (λ (cs : Changes). put_of (spell c) ∷ cs) (rec (x ∷ xs) added removed (omega (arith, le)) rest_come)
          ∙ sym (first_put c removed added (e.comes c (inl refl)) (λ g of. e.held g (e.there g of)) (gone_after c x xs removed less e.order e.there))
      go Equal equal rec =
          let other : cmp x c ≡ Equal = turned_to c x Equal equal in
          let none : named_in removed x ≡ false = same_named removed x c other (e.apart c (inl refl)) in
          let there : AreThere removed xs = there_behind x xs removed e.there none in
          let behind : AreAfter c removed = λ g of. total.congr c x g equal ∙ e.order.0 g (there g of) in
          ap (λ (l : List X). differences (all (x ∷ xs)) (all (put_each cmp the_new (c ∷ added) l))) (kept_at removed xs x false none)
          ∙ ap (λ (l : List X). differences (all (x ∷ xs)) (all (put_each cmp the_new added l))) (put_at Equal c x (drop_where (named_in removed) xs) equal)
          ∙ ap (λ (l : List X). differences (all (x ∷ xs)) (all l)) (stays_first added c (drop_where (named_in removed) xs) after_come)
          ∙ first_replaced x c xs (items_after added removed xs) (e.held x (inl refl)) (e.comes c (inl refl)) other (e.new c (inl refl) x (inl refl) other)
          ∙ ap (λ (cs : Changes). put_of (spell c) ∷ cs) (rec xs added removed (omega (arith, le)) (without_first x xs added removed removed rest_come e.gone_order there (λ v of. e.apart v (inr of))))
          ∙ sym (first_put c removed added (e.comes c (inl refl)) (λ g of. e.held g (e.there g of)) behind)
      go Greater greater rec =
          let first : cmp x c ≡ Less = turned_to c x Greater greater in
          let after : AreAfter x (c ∷ added) = λ y h. past y h first in
          step_past x xs (c ∷ added) removed e after (λ removed' e'. rec xs (c ∷ added) removed' (omega (arith, le)) e') where
            past : (y : X) → Among y (c ∷ added) → cmp x c ≡ Less → cmp x y ≡ Less
            past y (inl is) less = subst (λ (v : X). cmp x v ≡ Less) is less
            past y (inr later) less = total.trans x c y less (e.come_order.0 y later)

    pub changes_differ : (xs added removed : List X) → AreChanges added removed xs → differences (all xs) (all (items_after added removed xs)) ≡ differences (all removed) (all added)
    changes_differ xs added removed e = by_count (length xs + length added) xs added removed (omega arith) e
