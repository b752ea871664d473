-- Numbers of which no two are one.
use Rattle.std.proofs.Common.{◌≡◌, ◌<◌, ◌≤◌, ◌↔◌, IsTrue, ℕ, zero, suc, ◌+◌, Bool, true, false, not, ◌&&◌, ◌||◌, nat_eq, List, [], ◌∷◌, ◌++◌, Some, take, length, get_or, set, slice_get, refl, sym, ap, ◌∙◌, subst, arith}
use Rattle.std.proofs.lemmas.Bool.{eqb-true, eq-eqb, false≢true}
use Rattle.std.proofs.lemmas.List.{get_or-set_other}
use Rattle.std.proofs.lemmas.Grind.{get_or-set_at}
use Rattle.std.proofs.lemmas.Option.{slice_get_read}
use Rattle.std.proofs.Math.Seq.{take_all}
use Rattle.std.specs.List.{list_any}
use Rattle.sql_ast.specs.Layout.{all_differ}
use Rattle.stored_database.specs.Definitions.{TableDefinition, ids_of}
use Rattle.catalogue.specs.Numbers.{is_taken, MarkTaken}
use Rattle.catalogue_loading.specs.ValidityParts.{HasNumber, AreNumbered}
use Rattle.catalogue_loading.proofs.Lists.{each_more, not_each}
use Rattle.catalogue.proofs.OwnParts.{first_of, second_of, both_of}

neither : (a b : Bool) → not (a || b) ≡ true → (not a ≡ true) × (b ≡ false)
neither true b e = cc
neither false true e = cc
neither false false e = (refl, refl)

none_of : (a b : Bool) → not a ≡ true → b ≡ false → not (a || b) ≡ true
none_of true b e f = cc
none_of false true e f = cc
none_of false false e f = refl

or_false : (a b : Bool) → (a || b) ≡ false → (a ≡ false) × (b ≡ false)
or_false true b e = cc
or_false false b e = (refl, e)

same_eq : (a b : ℕ) → nat_eq a b ≡ false → nat_eq b a ≡ false
same_eq a b e = at (nat_eq b a) refl where
  at : (r : Bool) → nat_eq b a ≡ r → nat_eq b a ≡ false
  at false h = h
  at true h = absurd (no (sym e ∙ eq-eqb a b (sym (eqb-true b a h)))) where
    no : false ≡ true → ⊥
    no f = cc

any_append : (f : ℕ → Bool) (xs : List ℕ) (y : ℕ) → list_any f xs ≡ false → f y ≡ false → list_any f (xs ++ y ∷ []) ≡ false
any_append f [] y h e = ap (λ b. b || false) e
any_append f (x ∷ xs) y h e = let o = or_false (f x) (list_any f xs) h in ap (λ b. b || list_any f (xs ++ y ∷ [])) o.0 ∙ any_append f xs y o.1 e

differ_more : (xs : List ℕ) (y : ℕ) → all_differ nat_eq xs ≡ true → is_taken xs y ≡ false → all_differ nat_eq (xs ++ y ∷ []) ≡ true
differ_more [] y h free = refl
differ_more (x ∷ xs) y h free =
    let o = or_false (nat_eq y x) (is_taken xs y) free in
    both_of (not (list_any (nat_eq x) (xs ++ y ∷ []))) (all_differ nat_eq (xs ++ y ∷ []))
    (ap not (any_append (nat_eq x) xs y (none (list_any (nat_eq x) xs) (first_of (not (list_any (nat_eq x) xs)) (all_differ nat_eq xs) h)) (same_eq y x o.0)))
    (differ_more xs y (second_of (not (list_any (nat_eq x) xs)) (all_differ nat_eq xs) h) o.1)
  where
    none : (b : Bool) → not b ≡ true → b ≡ false
    none true e = cc
    none false e = refl

second_true : (a b : Bool) → b ≡ true → (a || b) ≡ true
second_true true b e = refl
second_true false b e = e

same_number : (a b : ℕ) → Some a ≡ Some b → a ≡ b
same_number a b e = cc

stands : (y : ℕ) (zs : List ℕ) (j x : ℕ) → slice_get zs j ≡ Some y → x ≡ y → list_any (nat_eq x) zs ≡ true
stands y [] j x f g = cc
stands y (z ∷ zs) zero x f g = ap (λ b. b || list_any (nat_eq x) zs) (eq-eqb x z (g ∙ sym (same_number z y f)))
stands y (z ∷ zs) (suc j) x f g = second_true (nat_eq x z) (list_any (nat_eq x) zs) (stands y zs j x f g)

true_false : (b : Bool) → b ≡ true → not b ≡ true → ⊥
true_false true e f = cc
true_false false e f = cc

or_none : (b : Bool) → (b || false) ≡ (false || b)
or_none true = refl
or_none false = refl

any_snoc : (f : ℕ → Bool) (xs : List ℕ) (y : ℕ) → list_any f (xs ++ y ∷ []) ≡ (list_any f xs || f y)
any_snoc f [] y = or_none (f y)
any_snoc f (x ∷ xs) y = at (f x) (any_snoc f xs y) where
  at : (b : Bool) → list_any f (xs ++ y ∷ []) ≡ (list_any f xs || f y) → (b || list_any f (xs ++ y ∷ [])) ≡ ((b || list_any f xs) || f y)
  at true h = refl
  at false h = h

-- a number that was there before does not differ
taken_again : (xs : List ℕ) (i : ℕ) (y : ℕ) → slice_get xs i ≡ Some y → is_taken (take i xs) y ≡ true → all_differ nat_eq xs ≡ true → ⊥
taken_again [] i y e t h = cc
taken_again (x ∷ xs) zero y e t h = cc
taken_again (x ∷ xs) (suc i) y e t h = at (nat_eq y x) refl (λ g. taken_again xs i y e g (second_of (not (list_any (nat_eq x) xs)) (all_differ nat_eq xs) h)) where
  at : (r : Bool) → nat_eq y x ≡ r → (is_taken (take i xs) y ≡ true → ⊥) → ⊥
  at true g again = true_false (list_any (nat_eq x) xs) (stands y xs i x e (sym (eqb-true y x g))) (first_of (not (list_any (nat_eq x) xs)) (all_differ nat_eq xs) h)
  at false g again = again (sym (ap (λ b. b || is_taken (take i xs) y) g) ∙ t)

module _ (ts : List TableDefinition) (i : ℕ) (t : TableDefinition) (lt : i < length ts) (is : t ≡ get_or ts i t) where
  id_at : (us : List TableDefinition) (j : ℕ) → slice_get us j ≡ Some t → slice_get (ids_of us) j ≡ Some t.id
  id_at [] j e = cc
  id_at (u ∷ us) zero e = ap Some (ap (λ (v : TableDefinition). v.id) (got e)) where
    got : (Some u) ≡ Some t → u ≡ t
    got f = cc
  id_at (u ∷ us) (suc j) e = id_at us j e

  ids_front : (us : List TableDefinition) (j : ℕ) → ids_of (take j us) ≡ take j (ids_of us)
  ids_front us zero = refl
  ids_front [] (suc j) = refl
  ids_front (u ∷ us) (suc j) = ap (λ (ns : List ℕ). u.id ∷ ns) (ids_front us j)

  front_more : (us : List TableDefinition) (j : ℕ) → slice_get us j ≡ Some t → ids_of (take (suc j) us) ≡ ids_of (take j us) ++ t.id ∷ []
  front_more [] j e = cc
  front_more (u ∷ us) zero e = ap (λ (v : TableDefinition). v.id ∷ []) (got e) where
    got : (Some u) ≡ Some t → u ≡ t
    got f = cc
  front_more (u ∷ us) (suc j) e = ap (λ (ns : List ℕ). u.id ∷ ns) (front_more us j e)

  at : slice_get ts i ≡ Some t
  at = slice_get_read ts (length ts) i t refl lt is

  pub numbered_more : AreNumbered (take i ts) → 1 ≤ t.id → t.id ≤ 1024 → is_taken (ids_of (take i ts)) t.id ≡ false → AreNumbered (take (i + 1) ts)
  numbered_more h least most free = record {
    each = each_more HasNumber ts i t lt is h.each (record { least = least; most = most });
    own = subst (λ n. all_differ nat_eq (ids_of (take n ts)) ≡ true) {x = suc i} {y = i + 1} (omega arith)
        (ap (all_differ nat_eq) (front_more ts i at) ∙ differ_more (ids_of (take i ts)) t.id h.own free);
  }

  taken_more : (n : ℕ) → is_taken (ids_of (take (i + 1) ts)) n ≡ (is_taken (ids_of (take i ts)) n || nat_eq n t.id)
  taken_more n =
      subst (λ (k : ℕ). is_taken (ids_of (take k ts)) n ≡ (is_taken (ids_of (take i ts)) n || nat_eq n t.id)) {x = suc i} {y = i + 1} (omega arith)
      (ap (λ (ns : List ℕ). is_taken ns n) (front_more ts i at) ∙ any_snoc (nat_eq n) (ids_of (take i ts)) t.id)

  -- one more mark
  pub marks_more : (marks : List Bool) → length marks ≡ 1025 → MarkTaken (ids_of (take i ts)) marks → (id : ℕ) → id ≡ t.id → id < 1025 → MarkTaken (ids_of (take (i + 1) ts)) (set marks id true)
  marks_more marks count h id is_id small n to = by_case (nat_eq n id) refl where
    number : nat_eq n id ≡ nat_eq n t.id
    number = ap (nat_eq n) is_id

    by_case : (b : Bool) → nat_eq n id ≡ b → get_or (set marks id true) n false ≡ is_taken (ids_of (take (i + 1) ts)) n
    by_case true g =
        get_or-set_at marks id n true false (eqb-true n id g) (omega (arith, count, small))
        ∙ sym (taken_more n ∙ second_true (is_taken (ids_of (take i ts)) n) (nat_eq n t.id) (sym number ∙ g))
    by_case false g =
        get_or-set_other marks id n true false (λ e. false≢true (sym g ∙ eq-eqb n id e))
        ∙ h n to
        ∙ sym (taken_more n ∙ ap (λ b. is_taken (ids_of (take i ts)) n || b) (sym number ∙ g) ∙ or_none (is_taken (ids_of (take i ts)) n))

  pub not_numbered : (HasNumber t → ⊥) → IsTrue false ↔ AreNumbered ts
  not_numbered never = (λ e. cc, λ h. (not_each HasNumber ts i t lt is never).1 h.each)

  pub not_own : is_taken (ids_of (take i ts)) t.id ≡ true → IsTrue false ↔ AreNumbered ts
  not_own taken = (λ e. cc, λ h. absurd (taken_again (ids_of ts) i t.id (id_at ts i at) (sym (ap (λ (ns : List ℕ). is_taken ns t.id) (ids_front ts i)) ∙ taken) h.own))

pub all_numbered : (ts : List TableDefinition) (i : ℕ) → length ts ≤ i → AreNumbered (take i ts) → IsTrue true ↔ AreNumbered ts
all_numbered ts i le h = (λ e. subst AreNumbered (take_all i ts le) h, λ e. refl)
