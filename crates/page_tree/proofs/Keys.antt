-- What a map does on either side of a key.
use Rattle.std.proofs.Common.{◌≡◌, ⊎_elim, ℕ, true, false, Option, Some, None, List, [], ◌∷◌, ◌++◌, refl, ap}
use Rattle.std.proofs.lemmas.Bool.{cases_Bool}
use Rattle.page_nodes.specs.Map.{is_below, Entry, value_for, first_at, with_entry, without, edited}
use Rattle.page_nodes.proofs.Order.{one_way, le_le, lt_le, le_lt}
use Rattle.page_tree.specs.Forest.{IsUnder, AllFrom, AllUnder}

pub under_le : (a b : List ℕ) (high : Option (List ℕ)) → is_below b a ≡ false → IsUnder b high → IsUnder a high
under_le a b None ab under = under
under_le a b (Some high) ab under = le_lt a b high ab under

pub from_append : (k : List ℕ) (xs ys : List Entry) → AllFrom k xs → AllFrom k ys → AllFrom k (xs ++ ys)
from_append k [] ys a b = b
from_append k (x ∷ xs) ys a b = (a.0, from_append k xs ys a.1 b)

pub under_append : (k : Option (List ℕ)) (xs ys : List Entry) → AllUnder k xs → AllUnder k ys → AllUnder k (xs ++ ys)
under_append k [] ys a b = b
under_append k (x ∷ xs) ys a b = (a.0, under_append k xs ys a.1 b)

pub from_lower : (low k : List ℕ) (es : List Entry) → is_below k low ≡ false → AllFrom k es → AllFrom low es
from_lower low k [] le all = tt
from_lower low k (e ∷ es) le all = (le_le low k e.0 le all.0, from_lower low k es le all.1)

pub under_higher : (k : List ℕ) (high : Option (List ℕ)) (es : List Entry) → IsUnder k high → AllUnder (Some k) es → AllUnder high es
under_higher k high [] lt all = tt
under_higher k high (e ∷ es) lt all = (under_le e.0 k high (one_way e.0 k all.0) lt, under_higher k high es lt all.1)

module _ (key k : List ℕ) where
  -- where the key is below k, what is from k on doesn't matter
  module _ (below : is_below key k ≡ true) (gs : List Entry) (from : AllFrom k gs) where
    not_below : (e : List ℕ) → is_below e k ≡ false → is_below e key ≡ false
    not_below e le = one_way key e (lt_le key k e below le)

    pub value_left : (fs : List Entry) → value_for key (fs ++ gs) ≡ value_for key fs
    value_left [] = elim gs as (λ xs. AllFrom k xs → value_for key xs ≡ None) [
      | [] ↦ λ all. refl
      | (x ∷ xs) ↦ λ all. rw (not_below x.0 all.0, lt_le key k x.0 below all.0) refl
    ] from
    value_left (f ∷ fs) = ⊎_elim (λ yes. rw yes (value_left fs)) (λ no. rw no refl) (cases_Bool (is_below f.0 key))

    pub with_left : (value : List ℕ) (fs : List Entry) → with_entry key value (fs ++ gs) ≡ with_entry key value fs ++ gs
    with_left value [] = elim gs as (λ xs. AllFrom k xs → with_entry key value xs ≡ ((key, value) ∷ []) ++ xs) [
      | [] ↦ λ all. refl
      | (x ∷ xs) ↦ λ all. rw (not_below x.0 all.0, lt_le key k x.0 below all.0) refl
    ] from
    with_left value (f ∷ fs) = ⊎_elim (λ yes. rw yes (ap (λ (xs : List Entry). f ∷ xs) (with_left value fs)))
        (λ no. rw no (⊎_elim (λ less. rw less refl) (λ same. rw same refl) (cases_Bool (is_below key f.0)))) (cases_Bool (is_below f.0 key))

    pub without_left : (fs : List Entry) → without key (fs ++ gs) ≡ without key fs ++ gs
    without_left [] = elim gs as (λ xs. AllFrom k xs → without key xs ≡ xs) [
      | [] ↦ λ all. refl
      | (x ∷ xs) ↦ λ all. rw (not_below x.0 all.0, lt_le key k x.0 below all.0) refl
    ] from
    without_left (f ∷ fs) = ⊎_elim (λ yes. rw yes (ap (λ (xs : List Entry). f ∷ xs) (without_left fs)))
        (λ no. rw no (⊎_elim (λ less. rw less refl) (λ same. rw same refl) (cases_Bool (is_below key f.0)))) (cases_Bool (is_below f.0 key))

    pub edited_left : (payload : Option (List ℕ)) (fs : List Entry) → edited key payload (fs ++ gs) ≡ edited key payload fs ++ gs
    edited_left (Some value) fs = with_left value fs
    edited_left None fs = without_left fs

  -- where the key is not below k, what is below k stays before it
  module _ (not_less : is_below key k ≡ false) (gs : List Entry) where
    less : (e : List ℕ) → is_below e k ≡ true → is_below e key ≡ true
    less e lt = lt_le e k key lt not_less

    pub value_right : (fs : List Entry) → AllUnder (Some k) fs → value_for key (fs ++ gs) ≡ value_for key gs
    value_right [] all = refl
    value_right (f ∷ fs) all = rw (less f.0 all.0) (value_right fs all.1)

    pub first_right : (fs : List Entry) → AllUnder (Some k) fs → first_at key (fs ++ gs) ≡ first_at key gs
    first_right [] all = refl
    first_right (f ∷ fs) all = rw (less f.0 all.0) (first_right fs all.1)

    pub with_right : (value : List ℕ) (fs : List Entry) → AllUnder (Some k) fs → with_entry key value (fs ++ gs) ≡ fs ++ with_entry key value gs
    with_right value [] all = refl
    with_right value (f ∷ fs) all = rw (less f.0 all.0) (ap (λ (xs : List Entry). f ∷ xs) (with_right value fs all.1))

    pub without_right : (fs : List Entry) → AllUnder (Some k) fs → without key (fs ++ gs) ≡ fs ++ without key gs
    without_right [] all = refl
    without_right (f ∷ fs) all = rw (less f.0 all.0) (ap (λ (xs : List Entry). f ∷ xs) (without_right fs all.1))

    pub edited_right : (payload : Option (List ℕ)) (fs : List Entry) → AllUnder (Some k) fs → edited key payload (fs ++ gs) ≡ fs ++ edited key payload gs
    edited_right (Some value) fs all = with_right value fs all
    edited_right None fs all = without_right fs all
