-- Memberships that are changed in place, one after the other, and those that stay.
use Rattle.std.proofs.Common.{◌≡◌, ◌++◌, ◌∷◌, ◌+◌, ◌&&◌, [], ℕ, zero, suc, Bool, true, false, not, cond, List, Some, slice_get, take, drop, length, ◌≤◌, refl, sym, ap, ◌∙◌, add-one}
use Rattle.std.proofs.Math.ListN.{set}
use Rattle.std.proofs.lemmas.List.{take_all, drop_all, append-nil}
use Rattle.std.proofs.lemmas.Option.{same_Some}
use Rattle.sql_ast.specs.declared.role.Membership.{Membership}
use Rattle.abstract_database.specs.Lists.{TheName, has_name, change_where, drop_where}
use Rattle.abstract_database.specs.Roles.{is_named_by}

abbrev pub without_option : Membership → Membership
without_option m = record m { admin = false }

module _ {X : Type 0} (test : X → Bool) (change : X → X) where
  -- the list with the first n elements changed
  abbrev pub changed_to : ℕ → List X → List X
  changed_to n xs = change_where test change (take n xs) ++ drop n xs

  read_at : (i : ℕ) (xs : List X) → slice_get (changed_to i xs) i ≡ slice_get xs i
  read_at zero [] = refl
  read_at (suc i) [] = refl
  read_at zero (x ∷ xs) = refl
  read_at (suc i) (x ∷ xs) = read_at i xs

  set_at : (i : ℕ) (xs : List X) (y z : X) → slice_get xs i ≡ Some y → z ≡ cond (test y) (change y) y → set (changed_to i xs) i z ≡ changed_to (suc i) xs
  set_at zero [] y z at is = cc
  set_at (suc i) [] y z at is = cc
  set_at zero (x ∷ xs) y z at is = ap (λ (w : X). w ∷ xs) (is ∙ ap (λ (w : X). cond (test w) (change w) w) (sym (same_Some x y at)))
  set_at (suc i) (x ∷ xs) y z at is = ap (λ (l : List X). cond (test x) (change x) x ∷ l) (set_at i xs y z at is)

  -- one more element
  pub changed_more : (i : ℕ) (xs now : List X) (y z : X) → now ≡ changed_to i xs → slice_get now i ≡ Some y → z ≡ cond (test y) (change y) y → set now i z ≡ changed_to (i + 1) xs
  changed_more i xs now y z so_far at is =
      ap (λ (l : List X). set l i z) so_far
      ∙ set_at i xs y z (sym (read_at i xs) ∙ sym (ap (λ (l : List X). slice_get l i) so_far) ∙ at) is
      ∙ ap (λ (k : ℕ). changed_to k xs) (sym (add-one i))

  pub changed_all : (i : ℕ) (xs : List X) → length xs ≤ i → changed_to i xs ≡ change_where test change xs
  changed_all i xs past =
      ap (λ (l : List X). change_where test change l ++ drop i xs) (take_all i xs past)
      ∙ ap (λ (l : List X). change_where test change xs ++ l) (drop_all i xs past)
      ∙ append-nil (change_where test change xs)

pub option_kept : (m : Membership) (named : Bool) → record m { admin = m.admin && not named } ≡ cond named (without_option m) m
option_kept m true = ap (λ (b : Bool). record m { admin = b }) (and_false m.admin) where
  and_false : (a : Bool) → (a && false) ≡ false
  and_false true = refl
  and_false false = refl
option_kept m false = ap (λ (b : Bool). record m { admin = b }) (and_true m.admin) where
  and_true : (a : Bool) → (a && true) ≡ a
  and_true true = refl
  and_true false = refl

-- ---- the same test

module _ {X : Type 0} (f g : X → Bool) (same : (x : X) → f x ≡ g x) where
  pub change_same : (change : X → X) (xs : List X) → change_where f change xs ≡ change_where g change xs
  change_same change [] = refl
  change_same change (x ∷ xs) = ap (λ (b : Bool). cond b (change x) x ∷ change_where f change xs) (same x) ∙ ap (λ (l : List X). cond (g x) (change x) x ∷ l) (change_same change xs)

  pub drop_same : (xs : List X) → drop_where f xs ≡ drop_where g xs
  drop_same [] = refl
  drop_same (x ∷ xs) = ap (λ (b : Bool). cond (not b) (x ∷ drop_where f xs) (drop_where f xs)) (same x) ∙ ap (λ (l : List X). cond (not (g x)) (x ∷ l) l) (drop_same xs)

pub same_named : (roles members roles' members' : List TheName) → ((s : TheName) → has_name s roles ≡ has_name s roles') → ((s : TheName) → has_name s members ≡ has_name s members') → (m : Membership) → is_named_by roles members m ≡ is_named_by roles' members' m
same_named roles members roles' members' e f m = ap (λ (b : Bool). b && has_name m.member members) (e m.role) ∙ ap (λ (b : Bool). has_name m.role roles' && b) (f m.member)
