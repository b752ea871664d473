-- An item put among others in rising order, at the place behind those that come before it.
use Rattle.std.proofs.Common.{◌≡◌, ℕ, zero, suc, arith, true, false, cond, ◌+◌, List, [], ◌∷◌, map, fold, slice_get, refl, sym, ap, ◌∙◌, inl, inr}
use Rattle.std.specs.List.{insert, prefix_len}
use Rattle.std.specs.Ordering.{is_lt, is_eq, is_gt}
use Rattle.std.specs.declared.cmp.Ordering.{Ordering}
use Rattle.std.specs.declared.cmp.Ordering.TheVariants.{Less, Equal, Greater}
use Rattle.sql_ast.specs.declared.privilege.Grantee.{Grantee}
use Rattle.sql_ast.specs.declared.policy.PolicyRoles.{PolicyRoles}
use Rattle.sql_ast.specs.declared.policy.PolicyRoles.TheVariants as roles
use Rattle.store.proofs.Changes.{same_key}
use Rattle.abstract_database.specs.Lists.{TheName, name_cmp, Among, put, the_new}
use Rattle.abstract_database.specs.Definitions.{with_grantee}
use Rattle.abstract_database.proofs.ListLemmas.{bytes_same, same_bytes}
use Rattle.catalogue_changes.proofs.TableListLemmas.{not_less_itself}
use Rattle.schema_statements.specs.PolicyNames.{is_this}

one_more : (n : ℕ) → 1 + n ≡ suc n
one_more n = omega arith

-- ---- items

module _ {X : Type 0} (cmp : X → X → Ordering) (x : X) where
  -- where no other one is equal in order
  pub put_is_insert : (xs : List X) → ((y : X) → Among y xs → cmp x y ≡ Equal → ⊥) → put cmp the_new x xs ≡ insert xs (prefix_len (λ y. is_gt (cmp x y)) xs) x
  put_is_insert [] differs = refl
  put_is_insert (y ∷ ys) differs = go (cmp x y) refl (put_is_insert ys (λ z among. differs z (inr among))) where
    go : (o : Ordering) → cmp x y ≡ o → put cmp the_new x ys ≡ insert ys (prefix_len (λ z. is_gt (cmp x z)) ys) x
        → cond (is_lt o) (x ∷ y ∷ ys) (cond (is_eq o) (x ∷ ys) (y ∷ put cmp the_new x ys)) ≡ insert (y ∷ ys) (cond (is_gt o) (1 + prefix_len (λ z. is_gt (cmp x z)) ys) 0) x
    go Less c later = refl
    go Equal c later = absurd (differs y (inl refl) c)
    go Greater c later = ap (λ (zs : List X). y ∷ zs) later ∙ sym (ap (λ (n : ℕ). insert (y ∷ ys) n x) (one_more (prefix_len (λ z. is_gt (cmp x z)) ys)))

pub insert_map : {X Y : Type 0} (f : X → Y) (xs : List X) (n : ℕ) (x : X) → map f (insert xs n x) ≡ insert (map f xs) n (f x)
insert_map f xs zero x = refl
insert_map f [] (suc n) x = refl
insert_map {X} {Y} f (y ∷ ys) (suc n) x = ap (λ (zs : List Y). f y ∷ zs) (insert_map f ys n x)

-- ---- names

abbrev pub place : TheName → List TheName → ℕ
place x xs = prefix_len (λ (y : TheName). is_gt (name_cmp x y)) xs

clash : true ≡ false → ⊥
clash e = cc

-- a name that stands in its place
pub put_there : (x : TheName) (xs : List TheName) → is_this x (slice_get xs (place x xs)) ≡ true → put name_cmp the_new x xs ≡ xs
put_there x [] e = cc
put_there x (y ∷ ys) e = go (name_cmp x y) refl e (put_there x ys) where
  go : (o : Ordering) → name_cmp x y ≡ o → is_this x (slice_get (y ∷ ys) (cond (is_gt o) (1 + place x ys) 0)) ≡ true → (is_this x (slice_get ys (place x ys)) ≡ true → put name_cmp the_new x ys ≡ ys)
      → cond (is_lt o) (x ∷ y ∷ ys) (cond (is_eq o) (x ∷ ys) (y ∷ put name_cmp the_new x ys)) ≡ y ∷ ys
  go Less c h later = absurd (not_less_itself x y c (sym (bytes_same y x h)))
  go Equal c h later = ap (λ (n : TheName). n ∷ ys) (same_key x y c)
  go Greater c h later = ap (λ (ns : List TheName). y ∷ ns) (later (sym (ap (λ (n : ℕ). is_this x (slice_get (y ∷ ys) n)) (one_more (place x ys))) ∙ h))

-- one that does not
pub put_new : (x : TheName) (xs : List TheName) → is_this x (slice_get xs (place x xs)) ≡ false → put name_cmp the_new x xs ≡ insert xs (place x xs) x
put_new x [] e = refl
put_new x (y ∷ ys) e = go (name_cmp x y) refl e (put_new x ys) where
  go : (o : Ordering) → name_cmp x y ≡ o → is_this x (slice_get (y ∷ ys) (cond (is_gt o) (1 + place x ys) 0)) ≡ false → (is_this x (slice_get ys (place x ys)) ≡ false → put name_cmp the_new x ys ≡ insert ys (place x ys) x)
      → cond (is_lt o) (x ∷ y ∷ ys) (cond (is_eq o) (x ∷ ys) (y ∷ put name_cmp the_new x ys)) ≡ insert (y ∷ ys) (cond (is_gt o) (1 + place x ys) 0) x
  go Less c h later = refl
  go Equal c h later = absurd (clash (sym (same_bytes y x (sym (same_key x y c))) ∙ h))
  go Greater c h later =
      ap (λ (ns : List TheName). y ∷ ns) (later (sym (ap (λ (n : ℕ). is_this x (slice_get (y ∷ ys) n)) (one_more (place x ys))) ∙ h))
      ∙ sym (ap (λ (n : ℕ). insert (y ∷ ys) n x) (one_more (place x ys)))

-- ---- the roles after TO

-- once PUBLIC stands there, the others change nothing
pub stays_public : (gs : List Grantee) → fold with_grantee roles.Public gs ≡ roles.Public
stays_public [] = refl
stays_public (g ∷ gs) = stays_public gs
