-- The memberships that a statement names: each role with each member.
use Rattle.std.proofs.Common.{◌≡◌, ◌⊎◌, ◌++◌, ◌∷◌, ◌+◌, [], ℕ, Bool, List, map, take, refl, sym, ap, ◌∙◌, inl, inr}
use Rattle.sql_ast.specs.declared.role.Membership.{Membership}
use Rattle.abstract_database.specs.Lists.{TheName, Among}
use Rattle.abstract_database.specs.Roles.{memberships_of}
use Rattle.role_membership.specs.Merging.{membership}
use Rattle.std.proofs.lemmas.List.{append_assoc, append-nil}
use Rattle.abstract_database.proofs.ListLemmas.{in_append_left}

in_append_right : {X : Type 0} (xs ys : List X) (x : X) → Among x ys → Among x (xs ++ ys)
in_append_right [] ys x h = h
in_append_right (z ∷ zs) ys x h = inr (in_append_right zs ys x h)

pub of_append : {X : Type 0} (xs ys : List X) (x : X) → Among x (xs ++ ys) → Among x xs ⊎ Among x ys
of_append [] ys x h = inr h
of_append (z ∷ zs) ys x (inl is) = inl (inl is)
of_append (z ∷ zs) ys x (inr later) = elim (of_append zs ys x later) [ inl h ↦ inl (inr h) | inr h ↦ inr h ]

module _ (admin : Bool) where
  of_row : (role : TheName) (members : List TheName) (m : Membership) → Among m (map (membership role admin) members) → (m.role ≡ role) × Among m.member members × (m.admin ≡ admin)
  of_row role [] m h = absurd h
  of_row role (s ∷ ss) m (inl is) = (sym (ap (λ (x : Membership). x.role) is), inl (ap (λ (x : Membership). x.member) is), sym (ap (λ (x : Membership). x.admin) is))
  of_row role (s ∷ ss) m (inr later) = let rest = of_row role ss m later in (rest.0, inr rest.1, rest.2)

  into_row : (role : TheName) (members : List TheName) (s : TheName) → Among s members → Among (membership role admin s) (map (membership role admin) members)
  into_row role [] s h = absurd h
  into_row role (x ∷ xs) s (inl is) = inl (ap (membership role admin) is)
  into_row role (x ∷ xs) s (inr later) = inr (into_row role xs s later)

  pub of_product : (roles members : List TheName) (m : Membership) → Among m (memberships_of roles members admin) → Among m.role roles × Among m.member members × (m.admin ≡ admin)
  of_product [] members m h = absurd h
  of_product (r ∷ rs) members m h = elim (of_append (map (membership r admin) members) (memberships_of rs members admin) m h) [
    | inl here ↦ let row = of_row r members m here in (inl (sym row.0), row.1, row.2)
    | inr later ↦ let rest = of_product rs members m later in (inr rest.0, rest.1, rest.2)
  ]

  pub into_product : (roles members : List TheName) (r s : TheName) → Among r roles → Among s members → Among (membership r admin s) (memberships_of roles members admin)
  into_product [] members r s h k = absurd h
  into_product (x ∷ xs) members r s (inl is) k =
      in_append_left (map (membership x admin) members) (memberships_of xs members admin) (membership r admin s) (rw (← is) (into_row x members s k))
  into_product (x ∷ xs) members r s (inr later) k =
      in_append_right (map (membership x admin) members) (memberships_of xs members admin) (membership r admin s) (into_product xs members r s later k)

pub row_more : (f : TheName → Membership) (xs : List TheName) (i : ℕ) (x : TheName) → take (i + 1) xs ≡ take i xs ++ x ∷ [] → map f (take (i + 1) xs) ≡ map f (take i xs) ++ f x ∷ []
row_more f xs i x more = ap (map f) more ∙ map_push (take i xs) x where
  map_push : (ys : List TheName) (y : TheName) → map f (ys ++ y ∷ []) ≡ map f ys ++ f y ∷ []
  map_push [] y = refl
  map_push (z ∷ zs) y = ap (λ (l : List Membership). f z ∷ l) (map_push zs y)

product_push : (members : List TheName) (admin : Bool) (rs : List TheName) (r : TheName) → memberships_of (rs ++ r ∷ []) members admin ≡ memberships_of rs members admin ++ map (membership r admin) members
product_push members admin [] r = append-nil (map (membership r admin) members)
product_push members admin (x ∷ xs) r =
    ap (λ (l : List Membership). map (membership x admin) members ++ l) (product_push members admin xs r)
    ∙ sym (append_assoc (map (membership x admin) members) (memberships_of xs members admin) (map (membership r admin) members))

pub product_more : (members : List TheName) (admin : Bool) (xs : List TheName) (i : ℕ) (x : TheName) → take (i + 1) xs ≡ take i xs ++ x ∷ [] →
    memberships_of (take (i + 1) xs) members admin ≡ memberships_of (take i xs) members admin ++ map (membership x admin) members
product_more members admin xs i x more = ap (λ (l : List TheName). memberships_of l members admin) more ∙ product_push members admin (take i xs) x
