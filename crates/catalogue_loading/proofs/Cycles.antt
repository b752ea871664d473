-- Memberships of roles, and cycles of them.
use Rattle.std.proofs.Common.{◌≡◌, ◌⊎◌, ◌<◌, ◌≤◌, ◌↔◌, ◌-◌, IsTrue, ℕ, zero, suc, ◌+◌, Bool, true, false, not, ◌&&◌, List, [], ◌∷◌, Some, length, bytes_eq, slice_get, get_or, refl, sym, ap, ◌∙◌, subst, inl, inr, arith}
use Rattle.std.specs.List.{list_any, list_all}
use Rattle.std.proofs.lemmas.Option.{slice_get_read}
use Rattle.sql_ast.specs.declared.role.Role.{Role}
use Rattle.sql_ast.specs.declared.role.Membership.{Membership}
use Rattle.abstract_database.specs.Lists.{TheName, Among}
use Rattle.abstract_database.specs.Roles.{IsIn, is_in}
use Rattle.abstract_database.specs.Whole.{Each, OneOf, IsWholeMembership}
use Rattle.abstract_database.proofs.ListLemmas.{bytes_same, same_bytes}
use Rattle.abstract_database.proofs.ElementLemmas.{any_found, any_holds, index_of}
use Rattle.abstract_database.proofs.ChainLemmas.{found_role, role_found}
use Rattle.grant_graph.proofs.Whole.{all_holds, all_found}
use Rattle.catalogue_loading.specs.ValidityChecks.{is_role_of, is_of_roles, closes_cycle}
use Rattle.catalogue.proofs.OwnParts.{first_of, second_of, both_of}

not_both : (b : Bool) → b ≡ true → b ≡ false → ⊥
not_both true e f = cc
not_both false e f = cc

Some_same : {X : Type 0} (x y : X) → Some x ≡ Some y → x ≡ y
Some_same x y e = cc

before_or_at : (a b : ℕ) → a < b + 1 → (a < b) ⊎ (a ≡ b)
before_or_at zero zero h = inr refl
before_or_at zero (suc b) h = inl (omega arith)
before_or_at (suc a) zero h = absurd (omega (arith, h))
before_or_at (suc a) (suc b) h = elim (before_or_at a b (omega (arith, h))) [ inl f ↦ inl (omega (arith, f)) | inr f ↦ inr (ap suc f) ]

pub element_at : (ms : List Membership) (i : ℕ) → i < length ms → (m : Membership) × (slice_get ms i ≡ Some m)
element_at [] i lt = absurd (omega (arith, lt))
element_at (m ∷ ms) zero lt = (m, refl)
element_at (m ∷ ms) (suc i) lt = element_at ms i (omega (arith, lt))

-- two memberships of one role
pub one_role : (ms : List Membership) (i j : ℕ) (x y : Membership) → i < length ms → j < length ms → x ≡ get_or ms i x → y ≡ get_or ms j y
    → (r : Bool) → r ≡ bytes_eq x.role y.role → not r ≡ false → (before m : Membership) → slice_get ms i ≡ Some before → slice_get ms j ≡ Some m → before.role ≡ m.role
one_role ms i j x y at_i at_j is_x is_y true e f before m g h =
    ap (λ (z : Membership). z.role) (Some_same before x (sym g ∙ slice_get_read ms (length ms) i x refl at_i is_x))
    ∙ bytes_same x.role y.role (sym e)
    ∙ ap (λ (z : Membership). z.role) (Some_same y m (sym (slice_get_read ms (length ms) j y refl at_j is_y) ∙ h))
one_role ms i j x y at_i at_j is_x is_y false e f before m g h = cc

module _ (ms : List Membership) where
  abbrev pub HasCycle : Type 0
  HasCycle = OneOf (λ (m : Membership). IsIn ms m.role m.member) ms

  -- the roles of the first memberships are in no member of theirs
  abbrev pub HaveNone : ℕ → Type 0
  HaveNone i = (k : ℕ) (m : Membership) → k < i → slice_get ms k ≡ Some m → list_any (closes_cycle ms m.role) ms ≡ false

  pub cycle_found : (role : TheName) → list_any (closes_cycle ms role) ms ≡ true → HasCycle
  cycle_found role h =
      let found = any_found (closes_cycle ms role) ms h in
      let is = bytes_same found.0.role role (first_of (bytes_eq found.0.role role) (is_in ms role found.0.member) found.2) in
      (found.0, found.1, subst (λ (r : TheName). IsIn ms r found.0.member) (sym is) (found_role ms role found.0.member (second_of (bytes_eq found.0.role role) (is_in ms role found.0.member) found.2)))

  pub no_cycle : (i : ℕ) → length ms ≤ i → HaveNone i → HasCycle → ⊥
  no_cycle i le none c =
      let k = index_of ms c.0 c.1 in
      not_both (list_any (closes_cycle ms c.0.role) ms)
      (any_holds (closes_cycle ms c.0.role) ms c.0 c.1 (both_of (bytes_eq c.0.role c.0.role) (is_in ms c.0.role c.0.member) (same_bytes c.0.role c.0.role refl) (role_found ms c.0.role c.0.member c.2)))
      (none k.0 c.0 (within ms k.0 k.1) k.1)
    where
      below : (xs : List Membership) (j : ℕ) → slice_get xs j ≡ Some c.0 → j < length xs
      below [] j e = cc
      below (x ∷ xs) zero e = omega arith
      below (x ∷ xs) (suc j) e = let lt = below xs j e in omega (arith, lt)

      within : (xs : List Membership) (j : ℕ) → slice_get ms j ≡ Some c.0 → j < i
      within xs j e = let lt = below ms j e in omega (arith, lt, le)

  -- one more role that is in none of its members
  pub none_more : (i : ℕ) (m : Membership) → slice_get ms i ≡ Some m → HaveNone i → list_any (closes_cycle ms m.role) ms ≡ false → HaveNone (i + 1)
  none_more i m e none free k n lt is = elim (before_or_at k i lt) [
    | inl before ↦ none k n before is
    | inr here ↦ subst (λ (x : Membership). list_any (closes_cycle ms x.role) ms ≡ false) (Some_same m n (sym e ∙ ap (slice_get ms) (sym here) ∙ is)) free
  ]

  -- the role of the one before, once more
  pub none_again : (i : ℕ) (before m : Membership) → 0 < i → slice_get ms (i - 1) ≡ Some before → slice_get ms i ≡ Some m → before.role ≡ m.role → HaveNone i → HaveNone (i + 1)
  none_again i before m some e f same none =
      none_more i m f none (subst (λ (r : TheName). list_any (closes_cycle ms r) ms ≡ false) same (none (i - 1) before (omega (arith, some)) e))

module _ (all : List Role) (ms : List Membership) where
  pub not_of_roles : list_all (is_of_roles all) ms ≡ false → Each (IsWholeMembership all ms) ms → ⊥
  not_of_roles e h = not_both (list_all (is_of_roles all) ms) (all_holds (is_of_roles all) ms (λ (m : Membership) among. both_of (is_role_of all m.role) (is_role_of all m.member) (h m among).role (h m among).member)) e

  pub whole_memberships : list_all (is_of_roles all) ms ≡ true → (found : Bool) → IsTrue found ↔ HasCycle ms → IsTrue (not found) ↔ Each (IsWholeMembership all ms) ms
  whole_memberships e true iff = (λ f. cc, λ h. let c = iff.0 refl in absurd ((h c.0 c.1).no_cycle c.2))
  whole_memberships e false iff = (λ f m among. whole m among, λ h. refl) where
    no : false ≡ true → ⊥
    no f = cc

    whole : (m : Membership) → Among m ms → IsWholeMembership all ms m
    whole m among =
        let known = all_found (is_of_roles all) ms e m among in
        record {
          role = first_of (is_role_of all m.role) (is_role_of all m.member) known;
          member = second_of (is_role_of all m.role) (is_role_of all m.member) known;
          no_cycle = λ c. no (iff.1 (m, among, c));
        }
