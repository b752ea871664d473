-- The least of several that may grant.
use Rattle.std.proofs.Common.{◌≡◌, ◌&&◌, Bool, true, false, cond, List, [], ◌∷◌, filter, bytes_eq, Option, Some, None, refl, sym, ap, ◌∙◌, subst, inl, inr, Ordering, Less, Equal, Greater, is_lt}
use Rattle.std.specs.List.{list_any}
use Rattle.std.specs.Ordering.{ordering_reverse}
use Rattle.std.proofs.lemmas.Bool.{and_from, false_from_ne_true}
use Rattle.std.proofs.lemmas.Option.{same_Some}
use Rattle.sql_ast.specs.declared.privilege.Privilege.{Privilege}
use Rattle.sql_ast.specs.declared.privilege.Grantee.{Grantee}
use Rattle.sql_ast.specs.declared.privilege.Descriptor.{Descriptor}
use Rattle.abstract_database.specs.Lists.{TheName, Among, name_cmp, lesser, least}
use Rattle.abstract_database.specs.Database.{TableOf, Database}
use Rattle.abstract_database.specs.Roles.{IsIn, is_in, acts_as_owner}
use Rattle.abstract_database.specs.Privileges.{is_for, role_of, grant_option_holders, holder_for, acting_grantor}
use Rattle.abstract_database.proofs.ElementLemmas.{any_found, any_holds, into_filter}
use Rattle.abstract_database.proofs.ListLemmas.{bytes_same, same_bytes}
use Rattle.abstract_database.proofs.ChainLemmas.{role_found}
use Rattle.abstract_database.proofs.DescriptorOrder.{names_ordered}
use Rattle.database_laws.specs.Grants.{HoldsGrantOption}
use Rattle.database_laws.specs.Rights.{ActsAs}
use Rattle.database_laws.proofs.RightLemmas.{acts_as}
use Rattle.database_laws.proofs.WholeLists.{into_flat_map}
use Rattle.database_laws.proofs.HoldingLemmas.{one_for}
use Rattle.database_laws.proofs.GrantorLemmas.{holder_of}

-- ---- the least name

abbrev IsNotLess : TheName → TheName → Type 0
IsNotLess a b = is_lt (name_cmp a b) ≡ false

less_is : (o : Ordering) → is_lt o ≡ true → o ≡ Less
less_is Less e = refl
less_is Equal e = cc
less_is Greater e = cc

not_both : (o : Ordering) → is_lt o ≡ true → is_lt (ordering_reverse o) ≡ false
not_both Less e = refl
not_both Equal e = cc
not_both Greater e = cc

not_less_same : (o : Ordering) → o ≡ ordering_reverse o → is_lt o ≡ false
not_less_same Less e = cc
not_less_same Equal e = refl
not_less_same Greater e = refl

not_less_than_itself : (a : TheName) → IsNotLess a a
not_less_than_itself a = not_less_same (name_cmp a a) (names_ordered.antisymm a a)

-- m is not less than k, and k is not less than x: so m is not less than x
through : (m k x : TheName) (xk : Ordering) → name_cmp x k ≡ xk → IsNotLess k x → IsNotLess m k → IsNotLess m x
through m k x Less e h g = false_from_ne_true (is_lt (name_cmp m x)) (λ less.
    let contrary : true ≡ false = sym (ap is_lt (names_ordered.trans m x k (less_is (name_cmp m x) less) e)) ∙ g in cc)
through m k x Equal e h g =
    let same : name_cmp x m ≡ name_cmp k m = names_ordered.congr x k m e in
    ap is_lt (names_ordered.antisymm m x ∙ ap ordering_reverse same ∙ sym (names_ordered.antisymm m k)) ∙ g
through m k x Greater e h g = let contrary : true ≡ false = sym (ap is_lt (names_ordered.antisymm k x ∙ ap ordering_reverse e)) ∙ h in cc

least_at : (x : TheName) (xs : List TheName) (o : Option TheName) → least xs ≡ o → ((k m : TheName) → least xs ≡ Some k → Among m xs → IsNotLess m k) → (m : TheName) → Among m (x ∷ xs) → IsNotLess m (lesser x o)
least_at x [] None e go m (inl is) = subst (λ (y : TheName). IsNotLess y x) is (not_less_than_itself x)
least_at x [] None e go m (inr none) = absurd none
least_at x (y ∷ ys) None e go m h = cc
least_at x xs (Some k) e go m h = at (is_lt (name_cmp k x)) refl h where
  at : (b : Bool) → is_lt (name_cmp k x) ≡ b → Among m (x ∷ xs) → IsNotLess m (cond b k x)
  at true less (inl is) = subst (λ (y : TheName). IsNotLess y k) is (ap is_lt (names_ordered.antisymm x k) ∙ not_both (name_cmp k x) less)
  at true less (inr later) = go k m e later
  at false other (inl is) = subst (λ (y : TheName). IsNotLess y x) is (not_less_than_itself x)
  at false other (inr later) = through m k x (name_cmp x k) refl other (go k m e later)

least_is : (xs : List TheName) (k m : TheName) → least xs ≡ Some k → Among m xs → IsNotLess m k
least_is [] k m e h = absurd h
least_is (x ∷ xs) k m e h = subst (λ (y : TheName). IsNotLess m y) (same_Some (lesser x (least xs)) k e) (least_at x xs (least xs) refl (least_is xs) m h)

-- ---- the acting grantor

module _ (db : Database) (role : TheName) (t : TableOf) (p : Privilege) where
  abbrev all_holders : List TheName
  all_holders = grant_option_holders db.descriptors t.name p

  abbrev grants_again : Descriptor → Bool
  grants_again d = is_for t.name p d && d.grantable

  held_by : (n : TheName) → HoldsGrantOption db n t.name p → Among n all_holders
  held_by n (d, h, is, option, to) =
      into_flat_map (λ (x : Descriptor). role_of x.grantee) (filter grants_again db.descriptors) d n
      (into_filter grants_again db.descriptors d h (and_from (is_for t.name p d) d.grantable (one_for t.name p d is) option))
      (subst (λ (g : Grantee). Among n (role_of g)) (sym to) (inl refl))

  no_owner : (ActsAs db role t.owner → ⊥) → acts_as_owner db role t.owner ≡ false
  no_owner h = false_from_ne_true (acts_as_owner db role t.owner) (λ e. h (acts_as db role t.owner e))

  by_holders : (ActsAs db role t.owner → ⊥) → acting_grantor db role t p ≡ holder_for db role all_holders
  by_holders h = ap (λ (b : Bool). cond b (Some t.owner) (holder_for db role all_holders)) (no_owner h)

  abbrev of_groups : Option TheName
  of_groups = least (filter (is_in db.memberships role) all_holders)

  pub by_itself : (ActsAs db role t.owner → ⊥) → HoldsGrantOption db role t.name p → acting_grantor db role t p ≡ Some role
  by_itself h own =
      by_holders h ∙ ap (λ (b : Bool). cond b (Some role) of_groups) (any_holds (bytes_eq role) all_holders role (held_by role own) (same_bytes role role refl))

  holds_none : (HoldsGrantOption db role t.name p → ⊥) → list_any (bytes_eq role) all_holders ≡ false
  holds_none h = false_from_ne_true (list_any (bytes_eq role) all_holders) (λ e.
      let found = any_found (bytes_eq role) all_holders e in
      h (subst (λ (n : TheName). HoldsGrantOption db n t.name p) (sym (bytes_same role found.0 found.2)) (holder_of db role t p found.0 found.1)))

  pub is_the_least : (by other : TheName) → (ActsAs db role t.owner → ⊥) → (HoldsGrantOption db role t.name p → ⊥) → acting_grantor db role t p ≡ Some by → IsIn db.memberships role other → HoldsGrantOption db other t.name p → IsNotLess other by
  is_the_least by other h none is i holds =
      let groups : of_groups ≡ Some by = sym (by_holders h ∙ ap (λ (b : Bool). cond b (Some role) of_groups) (holds_none none)) ∙ is in
      least_is (filter (is_in db.memberships role) all_holders) by other groups
      (into_filter (is_in db.memberships role) all_holders other (held_by other holds) (role_found db.memberships role other i))
