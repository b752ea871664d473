-- Whether the role of a name is a superuser.
use Rattle.std.proofs.Common.{◌≡◌, Bool, true, false, cond, ◌&&◌, ◌||◌, List, [], ◌∷◌, Option, Some, None, find, bytes_eq, refl, sym, ap, ◌∙◌, inl, inr}
use Rattle.std.specs.Ordering.{is_eq, ordering_reverse}
use Rattle.std.specs.declared.cmp.Ordering.TheVariants.{Less}
use Rattle.std.specs.List.{list_any}
use Rattle.sql_ast.specs.declared.role.Role.{Role}
use Rattle.abstract_database.specs.Lists.{TheName, Among, Rising}
use Rattle.abstract_database.specs.Database.{role_cmp, is_role_named}
use Rattle.abstract_database.proofs.DescriptorOrder.{names_ordered}
use Rattle.abstract_database.proofs.ListLemmas.{bytes_same}
use Rattle.catalogue.proofs.Searching.{same_name}

no_more : (b : Bool) → (b || false) ≡ b
no_more true = refl
no_more false = refl

module _ (name : TheName) where
  abbrev is_one : Role → Bool
  is_one r = is_role_named name r && r.attributes.superuser

  abbrev pub found_is_one : Option Role → Bool
  found_is_one None = false
  found_is_one (Some r) = r.attributes.superuser

  -- the roles after one of the name have other names
  none_later : (r : Role) (rs : List Role) → r.name ≡ name → ((s : Role) → Among s rs → role_cmp r s ≡ Less) → list_any is_one rs ≡ false
  none_later r [] same later = refl
  none_later r (s ∷ ss) same later = ap (λ b. (b && s.attributes.superuser) || list_any is_one ss) other ∙ none_later r ss same (λ t among. later t (inr among)) where
    other : is_role_named name s ≡ false
    other =
        ap (λ (n : TheName). bytes_eq s.name n) (sym same) ∙ sym (same_name s.name r.name)
        ∙ ap is_eq (names_ordered.antisymm s.name r.name ∙ ap ordering_reverse (later s (inl refl)))

  -- so the role that is found says it
  pub one_is_found : (rs : List Role) → Rising role_cmp rs → list_any is_one rs ≡ found_is_one (find (is_role_named name) rs)
  one_is_found [] rise = refl
  one_is_found (r ∷ rs) rise = go (is_role_named name r) refl (one_is_found rs rise.1) where
    go : (b : Bool) → is_role_named name r ≡ b → list_any is_one rs ≡ found_is_one (find (is_role_named name) rs)
        → ((b && r.attributes.superuser) || list_any is_one rs) ≡ found_is_one (cond b (Some r) (find (is_role_named name) rs))
    go true c later = ap (λ b. r.attributes.superuser || b) (none_later r rs (bytes_same r.name name c) rise.0) ∙ no_more r.attributes.superuser
    go false c later = later
