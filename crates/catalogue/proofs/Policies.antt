-- The policies of one table, which rise by their names.
use Rattle.std.proofs.Common.{◌≡◌, Bool, true, false, cond, ◌&&◌, List, [], ◌∷◌, Some, find, bytes_eq, option_map, refl, sym, ap, ◌∙◌, inl, inr}
use Rattle.std.specs.declared.cmp.Ordering.{Ordering}
use Rattle.std.specs.Ordering.{ordering_then}
use Rattle.sql_ast.specs.declared.policy.Policy.{Policy}
use Rattle.store.proofs.Changes.{itself}
use Rattle.abstract_database.specs.Lists.{TheName, Among, Rising, name_cmp}
use Rattle.abstract_database.specs.Database.{is_policy_named, policy_cmp}
use Rattle.abstract_database.specs.Whole.{Each}
use Rattle.abstract_database.proofs.ListLemmas.{same_bytes}
use Rattle.catalogue.specs.declared.policy.CataloguePolicy.{CataloguePolicy}
use Rattle.catalogue.specs.Policies.{policies_in}

module _ (table : TheName) where
  abbrev AreOwn : List CataloguePolicy → Type 0
  AreOwn xs = Each (λ (p : Policy). p.table ≡ table) (policies_in xs)

  among_policies : (xs : List CataloguePolicy) (x : CataloguePolicy) → Among x xs → Among x.policy (policies_in xs)
  among_policies [] x h = h
  among_policies (y ∷ ys) x (inl is) = inl (ap (λ (p : CataloguePolicy). p.policy) is)
  among_policies (y ∷ ys) x (inr later) = inr (among_policies ys x later)

  own_order : (p q : Policy) → p.table ≡ table → q.table ≡ table → policy_cmp p q ≡ name_cmp p.name q.name
  own_order p q a b = ap (λ (o : Ordering). ordering_then o (name_cmp p.name q.name)) (ap (λ n. name_cmp n q.table) (a ∙ sym b) ∙ itself q.table)

  pub rise_by_name : (xs : List CataloguePolicy) → AreOwn xs → Rising policy_cmp (policies_in xs) → Rising (λ (x y : CataloguePolicy). name_cmp x.policy.name y.policy.name) xs
  rise_by_name [] own r = tt
  rise_by_name (x ∷ xs) own r = (
    λ y among.
        let later = among_policies xs y among in
        sym (own_order x.policy y.policy (own x.policy (inl refl)) (own y.policy (inr later))) ∙ r.0 y.policy later,
    rise_by_name xs (λ p h. own p (inr h)) r.1,
  )

  pub find_by_name : (name : TheName) (xs : List CataloguePolicy) → AreOwn xs → option_map (λ (p : CataloguePolicy). p.policy) (find (λ (x : CataloguePolicy). bytes_eq x.policy.name name) xs) ≡ find (is_policy_named table name) (policies_in xs)
  find_by_name name [] own = refl
  find_by_name name (x ∷ xs) own =
      at (bytes_eq x.policy.name name) (find_by_name name xs (λ p h. own p (inr h)))
      ∙ ap (λ b. cond (b && bytes_eq x.policy.name name) (Some x.policy) (find (is_policy_named table name) (policies_in xs))) (sym (same_bytes x.policy.table table (own x.policy (inl refl))))
    where
      at : (b : Bool) → option_map (λ (p : CataloguePolicy). p.policy) (find (λ (x : CataloguePolicy). bytes_eq x.policy.name name) xs) ≡ find (is_policy_named table name) (policies_in xs)
          → option_map (λ (p : CataloguePolicy). p.policy) (cond b (Some x) (find (λ (y : CataloguePolicy). bytes_eq y.policy.name name) xs)) ≡ cond b (Some x.policy) (find (is_policy_named table name) (policies_in xs))
      at true h = refl
      at false h = h
