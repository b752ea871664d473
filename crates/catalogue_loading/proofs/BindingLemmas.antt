-- Policies that are bound one after the other.
use Rattle.std.proofs.Common.{◌≡◌, ℕ, List, [], ◌∷◌, ◌++◌, refl, ap, sym, ◌∙◌, subst, inl, append_assoc, Some}
use Rattle.std.proofs.lemmas.List.{append-nil, map-append}
use Rattle.sql_ast.specs.declared.policy.Policy.{Policy}
use Rattle.sql_ast.specs.Scope.{Table}
use Rattle.store.specs.Records.{Records}
use Rattle.abstract_database.specs.Lists.{TheName}
use Rattle.abstract_database.specs.Whole.{Each}
use Rattle.stored_database.specs.RecordFormat.{policy_prefix, policy_record}
use Rattle.stored_database.proofs.Lists.{into_right}
use Rattle.catalogue.specs.declared.policy.CataloguePolicy.{CataloguePolicy}
use Rattle.catalogue.specs.Policies.{HasConditions, IsBoundPolicy, BindsPolicy, policies_in}
use Rattle.catalogue_loading.specs.Clauses.{IsPolicyAlone}
use Rattle.catalogue_loading.specs.Walks.{AreHeld}
use Rattle.catalogue_loading.proofs.Loading.{each_append}
use Rattle.catalogue_loading.specs.Held.{AreBoundPolicies}

module _ (scope : List Table) (policies : List Policy) where
  -- the first policies are bound; the rest is still to come
  pub record AreBoundSoFar (rest : List Policy) (bound : List CataloguePolicy) : Type 0 where
    pub same : policies ≡ policies_in bound ++ rest
    pub conditions : Each (HasConditions scope) (policies_in bound)
    pub each_bound : Each (IsBoundPolicy scope) bound

  pub none_bound : (rest : List Policy) (bound : List CataloguePolicy) → bound ≡ [] → rest ≡ policies → AreBoundSoFar rest bound
  none_bound rest [] is same = record { same = sym same; conditions = λ p among. absurd among; each_bound = λ p among. absurd among }
  none_bound rest (b ∷ bound) is same = cc

  pub one_bound : (p : Policy) (rest : List Policy) (b : CataloguePolicy) (bound : List CataloguePolicy) → AreBoundSoFar (p ∷ rest) bound → BindsPolicy scope p (Some b) → AreBoundSoFar rest (bound ++ b ∷ [])
  one_bound p rest b bound so_far binds =
      let more : policies_in bound ++ b.policy ∷ [] ≡ policies_in (bound ++ b ∷ []) = sym (map-append (λ (x : CataloguePolicy). x.policy) bound (b ∷ [])) in
      record {
        same =
            so_far.same
            ∙ ap (λ (q : Policy). policies_in bound ++ q ∷ rest) (sym binds.0)
            ∙ sym (append_assoc (policies_in bound) (b.policy ∷ []) rest)
            ∙ ap (λ (ps : List Policy). ps ++ rest) more;
        conditions = subst (Each (HasConditions scope)) more (each_append (HasConditions scope) (policies_in bound) b.policy so_far.conditions (subst (HasConditions scope) (sym binds.0) binds.1));
        each_bound = each_append (IsBoundPolicy scope) bound b so_far.each_bound binds.2;
      }

  pub all_bound : (rest : List Policy) (bound : List CataloguePolicy) → rest ≡ [] → AreBoundSoFar rest bound → AreBoundPolicies scope policies bound
  all_bound rest bound none so_far =
      let same : policies_in bound ≡ policies = sym (so_far.same ∙ ap (λ (ps : List Policy). policies_in bound ++ ps) none ∙ append-nil (policies_in bound)) in
      record { same = same; conditions = subst (Each (HasConditions scope)) same so_far.conditions; each_bound = so_far.each_bound }

  pub one_unbound : (p : Policy) (rest : List Policy) (bound : List CataloguePolicy) → AreBoundSoFar (p ∷ rest) bound → (HasConditions scope p → ⊥) → Each (HasConditions scope) policies → ⊥
  one_unbound p rest bound so_far fails all = fails (subst (Each (HasConditions scope)) so_far.same all p (into_right (policies_in bound) (p ∷ rest) p (inl refl)))

-- the policies that were loaded for a table are the policies of it
pub policies_held : (records : Records) (id i : ℕ) (name n : TheName) (prefix : List ℕ) (policies : List Policy) → i ≡ id → n ≡ name → prefix ≡ policy_prefix i
    → AreHeld (IsPolicyAlone n) (policy_record i) records prefix policies → AreHeld (IsPolicyAlone name) (policy_record id) records (policy_prefix id) policies
policies_held records id i name n prefix policies same_id same_name begins held =
    subst (λ (j : ℕ). AreHeld (IsPolicyAlone name) (policy_record j) records (policy_prefix j) policies) same_id
    (subst (λ (m : TheName). AreHeld (IsPolicyAlone m) (policy_record i) records (policy_prefix i) policies) same_name
    (subst (λ (xs : List ℕ). AreHeld (IsPolicyAlone n) (policy_record i) records xs policies) begins held))
