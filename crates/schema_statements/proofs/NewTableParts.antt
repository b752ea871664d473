-- The parts of a new table are in order.
use Rattle.std.proofs.Common.{◌≡◌, List, [], ◌∷◌, map, None, ap, ◌∙◌, subst, sym, inl, inr}
use Rattle.std.specs.Ordering.{nat_cmp, ordering_then}
use Rattle.std.specs.Option.{option_cmp}
use Rattle.std.specs.Cmp.Lexicographic.{slice_cmp}
use Rattle.std.specs.declared.cmp.Ordering.{Ordering}
use Rattle.std.specs.declared.cmp.Ordering.TheVariants.{Less}
use Rattle.sql_ast.specs.declared.privilege.Action.{Action}
use Rattle.sql_ast.specs.declared.privilege.Action.TheVariants as action
use Rattle.sql_ast.specs.declared.privilege.Descriptor.{Descriptor}
use Rattle.store.proofs.Changes.{itself}
use Rattle.abstract_database.specs.Lists.{TheName, Among, Rising}
use Rattle.abstract_database.specs.Database.{descriptor_cmp, policy_cmp, action_number}
use Rattle.abstract_database.specs.Privileges.{owner_descriptor, owner_descriptors}
use Rattle.stored_database.proofs.Lists.{of_map}
use Rattle.catalogue.specs.declared.policy.CataloguePolicy.{CataloguePolicy}
use Rattle.catalogue.specs.declared.table.TableParts.{TableParts}
use Rattle.catalogue.specs.Policies.{policies_in}
use Rattle.catalogue.specs.Tables.{AreParts}
use Rattle.catalogue_changes.proofs.NewTableLemmas.{owners_are_for}

module _ (name owner : TheName) where
  abbrev owned : Action → Descriptor
  owned a = owner_descriptor name owner a

  sooner : (a b : Action) → nat_cmp (action_number a) (action_number b) ≡ Less → descriptor_cmp (owned a) (owned b) ≡ Less
  sooner a b c = ap (λ (o : Ordering). ordering_then o (rest (nat_cmp (action_number a) (action_number b)))) (itself name) ∙ ap rest c where
    rest : Ordering → Ordering
    rest o = ordering_then o (ordering_then (option_cmp nat_cmp None None) (ordering_then (slice_cmp nat_cmp [] []) (slice_cmp nat_cmp owner owner)))

  ahead : (a : Action) (more : List Action) → ((b : Action) → Among b more → nat_cmp (action_number a) (action_number b) ≡ Less) → (y : Descriptor) → Among y (map owned more) → descriptor_cmp (owned a) y ≡ Less
  ahead a more less y among = let b = of_map owned more y among in subst (λ (z : Descriptor). descriptor_cmp (owned a) z ≡ Less) b.2 (sooner a b.0 (less b.0 b.1))

  before_select : (b : Action) → Among b (action.Insert ∷ action.Update ∷ action.Delete ∷ []) → nat_cmp 1 (action_number b) ≡ Less
  before_select b (inl is) = ap (λ (a : Action). nat_cmp 1 (action_number a)) (sym is)
  before_select b (inr (inl is)) = ap (λ (a : Action). nat_cmp 1 (action_number a)) (sym is)
  before_select b (inr (inr (inl is))) = ap (λ (a : Action). nat_cmp 1 (action_number a)) (sym is)
  before_select b (inr (inr (inr h))) = absurd h

  before_insert : (b : Action) → Among b (action.Update ∷ action.Delete ∷ []) → nat_cmp 2 (action_number b) ≡ Less
  before_insert b (inl is) = ap (λ (a : Action). nat_cmp 2 (action_number a)) (sym is)
  before_insert b (inr (inl is)) = ap (λ (a : Action). nat_cmp 2 (action_number a)) (sym is)
  before_insert b (inr (inr h)) = absurd h

  before_update : (b : Action) → Among b (action.Delete ∷ []) → nat_cmp 3 (action_number b) ≡ Less
  before_update b (inl is) = ap (λ (a : Action). nat_cmp 3 (action_number a)) (sym is)
  before_update b (inr h) = absurd h

  pub owners_rise : Rising descriptor_cmp (owner_descriptors name owner)
  owners_rise = (
    ahead action.Select (action.Insert ∷ action.Update ∷ action.Delete ∷ []) before_select,
    (
      ahead action.Insert (action.Update ∷ action.Delete ∷ []) before_insert,
      (
        ahead action.Update (action.Delete ∷ []) before_update,
        ((λ y h. absurd h), tt),
      ),
    ),
  )

pub new_parts : (p : TableParts) (name owner : TheName) → p.name ≡ name → p.descriptors ≡ owner_descriptors name owner → p.policies ≡ [] → AreParts p
new_parts p name owner named ds ps = record {
  order = record {
    descriptors = λ e h. owners_are_for name owner e (subst (λ (l : List Descriptor). Among e l) ds h) ∙ sym named;
    descriptor_order = subst (λ (l : List Descriptor). Rising descriptor_cmp l) (sym ds) (owners_rise name owner);
    policies = λ q h. absurd (subst (λ (l : List CataloguePolicy). Among q (policies_in l)) ps h);
    policy_order = subst (λ (l : List CataloguePolicy). Rising policy_cmp (policies_in l)) (sym ps) tt;
  };
  bound = λ b h. absurd (subst (λ (l : List CataloguePolicy). Among b l) ps h);
}
