-- Whether the lists of a table are its own, as tests say it.
use Rattle.std.proofs.Common.{◌≡◌, ◌↔◌, Bool, true, false, ◌&&◌, IsTrue, List, [], ◌∷◌, bytes_eq, refl, sym, ap, ◌∙◌, inl, inr}
use Rattle.std.specs.List.{list_all}
use Rattle.sql_ast.specs.declared.privilege.Descriptor.{Descriptor}
use Rattle.sql_ast.specs.declared.policy.Policy.{Policy}
use Rattle.abstract_database.specs.Lists.{TheName, Rising}
use Rattle.abstract_database.specs.Database.{descriptor_cmp, policy_cmp}
use Rattle.abstract_database.specs.Whole.{Each}
use Rattle.abstract_database.proofs.ListLemmas.{bytes_same, same_bytes}
use Rattle.catalogue.specs.declared.policy.CataloguePolicy.{CataloguePolicy}
use Rattle.catalogue.specs.declared.table.TableParts.{TableParts}
use Rattle.catalogue.specs.Policies.{policies_in}
use Rattle.catalogue.specs.Tables.{definition_of, HasOrderedParts}

-- both of two tests

pub first_of : (a b : Bool) → (a && b) ≡ true → a ≡ true
first_of true b e = refl
first_of false b e = e

pub second_of : (a b : Bool) → (a && b) ≡ true → b ≡ true
second_of true b e = e
second_of false b e = cc

pub both_of : (a b : Bool) → a ≡ true → b ≡ true → (a && b) ≡ true
both_of a b e f = ap (λ c. c && b) e ∙ f

module _ {X : Type 0} (of : X → TheName) (name : TheName) where
  pub own_of : (xs : List X) → list_all (λ x. bytes_eq (of x) name) xs ≡ true → Each (λ x. of x ≡ name) xs
  own_of [] e x h = absurd h
  own_of (y ∷ ys) e x (inl is) = sym (ap of is) ∙ bytes_same (of y) name (first_of (bytes_eq (of y) name) (list_all (λ x. bytes_eq (of x) name) ys) e)
  own_of (y ∷ ys) e x (inr later) = own_of ys (second_of (bytes_eq (of y) name) (list_all (λ x. bytes_eq (of x) name) ys) e) x later

  pub of_own : (xs : List X) → Each (λ x. of x ≡ name) xs → list_all (λ x. bytes_eq (of x) name) xs ≡ true
  of_own [] h = refl
  of_own (y ∷ ys) h = both_of (bytes_eq (of y) name) (list_all (λ x. bytes_eq (of x) name) ys) (same_bytes (of y) name (h y (inl refl))) (of_own ys (λ x among. h x (inr among)))

all_written : (name : TheName) (xs : List CataloguePolicy) → list_all (λ (p : Policy). bytes_eq p.table name) (policies_in xs) ≡ list_all (λ (x : CataloguePolicy). bytes_eq x.policy.table name) xs
all_written name [] = refl
all_written name (x ∷ xs) = ap (λ b. bytes_eq x.policy.table name && b) (all_written name xs)

module _ (t : TableParts) (a b c d : Bool)
    (is_a : a ≡ list_all (λ (x : Descriptor). bytes_eq x.table t.name) t.descriptors) (is_b : b ≡ list_all (λ (x : CataloguePolicy). bytes_eq x.policy.table t.name) t.policies)
    (is_c : IsTrue c ↔ Rising descriptor_cmp t.descriptors) (is_d : IsTrue d ↔ Rising policy_cmp (policies_in t.policies)) where
  pub ordered_parts : IsTrue ((a && b) && (c && d)) ↔ HasOrderedParts (definition_of t)
  ordered_parts = (
    λ e.
        let own = first_of (a && b) (c && d) e in
        let order = second_of (a && b) (c && d) e in
        record {
          descriptors = own_of (λ (x : Descriptor). x.table) t.name t.descriptors (sym is_a ∙ first_of a b own);
          descriptor_order = is_c.0 (first_of c d order);
          policies = own_of (λ (p : Policy). p.table) t.name (policies_in t.policies) (all_written t.name t.policies ∙ sym is_b ∙ second_of a b own);
          policy_order = is_d.0 (second_of c d order);
        },
    λ h. both_of (a && b) (c && d)
        (both_of a b (is_a ∙ of_own (λ (x : Descriptor). x.table) t.name t.descriptors h.descriptors) (is_b ∙ sym (all_written t.name t.policies) ∙ of_own (λ (p : Policy). p.table) t.name (policies_in t.policies) h.policies))
        (both_of c d (is_c.1 h.descriptor_order) (is_d.1 h.policy_order)),
  )
