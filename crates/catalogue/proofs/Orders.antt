-- The orders of the lists of a catalogue.
use Rattle.std.proofs.Common.{◌≡◌, List, [], ◌∷◌, map, subst}
use Rattle.std.specs.declared.cmp.Ordering.{Ordering}
use Rattle.std.specs.declared.cmp.Ordering.TheVariants.{Less}
use Rattle.std.specs.Cmp.{IsTotalOrder}
use Rattle.std.proofs.lemmas.Cmp.{then_total}
use Rattle.sql_ast.specs.declared.role.Role.{Role}
use Rattle.sql_ast.specs.declared.policy.Policy.{Policy}
use Rattle.abstract_database.specs.Lists.{Rising}
use Rattle.abstract_database.specs.Database.{role_cmp, policy_cmp}
use Rattle.abstract_database.proofs.DescriptorOrder.{ordered_by, names_ordered}
use Rattle.stored_database.specs.Definitions.{TableDefinition, definition_cmp}
use Rattle.stored_database.proofs.Lists.{into_map, of_map}

pub roles_ordered : IsTotalOrder role_cmp
roles_ordered = ordered_by names_ordered (λ (r : Role). r.name)

pub tables_ordered : IsTotalOrder definition_cmp
tables_ordered = ordered_by names_ordered (λ (t : TableDefinition). t.definition.name)

pub policies_ordered : IsTotalOrder policy_cmp
policies_ordered = then_total (ordered_by names_ordered (λ (p : Policy). p.table)) (ordered_by names_ordered (λ (p : Policy). p.name))

module _ {X Y : Type 0} (f : X → Y) (cmp : Y → Y → Ordering) where
  pub rising_map : (xs : List X) → Rising (λ x y. cmp (f x) (f y)) xs → Rising cmp (map f xs)
  rising_map [] r = tt
  rising_map (x ∷ xs) r = ((λ y among. let z = of_map f xs y among in subst (λ v. cmp (f x) v ≡ Less) z.2 (r.0 z.0 z.1)), rising_map xs r.1)

  pub of_rising_map : (xs : List X) → Rising cmp (map f xs) → Rising (λ x y. cmp (f x) (f y)) xs
  of_rising_map [] r = tt
  of_rising_map (x ∷ xs) r = ((λ y among. r.0 (f y) (into_map f xs y among)), of_rising_map xs r.1)
