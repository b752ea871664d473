-- A role is in use in a database where a table of its definitions uses it.
use Rattle.std.proofs.Common.{◌≡◌, ℕ, Bool, true, false, ◌||◌, List, [], ◌∷◌, map, flat_map, length, suc, arith, bytes_eq, refl, ap, ◌∙◌}
use Rattle.std.specs.List.{list_any}
use Rattle.std.proofs.lemmas.List.Folds.{list_any-append}
use Rattle.sql_types.specs.Row.{Row}
use Rattle.abstract_database.specs.Lists.{TheName}
use Rattle.abstract_database.specs.Database.{Table}
use Rattle.abstract_database.specs.Definitions.{is_in_use}
use Rattle.stored_database.specs.Definitions.{TableDefinition, Definitions, tables_with, database_with}
use Rattle.schema_statements.specs.RoleUsage.{is_of_role, is_for_role, uses_role}

pub any_mapped : {X Y : Type 0} (p : Y → Bool) (f : X → Y) (xs : List X) → list_any p (map f xs) ≡ list_any (λ x. p (f x)) xs
any_mapped p f [] = refl
any_mapped p f (x ∷ xs) = ap (λ b. p (f x) || b) (any_mapped p f xs)

any_in_parts : {X Y : Type 0} (p : Y → Bool) (part : X → List Y) (xs : List X) → list_any p (flat_map part xs) ≡ list_any (λ x. list_any p (part x)) xs
any_in_parts p part [] = refl
any_in_parts p part (x ∷ xs) = list_any-append p (part x) (flat_map part xs) ∙ ap (λ b. list_any p (part x) || b) (any_in_parts p part xs)

sorted : (a b c x y z : Bool) → ((a || x) || (b || y) || (c || z)) ≡ ((a || b || c) || (x || y || z))
sorted true b c x y z = refl
sorted false true c true y z = refl
sorted false true c false y z = refl
sorted false false true true y z = refl
sorted false false true false true z = refl
sorted false false true false false z = refl
sorted false false false x y z = refl

any_of_three : {X : Type 0} (p q r : X → Bool) (xs : List X) → (list_any p xs || list_any q xs || list_any r xs) ≡ list_any (λ x. p x || q x || r x) xs
any_of_three p q r [] = refl
any_of_three p q r (x ∷ xs) =
    sorted (p x) (q x) (r x) (list_any p xs) (list_any q xs) (list_any r xs) ∙ ap (λ b. (p x || q x || r x) || b) (any_of_three p q r xs)

owners : (role : TheName) (ts : List TableDefinition) (rows : List (List Row)) → length rows ≡ length ts →
    list_any (λ (t : Table). bytes_eq t.definition.owner role) (tables_with ts rows) ≡ list_any (λ (t : TableDefinition). bytes_eq t.definition.owner role) ts
owners role [] rows e = refl
owners role (t ∷ ts) [] e = cc
owners role (t ∷ ts) (r ∷ rows) e = ap (λ b. bytes_eq t.definition.owner role || b) (owners role ts rows (one_less (length rows) (length ts) e)) where
  one_less : (m n : ℕ) → suc m ≡ suc n → m ≡ n
  one_less m n h = omega (arith, h)

pub in_use : (role : TheName) (d : Definitions) (rows : List (List Row)) → length rows ≡ length d.tables → is_in_use (database_with d rows) role ≡ list_any (uses_role role) d.tables
in_use role d rows e =
    ap (λ b. b || list_any (is_of_role role) (flat_map (λ (t : TableDefinition). t.descriptors) d.tables) || list_any (is_for_role role) (flat_map (λ (t : TableDefinition). t.policies) d.tables)) (owners role d.tables rows e)
    ∙ ap (λ b. list_any (λ (t : TableDefinition). bytes_eq t.definition.owner role) d.tables || b || list_any (is_for_role role) (flat_map (λ (t : TableDefinition). t.policies) d.tables)) (any_in_parts (is_of_role role) (λ (t : TableDefinition). t.descriptors) d.tables)
    ∙ ap (λ b. list_any (λ (t : TableDefinition). bytes_eq t.definition.owner role) d.tables || list_any (λ (t : TableDefinition). list_any (is_of_role role) t.descriptors) d.tables || b) (any_in_parts (is_for_role role) (λ (t : TableDefinition). t.policies) d.tables)
    ∙ any_of_three (λ (t : TableDefinition). bytes_eq t.definition.owner role) (λ (t : TableDefinition). list_any (is_of_role role) t.descriptors) (λ (t : TableDefinition). list_any (is_for_role role) t.policies) d.tables
