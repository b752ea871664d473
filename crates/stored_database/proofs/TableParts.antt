-- What is said of one table, found again in the lists of all tables.
use Rattle.std.proofs.Common.{◌≡◌, Bool, false, List, [], ◌∷◌, ◌++◌, map, filter, flat_map, bytes_eq, cond, refl, ap, sym, ◌∙◌, subst, inl, inr}
use Rattle.std.proofs.lemmas.List.{append-nil}
use Rattle.std.proofs.lemmas.List.Elements.{filter-append}
use Rattle.std.proofs.lemmas.Bool.{false_from_ne_true}
use Rattle.std.specs.declared.cmp.Ordering.TheVariants.{Less, Equal}
use Rattle.sql_ast.specs.declared.privilege.Descriptor.{Descriptor}
use Rattle.sql_ast.specs.declared.policy.Policy.{Policy}
use Rattle.store.proofs.Changes.{itself}
use Rattle.abstract_database.specs.Lists.{TheName, Among, Rising, name_cmp}
use Rattle.abstract_database.specs.Database.{table_cmp}
use Rattle.abstract_database.specs.Whole.{Each}
use Rattle.abstract_database.proofs.ListLemmas.{bytes_same, same_bytes}
use Rattle.abstract_database.proofs.ElementLemmas.{keep_all}
use Rattle.stored_database.specs.Definitions.{TableDefinition, Definitions, definition_cmp, table_with, descriptors_of, policies_of}
use Rattle.stored_database.specs.Valid.{AreValid}
use Rattle.stored_database.proofs.Lists.{into_map, of_flat_map, rest_of_each}

-- tables of valid definitions stand in the order of their names
named_in_order : (ts : List TableDefinition) → Rising table_cmp (map (λ (t : TableDefinition). table_with t []) ts) → Rising definition_cmp ts
named_in_order [] h = tt
named_in_order (t ∷ ts) h = ((λ u among. h.0 (table_with u []) (into_map (λ (v : TableDefinition). table_with v []) ts u among)), named_in_order ts h.1)

pub tables_in_order : (d : Definitions) → AreValid d → Rising definition_cmp d.tables
tables_in_order d v = named_in_order d.tables v.whole.order.tables

not_itself : (a b : TheName) → name_cmp a b ≡ Less → a ≡ b → ⊥
not_itself a b h is = no (sym (itself b) ∙ ap (λ (n : TheName). name_cmp n b) (sym is) ∙ h) where
  no : Equal ≡ Less → ⊥
  no e = cc

none_pass : {X : Type 0} (test : X → Bool) (xs : List X) → ((x : X) → Among x xs → test x ≡ false) → filter test xs ≡ []
none_pass test [] h = refl
none_pass {X} test (x ∷ xs) h = ap (λ (b : Bool). cond b (x ∷ filter test xs) (filter test xs)) (h x (inl refl)) ∙ none_pass test xs (λ y among. h y (inr among))

module _ {Y : Type 0} (table : Y → TheName) (part : TableDefinition → List Y) where
  abbrev is_of : TableDefinition → Y → Bool
  is_of t y = bytes_eq (table y) t.definition.name

  abbrev IsOwn : TableDefinition → Type 0
  IsOwn t = Each (λ (y : Y). table y ≡ t.definition.name) (part t)

  all_own : (t : TableDefinition) → IsOwn t → filter (is_of t) (part t) ≡ part t
  all_own t own = keep_all (is_of t) (part t) (λ y among. same_bytes (table y) t.definition.name (own y among))

  other_name : (t u : TableDefinition) (y : Y) → (t.definition.name ≡ u.definition.name → ⊥) → table y ≡ u.definition.name → is_of t y ≡ false
  other_name t u y differ own = false_from_ne_true (is_of t y) (λ e. differ (sym (bytes_same (table y) t.definition.name e) ∙ own))

  pub part_found : (ts : List TableDefinition) → Rising definition_cmp ts → Each IsOwn ts → (t : TableDefinition) → Among t ts → filter (is_of t) (flat_map part ts) ≡ part t
  part_found [] o own t h = absurd h
  part_found (u ∷ ts) o own t (inl is) =
      subst (λ (v : TableDefinition). filter (is_of v) (flat_map part (u ∷ ts)) ≡ part v) is
      (filter-append (is_of u) (part u) (flat_map part ts) ∙ both (all_own u (own u (inl refl))) (none_pass (is_of u) (flat_map part ts) later) ∙ append-nil (part u))
    where
      later : (y : Y) → Among y (flat_map part ts) → is_of u y ≡ false
      later y among =
          let found = of_flat_map part ts y among in
          other_name u found.0 y (not_itself u.definition.name found.0.definition.name (o.0 found.0 found.1)) (own found.0 (inr found.1) y found.2)

      both : {a b c d : List Y} → a ≡ b → c ≡ d → a ++ c ≡ b ++ d
      both p q = cc
  part_found (u ∷ ts) o own t (inr among) =
      filter-append (is_of t) (part u) (flat_map part ts)
      ∙ ap (λ (zs : List Y). zs ++ filter (is_of t) (flat_map part ts)) (none_pass (is_of t) (part u) (λ y of. other_name t u y (λ e. not_itself u.definition.name t.definition.name (o.0 t among) (sym e)) (own u (inl refl) y of)))
      ∙ part_found ts o.1 (rest_of_each IsOwn u ts own) t among

pub descriptors_found : (d : Definitions) → AreValid d → (t : TableDefinition) → Among t d.tables → filter (λ (e : Descriptor). bytes_eq e.table t.definition.name) (descriptors_of d.tables) ≡ t.descriptors
descriptors_found d v t among = part_found (λ (e : Descriptor). e.table) (λ (u : TableDefinition). u.descriptors) d.tables (tables_in_order d v) (λ u there. (v.tables u there).descriptors) t among

pub policies_found : (d : Definitions) → AreValid d → (t : TableDefinition) → Among t d.tables → filter (λ (p : Policy). bytes_eq p.table t.definition.name) (policies_of d.tables) ≡ t.policies
policies_found d v t among = part_found (λ (p : Policy). p.table) (λ (u : TableDefinition). u.policies) d.tables (tables_in_order d v) (λ u there. (v.tables u there).policies) t among
