-- Privilege descriptors and policies of all tables, after one table was changed.
use Rattle.std.proofs.Common.{◌≡◌, Bool, true, false, not, cond, List, [], ◌∷◌, ◌++◌, flat_map, bytes_eq, refl, ap, sym, ◌∙◌, subst, inl, inr}
use Rattle.std.specs.declared.cmp.Ordering.{Ordering}
use Rattle.std.specs.Ordering.{nat_cmp, ordering_then, ordering_reverse}
use Rattle.std.specs.Option.{option_cmp}
use Rattle.std.specs.declared.cmp.Ordering.TheVariants.{Less, Equal, Greater}
use Rattle.std.specs.Cmp.Lexicographic.{nat_list_cmp_total}
use Rattle.std.proofs.lemmas.Cmp.{nat_cmp_total}
use Rattle.std.proofs.lemmas.Bool.{both_ways, false_from_ne_true, not_from_false}
use Rattle.std.proofs.lemmas.List.Elements.{filter-append}
use Rattle.std.specs.Prelude.{Some, None}
use Rattle.abstract_database.specs.Lists.{TheName, name_cmp, Among, Rising, drop_where}
use Rattle.abstract_database.specs.Database.{action_number, grantor_name, grantee_name, descriptor_cmp, policy_cmp}
use Rattle.abstract_database.specs.Whole.{Each}
use Rattle.abstract_database.proofs.ListLemmas.{bytes_same, same_bytes}
use Rattle.abstract_database.proofs.ElementLemmas.{of_filter, into_filter, drop_all, keep_all}
use Rattle.stored_database.specs.Definitions.{TableDefinition, definition_cmp}
use Rattle.stored_database.proofs.Lists.{into_flat_map, of_flat_map, rest_of_each}
use Rattle.stored_database.proofs.Numbering.{asymmetric, same_rising}
use Rattle.catalogue.specs.Lookups.{is_definition_named}
use Rattle.catalogue_changes.specs.SchemaChanges.{IsReplaced}
use Rattle.catalogue_changes.proofs.TableListLemmas.{with_put, put_there, put_keeps, of_put_named}

-- ---- orders

abbrev pub Turns : {X : Type 0} → (X → X → Ordering) → Type 0
Turns {X} cmp = (a b : X) → cmp a b ≡ ordering_reverse (cmp b a)

reverse_then : (a b c d : Ordering) → a ≡ ordering_reverse c → b ≡ ordering_reverse d → ordering_then a b ≡ ordering_reverse (ordering_then c d)
reverse_then a b Less d p q = ap (λ (o : Ordering). ordering_then o b) p
reverse_then a b Equal d p q = ap (λ (o : Ordering). ordering_then o b) p ∙ q
reverse_then a b Greater d p q = ap (λ (o : Ordering). ordering_then o b) p

name_turns : Turns name_cmp
name_turns a b = nat_list_cmp_total.antisymm a b

column_turns : Turns (option_cmp nat_cmp)
column_turns None None = refl
column_turns None (Some j) = refl
column_turns (Some i) None = refl
column_turns (Some i) (Some j) = nat_cmp_total.antisymm i j

pub descriptor_turns : Turns descriptor_cmp
descriptor_turns a b =
    reverse_then _ _ _ _ (name_turns a.table b.table)
    (reverse_then _ _ _ _ (nat_cmp_total.antisymm (action_number a.action) (action_number b.action))
    (reverse_then _ _ _ _ (column_turns a.column b.column)
    (reverse_then _ _ _ _ (name_turns (grantor_name a.grantor) (grantor_name b.grantor)) (name_turns (grantee_name a.grantee) (grantee_name b.grantee)))))

pub policy_turns : Turns policy_cmp
policy_turns a b = reverse_then _ _ _ _ (name_turns a.table b.table) (name_turns a.name b.name)

-- ---- parts of tables

module _ {Y : Type 0} (table : Y → TheName) (part : TableDefinition → List Y) where
  abbrev is_of : TheName → Y → Bool
  is_of name y = bytes_eq (table y) name

  abbrev pub IsOwn : TableDefinition → Type 0
  IsOwn t = Each (λ (y : Y). table y ≡ t.definition.name) (part t)

  other_table : (name : TheName) (u : TableDefinition) (y : Y) → table y ≡ u.definition.name → (u.definition.name ≡ name → ⊥) → is_of name y ≡ false
  other_table name u y own differ = false_from_ne_true (is_of name y) (λ h. differ (sym own ∙ bytes_same (table y) name h))

  -- a part of no table of the name
  not_of : (name : TheName) (u : TableDefinition) (y : Y) → table y ≡ u.definition.name → is_of name y ≡ false → u.definition.name ≡ name → ⊥
  not_of name u y own fails same = both_ways (is_of name y) fails (same_bytes (table y) name (own ∙ same))

  -- without the parts of a table are those of the other tables
  pub parts_dropped : (name : TheName) (ts : List TableDefinition) → Each IsOwn ts → drop_where (is_of name) (flat_map part ts) ≡ flat_map part (drop_where (is_definition_named name) ts)
  parts_dropped name [] own = refl
  parts_dropped name (t ∷ ts) own =
      filter-append (λ (y : Y). not (is_of name y)) (part t) (flat_map part ts)
      ∙ go (is_definition_named name t) refl (parts_dropped name ts (rest_of_each IsOwn t ts own))
    where
      own_first : (y : Y) → Among y (part t) → table y ≡ t.definition.name
      own_first = own t (inl refl)

      both : {a b c d : List Y} → a ≡ b → c ≡ d → a ++ c ≡ b ++ d
      both p q = cc

      go : (b : Bool) → is_definition_named name t ≡ b → drop_where (is_of name) (flat_map part ts) ≡ flat_map part (drop_where (is_definition_named name) ts)
          → drop_where (is_of name) (part t) ++ drop_where (is_of name) (flat_map part ts)
          ≡ flat_map part (cond (not b) (t ∷ drop_where (is_definition_named name) ts) (drop_where (is_definition_named name) ts))
      go true c later = both (drop_all (is_of name) (part t) (λ y among. same_bytes (table y) name (own_first y among ∙ bytes_same t.definition.name name c))) later
      go false c later = both (keep_all (λ (y : Y). not (is_of name y)) (part t)
          (λ y among. not_from_false (is_of name y) (other_table name t y (own_first y among) (λ same. both_ways (is_definition_named name t) c (same_bytes t.definition.name name same))))) later

  -- where the parts of one table are replaced, they are those of the tables with it
  pub parts_replaced : (cmp : Y → Y → Ordering) → Turns cmp → (t : TableDefinition) (ts : List TableDefinition) → Rising definition_cmp (with_put t ts) → Each IsOwn ts
      → (new : List Y) → Rising cmp new → Rising cmp (flat_map part (with_put t ts)) → IsReplaced (is_of t.definition.name) (part t) (flat_map part ts) new → new ≡ flat_map part (with_put t ts)
  parts_replaced cmp turns t ts rising own new new_rises parts_rise r = same_rising cmp (asymmetric cmp turns) new (flat_map part (with_put t ts)) new_rises parts_rise there back where
    test : Y → Bool
    test y = is_of t.definition.name y

    there : (z : Y) → Among z new → Among z (flat_map part (with_put t ts))
    there z among = go (test z) refl where
      go : (b : Bool) → test z ≡ b → Among z (flat_map part (with_put t ts))
      go true c = into_flat_map part (with_put t ts) t z (put_there t ts) (subst (λ (zs : List Y). Among z zs) r.these_pass (into_filter test new z among c))
      go false c =
          let old = (of_filter (λ (y : Y). not (test y)) (flat_map part ts) z (subst (λ (zs : List Y). Among z zs) r.others (into_filter (λ (y : Y). not (test y)) new z among (not_from_false (test z) c)))).0 in
          let u = of_flat_map part ts z old in
          into_flat_map part (with_put t ts) u.0 z (put_keeps t ts u.0 u.1 (not_of t.definition.name u.0 z (own u.0 u.1 z u.2) c)) u.2

    back : (z : Y) → Among z (flat_map part (with_put t ts)) → Among z new
    back z among =
        let u = of_flat_map part (with_put t ts) z among in
        elim (of_put_named t ts rising u.0 u.1) [
          | inl is ↦ (of_filter test new z (subst (λ (zs : List Y). Among z zs) (sym r.these_pass) (subst (λ (v : TableDefinition). Among z (part v)) (sym is) u.2))).0
          | inr old ↦
              (of_filter (λ (y : Y). not (test y)) new z
              (subst (λ (zs : List Y). Among z zs) (sym r.others)
              (into_filter (λ (y : Y). not (test y)) (flat_map part ts) z (into_flat_map part ts u.0 z old.0 u.2)
              (not_from_false (test z) (other_table t.definition.name u.0 z (own u.0 old.0 z u.2) old.1))))).0
        ]
