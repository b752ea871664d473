-- What valid definitions are to a catalogue, and what is found in them.
use Rattle.std.proofs.Common.{◌≡◌, Bool, true, false, cond, ◌&&◌, ◌||◌, List, [], ◌∷◌, filter, find, length, bytes_eq, Option, Some, Result, Ok, option_map, refl, sym, ap, ◌∙◌, subst, inl, inr, arith}
use Rattle.std.specs.List.{list_any}
use Rattle.std.specs.declared.cmp.Ordering.TheVariants.{Less, Equal}
use Rattle.sql_types.specs.Row.{Row}
use Rattle.sql_types.specs.declared.state.SqlState.{SqlState}
use Rattle.sql_ast.specs.declared.privilege.Descriptor.{Descriptor}
use Rattle.sql_ast.specs.declared.policy.Policy.{Policy}
use Rattle.sql_ast.specs.declared.policy.PolicyClause.{PolicyClause}
use Rattle.expressions.specs.Types.{TypedTerm}
use Rattle.store.proofs.Changes.{itself}
use Rattle.abstract_database.specs.Lists.{TheName, Among, Rising, name_cmp}
use Rattle.abstract_database.specs.Database.{TableOf, Table, is_table_named, is_policy_named, descriptor_cmp, policy_cmp}
use Rattle.abstract_database.specs.Whole.{IsPolicyOf}
use Rattle.stored_database.specs.Definitions.{TableDefinition, Definitions, definition_cmp, table_with, tables_with, descriptors_of, policies_of}
use Rattle.stored_database.specs.Valid.{AreValid}
use Rattle.stored_database.proofs.Lists.{of_map, into_flat_map}
use Rattle.stored_database.proofs.Numbering.{rising_filter}
use Rattle.stored_database.proofs.TableParts.{tables_in_order, descriptors_found, policies_found}
use Rattle.catalogue.specs.Catalogues.{AreInOrder}
use Rattle.catalogue.specs.Lookups.{is_definition_named}
use Rattle.catalogue.specs.Policies.{IsBoundClause, HasConditions}
use Rattle.catalogue.specs.Tables.{HasOrderedParts, table_scope}

not_itself : (a b : TheName) → name_cmp a b ≡ Less → a ≡ b → ⊥
not_itself a b h is = no (sym (itself b) ∙ ap (λ (n : TheName). name_cmp n b) (sym is) ∙ h) where
  no : Equal ≡ Less → ⊥
  no e = cc

-- tables that rise by name have names of their own
pub one_of_name : (ts : List TableDefinition) → Rising definition_cmp ts → (t u : TableDefinition) → Among t ts → Among u ts → t.definition.name ≡ u.definition.name → t ≡ u
one_of_name [] r t u a b e = absurd a
one_of_name (x ∷ xs) r t u (inl is) (inl it) e = sym is ∙ it
one_of_name (x ∷ xs) r t u (inl is) (inr later) e = absurd (not_itself x.definition.name u.definition.name (r.0 u later) (ap (λ (v : TableDefinition). v.definition.name) is ∙ e))
one_of_name (x ∷ xs) r t u (inr later) (inl it) e = absurd (not_itself x.definition.name t.definition.name (r.0 t later) (ap (λ (v : TableDefinition). v.definition.name) it ∙ sym e))
one_of_name (x ∷ xs) r t u (inr one) (inr other) e = one_of_name xs r.1 t u one other e

abbrev is_for : TheName → Policy → Bool
is_for table p = bytes_eq p.table table

module _ (d : Definitions) (v : AreValid d) where
  pub in_order : AreInOrder d
  in_order = record { roles = v.whole.order.roles; memberships = v.whole.order.memberships; tables = tables_in_order d v }

  module _ (t : TableDefinition) (among : Among t d.tables) where
    pub parts_in_order : HasOrderedParts t
    parts_in_order = record {
      descriptors = (v.tables t among).descriptors;
      descriptor_order = subst (Rising descriptor_cmp) (descriptors_found d v t among) (rising_filter descriptor_cmp (λ (e : Descriptor). bytes_eq e.table t.definition.name) (descriptors_of d.tables) v.whole.order.descriptors);
      policies = (v.tables t among).policies;
      policy_order = subst (Rising policy_cmp) (policies_found d v t among) (rising_filter policy_cmp (λ (p : Policy). bytes_eq p.table t.definition.name) (policies_of d.tables) v.whole.order.policies);
    }

    pub have_conditions : (p : Policy) → Among p t.policies → HasConditions (table_scope t.definition) p
    have_conditions p of =
        let found = v.whole.policies.of_tables p (into_flat_map (λ (u : TableDefinition). u.policies) d.tables t p among of) in
        let u = of_map (λ (w : TableDefinition). table_with w []) d.tables found.0 found.1 in
        let table : found.0.definition ≡ u.0.definition = ap (λ (w : Table). w.definition) (sym u.2) in
        let named : u.0.definition.name ≡ t.definition.name = ap (λ (w : TableOf). w.name) (sym table) ∙ sym found.2.table ∙ (v.tables t among).policies p of in
        let same : u.0 ≡ t = one_of_name d.tables (tables_in_order d v) u.0 t u.1 among named in
        let is : IsPolicyOf t.definition p = subst (λ (w : TableOf). IsPolicyOf w p) (table ∙ ap (λ (w : TableDefinition). w.definition) same) found.2 in
        record { using = is.using; check = is.check }

    pub policy_found : (name : TheName) → list_any (is_policy_named t.definition.name name) (policies_of d.tables) ≡ list_any (is_policy_named t.definition.name name) t.policies
    policy_found name =
        sym (any_filter (policies_of d.tables)) ∙ ap (list_any (is_policy_named t.definition.name name)) (policies_found d v t among)
      where
        at : (p : Policy) (ps : List Policy) (b : Bool) → is_for t.definition.name p ≡ b → list_any (is_policy_named t.definition.name name) (filter (is_for t.definition.name) ps) ≡ list_any (is_policy_named t.definition.name name) ps
            → list_any (is_policy_named t.definition.name name) (cond b (p ∷ filter (is_for t.definition.name) ps) (filter (is_for t.definition.name) ps)) ≡ list_any (is_policy_named t.definition.name name) (p ∷ ps)
        at p ps true e h = ap (λ z. is_policy_named t.definition.name name p || z) h
        at p ps false e h = h ∙ ap (λ z. (z && bytes_eq p.name name) || list_any (is_policy_named t.definition.name name) ps) (sym e)

        any_filter : (ps : List Policy) → list_any (is_policy_named t.definition.name name) (filter (is_for t.definition.name) ps) ≡ list_any (is_policy_named t.definition.name name) ps
        any_filter [] = refl
        any_filter (p ∷ ps) = at p ps (is_for t.definition.name p) refl (any_filter ps)

module _ (name : TheName) where
  abbrev of_table : Option Table → Option TableOf
  of_table o = option_map (λ (t : Table). t.definition) o

  abbrev of_definition : Option TableDefinition → Option TableOf
  of_definition o = option_map (λ (t : TableDefinition). t.definition) o

  pub table_found : (ts : List TableDefinition) (rows : List (List Row)) → length rows ≡ length ts → of_table (find (is_table_named name) (tables_with ts rows)) ≡ of_definition (find (is_definition_named name) ts)
  table_found [] rows h = refl
  table_found (t ∷ ts) [] h = absurd (omega (arith, h))
  table_found (t ∷ ts) (r ∷ rows) h = at (bytes_eq t.definition.name name) (table_found ts rows (omega (arith, h))) where
    at : (b : Bool) → of_table (find (is_table_named name) (tables_with ts rows)) ≡ of_definition (find (is_definition_named name) ts)
        → of_table (cond b (Some (table_with t r)) (find (is_table_named name) (tables_with ts rows))) ≡ of_definition (cond b (Some t) (find (is_definition_named name) ts))
    at true e = refl
    at false e = e

pub one_binding : (t : TableOf) (c : PolicyClause) (e f : TypedTerm) → IsBoundClause (table_scope t) c e → IsBoundClause (table_scope t) c f → e ≡ f
one_binding t c e f p q = inside (sym p.typed ∙ q.typed) where
  inside : (let r : Result TypedTerm SqlState = Ok e in r) ≡ Ok f → e ≡ f
  inside h = cc
