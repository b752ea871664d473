-- The parts of a table with other policies are parts of a table.
use Rattle.std.proofs.Common.{◌≡◌, ◌⊎◌, ℕ, zero, suc, Bool, true, false, cond, not, ◌&&◌, ◌+◌, List, [], ◌∷◌, ◌++◌, map, filter, bytes_eq, refl, sym, ap, ◌∙◌, subst, inl, inr}
use Rattle.std.specs.List.{insert, prefix_len, list_any}
use Rattle.std.specs.Ordering.{is_gt, ordering_then}
use Rattle.std.specs.declared.cmp.Ordering.{Ordering}
use Rattle.std.specs.declared.cmp.Ordering.TheVariants.{Equal}
use Rattle.sql_ast.specs.declared.policy.Policy.{Policy}
use Rattle.store.proofs.Changes.{same_key, itself}
use Rattle.abstract_database.specs.Lists.{TheName, name_cmp, Among, Rising, put, the_new, drop_where}
use Rattle.abstract_database.specs.Database.{is_policy_named, policy_cmp}
use Rattle.abstract_database.specs.Whole.{Each}
use Rattle.abstract_database.proofs.ListLemmas.{same_bytes}
use Rattle.abstract_database.proofs.ElementLemmas.{any_holds, of_filter}
use Rattle.stored_database.specs.Definitions.{TableDefinition}
use Rattle.catalogue.specs.declared.policy.CataloguePolicy.{CataloguePolicy}
use Rattle.catalogue.specs.declared.table.TableParts.{TableParts}
use Rattle.catalogue.specs.Policies.{scope_of, IsBoundPolicy, policies_in}
use Rattle.catalogue.specs.Tables.{AreParts, definition_of, table_scope}
use Rattle.catalogue_changes.specs.StatementChanges.{with_one_policy, without_one_policy}
use Rattle.catalogue_changes.proofs.DescriptorPutLemmas.{one_policy_table, policies_ordered}
use Rattle.abstract_database.proofs.RisingPuts.{put_rises}
use Rattle.catalogue_changes.proofs.PutListLemmas.{each_put}
use Rattle.schema_statements.proofs.Putting.{put_is_insert, insert_map}

with_policies : (p : TableParts) (ps : List CataloguePolicy) → AreParts p → Each (λ (q : Policy). q.table ≡ p.name) (policies_in ps) → Rising policy_cmp (policies_in ps)
    → Each (IsBoundPolicy (scope_of p.name p.columns)) ps → AreParts (record p { policies = ps })
with_policies p ps are own rising bound = record {
  order = record { descriptors = are.order.descriptors; descriptor_order = are.order.descriptor_order; policies = own; policy_order = rising };
  bound = bound;
}

-- ---- one more

-- policies of one table by their names
by_name : (p q : Policy) → q.table ≡ p.table → policy_cmp p q ≡ name_cmp p.name q.name
by_name p q same =
    ap (λ (n : TheName). ordering_then (name_cmp p.table n) (name_cmp p.name q.name)) same
    ∙ ap (λ (o : Ordering). ordering_then o (name_cmp p.name q.name)) (itself p.table)

abbrev before : Policy → CataloguePolicy → Bool
before p old = is_gt (name_cmp p.name old.policy.name)

place_by_name : (p : Policy) (held : List CataloguePolicy) → Each (λ (q : Policy). q.table ≡ p.table) (policies_in held)
    → prefix_len (before p) held ≡ prefix_len (λ (q : Policy). is_gt (policy_cmp p q)) (policies_in held)
place_by_name p [] own = refl
place_by_name p (x ∷ xs) own =
    ap (λ (o : Ordering). cond (is_gt o) (1 + prefix_len (before p) xs) 0) (sym (by_name p x.policy (own x.policy (inl refl))))
    ∙ ap (λ (n : ℕ). cond (is_gt (policy_cmp p x.policy)) (1 + n) 0) (place_by_name p xs (λ q among. own q (inr among)))

differs : (p : Policy) (qs : List Policy) → list_any (is_policy_named p.table p.name) qs ≡ false → (q : Policy) → Among q qs → policy_cmp p q ≡ Equal → ⊥
differs p qs none q among e = no (sym none ∙ any_holds (is_policy_named p.table p.name) qs q among is) where
  no : false ≡ true → ⊥
  no h = cc

  same : q.table ≡ p.table
  same = one_policy_table p q e

  name : q.name ≡ p.name
  name = sym (same_key p.name q.name (sym (by_name p q same) ∙ e))

  is : is_policy_named p.table p.name q ≡ true
  is = ap (λ (b : Bool). b && bytes_eq q.name p.name) (same_bytes q.table p.table same) ∙ same_bytes q.name p.name name

pub put_among : (c : CataloguePolicy) (held : List CataloguePolicy) → Each (λ (q : Policy). q.table ≡ c.policy.table) (policies_in held)
    → list_any (is_policy_named c.policy.table c.policy.name) (policies_in held) ≡ false
    → policies_in (insert held (prefix_len (before c.policy) held) c) ≡ put policy_cmp the_new c.policy (policies_in held)
put_among c held own none =
    insert_map (λ (x : CataloguePolicy). x.policy) held (prefix_len (before c.policy) held) c
    ∙ ap (λ (n : ℕ). insert (policies_in held) n c.policy) (place_by_name c.policy held own)
    ∙ sym (put_is_insert policy_cmp c.policy (policies_in held) (differs c.policy (policies_in held) none))

-- an element of a list with one more
of_insert : {X : Type 0} (xs : List X) (n : ℕ) (x y : X) → Among y (insert xs n x) → (x ≡ y) ⊎ Among y xs
of_insert xs zero x y h = h
of_insert [] (suc n) x y h = h
of_insert (z ∷ zs) (suc n) x y (inl is) = inr (inl is)
of_insert (z ∷ zs) (suc n) x y (inr h) = elim (of_insert zs n x y h) [ inl is ↦ inl is | inr there ↦ inr (inr there) ]

each_inserted : {X : Type 0} (P : X → Type 0) (x : X) → P x → (xs : List X) (n : ℕ) → Each P xs → Each P (insert xs n x)
each_inserted P x new xs n old y among = elim (of_insert xs n x y among) [ inl is ↦ subst P is new | inr there ↦ old y there ]

module _ (p : TableParts) (t : TableDefinition) (is : definition_of p ≡ t) (are : AreParts p) where
  module _ (c : CataloguePolicy) (own : c.policy.table ≡ t.definition.name) (new : list_any (is_policy_named c.policy.table c.policy.name) t.policies ≡ false)
      (bound : IsBoundPolicy (table_scope t.definition) c) (held after : List CataloguePolicy) (same : held ≡ p.policies)
      (put_so : after ≡ insert held (prefix_len (before c.policy) held) c) where
    named : p.name ≡ c.policy.table
    named = ap (λ (u : TableDefinition). u.definition.name) is ∙ sym own

    policies : policies_in after ≡ put policy_cmp the_new c.policy (policies_in p.policies)
    policies =
        ap policies_in put_so ∙ ap (λ (l : List CataloguePolicy). policies_in (insert l (prefix_len (before c.policy) l) c)) same
        ∙ put_among c p.policies (λ q among. are.order.policies q among ∙ named) (ap (λ (u : TableDefinition). list_any (is_policy_named c.policy.table c.policy.name) u.policies) is ∙ new)

    pub more_is : definition_of (record p { policies = after }) ≡ with_one_policy c.policy t
    more_is = ap (λ (l : List Policy). record (definition_of p) { policies = l }) policies ∙ ap (with_one_policy c.policy) is

    pub more_parts : AreParts (record p { policies = after })
    more_parts = with_policies p after are
        (subst (Each (λ (q : Policy). q.table ≡ p.name)) (sym policies) (each_put policy_cmp the_new (λ (q : Policy). q.table ≡ p.name) (λ x y a b. a) c.policy (policies_in p.policies) (sym named) are.order.policies))
        (subst (Rising policy_cmp) (sym policies) (put_rises policy_cmp policies_ordered the_new (λ x y z e. policies_ordered.congr x y z e) c.policy (policies_in p.policies) are.order.policy_order))
        (subst (Each (IsBoundPolicy (scope_of p.name p.columns))) (sym (put_so ∙ ap (λ (l : List CataloguePolicy). insert l (prefix_len (before c.policy) l) c) same))
        (each_inserted (IsBoundPolicy (scope_of p.name p.columns)) c (subst (λ (u : TableDefinition). IsBoundPolicy (table_scope u.definition) c) (sym is) bound) p.policies (prefix_len (before c.policy) p.policies) are.bound))

-- ---- one less

kept_rise : {X : Type 0} (cmp : X → X → Ordering) (test : X → Bool) (xs : List X) → Rising cmp xs → Rising cmp (filter test xs)
kept_rise cmp test [] r = tt
kept_rise {X} cmp test (x ∷ xs) r = go (test x) (kept_rise cmp test xs r.1) where
  go : (b : Bool) → Rising cmp (filter test xs) → Rising cmp (cond b (x ∷ filter test xs) (filter test xs))
  go true later = ((λ y among. r.0 y (of_filter test xs y among).0), later)
  go false later = later

abbrev named_so : TheName → Policy → Bool
named_so name q = bytes_eq q.name name

dropped_among : (name : TheName) (held : List CataloguePolicy) → policies_in (drop_where (λ (x : CataloguePolicy). named_so name x.policy) held) ≡ drop_where (named_so name) (policies_in held)
dropped_among name [] = refl
dropped_among name (x ∷ xs) = go (named_so name x.policy) (dropped_among name xs) where
  go : (b : Bool) → policies_in (drop_where (λ (y : CataloguePolicy). named_so name y.policy) xs) ≡ drop_where (named_so name) (policies_in xs)
      → policies_in (cond (not b) (x ∷ drop_where (λ (y : CataloguePolicy). named_so name y.policy) xs) (drop_where (λ (y : CataloguePolicy). named_so name y.policy) xs))
      ≡ cond (not b) (x.policy ∷ drop_where (named_so name) (policies_in xs)) (drop_where (named_so name) (policies_in xs))
  go true later = later
  go false later = ap (λ (l : List Policy). x.policy ∷ l) later

module _ (p : TableParts) (t : TableDefinition) (is : definition_of p ≡ t) (are : AreParts p) (name : TheName) (held after : List CataloguePolicy) (same : held ≡ p.policies)
    (dropped : after ≡ drop_where (λ (x : CataloguePolicy). named_so name x.policy) held) where
  left : after ≡ drop_where (λ (x : CataloguePolicy). named_so name x.policy) p.policies
  left = dropped ∙ ap (drop_where (λ (x : CataloguePolicy). named_so name x.policy)) same

  policies_left : policies_in after ≡ drop_where (named_so name) (policies_in p.policies)
  policies_left = ap policies_in left ∙ dropped_among name p.policies

  pub less_is : definition_of (record p { policies = after }) ≡ without_one_policy name t
  less_is = ap (λ (l : List Policy). record (definition_of p) { policies = l }) policies_left ∙ ap (without_one_policy name) is

  pub less_parts : AreParts (record p { policies = after })
  less_parts = with_policies p after are
      (subst (Each (λ (q : Policy). q.table ≡ p.name)) (sym policies_left) (λ q among. are.order.policies q (of_filter (λ (r : Policy). not (named_so name r)) (policies_in p.policies) q among).0))
      (subst (Rising policy_cmp) (sym policies_left) (kept_rise policy_cmp (λ (r : Policy). not (named_so name r)) (policies_in p.policies) are.order.policy_order))
      (subst (Each (IsBoundPolicy (scope_of p.name p.columns))) (sym left) (λ x among. are.bound x (of_filter (λ (y : CataloguePolicy). not (named_so name y.policy)) p.policies x among).0))
