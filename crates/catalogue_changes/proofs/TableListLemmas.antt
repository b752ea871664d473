-- Elements of lists in which one is put, and from which one is dropped.
use Rattle.std.proofs.Common.{◌≡◌, ◌⊎◌, ℕ, Bool, true, false, not, cond, nat_eq, IsTrue, List, [], ◌∷◌, filter, bytes_eq, refl, ap, sym, ◌∙◌, subst, inl, inr}
use Rattle.std.specs.List.{list_any}
use Rattle.std.specs.Ordering.{is_lt, is_eq}
use Rattle.std.specs.declared.cmp.Ordering.{Ordering}
use Rattle.std.specs.declared.cmp.Ordering.TheVariants.{Less, Equal, Greater}
use Rattle.std.proofs.lemmas.Bool.{both_ways, false_from_ne_true, and_from, and_parts, not_from_false, not-true, eqb-true, eq-eqb}
use Rattle.sql_ast.specs.Layout.{all_differ}
use Rattle.store.proofs.Changes.{itself, same_key, after, reversed}
use Rattle.abstract_database.specs.Lists.{TheName, name_cmp, Among, Rising, put, the_new}
use Rattle.abstract_database.proofs.ListLemmas.{bytes_same, same_bytes}
use Rattle.abstract_database.proofs.ElementLemmas.{any_found, any_holds, of_filter}
use Rattle.stored_database.specs.Definitions.{TableDefinition, definition_cmp, ids_of}
use Rattle.stored_database.proofs.Lists.{of_map, into_map}
use Rattle.catalogue.specs.Lookups.{is_definition_named}

-- ---- names

pub not_less_itself : (a b : TheName) → name_cmp a b ≡ Less → a ≡ b → ⊥
not_less_itself a b h is = no (sym (itself b) ∙ ap (λ (n : TheName). name_cmp n b) (sym is) ∙ h) where
  no : Equal ≡ Less → ⊥
  no e = cc

pub not_greater_itself : (a b : TheName) → name_cmp a b ≡ Greater → a ≡ b → ⊥
not_greater_itself a b h is = not_less_itself b a (reversed a b h) (sym is)

-- tables of one name in a rising list are the same
pub one_named : (ts : List TableDefinition) → Rising definition_cmp ts → (t u : TableDefinition) → Among t ts → Among u ts → t.definition.name ≡ u.definition.name → t ≡ u
one_named [] r t u p q same = absurd p
one_named (v ∷ ts) r t u (inl p) (inl q) same = sym p ∙ q
one_named (v ∷ ts) r t u (inl p) (inr q) same = absurd (not_less_itself v.definition.name u.definition.name (r.0 u q) (ap (λ (w : TableDefinition). w.definition.name) p ∙ same))
one_named (v ∷ ts) r t u (inr p) (inl q) same = absurd (not_less_itself v.definition.name t.definition.name (r.0 t p) (ap (λ (w : TableDefinition). w.definition.name) q ∙ sym same))
one_named (v ∷ ts) r t u (inr p) (inr q) same = one_named ts r.1 t u p q same

-- ---- put

-- a list with a table put in it, by how its name compares with the first one's
abbrev pub put_by_name : Ordering → TableDefinition → TableDefinition → List TableDefinition → List TableDefinition → List TableDefinition
put_by_name o t u us later = cond (is_lt o) (t ∷ u ∷ us) (cond (is_eq o) (t ∷ us) (u ∷ later))

abbrev pub with_put : TableDefinition → List TableDefinition → List TableDefinition
with_put t ts = put definition_cmp the_new t ts

pub put_there : (t : TableDefinition) (ts : List TableDefinition) → Among t (with_put t ts)
put_there t [] = inl refl
put_there t (u ∷ ts) = go (definition_cmp t u) (put_there t ts) where
  go : (o : Ordering) → Among t (with_put t ts) → Among t (put_by_name o t u ts (with_put t ts))
  go Less later = inl refl
  go Equal later = inl refl
  go Greater later = inr later

pub put_keeps : (t : TableDefinition) (ts : List TableDefinition) (v : TableDefinition) → Among v ts → (v.definition.name ≡ t.definition.name → ⊥) → Among v (with_put t ts)
put_keeps t [] v h differ = absurd h
put_keeps t (u ∷ ts) v h differ = go (definition_cmp t u) refl h (λ k. put_keeps t ts v k differ) where
  go : (o : Ordering) → definition_cmp t u ≡ o → (u ≡ v) ⊎ Among v ts → (Among v ts → Among v (with_put t ts)) → Among v (put_by_name o t u ts (with_put t ts))
  go Less c h later = inr h
  go Equal c (inl is) later = absurd (differ (sym (same_key t.definition.name u.definition.name c ∙ ap (λ (w : TableDefinition). w.definition.name) is)))
  go Equal c (inr among) later = inr among
  go Greater c (inl is) later = inl is
  go Greater c (inr among) later = inr (later among)

pub of_put : (t : TableDefinition) (ts : List TableDefinition) (v : TableDefinition) → Among v (with_put t ts) → (t ≡ v) ⊎ Among v ts
of_put t [] v (inl is) = inl is
of_put t [] v (inr h) = absurd h
of_put t (u ∷ ts) v h = go (definition_cmp t u) h (λ k. of_put t ts v k) where
  go : (o : Ordering) → Among v (put_by_name o t u ts (with_put t ts)) → (Among v (with_put t ts) → (t ≡ v) ⊎ Among v ts) → (t ≡ v) ⊎ Among v (u ∷ ts)
  go Less (inl is) later = inl is
  go Less (inr k) later = inr k
  go Equal (inl is) later = inl is
  go Equal (inr k) later = inr (inr k)
  go Greater (inl is) later = inr (inl is)
  go Greater (inr k) later = elim (later k) [ inl is ↦ inl is | inr among ↦ inr (inr among) ]

-- an element is the table that is put, or another one of another name
pub of_put_named : (t : TableDefinition) (ts : List TableDefinition) → Rising definition_cmp (with_put t ts) → (v : TableDefinition) → Among v (with_put t ts)
    → (t ≡ v) ⊎ (Among v ts × (v.definition.name ≡ t.definition.name → ⊥))
of_put_named t ts r v h = go (bytes_eq v.definition.name t.definition.name) refl (of_put t ts v h) where
  go : (b : Bool) → bytes_eq v.definition.name t.definition.name ≡ b → (t ≡ v) ⊎ Among v ts → (t ≡ v) ⊎ (Among v ts × (v.definition.name ≡ t.definition.name → ⊥))
  go b c (inl is) = inl is
  go true c (inr among) = inl (one_named (with_put t ts) r t v (put_there t ts) h (sym (bytes_same v.definition.name t.definition.name c)))
  go false c (inr among) = inr (among, λ same. both_ways (bytes_eq v.definition.name t.definition.name) c (same_bytes v.definition.name t.definition.name same))

-- ---- numbers

-- numbers differ where no number is that of the first
differ_from : (n : ℕ) (ids : List ℕ) → ((i : ℕ) → Among i ids → n ≡ i → ⊥) → IsTrue (all_differ nat_eq ids) → IsTrue (all_differ nat_eq (n ∷ ids))
differ_from n ids none rest =
    and_from (not (list_any (nat_eq n) ids)) (all_differ nat_eq ids)
    (not_from_false (list_any (nat_eq n) ids) (false_from_ne_true (list_any (nat_eq n) ids) (λ h. let found = any_found (nat_eq n) ids h in none found.0 found.1 (eqb-true n found.0 found.2)))) rest

first_differs : (n : ℕ) (ids : List ℕ) → IsTrue (all_differ nat_eq (n ∷ ids)) → (i : ℕ) → Among i ids → n ≡ i → ⊥
first_differs n ids h i among same =
    let parts = and_parts (not (list_any (nat_eq n) ids)) (all_differ nat_eq ids) h in
    both_ways (list_any (nat_eq n) ids) (not-true (list_any (nat_eq n) ids) parts.0) (any_holds (nat_eq n) ids i among (eq-eqb n i same))

rest_differ : (n : ℕ) (ids : List ℕ) → IsTrue (all_differ nat_eq (n ∷ ids)) → IsTrue (all_differ nat_eq ids)
rest_differ n ids h = (and_parts (not (list_any (nat_eq n) ids)) (all_differ nat_eq ids) h).1

pub id_among : (ts : List TableDefinition) (i : ℕ) → Among i (ids_of ts) → (t : TableDefinition) × Among t ts × (t.id ≡ i)
id_among ts i h = of_map (λ (t : TableDefinition). t.id) ts i h

-- each table has its own number after a put, where one of the same number has the same name, and the other way round
pub ids_put : (t : TableDefinition) (ts : List TableDefinition) → Rising definition_cmp ts → IsTrue (all_differ nat_eq (ids_of ts))
    → ((u : TableDefinition) → Among u ts → u.id ≡ t.id → u.definition.name ≡ t.definition.name) → ((u : TableDefinition) → Among u ts → u.definition.name ≡ t.definition.name → u.id ≡ t.id)
    → IsTrue (all_differ nat_eq (ids_of (with_put t ts)))
ids_put t [] r own by_number by_name = refl
ids_put t (u ∷ ts) r own by_number by_name =
    go (definition_cmp t u) refl (ids_put t ts r.1 (rest_differ u.id (ids_of ts) own) (λ v among. by_number v (inr among)) (λ v among. by_name v (inr among)))
  where
    clash : Greater ≡ Less → ⊥
    clash e = cc

    below : definition_cmp t u ≡ Less → (v : TableDefinition) → Among v (u ∷ ts) → t.definition.name ≡ v.definition.name → ⊥
    below c v (inl is) same = not_less_itself t.definition.name u.definition.name c (same ∙ sym (ap (λ (w : TableDefinition). w.definition.name) is))
    below c v (inr among) same = clash (sym (after t.definition.name u.definition.name c) ∙ ap (name_cmp u.definition.name) same ∙ r.0 v among)

    go : (o : Ordering) → definition_cmp t u ≡ o → IsTrue (all_differ nat_eq (ids_of (with_put t ts))) → IsTrue (all_differ nat_eq (ids_of (put_by_name o t u ts (with_put t ts))))
    go Less c later = differ_from t.id (ids_of (u ∷ ts))
        (λ i among same. let v = id_among (u ∷ ts) i among in below c v.0 v.1 (sym (by_number v.0 v.1 (v.2 ∙ sym same)))) own
    go Equal c later =
        subst (λ (n : ℕ). IsTrue (all_differ nat_eq (n ∷ ids_of ts))) (by_name u (inl refl) (sym (same_key t.definition.name u.definition.name c))) own
    go Greater c later = differ_from u.id (ids_of (with_put t ts)) other later where
      other : (i : ℕ) → Among i (ids_of (with_put t ts)) → u.id ≡ i → ⊥
      other i among same =
          let v = id_among (with_put t ts) i among in
          elim (of_put t ts v.0 v.1) [
            | inl is ↦ not_greater_itself t.definition.name u.definition.name c
                (sym (by_number u (inl refl) (same ∙ sym v.2 ∙ ap (λ (w : TableDefinition). w.id) (sym is))))
            | inr old ↦ first_differs u.id (ids_of ts) own v.0.id (into_map (λ (w : TableDefinition). w.id) ts v.0 old) (same ∙ sym v.2)
          ]

-- tables of one number are the same
pub one_numbered : (ts : List TableDefinition) → IsTrue (all_differ nat_eq (ids_of ts)) → (t u : TableDefinition) → Among t ts → Among u ts → t.id ≡ u.id → t ≡ u
one_numbered [] own t u p q same = absurd p
one_numbered (v ∷ ts) own t u (inl p) (inl q) same = sym p ∙ q
one_numbered (v ∷ ts) own t u (inl p) (inr q) same =
    absurd (first_differs v.id (ids_of ts) own u.id (into_map (λ (w : TableDefinition). w.id) ts u q) (ap (λ (w : TableDefinition). w.id) p ∙ same))
one_numbered (v ∷ ts) own t u (inr p) (inl q) same =
    absurd (first_differs v.id (ids_of ts) own t.id (into_map (λ (w : TableDefinition). w.id) ts t p) (ap (λ (w : TableDefinition). w.id) q ∙ sym same))
one_numbered (v ∷ ts) own t u (inr p) (inr q) same = one_numbered ts (rest_differ v.id (ids_of ts) own) t u p q same

-- each table has its own number where some are dropped
pub ids_dropped : (test : TableDefinition → Bool) (ts : List TableDefinition) → IsTrue (all_differ nat_eq (ids_of ts)) → IsTrue (all_differ nat_eq (ids_of (filter test ts)))
ids_dropped test [] own = refl
ids_dropped test (t ∷ ts) own = go (test t) (ids_dropped test ts (rest_differ t.id (ids_of ts) own)) where
  go : (b : Bool) → IsTrue (all_differ nat_eq (ids_of (filter test ts))) → IsTrue (all_differ nat_eq (ids_of (cond b (t ∷ filter test ts) (filter test ts))))
  go true later = differ_from t.id (ids_of (filter test ts)) (λ i among same.
      let u = id_among (filter test ts) i among in
      first_differs t.id (ids_of ts) own u.0.id (into_map (λ (w : TableDefinition). w.id) ts u.0 (of_filter test ts u.0 u.1).0) (same ∙ sym u.2)) later
  go false later = later

-- ---- the table of a name

pub filter_none : {X : Type 0} (test : X → Bool) (xs : List X) → ((x : X) → Among x xs → test x ≡ false) → filter test xs ≡ []
filter_none test [] h = refl
filter_none test (x ∷ xs) h = ap (λ (b : Bool). cond b (x ∷ filter test xs) (filter test xs)) (h x (inl refl)) ∙ filter_none test xs (λ y among. h y (inr among))

-- no table of these has the name
pub record IsNone (name : TheName) (ts : List TableDefinition) : Type 0 where
  pub none : (u : TableDefinition) → Among u ts → u.definition.name ≡ name → ⊥
  pub empty : filter (is_definition_named name) ts ≡ []

-- one has
pub record IsOne (name : TheName) (ts : List TableDefinition) : Type 0 where
  pub table : TableDefinition
  pub among : Among table ts
  pub named : table.definition.name ≡ name
  pub only : filter (is_definition_named name) ts ≡ table ∷ []

pub none_or_one : (name : TheName) (ts : List TableDefinition) → Rising definition_cmp ts → IsNone name ts ⊎ IsOne name ts
none_or_one name [] r = inl (record { none = λ u among. absurd among; empty = refl })
none_or_one name (t ∷ ts) r = go (is_definition_named name t) refl (none_or_one name ts r.1) where
  keep : (b : Bool) → List TableDefinition
  keep b = cond b (t ∷ filter (is_definition_named name) ts) (filter (is_definition_named name) ts)

  others : is_definition_named name t ≡ true → (u : TableDefinition) → Among u ts → is_definition_named name u ≡ false
  others c u among = false_from_ne_true (is_definition_named name u)
      (λ h. not_less_itself t.definition.name u.definition.name (r.0 u among) (bytes_same t.definition.name name c ∙ sym (bytes_same u.definition.name name h)))

  no_more : is_definition_named name t ≡ false → IsNone name ts → (u : TableDefinition) → Among u (t ∷ ts) → u.definition.name ≡ name → ⊥
  no_more c n u (inl is) same = both_ways (is_definition_named name t) c (same_bytes t.definition.name name (ap (λ (w : TableDefinition). w.definition.name) is ∙ same))
  no_more c n u (inr among) same = n.none u among same

  go : (b : Bool) → is_definition_named name t ≡ b → IsNone name ts ⊎ IsOne name ts → IsNone name (t ∷ ts) ⊎ IsOne name (t ∷ ts)
  go true c later = inr (record {
    table = t;
    among = inl refl;
    named = bytes_same t.definition.name name c;
    only = ap keep c ∙ ap (λ (us : List TableDefinition). t ∷ us) (filter_none (is_definition_named name) ts (others c));
  })
  go false c (inl n) = inl (record { none = no_more c n; empty = ap keep c ∙ n.empty })
  go false c (inr one) = inr (record { table = one.table; among = inr one.among; named = one.named; only = ap keep c ∙ one.only })
