-- Each whole database is described by definitions that number its tables in their order.
use Rattle.std.proofs.Common.{◌≡◌, ◌<◌, ◌≤◌, ℕ, suc, ◌+◌, Bool, true, false, not, cond, nat_eq, IsTrue, List, [], ◌∷◌, ◌++◌, map, filter, flat_map, length, bytes_eq, Some, None, refl, ap, sym, ◌∙◌, subst, inl, inr, arith}
use Rattle.std.specs.Prelude.{option_to_list}
use Rattle.std.specs.List.{list_any}
use Rattle.std.specs.Option.{option_cmp}
use Rattle.std.specs.Ordering.{nat_cmp, ordering_then, ordering_reverse}
use Rattle.std.specs.declared.cmp.Ordering.{Ordering}
use Rattle.std.specs.declared.cmp.Ordering.TheVariants.{Less, Equal, Greater}
use Rattle.std.specs.Cmp.Lexicographic.{nat_list_cmp_total}
use Rattle.std.proofs.lemmas.Cmp.{nat_cmp_total}
use Rattle.std.proofs.lemmas.Bool.{eqb-true, false_from_ne_true, and_from, not_from_false}
use Rattle.std.proofs.lemmas.List.{length-map}
use Rattle.sql_types.specs.Row.{Row}
use Rattle.sql_ast.specs.declared.privilege.Descriptor.{Descriptor}
use Rattle.sql_ast.specs.declared.policy.Policy.{Policy}
use Rattle.sql_ast.specs.Layout.{all_differ}
use Rattle.abstract_database.specs.Lists.{Among, Rising, name_cmp}
use Rattle.abstract_database.specs.Database.{TableOf, Table, Database, table_cmp, action_number, grantor_name, grantee_name, descriptor_cmp, policy_cmp}
use Rattle.abstract_database.specs.Whole.{Each, HasWholeDefinitions, IsWhole, clauses_of}
use Rattle.abstract_database.proofs.ListLemmas.{bytes_same, same_bytes}
use Rattle.abstract_database.proofs.ElementLemmas.{any_found, of_filter, into_filter}
use Rattle.stored_database.specs.Definitions.{TableDefinition, Definitions, definition_cmp, ids_of, table_with, tables_with, descriptors_of, policies_of, database_with, database_of}
use Rattle.expr_parser.specs.Written.{IsAsWritten}
use Rattle.stored_database.specs.Valid.{IsNumbered, Describes}
use Rattle.stored_database.proofs.Lists.{of_map, into_flat_map, of_flat_map, same_cons}
use Rattle.stored_database.proofs.KeyOrder.{joined_descriptors, joined_policies}
use Rattle.stored_database.proofs.Wholeness.{said_of, whole_again}

-- ---- orders

-- what is less is not greater
abbrev IsAsymmetric : {X : Type 0} → (X → X → Ordering) → Type 0
IsAsymmetric {X} cmp = (a b : X) → cmp a b ≡ Less → cmp b a ≡ Less → ⊥

abbrev Turns : {X : Type 0} → (X → X → Ordering) → Type 0
Turns {X} cmp = (a b : X) → cmp a b ≡ ordering_reverse (cmp b a)

reverse_then : (a b c d : Ordering) → a ≡ ordering_reverse c → b ≡ ordering_reverse d → ordering_then a b ≡ ordering_reverse (ordering_then c d)
reverse_then a b Less d p q = ap (λ (o : Ordering). ordering_then o b) p
reverse_then a b Equal d p q = ap (λ (o : Ordering). ordering_then o b) p ∙ q
reverse_then a b Greater d p q = ap (λ (o : Ordering). ordering_then o b) p

name_turns : Turns name_cmp
name_turns a b = nat_list_cmp_total.antisymm a b

column_turns : Turns (option_cmp nat_cmp)
column_turns None None = refl
column_turns None (Some j) = refl
column_turns (Some i) None = refl
column_turns (Some i) (Some j) = nat_cmp_total.antisymm i j

descriptor_turns : Turns descriptor_cmp
descriptor_turns a b =
    reverse_then _ _ _ _ (name_turns a.table b.table)
    (reverse_then _ _ _ _ (nat_cmp_total.antisymm (action_number a.action) (action_number b.action))
    (reverse_then _ _ _ _ (column_turns a.column b.column)
    (reverse_then _ _ _ _ (name_turns (grantor_name a.grantor) (grantor_name b.grantor)) (name_turns (grantee_name a.grantee) (grantee_name b.grantee)))))

policy_turns : Turns policy_cmp
policy_turns a b = reverse_then _ _ _ _ (name_turns a.table b.table) (name_turns a.name b.name)

pub asymmetric : {X : Type 0} (cmp : X → X → Ordering) → Turns cmp → IsAsymmetric cmp
asymmetric cmp turns a b p q = no (sym p ∙ turns a b ∙ ap ordering_reverse q) where
  no : Less ≡ Greater → ⊥
  no h = cc

-- rising lists with the same elements are the same
module _ {X : Type 0} (cmp : X → X → Ordering) (asym : IsAsymmetric cmp) where
  same_first : (x y : X) (xs ys : List X) → Rising cmp (x ∷ xs) → Rising cmp (y ∷ ys) → Among x (y ∷ ys) → Among y (x ∷ xs) → x ≡ y
  same_first x y xs ys p q (inl is) h = sym is
  same_first x y xs ys p q (inr later) (inl is) = is
  same_first x y xs ys p q (inr later) (inr further) = absurd (asym x y (p.0 y further) (q.0 x later))

  in_rest : (x y : X) (xs ys : List X) → Rising cmp (x ∷ xs) → x ≡ y → (z : X) → Among z xs → Among z (y ∷ ys) → Among z ys
  in_rest x y xs ys p same z among (inl is) = absurd (asym x x (itself_less (same ∙ is)) (itself_less (same ∙ is))) where
    itself_less : x ≡ z → cmp x x ≡ Less
    itself_less e = ap (cmp x) e ∙ p.0 z among
  in_rest x y xs ys p same z among (inr later) = later

  pub same_rising : (xs ys : List X) → Rising cmp xs → Rising cmp ys → ((z : X) → Among z xs → Among z ys) → ((z : X) → Among z ys → Among z xs) → xs ≡ ys
  same_rising [] [] p q f g = refl
  same_rising [] (y ∷ ys) p q f g = absurd (g y (inl refl))
  same_rising (x ∷ xs) [] p q f g = absurd (f x (inl refl))
  same_rising (x ∷ xs) (y ∷ ys) p q f g =
      let first = same_first x y xs ys p q (f x (inl refl)) (g y (inl refl)) in
      same_cons first (same_rising xs ys p.1 q.1
      (λ z among. in_rest x y xs ys p first z among (f z (inr among)))
      (λ z among. in_rest y x ys xs q (sym first) z among (g z (inr among))))

pub rising_filter : {X : Type 0} (cmp : X → X → Ordering) (test : X → Bool) (xs : List X) → Rising cmp xs → Rising cmp (filter test xs)
rising_filter cmp test [] h = tt
rising_filter {X} cmp test (x ∷ xs) h = go (test x) (rising_filter cmp test xs h.1) where
  go : (b : Bool) → Rising cmp (filter test xs) → Rising cmp (cond b (x ∷ filter test xs) (filter test xs))
  go true r = ((λ y among. h.0 y (of_filter test xs y among).0), r)
  go false r = r

-- ---- numbers

module _ (db : Database) where
  abbrev is_for : Table → Descriptor → Bool
  is_for t d = bytes_eq d.table t.definition.name

  abbrev is_policy_for : Table → Policy → Bool
  is_policy_for t p = bytes_eq p.table t.definition.name

  -- the table with this number
  abbrev pub definition_at : ℕ → Table → TableDefinition
  definition_at n t = record { id = n; definition = t.definition; descriptors = filter (is_for t) db.descriptors; policies = filter (is_policy_for t) db.policies }

  -- the tables, numbered from n on
  abbrev pub numbered_from : ℕ → List Table → List TableDefinition
  numbered_from n [] = []
  numbered_from n (t ∷ ts) = definition_at n t ∷ numbered_from (suc n) ts

  pub record IsFrom (n : ℕ) (ts : List Table) (t : TableDefinition) : Type 0 where
    pub number : ℕ
    pub table : Table
    pub among : Among table ts
    pub is : definition_at number table ≡ t
    pub from : n ≤ number
    pub below : number < n + length ts

  pub of_numbered : (n : ℕ) (ts : List Table) (t : TableDefinition) → Among t (numbered_from n ts) → IsFrom n ts t
  of_numbered n [] t h = absurd h
  of_numbered n (u ∷ ts) t (inl is) = record { number = n; table = u; among = inl refl; is = is; from = omega arith; below = omega arith }
  of_numbered n (u ∷ ts) t (inr later) =
      let found = of_numbered (suc n) ts t later in
      let from = found.from in
      let below = found.below in
      record { number = found.number; table = found.table; among = inr found.among; is = found.is; from = omega (arith, from); below = omega (arith, below) }

  into_numbered : (n : ℕ) (ts : List Table) (u : Table) → Among u ts → (i : ℕ) × Among (definition_at i u) (numbered_from n ts)
  into_numbered n [] u h = absurd h
  into_numbered n (t ∷ ts) u (inl is) = (n, inl (ap (definition_at n) is))
  into_numbered n (t ∷ ts) u (inr later) = let found = into_numbered (suc n) ts u later in (found.0, inr found.1)

  said_numbered : (n : ℕ) (ts : List Table) → said_of ts ≡ said_of (map (λ (t : TableDefinition). table_with t []) (numbered_from n ts))
  said_numbered n [] = refl
  said_numbered n (t ∷ ts) = ap (λ (zs : List TableOf). t.definition ∷ zs) (said_numbered (suc n) ts)

  tables_back : (n : ℕ) (ts : List Table) → ts ≡ tables_with (numbered_from n ts) (map (λ (t : Table). t.rows) ts)
  tables_back n [] = refl
  tables_back n (t ∷ ts) = ap (λ (zs : List Table). t ∷ zs) (tables_back (suc n) ts)

  as_many_numbered : (n : ℕ) (ts : List Table) → length (numbered_from n ts) ≡ length ts
  as_many_numbered n [] = refl
  as_many_numbered n (t ∷ ts) = ap suc (as_many_numbered (suc n) ts)

  numbered_rise : (n : ℕ) (ts : List Table) → Rising table_cmp ts → Rising definition_cmp (numbered_from n ts)
  numbered_rise n [] h = tt
  numbered_rise n (t ∷ ts) h = (before, numbered_rise (suc n) ts h.1) where
    before : (u : TableDefinition) → Among u (numbered_from (suc n) ts) → definition_cmp (definition_at n t) u ≡ Less
    before u among =
        let found = of_numbered (suc n) ts u among in
        ap (definition_cmp (definition_at n t)) (sym found.is) ∙ h.0 found.table found.among

  ids_from : (n : ℕ) (ts : List Table) (i : ℕ) → Among i (ids_of (numbered_from n ts)) → n ≤ i
  ids_from n ts i h =
      let t = of_map (λ (u : TableDefinition). u.id) (numbered_from n ts) i h in
      let found = of_numbered n ts t.0 t.1 in
      let is : found.number ≡ i = ap (λ (u : TableDefinition). u.id) found.is ∙ t.2 in
      let from = found.from in
      omega (arith, is, from)

  own_ids : (n : ℕ) (ts : List Table) → IsTrue (all_differ nat_eq (ids_of (numbered_from n ts)))
  own_ids n [] = refl
  own_ids n (t ∷ ts) = and_from (not (list_any (nat_eq n) later)) (all_differ nat_eq later) (not_from_false (list_any (nat_eq n) later) (false_from_ne_true (list_any (nat_eq n) later) clash)) (own_ids (suc n) ts) where
    later : List ℕ
    later = ids_of (numbered_from (suc n) ts)

    clash : list_any (nat_eq n) later ≡ true → ⊥
    clash h =
        let found = any_found (nat_eq n) later h in
        let above : suc n ≤ found.0 = ids_from (suc n) ts found.0 found.1 in
        let same : n ≡ found.0 = eqb-true n found.0 found.2 in
        omega (arith, above, same)

-- ---- whole databases

abbrev pub definitions_of : Database → Definitions
definitions_of db = record { roles = db.roles; memberships = db.memberships; tables = numbered_from db 1 db.tables }

abbrev pub rows_of : Database → List (List Row)
rows_of db = map (λ (t : Table). t.rows) db.tables

module _ (db : Database) (w : IsWhole db) where
  abbrev ts : List TableDefinition
  ts = numbered_from db 1 db.tables

  rise : Rising definition_cmp ts
  rise = numbered_rise db 1 db.tables w.definitions.order.tables

  own_descriptors : Each (λ (t : TableDefinition). Each (λ (d : Descriptor). d.table ≡ t.definition.name) t.descriptors) ts
  own_descriptors t among = let found = of_numbered db 1 db.tables t among in subst (λ (u : TableDefinition). Each (λ (d : Descriptor). d.table ≡ u.definition.name) u.descriptors) found.is
      (λ d of. bytes_same d.table found.table.definition.name (of_filter (is_for db found.table) db.descriptors d of).1)

  own_policies : Each (λ (t : TableDefinition). Each (λ (p : Policy). p.table ≡ t.definition.name) t.policies) ts
  own_policies t among = let found = of_numbered db 1 db.tables t among in subst (λ (u : TableDefinition). Each (λ (p : Policy). p.table ≡ u.definition.name) u.policies) found.is
      (λ p of. bytes_same p.table found.table.definition.name (of_filter (is_policy_for db found.table) db.policies p of).1)

  rising_descriptors : Each (λ (t : TableDefinition). Rising descriptor_cmp t.descriptors) ts
  rising_descriptors t among = let found = of_numbered db 1 db.tables t among in subst (λ (u : TableDefinition). Rising descriptor_cmp u.descriptors) found.is
      (rising_filter descriptor_cmp (is_for db found.table) db.descriptors w.definitions.order.descriptors)

  rising_policies : Each (λ (t : TableDefinition). Rising policy_cmp t.policies) ts
  rising_policies t among = let found = of_numbered db 1 db.tables t among in subst (λ (u : TableDefinition). Rising policy_cmp u.policies) found.is
      (rising_filter policy_cmp (is_policy_for db found.table) db.policies w.definitions.order.policies)

  descriptor_back : (d : Descriptor) → Among d (descriptors_of ts) → Among d db.descriptors
  descriptor_back d h =
      let t = of_flat_map (λ (t : TableDefinition). t.descriptors) ts d h in
      let found = of_numbered db 1 db.tables t.0 t.1 in
      (of_filter (is_for db found.table) db.descriptors d (subst (λ (u : TableDefinition). Among d u.descriptors) (sym found.is) t.2)).0

  descriptor_there : (d : Descriptor) → Among d db.descriptors → Among d (descriptors_of ts)
  descriptor_there d h =
      let t = w.definitions.descriptors.for_tables d h in
      let found = into_numbered db 1 db.tables t.0 t.1 in
      into_flat_map (λ (u : TableDefinition). u.descriptors) ts (definition_at db found.0 t.0) d found.1
      (into_filter (is_for db t.0) db.descriptors d h (same_bytes d.table t.0.definition.name t.2.table))

  policy_back : (p : Policy) → Among p (policies_of ts) → Among p db.policies
  policy_back p h =
      let t = of_flat_map (λ (t : TableDefinition). t.policies) ts p h in
      let found = of_numbered db 1 db.tables t.0 t.1 in
      (of_filter (is_policy_for db found.table) db.policies p (subst (λ (u : TableDefinition). Among p u.policies) (sym found.is) t.2)).0

  policy_there : (p : Policy) → Among p db.policies → Among p (policies_of ts)
  policy_there p h =
      let t = w.definitions.policies.of_tables p h in
      let found = into_numbered db 1 db.tables t.0 t.1 in
      into_flat_map (λ (u : TableDefinition). u.policies) ts (definition_at db found.0 t.0) p found.1
      (into_filter (is_policy_for db t.0) db.policies p h (same_bytes p.table t.0.definition.name t.2.table))

  same_descriptors : db.descriptors ≡ descriptors_of ts
  same_descriptors = same_rising descriptor_cmp (asymmetric descriptor_cmp descriptor_turns) db.descriptors (descriptors_of ts) w.definitions.order.descriptors
      (joined_descriptors ts rise own_descriptors rising_descriptors) descriptor_there descriptor_back

  same_policies : db.policies ≡ policies_of ts
  same_policies = same_rising policy_cmp (asymmetric policy_cmp policy_turns) db.policies (policies_of ts) w.definitions.order.policies
      (joined_policies ts rise own_policies rising_policies) policy_there policy_back

  abbrev with_lists : List Table → List Descriptor → List Policy → Database
  with_lists us ds ps = record { roles = db.roles; memberships = db.memberships; tables = us; descriptors = ds; policies = ps }

  same_lists : {us vs : List Table} {ds es : List Descriptor} {ps qs : List Policy} → us ≡ vs → ds ≡ es → ps ≡ qs → with_lists us ds ps ≡ with_lists vs es qs
  same_lists p q r = cc

  is_with : db ≡ database_with (definitions_of db) (rows_of db)
  is_with = same_lists (tables_back db 1 db.tables) same_descriptors same_policies

  whole_definitions : HasWholeDefinitions (database_of (definitions_of db))
  whole_definitions = subst HasWholeDefinitions (same_lists refl same_descriptors same_policies)
      (whole_again db (map (λ (t : TableDefinition). table_with t []) ts) (said_numbered db 1 db.tables) w.definitions)

  numbered_tables_are : Each IsNumbered ts
  numbered_tables_are t among =
      let found = of_numbered db 1 db.tables t among in
      let few = w.definitions.tables.few in
      let from = found.from in
      let below = found.below in
      let is : found.number ≡ t.id = ap (λ (u : TableDefinition). u.id) found.is in
      record { least = omega (arith, from, is); most = omega (arith, below, few, is); descriptors = own_descriptors t among; policies = own_policies t among }

  pub described : Each IsAsWritten (clauses_of db) → Describes (definitions_of db) db
  described written = record {
    valid = record {
      whole = whole_definitions;
      tables = numbered_tables_are;
      ids = own_ids db 1 db.tables;
      conditions = subst (λ (ps : List Policy). Each IsAsWritten (flat_map (λ (p : Policy). option_to_list p.using ++ option_to_list p.check) ps)) same_policies written;
    };
    rows = rows_of db;
    each_table = length-map db.tables (λ (t : Table). t.rows) ∙ sym (as_many_numbered db 1 db.tables);
    is = is_with;
    whole_rows = w.rows;
  }
