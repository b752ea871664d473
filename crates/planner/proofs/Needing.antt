-- The privileges that a database asks for are those that the rights of the role have.
use Rattle.std.proofs.Common.{◌≡◌, ℕ, zero, suc, ◌+◌, ◌<◌, ◌≤◌, nat_eq, nat_lt, Bool, true, false, cond, ◌&&◌, ◌||◌, List, [], ◌∷◌, ◌++◌, filter, find, length, option_to_list, bytes_eq, Option, None, Some, IfSome, Ok, refl, sym, ap, ◌∙◌, subst, inl, inr, eq-eqb, arith}
use Rattle.std.specs.List.{list_any, list_all, range_with_len}
use Rattle.std.proofs.lemmas.Bool.{ltb-false, eqb-true}
use Rattle.std.proofs.lemmas.List.Folds.{list_all-append}
use Rattle.sql_types.specs.Row.{Row}
use Rattle.sql_ast.specs.declared.privilege.Action.{Action}
use Rattle.sql_ast.specs.declared.privilege.Action.TheVariants as action
use Rattle.sql_ast.specs.declared.privilege.Descriptor.{Descriptor}
use Rattle.sql_ast.specs.declared.privilege.Grantee.{Grantee}
use Rattle.sql_ast.specs.declared.privilege.Grantee.TheVariants as grantee
use Rattle.sql_ast.specs.declared.privilege.Privilege.{Privilege}
use Rattle.sql_ast.specs.declared.scope.ColumnIndex.{ColumnIndex}
use Rattle.sql_ast.specs.Term.{Term}
use Rattle.expressions.specs.Meaning.{UserNames}
use Rattle.abstract_database.specs.Lists.{TheName, Among}
use Rattle.abstract_database.specs.Database.{same_action}
use Rattle.abstract_database.specs.Needs.{Need, privilege, some_column, on_columns, on_columns_or_one, columns_read, columns_of_query, needs_of_tables}
use Rattle.abstract_database.specs.Privileges.{on_table, on_column, covers as covers_privilege, reaches, has_privilege, has_on_some_column}
use Rattle.abstract_database.specs.Queries.{BoundQuery}
use Rattle.abstract_database.specs.Roles.{is_superuser}
use Rattle.abstract_database.specs.Checks.{has_needed}
use Rattle.stored_database.specs.Definitions.{TableDefinition, Definitions, database_with, descriptors_of}
use Rattle.stored_database.specs.Valid.{AreValid}
use Rattle.stored_database.proofs.TableParts.{descriptors_found}
use Rattle.catalogue.specs.Grants.{bit_of}
use Rattle.catalogue.specs.Lookups.{is_definition_named}
use Rattle.planner.specs.declared.rights.Rights.{Rights}
use Rattle.planner.specs.Rights.{AreRightsOf, is_one, gives, has, covers_whole_or, meets, needs_of_write, needs_of_change}
use Rattle.planner.specs.Selected.{may_read_each}
use Rattle.planner.specs.Tables.{table_in, definitions_in}
use Rattle.planner.proofs.Checking.{found_inside, find_among}
use Rattle.planner.proofs.MaskBits.{any_either}
use Rattle.planner.proofs.Meeting.{found_in_range}

-- ---- lists

any_filtered : (test p q : Descriptor → Bool) → ((e : Descriptor) → p e ≡ (test e && q e)) → (es : List Descriptor) → list_any p es ≡ list_any q (filter test es)
any_filtered test p q h [] = refl
any_filtered test p q h (e ∷ es) = ap (λ b. b || list_any p es) (h e) ∙ ap (λ b. (test e && q e) || b) (any_filtered test p q h es) ∙ go (test e) where
  go : (b : Bool) → ((b && q e) || list_any q (filter test es)) ≡ list_any q (cond b (e ∷ filter test es) (filter test es))
  go true = refl
  go false = refl

any_same : (p q : Descriptor → Bool) → ((e : Descriptor) → p e ≡ q e) → (es : List Descriptor) → list_any p es ≡ list_any q es
any_same p q h [] = refl
any_same p q h (e ∷ es) = ap (λ b. b || list_any p es) (h e) ∙ ap (λ b. q e || b) (any_same p q h es)

any_none : {X : Type 0} (p : X → Bool) (xs : List X) → ((x : X) → Among x xs → p x ≡ false) → list_any p xs ≡ false
any_none p [] h = refl
any_none p (x ∷ xs) h = ap (λ b. b || list_any p xs) (h x (inl refl)) ∙ any_none p xs (λ y k. h y (inr k))

kept_among : (p : Descriptor → Bool) (es : List Descriptor) (e : Descriptor) → Among e (filter p es) → Among e es
kept_among p [] e h = h
kept_among p (x ∷ xs) e h = go (p x) (kept_among p xs e) h where
  go : (b : Bool) → (Among e (filter p xs) → Among e xs) → Among e (cond b (x ∷ filter p xs) (filter p xs)) → Among e (x ∷ xs)
  go true later (inl is) = inl is
  go true later (inr k) = inr (later k)
  go false later k = inr (later k)

differs : (m n : ℕ) → (m ≡ n → ⊥) → nat_eq m n ≡ false
differs m n h = go (nat_eq m n) refl where
  go : (b : Bool) → nat_eq m n ≡ b → b ≡ false
  go true e = absurd (h (eqb-true m n e))
  go false e = refl

next_alike : (i c : ℕ) → nat_eq (i + 1) (c + 1) ≡ nat_eq i c
next_alike i c = go (nat_eq i c) refl where
  go : (b : Bool) → nat_eq i c ≡ b → nat_eq (i + 1) (c + 1) ≡ b
  go true e = eq-eqb (i + 1) (c + 1) (ap (λ n. n + 1) (eqb-true i c e))
  go false e = differs (i + 1) (c + 1) (λ h. let same : i ≡ c = omega (arith, h) in let contrary : false ≡ true = sym e ∙ eq-eqb i c same in cc)

-- ---- what covers what, by bits

in_order : (a b c d : Bool) → ((a && b && c) && d) ≡ (a && (b && c && d))
in_order true true true d = refl
in_order true true false d = refl
in_order true false c d = refl
in_order false b c d = refl

grouped : (a b d : Bool) → (a && b && d) ≡ (a && (b && d))
grouped true b d = refl
grouped false b d = refl

by_whole : (column : Option ℕ) → covers_privilege column None ≡ nat_eq (bit_of column) 0
by_whole None = refl
by_whole (Some i) = sym (differs (i + 1) 0 (λ e. omega (arith, e)))

by_column : (column : Option ℕ) (c : ℕ) → covers_privilege column (Some c) ≡ (nat_eq (bit_of column) 0 || nat_eq (bit_of column) (c + 1))
by_column None c = refl
by_column (Some i) c = sym (ap (λ b. b || nat_eq (i + 1) (c + 1)) (differs (i + 1) 0 (λ e. omega (arith, e))) ∙ next_alike i c)

spread : (a x y g : Bool) → (a && (x || y) && g) ≡ ((a && x && g) || (a && y && g))
spread false x y g = refl
spread true false y g = refl
spread true true true true = refl
spread true true true false = refl
spread true true false true = refl
spread true true false false = refl

module _ (r : Rights) (a : Action) where
  -- one of the bits is the descriptor's
  alone : (e : Descriptor) → bit_of e.column < 32 → (same_action e.action a && is_one r.roles e.grantee) ≡ list_any (λ n. gives r a n e) (range_with_len 0 32)
  alone e few = go (same_action e.action a) (is_one r.roles e.grantee) where
    never : (p : ℕ → Bool) → ((n : ℕ) → p n ≡ false) → (from count : ℕ) → list_any p (range_with_len from count) ≡ false
    never p h from zero = refl
    never p h from (suc count) = ap (λ b. b || list_any p (range_with_len (from + 1) count)) (h from) ∙ never p h (from + 1) count

    nothing : (b : Bool) → (b && false) ≡ false
    nothing true = refl
    nothing false = refl

    go : (x y : Bool) → (x && y) ≡ list_any (λ n. x && nat_eq (bit_of e.column) n && y) (range_with_len 0 32)
    go false y = sym (never (λ n. false && nat_eq (bit_of e.column) n && y) (λ n. refl) 0 32)
    go true false = sym (never (λ n. true && nat_eq (bit_of e.column) n && false) (λ n. nothing (nat_eq (bit_of e.column) n)) 0 32)
    go true true = sym (found_in_range (λ n. true && nat_eq (bit_of e.column) n && true) 0 32 (bit_of e.column) few (let same : 0 + bit_of e.column ≡ bit_of e.column = omega arith in ap (λ n. true && nat_eq (bit_of e.column) n && true) same ∙ truly (nat_eq (bit_of e.column) (bit_of e.column)) (eq-eqb (bit_of e.column) (bit_of e.column) refl))) where
      truly : (b : Bool) → b ≡ true → (true && b && true) ≡ true
      truly true h = refl
      truly false h = h

  one_of_bits : (b : Bool) (es : List Descriptor) → ((e : Descriptor) → Among e es → bit_of e.column < 32) →
      (b || list_any (λ e. same_action e.action a && is_one r.roles e.grantee) es) ≡ list_any (λ n. b || list_any (gives r a n) es) (range_with_len 0 32)
  one_of_bits true es few = sym (found_in_range (λ n. true || list_any (gives r a n) es) 0 32 0 (omega arith) refl)
  one_of_bits false [] few = refl
  one_of_bits false (e ∷ es) few =
      ap (λ b. b || list_any (λ e. same_action e.action a && is_one r.roles e.grantee) es) (alone e (few e (inl refl)))
      ∙ ap (λ b. list_any (λ n. gives r a n e) (range_with_len 0 32) || b) (one_of_bits false es (λ x k. few x (inr k)))
      ∙ sym (any_either (λ n. gives r a n e) (λ n. list_any (gives r a n) es) (range_with_len 0 32))

with_own : (s f g few : Bool) → (few ≡ false → g ≡ false) → (s || (f || g)) ≡ ((s || f) || (few && (s || g)))
with_own true f g few h = refl
with_own false true g few h = refl
with_own false false g true h = refl
with_own false false g false h = h refl

-- ---- needs

module _ (d : Definitions) (role : TheName) (r : Rights) (rights : AreRightsOf d role r) (rows : List (List Row)) (users : UserNames) (v : AreValid d) (is : users.current ≡ role) where
  reached : (g : Grantee) → reaches d.memberships role g ≡ is_one r.roles g
  reached grantee.Public = refl
  reached (grantee.Role name) = sym (rights.roles name)

  module _ (t : TableDefinition) (found : table_in d t.definition.name ≡ Ok t) where
    abbrev name : TheName
    name = t.definition.name

    of_table : filter (λ (e : Descriptor). bytes_eq e.table name) (descriptors_of d.tables) ≡ t.descriptors
    of_table = descriptors_found d v t (find_among (is_definition_named name) d.tables t (found_inside (find (is_definition_named name) d.tables) t found))

    -- each descriptor has one of the bits
    few_bits : (e : Descriptor) → Among e t.descriptors → bit_of e.column < 32
    few_bits e among =
        let stored = kept_among (λ (x : Descriptor). bytes_eq x.table name) (descriptors_of d.tables) e (subst (λ l. Among e l) (sym of_table) among) in
        let of = v.whole.descriptors.for_tables e stored in
        let layout = (v.whole.tables.tables of.0 of.1).layout in
        below e.column (length of.0.definition.layout.columns) of.2.column layout.few_columns where
          below : (column : Option ℕ) (n : ℕ) → IfSome column (λ index. index < n) → n ≤ 16 → bit_of column < 32
          below None n h few = omega arith
          below (Some i) n h few = omega (arith, h, few)

    -- what descriptors of all tables give is what those of this one give
    by_table : (p q : Descriptor → Bool) → ((e : Descriptor) → p e ≡ (bytes_eq e.table name && q e)) → (is_superuser (database_with d rows) role || list_any p (descriptors_of d.tables)) ≡ (r.is_superuser || list_any q t.descriptors)
    by_table p q h =
        ap (λ b. b || list_any p (descriptors_of d.tables)) (sym rights.superuser)
        ∙ ap (λ b. r.is_superuser || b) (any_filtered (λ e. bytes_eq e.table name) p q h (descriptors_of d.tables) ∙ ap (list_any q) of_table)

    by_bits : (a : Action) (column : Option ℕ) → (r.is_superuser || list_any (λ e. same_action e.action a && covers_privilege e.column column && is_one r.roles e.grantee) t.descriptors) ≡ covers_whole_or (has r a t) column
    by_bits a None = ap (λ b. r.is_superuser || b) (any_same (λ e. same_action e.action a && covers_privilege e.column None && is_one r.roles e.grantee) (gives r a 0)
        (λ e. ap (λ b. same_action e.action a && b && is_one r.roles e.grantee) (by_whole e.column)) t.descriptors)
    by_bits a (Some c) =
        ap (λ b. r.is_superuser || b) (any_same (λ e. same_action e.action a && covers_privilege e.column (Some c) && is_one r.roles e.grantee) (λ e. gives r a 0 e || gives r a (c + 1) e)
        (λ e. ap (λ b. same_action e.action a && b && is_one r.roles e.grantee) (by_column e.column c) ∙ spread (same_action e.action a) (nat_eq (bit_of e.column) 0) (nat_eq (bit_of e.column) (c + 1)) (is_one r.roles e.grantee)) t.descriptors
        ∙ any_either (gives r a 0) (gives r a (c + 1)) t.descriptors)
        ∙ with_own r.is_superuser (list_any (gives r a 0) t.descriptors) (list_any (gives r a (c + 1)) t.descriptors) (nat_lt c 31) past where
          never : (x y : Bool) → (x && false && y) ≡ false
          never true y = refl
          never false y = refl

          past : nat_lt c 31 ≡ false → list_any (gives r a (c + 1)) t.descriptors ≡ false
          past e = let many = ltb-false c 31 e in
              any_none (gives r a (c + 1)) t.descriptors (λ x among.
              let few = few_bits x among in
              ap (λ b. same_action x.action a && b && is_one r.roles x.grantee) (differs (bit_of x.column) (c + 1) (λ h. omega (arith, few, many, h))) ∙ never (same_action x.action a) (is_one r.roles x.grantee))

    privilege_alike : (p : Privilege) → has_needed (database_with d rows) users (privilege name p) ≡ meets r t (privilege name p)
    privilege_alike p =
        ap (λ u. has_privilege (database_with d rows) u name p) is
        ∙ by_table (λ e. (bytes_eq e.table name && same_action e.action p.action && covers_privilege e.column p.column) && reaches d.memberships role e.grantee)
        (λ e. same_action e.action p.action && covers_privilege e.column p.column && is_one r.roles e.grantee)
        (λ e. in_order (bytes_eq e.table name) (same_action e.action p.action) (covers_privilege e.column p.column) (reaches d.memberships role e.grantee)
        ∙ ap (λ g. bytes_eq e.table name && (same_action e.action p.action && covers_privilege e.column p.column && g)) (reached e.grantee))
        ∙ by_bits p.action p.column

    some_alike : (a : Action) → has_needed (database_with d rows) users (some_column name a) ≡ meets r t (some_column name a)
    some_alike a =
        ap (λ u. has_on_some_column (database_with d rows) u name a) is
        ∙ by_table (λ e. bytes_eq e.table name && same_action e.action a && reaches d.memberships role e.grantee) (λ e. same_action e.action a && is_one r.roles e.grantee)
        (λ e. grouped (bytes_eq e.table name) (same_action e.action a) (reaches d.memberships role e.grantee)
        ∙ ap (λ g. bytes_eq e.table name && (same_action e.action a && g)) (reached e.grantee))
        ∙ one_of_bits r a r.is_superuser t.descriptors few_bits

    abbrev asked : List Need → Bool
    asked needs = list_all (has_needed (database_with d rows) users) needs

    columns_alike : (a : Action) (cs : List ℕ) → asked (on_columns name a cs) ≡ list_all (meets r t) (on_columns name a cs)
    columns_alike a [] = refl
    columns_alike a (c ∷ cs) = ap (λ b. b && asked (on_columns name a cs)) (privilege_alike (on_column a c)) ∙ ap (λ b. meets r t (privilege name (on_column a c)) && b) (columns_alike a cs)

    pub columns_or_one_alike : (a : Action) (cs : List ℕ) → asked (on_columns_or_one name a cs) ≡ list_all (meets r t) (on_columns_or_one name a cs)
    columns_or_one_alike a [] = ap (λ b. b && true) (some_alike a)
    columns_or_one_alike a (c ∷ cs) = columns_alike a (c ∷ cs)

    write_alike : (a : Action) (cs : List ℕ) → asked (needs_of_write a name cs) ≡ list_all (meets r t) (needs_of_write a name cs)
    write_alike action.Select cs = columns_or_one_alike action.Select cs
    write_alike action.Insert cs = columns_or_one_alike action.Insert cs
    write_alike action.Update cs = columns_or_one_alike action.Update cs
    write_alike action.Delete cs = ap (λ b. b && true) (privilege_alike (on_table action.Delete))

    pub change_alike : (a : Action) (cs : List ℕ) (values : List (Term ColumnIndex)) (condition : Option (Term ColumnIndex)) →
        asked (needs_of_change a t.definition cs values condition) ≡ list_all (meets r t) (needs_of_change a t.definition cs values condition)
    change_alike a cs values condition =
        let written = needs_of_write a name cs in
        let read = on_columns name action.Select (columns_read 0 (values ++ option_to_list condition)) in
        list_all-append (has_needed (database_with d rows) users) written read
        ∙ ap (λ b. b && asked read) (write_alike a cs)
        ∙ ap (λ b. list_all (meets r t) written && b) (columns_alike action.Select (columns_read 0 (values ++ option_to_list condition)))
        ∙ sym (list_all-append (meets r t) written read)

  -- what a query reads of its tables
  pub query_alike : (q : BoundQuery) (number : ℕ) (ts : List TableDefinition) → ((t : TableDefinition) → Among t ts → table_in d t.definition.name ≡ Ok t) →
      list_all (has_needed (database_with d rows) users) (needs_of_tables q number (definitions_in ts)) ≡ may_read_each r q number ts
  query_alike q number [] own = refl
  query_alike q number (t ∷ ts) own =
      let those = on_columns_or_one t.definition.name action.Select (columns_of_query q number t.definition.layout) in
      let more = needs_of_tables q (number + 1) (definitions_in ts) in
      list_all-append (has_needed (database_with d rows) users) those more
      ∙ ap (λ b. b && list_all (has_needed (database_with d rows) users) more) (columns_or_one_alike t (own t (inl refl)) action.Select (columns_of_query q number t.definition.layout))
      ∙ ap (λ b. list_all (meets r t) those && b) (query_alike q (number + 1) ts (λ u k. own u (inr k)))
