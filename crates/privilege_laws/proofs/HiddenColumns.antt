-- A SELECT over two databases that differ in hidden columns.
use Rattle.std.proofs.Common.{◌≡◌, ◌+◌, ◌<◌, ℕ, zero, suc, arith, nat_eq, Bool, true, false, cond, map, filter, flat_map, length, List, [], ◌∷◌, ◌++◌, slice_get, Option, Some, None, Result, Ok, Err, refl, sym, ap, ◌∙◌, subst, inl, inr}
use Rattle.std.specs.List.{list_all, range_with_len}
use Rattle.std.proofs.lemmas.Bool.{and_parts, and_from, eq-eqb}
use Rattle.sql_types.specs.Row.{Row}
use Rattle.sql_types.specs.declared.state.SqlState.{SqlState}
use Rattle.sql_types.specs.declared.value.Value.{Value}
use Rattle.sql_types.specs.declared.value.Value.TheVariants.{Null}
use Rattle.sql_types.specs.declared.answer.Answer.TheVariants as answer
use Rattle.sql_ast.specs.declared.privilege.Action.{Action}
use Rattle.sql_ast.specs.declared.privilege.Action.TheVariants as action
use Rattle.sql_ast.specs.declared.scope.ColumnIndex.{ColumnIndex}
use Rattle.sql_ast.specs.declared.statement.TableReference.{TableReference}
use Rattle.sql_ast.specs.declared.statement.Select.{Select}
use Rattle.sql_ast.specs.Term.{Term}
use Rattle.expressions.specs.Meaning.{UserNames}
use Rattle.expressions.specs.Stages.{◌>>=◌}
use Rattle.abstract_database.specs.Lists.{TheName, Among}
use Rattle.abstract_database.specs.Database.{TableOf, Database, definition_named, rows_named}
use Rattle.abstract_database.specs.Expressions.{columns_in}
use Rattle.abstract_database.specs.Privileges.{on_column, has_privilege}
use Rattle.abstract_database.specs.Guards.{using_clause, existing_guard}
use Rattle.abstract_database.specs.Needs.{privilege, on_columns_or_one, columns_read, terms_of_list, terms_of_query, columns_of_query, needs_of_tables}
use Rattle.abstract_database.specs.Checks.{has_needed, find_definition, checked_select}
use Rattle.abstract_database.specs.Queries.{BoundList, each_column, each_value, their_count, BoundKey, BoundQuery, Combination, tables_in, Source, query, CheckedSelect}
use Rattle.abstract_database.specs.Statements.{effect, source_of, selected, select, as_seen}
use Rattle.abstract_database.proofs.CheckLemmas.{select_checked}
use Rattle.abstract_database.proofs.ElementLemmas.{among_at, into_filter}
use Rattle.abstract_database.proofs.ResultLemmas.{each_from}
use Rattle.database_laws.proofs.WholeLists.{into_flat_map, into_left, into_right, each_passes}
use Rattle.database_laws.proofs.WholePrivileges.{in_map}
use Rattle.database_laws.proofs.WorldLemmas.{checked_alone, named_by_itself}
use Rattle.privilege_laws.specs.HiddenColumns.{null_where, masked, AreHiddenFrom, SameButHidden, EndButHidden, hidden_columns_tell_no_select}
use Rattle.privilege_laws.proofs.Masks.{Leaves, all_left, masked_in, masks, Shows, IsClean, PoliciesShow, guard_so}
use Rattle.privilege_laws.proofs.MaskedSelect.{ListClean, QueryClean, mask_source, mask_sources, GuardsShow, query_masked}

clash : true ≡ false → ⊥
clash e = cc

all_parts : {X : Type 0} (f : X → Bool) (xs ys : List X) → list_all f (xs ++ ys) ≡ true → (list_all f xs ≡ true) × (list_all f ys ≡ true)
all_parts f [] ys e = (refl, e)
all_parts f (x ∷ xs) ys e =
    let parts = and_parts (f x) (list_all f (xs ++ ys)) e in
    let rest = all_parts f xs ys parts.1 in
    (and_from (f x) (list_all f xs) parts.0 rest.0, rest.1)

in_range : (start count index m : ℕ) → start + index ≡ m → index < count → Among m (range_with_len start count)
in_range start zero index m e less = let never : ⊥ = omega (arith, less) in absurd never
in_range start (suc count) zero m e less = inl (omega (arith, e))
in_range start (suc count) (suc index) m e less = inr (in_range (start + 1) count index m (omega (arith, e)) (omega (arith, less)))

one_need : (name : TheName) (a : Action) (columns : List ℕ) (index : ℕ) → Among index columns → Among (privilege name (on_column a index)) (on_columns_or_one name a columns)
one_need name a [] index h = absurd h
one_need name a (c ∷ cs) index h = in_map (λ (column : ℕ). privilege name (on_column a column)) (c ∷ cs) index h

module _ (hidden : TheName → ℕ → Bool) (d e : Database) (users : UserNames) (shut : AreHiddenFrom hidden d users.current) (same : SameButHidden hidden d e) where
  abbrev change : TheName → ℕ → Value → Value
  change name = null_where (hidden name)

  shown_if : (t : TableOf) (index : ℕ) → hidden t.name index ≡ false → Shows change t index
  shown_if t index is v = ap (λ (b : Bool). cond b Null v) is

  by_hidden : (t : TableOf) (index : ℕ) → (hidden t.name index ≡ true → ⊥) → Shows change t index
  by_hidden t index never = at (hidden t.name index) refl where
    at : (b : Bool) → hidden t.name index ≡ b → Shows change t index
    at false is = shown_if t index is
    at true is = absurd (never is)

  -- a column that may be read is shown
  read_shown : (t : TableOf) → definition_named d t.name ≡ Some t → (index : ℕ) → has_privilege d users.current t.name (on_column action.Select index) ≡ true → Shows change t index
  read_shown t named index has = by_hidden t index (λ is. clash (sym has ∙ (shut t named index is).unread))

  policies_show : (t : TableOf) → definition_named d t.name ≡ Some t → PoliciesShow change using_clause d users.current t
  policies_show t named p clause name of one among c found = by_hidden t c.column (λ is. (shut t named c.column is).unnamed p clause name c of one among found refl)

  -- ---- what a SELECT reads

  module _ (q : BoundQuery) where
    needed_at : (ts : List TableOf) (number i m : ℕ) (t : TableOf) → number + i ≡ m → slice_get ts i ≡ Some t → list_all (has_needed d users) (needs_of_tables q number ts) ≡ true →
        list_all (has_needed d users) (on_columns_or_one t.name action.Select (columns_of_query q m t.layout)) ≡ true
    needed_at [] number i m t at is held = let never : ◌≡◌ {A = Option TableOf} None (Some t) = is in cc
    needed_at (u ∷ us) number zero m t at is held =
        let one : u ≡ t = same_table u t is in
        let n : number ≡ m = omega (arith, at) in
        subst (λ (x : TableOf). list_all (has_needed d users) (on_columns_or_one x.name action.Select (columns_of_query q m x.layout)) ≡ true) one
        (subst (λ (k : ℕ). list_all (has_needed d users) (on_columns_or_one u.name action.Select (columns_of_query q k u.layout)) ≡ true) n
        (all_parts (has_needed d users) (on_columns_or_one u.name action.Select (columns_of_query q number u.layout)) (needs_of_tables q (number + 1) us) held).0)
      where
        same_table : (x y : TableOf) → ◌≡◌ {A = Option TableOf} (Some x) (Some y) → x ≡ y
        same_table x y p = cc
    needed_at (u ∷ us) number (suc i) m t at is held =
        needed_at us (number + 1) i m t (omega (arith, at)) is (all_parts (has_needed d users) (on_columns_or_one u.name action.Select (columns_of_query q number u.layout)) (needs_of_tables q (number + 1) us) held).1

    module _ (ts : List TableOf) (named : (t : TableOf) → Among t ts → definition_named d t.name ≡ Some t) (held : list_all (has_needed d users) (needs_of_tables q 0 ts) ≡ true) where
      column_shown : (i : ℕ) (t : TableOf) → slice_get ts i ≡ Some t → (index : ℕ) → Among index (columns_of_query q i t.layout) → Shows change t index
      column_shown i t is index among =
          read_shown t (named t (among_at ts i t is)) index
          (each_passes (has_needed d users) (on_columns_or_one t.name action.Select (columns_of_query q i t.layout)) (needed_at ts 0 i i t (omega arith) is held)
          (privilege t.name (on_column action.Select index)) (one_need t.name action.Select (columns_of_query q i t.layout) index among))

      -- "*" reads each column
      all_shown_at : q.list ≡ each_column → (i : ℕ) (t : TableOf) → slice_get ts i ≡ Some t → (index : ℕ) → Shows change t index
      all_shown_at all i t is index = by_hidden t index (λ hides.
          let within = (shut t (named t (among_at ts i t is)) index hides).is_column in
          clash (sym (each_passes (has_needed d users) (on_columns_or_one t.name action.Select (columns_of_query q i t.layout)) (needed_at ts 0 i i t (omega arith) is held)
          (privilege t.name (on_column action.Select index)) (one_need t.name action.Select (columns_of_query q i t.layout) index
          (subst (λ (l : BoundList). Among index (columns_of_query (record q { list = l }) i t.layout)) (sym all) (in_range 0 (length t.layout.columns) index index (omega arith) within))))
          ∙ (shut t (named t (among_at ts i t is)) index hides).unread))

      read_among : (c : ColumnIndex) (terms : List (Term ColumnIndex)) (e : Term ColumnIndex) → Among e terms → Among c (columns_in e) → Among c.column (columns_read c.table terms)
      read_among c terms e h k =
          in_map (λ (x : ColumnIndex). x.column) (filter (λ (x : ColumnIndex). nat_eq x.table c.table) (flat_map columns_in terms)) c
          (into_filter (λ (x : ColumnIndex). nat_eq x.table c.table) (flat_map columns_in terms) c (into_flat_map columns_in terms e c h k) (eq-eqb c.table c.table refl))

      term_clean : (l : BoundList) → q.list ≡ l → (e : Term ColumnIndex) → Among e (terms_of_query q) → IsClean change ts e
      term_clean each_column is e h c k t at = all_shown_at is c.table t at c.column
      term_clean (each_value es) is e h c k t at =
          column_shown c.table t at c.column (subst (λ (l : BoundList). Among e (terms_of_query (record q { list = l })) → Among c.column (columns_of_query (record q { list = l }) c.table t.layout)) (sym is)
          (λ among. read_among c (es ++ (q.conditions ++ map (λ key. key.term) q.keys)) e among k) h)
      term_clean their_count is e h c k t at =
          column_shown c.table t at c.column (subst (λ (l : BoundList). Among e (terms_of_query (record q { list = l })) → Among c.column (columns_of_query (record q { list = l }) c.table t.layout)) (sym is)
          (λ among. read_among c (q.conditions ++ map (λ key. key.term) q.keys) e among k) h)

      unchanged : (us : List TableOf) → ((i : ℕ) (t : TableOf) → slice_get us i ≡ Some t → (index : ℕ) → Shows change t index) → (c : Combination) → masks change us c ≡ c
      unchanged [] show c = refl
      unchanged (u ∷ us) show [] = refl
      unchanged (u ∷ us) show (row ∷ rows) =
          ap (λ (r : Row). r ∷ masks change us rows) (all_left (change u.name) 0 row (λ i. let at : i ≡ 0 + i = omega arith in subst (Leaves (change u.name)) at (show 0 u refl i)))
          ∙ ap (λ (l : Combination). row ∷ l) (unchanged us (λ i t is index. show (suc i) t is index) rows)

      query_clean : QueryClean change users ts q
      query_clean = record {
        list = list_clean q.list refl;
        conditions = λ e h. term_clean q.list refl e (into_right (terms_of_list q.list) (q.conditions ++ map (λ key. key.term) q.keys) e (into_left q.conditions (map (λ key. key.term) q.keys) e h));
        keys = λ k h. term_clean q.list refl k.term (into_right (terms_of_list q.list) (q.conditions ++ map (λ key. key.term) q.keys) k.term (into_right q.conditions (map (λ key. key.term) q.keys) k.term (in_map (λ (x : BoundKey). x.term) q.keys k h)));
      } where
        list_clean : (l : BoundList) → q.list ≡ l → ListClean change users ts l
        list_clean each_column is = λ c. unchanged ts (λ i t at index. all_shown_at is i t at index) c
        list_clean their_count is = tt
        list_clean (each_value es) is = λ e h. term_clean (each_value es) is e (subst (λ (l : BoundList). Among e (terms_of_query (record q { list = l }))) (sym is) (into_left es (q.conditions ++ map (λ key. key.term) q.keys) e h))

  guards_show : (ts : List TableOf) → ((t : TableOf) → Among t ts → definition_named d t.name ≡ Some t) → GuardsShow change ts (map (source_of d users) ts)
  guards_show [] named = tt
  guards_show (t ∷ ts) named = (λ row. guard_so change d users t using_clause (policies_show t (named t (inl refl))) action.Select row, guards_show ts (λ u h. named u (inr h)))

  masked_alike : (ts : List TableOf) → mask_sources change ts (map (source_of d users) ts) ≡ mask_sources change ts (map (source_of e users) ts)
  masked_alike [] = refl
  masked_alike (t ∷ ts) =
      ap (λ (x : Source). x ∷ mask_sources change ts (map (source_of d users) ts))
      (ap (λ (l : List Row). record { guard = existing_guard d users t action.Select true; rows = l }) (same.rows t.name)
      ∙ ap (λ (db : Database). record { guard = existing_guard db users t action.Select true; rows = map (masked (hidden t.name)) (rows_named e t.name) }) same.definitions)
      ∙ ap (λ (l : List Source). mask_source change t (source_of e users t) ∷ l) (masked_alike ts)

  guards_there : (ts : List TableOf) → ((t : TableOf) → Among t ts → definition_named d t.name ≡ Some t) → GuardsShow change ts (map (source_of e users) ts)
  guards_there [] named = tt
  guards_there (t ∷ ts) named = (
    λ row. subst (λ (db : Database). existing_guard db users t action.Select true (masked_in change t row) ≡ existing_guard db users t action.Select true row) same.definitions
        (guard_so change d users t using_clause (policies_show t (named t (inl refl))) action.Select row),
    guards_there ts (λ u h. named u (inr h)),
  )

  queried : (q : BoundQuery) (ts : List TableOf) → ((t : TableOf) → Among t ts → definition_named d t.name ≡ Some t) → list_all (has_needed d users) (needs_of_tables q 0 ts) ≡ true →
      query (map (source_of d users) ts) users q ≡ query (map (source_of e users) ts) users q
  queried q ts named held =
      let clean = query_clean q ts named held in
      sym (query_masked change users ts q (map (source_of d users) ts) clean (guards_show ts named))
      ∙ ap (λ (l : List Source). query l users q) (masked_alike ts)
      ∙ query_masked change users ts q (map (source_of e users) ts) clean (guards_there ts named)

  shown_in : (r : Result (List Row) SqlState) → EndButHidden hidden (r >>= λ rows. Ok (effect (answer.Rows rows) d)) (r >>= λ rows. Ok (effect (answer.Rows rows) e))
  shown_in (Ok rows) = (refl, same)
  shown_in (Err code) = refl

  select_at : (s : Select) (r : Result CheckedSelect SqlState) → checked_select d users s ≡ r → EndButHidden hidden (r >>= selected d users) (r >>= selected e users)
  select_at s (Err code) is = refl
  select_at s (Ok c) is =
      let facts = select_checked d users s c is in
      let named = λ (t : TableOf) (h : Among t c.tables). let from = each_from (λ (r : TableReference). find_definition d r.table) (tables_in s.source) c.tables facts.found t h in named_by_itself d from.0.table t from.2 in
      subst (λ (r : Result (List Row) SqlState). EndButHidden hidden (query (map (source_of d users) c.tables) users c.query >>= λ rows. Ok (effect (answer.Rows rows) d)) (r >>= λ rows. Ok (effect (answer.Rows rows) e)))
      (queried c.query c.tables named facts.allowed) (shown_in (query (map (source_of d users) c.tables) users c.query))

  pub select_ends : (s : Select) → EndButHidden hidden (select d users s) (select e users s)
  select_ends s =
      subst (λ (r : Result CheckedSelect SqlState). EndButHidden hidden (select d users s) (r >>= selected e users))
      (checked_alone d users s ∙ ap (λ (x : Database). checked_select x users s) same.definitions ∙ sym (checked_alone e users s))
      (select_at s (checked_select d users s) refl)

pub selects_told : hidden_columns_tell_no_select
selects_told hidden pair d e s shut same =
    subst (λ (u : UserNames). EndButHidden hidden (select d (as_seen pair d) s) (select e u s)) (ap (λ (db : Database). as_seen pair db) same.definitions)
    (select_ends hidden d e (as_seen pair d) shut same s)
