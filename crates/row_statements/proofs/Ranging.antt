-- The ranges among which the rows of tables are looked for, and that nothing is lost by them.
use Rattle.std.proofs.Common.{◌≡◌, ℕ, ◌+◌, ◌<◌, List, [], ◌∷◌, ◌++◌, map, length, take, get_or, option_to_list, Option, Some, None, Bor, refl, ap, sym, ◌∙◌, subst, append_assoc, arith}
use Rattle.std.specs.Option.{option_copied}
use Rattle.std.proofs.lemmas.List.{map-append, take_more, length-take-le}
use Rattle.sql_types.specs.Row.{Row}
use Rattle.sql_ast.specs.Layout.{Layout}
use Rattle.sql_ast.specs.Fits.{FitsTable}
use Rattle.sql_ast.specs.Term.{Term}
use Rattle.sql_ast.specs.declared.scope.ColumnIndex.{ColumnIndex}
use Rattle.store.specs.Records.{Records, IsOrdered}
use Rattle.expressions.specs.Meaning.{UserNames}
use Rattle.expressions.specs.Types.{TypedTerm}
use Rattle.abstract_database.specs.Queries.{BoundQuery, Source as QuerySource, query}
use Rattle.abstract_database.specs.Guards.{Guard}
use Rattle.abstract_database.specs.Whole.{Each}
use Rattle.guards.specs.Guards.{row_guard}
use Rattle.guards.specs.declared.guard.Guard.{Guard as Formulas}
use Rattle.key_ranges.specs.declared.range.KeyRange.{KeyRange}
use Rattle.key_ranges.specs.LeftOut.{MayBeLeftOut, MayBeLeftUnchanged, OutsideMayBeLeftOut}
use Rattle.key_ranges.specs.Ranges.{is_inside}
use Rattle.key_ranges.specs.TableRanges.{terms_of}
use Rattle.key_ranges.proofs.LeftOut.{left_out_loses_nothing}
use Rattle.planner.specs.declared.sources.Source.{Source}
use Rattle.planner.specs.Fitting.{AreRowsOf}
use Rattle.table_rows.specs.declared.target.Target.{Target}
use Rattle.table_rows.specs.HeldRows.{HoldsRows}
use Rattle.table_rows.specs.Targets.{users_of, sees, condition_in}
use Rattle.table_rows.specs.Ranged.{rows_found, rows_of, IsOfTable, HasAllChosen, LosesNothing}
use Rattle.table_rows.proofs.Ranging.{finds, fit_found}
use Rattle.executor.specs.Selected.{sources_of, source_of, FindRowsOfEach}
use Rattle.row_statements.specs.declared.ranges.RangedSource.{RangedSource}
use Rattle.row_statements.specs.Ranges.{range_among, ranges_among, IsRangeWhere, IsRangeAmong, AreRanged}
use Rattle.row_statements.specs.Targeted.{IsTargetOf, AreTargetsOf}

-- ---- UPDATE and DELETE

-- a row that a SELECT of the table alone may leave out, an UPDATE or a DELETE may leave unchanged
unchanged : (users : UserNames) (guard : Guard) (condition : Option (Bor TypedTerm)) (row : Row) → MayBeLeftOut 0 users guard (terms_of (option_to_list (option_copied condition))) row → MayBeLeftUnchanged users guard (condition_in condition) row
unchanged users guard None row left = record { value = left.value; guarded = left.guarded; not_chosen = λ h. left.not_chosen h [] [] refl }
unchanged users guard (Some c) row left = record { value = left.value; guarded = left.guarded; not_chosen = λ h. left.not_chosen h [] [] refl }

module _ (users : UserNames) (s : Source) where
  where_of_table : (condition : Option (Bor TypedTerm)) (lent : Option (Bor KeyRange)) → IsRangeWhere users s condition (option_copied lent) → IsOfTable s.table.now.id lent
  where_of_table condition None h = tt
  where_of_table condition (Some range) h = h.of_table

  where_chosen : (condition : Option (Bor TypedTerm)) (lent : Option (Bor KeyRange)) → IsRangeWhere users s condition (option_copied lent)
      → HasAllChosen s.table.now.id s.table.now.definition.layout users (row_guard users s.guard.existing) condition lent
  where_chosen condition None h = tt
  where_chosen condition (Some range) h = λ row fits out. unchanged users (row_guard users s.guard.existing) condition row (h.leaves row fits out)

-- a range of WHERE loses nothing
pub loses_nothing : (users : UserNames) (s : Source) (target : Target) (condition : Option (Bor TypedTerm)) (range : Option KeyRange) → IsTargetOf users s target → option_copied target.range ≡ range → IsRangeWhere users s condition range
    → LosesNothing target condition
loses_nothing users s target condition range is lent safe =
    let here : IsRangeWhere users s condition (option_copied target.range) = subst (λ (r : Option KeyRange). IsRangeWhere users s condition r) (sym lent) safe in
    record {
      of_table = subst (λ (id : ℕ). IsOfTable id target.range) (sym is.id) (where_of_table users s condition target.range here);
      all_chosen =
          subst (λ (id : ℕ). HasAllChosen id target.columns.now (users_of target) (sees target) condition target.range) (sym is.id)
          (subst (λ (layout : Layout). HasAllChosen s.table.now.id layout (users_of target) (sees target) condition target.range) (sym is.layout)
          (subst (λ (u : UserNames). HasAllChosen s.table.now.id s.table.now.definition.layout u (row_guard u target.guard.now.existing) condition target.range) (sym is.who)
          (subst (λ (g : Formulas). HasAllChosen s.table.now.id s.table.now.definition.layout users (row_guard users g.existing) condition target.range) (sym is.guard) (where_chosen users s condition target.range here))));
    }

-- ---- the tables of a SELECT

-- the records hold these rows of each table
abbrev pub HoldTables : Records → List Target → List (List Row) → Type 0
HoldTables records [] [] = Unit {0}
HoldTables records [] (rows ∷ more) = ⊥
HoldTables records (t ∷ targets) [] = ⊥
HoldTables records (t ∷ targets) (rows ∷ more) = HoldsRows t.id t.columns.now records rows × HoldTables records targets more

-- of the rows of each table those that are found
abbrev pub all_found : List Target → List (List Row) → List (List Row)
all_found [] lists = []
all_found (t ∷ targets) [] = []
all_found (t ∷ targets) (rows ∷ more) = rows_of t rows ∷ all_found targets more

module _ (users : UserNames) (roles : List (List ℕ)) (conditions : List TypedTerm) where
  ranges_joined : (start : ℕ) (sources : List Source) (s : Source)
      → ranges_among users roles conditions start (sources ++ s ∷ []) ≡ ranges_among users roles conditions start sources ++ range_among users roles conditions (start + length sources) s ∷ []
  ranges_joined start [] s = ap (λ (n : ℕ). range_among users roles conditions n s ∷ []) (omega arith)
  ranges_joined start (x ∷ sources) s =
      ap (λ (os : List (Option KeyRange)). range_among users roles conditions start x ∷ os)
      (ranges_joined (start + 1) sources s ∙ ap (λ (n : ℕ). ranges_among users roles conditions (start + 1) sources ++ range_among users roles conditions n s ∷ []) (omega arith))

  pub one_range : (sources : List Source) (old new : List RangedSource) (i : ℕ) (s : Source) (r : RangedSource) → new ≡ old ++ r ∷ [] → map (λ x. x.range) old ≡ ranges_among users roles conditions 0 (take i sources)
      → i < length sources → s ≡ get_or sources i s → r.range ≡ range_among users roles conditions i s → map (λ x. x.range) new ≡ ranges_among users roles conditions 0 (take (i + 1) sources)
  one_range sources old new i s r pushed are lt at is =
      let long : length (take i sources) ≡ i = length-take-le i sources (omega (arith, lt)) in
      let front = ranges_among users roles conditions 0 (take i sources) in
      ap (map (λ (x : RangedSource). x.range)) pushed
      ∙ map-append (λ (x : RangedSource). x.range) old (r ∷ [])
      ∙ ap (λ (os : List (Option KeyRange)). os ++ r.range ∷ []) are
      ∙ ap (λ (o : Option KeyRange). front ++ o ∷ []) is
      ∙ ap (λ (n : ℕ). front ++ range_among users roles conditions n s ∷ []) (omega (arith, long))
      ∙ sym (ranges_joined 0 (take i sources) s)
      ∙ ap (λ (l : List Source). ranges_among users roles conditions 0 l) (sym (take_more sources i s lt ∙ ap (λ (x : Source). take i sources ++ x ∷ []) (sym at)))

module _ (users : UserNames) (conditions : List TypedTerm) where
  joined_ranged : (start : ℕ) (sources : List Source) (ranged : List RangedSource) (s : Source) (r : RangedSource) → AreRanged users conditions start sources ranged → r.source.now ≡ s
      → IsRangeAmong users conditions (start + length sources) s r.range → AreRanged users conditions start (sources ++ s ∷ []) (ranged ++ r ∷ [])
  joined_ranged start [] [] s r are e h = (e, subst (λ (n : ℕ). IsRangeAmong users conditions n s r.range) (omega arith) h, tt)
  joined_ranged start [] (x ∷ ranged) s r are e h = absurd are
  joined_ranged start (x ∷ sources) [] s r are e h = absurd are
  joined_ranged start (x ∷ sources) (y ∷ ranged) s r are e h =
      (are.0, are.1, joined_ranged (start + 1) sources ranged s r are.2 e (subst (λ (n : ℕ). IsRangeAmong users conditions n s r.range) (omega arith) h))

  pub one_ranged : (sources : List Source) (old new : List RangedSource) (i : ℕ) (s : Source) (r : RangedSource) → new ≡ old ++ r ∷ [] → AreRanged users conditions 0 (take i sources) old → i < length sources → s ≡ get_or sources i s
      → r.source.now ≡ s → IsRangeAmong users conditions i s r.range → AreRanged users conditions 0 (take (i + 1) sources) new
  one_ranged sources old new i s r pushed are lt at is h =
      let long : length (take i sources) ≡ i = length-take-le i sources (omega (arith, lt)) in
      subst (λ (l : List RangedSource). AreRanged users conditions 0 (take (i + 1) sources) l) (sym pushed)
      (subst (λ (l : List Source). AreRanged users conditions 0 l (old ++ r ∷ [])) (sym (take_more sources i s lt ∙ ap (λ (x : Source). take i sources ++ x ∷ []) (sym at)))
      (joined_ranged 0 (take i sources) old s r are is (subst (λ (n : ℕ). IsRangeAmong users conditions n s r.range) (omega (arith, long)) h)))

  -- the targets are these tables from this index on, with ranges that lose nothing
  abbrev pub AreOver : ℕ → List Source → List Target → Type 0
  AreOver index [] [] = Unit {0}
  AreOver index [] (t ∷ targets) = ⊥
  AreOver index (s ∷ sources) [] = ⊥
  AreOver index (s ∷ sources) (t ∷ targets) = IsTargetOf users s t × IsRangeAmong users conditions index s (option_copied t.range) × AreOver (index + 1) sources targets

  pub over : (index : ℕ) (sources : List Source) (ranged : List RangedSource) (targets : List Target) → AreRanged users conditions index sources ranged → AreTargetsOf users ranged targets → AreOver index sources targets
  over index [] [] [] a b = tt
  over index [] [] (t ∷ targets) a b = absurd b
  over index [] (r ∷ ranged) targets a b = absurd a
  over index (s ∷ sources) [] targets a b = absurd a
  over index (s ∷ sources) (r ∷ ranged) [] a b = absurd b
  over index (s ∷ sources) (r ∷ ranged) (t ∷ targets) a b = (
    subst (λ (x : Source). IsTargetOf users x t) a.0 b.0.target_of,
    subst (λ (o : Option KeyRange). IsRangeAmong users conditions index s o) (sym b.0.range) a.1,
    over (index + 1) sources ranged targets a.2 b.1,
  )

  -- ---- the rows that are found

  among_of_table : (index : ℕ) (s : Source) (lent : Option (Bor KeyRange)) → IsRangeAmong users conditions index s (option_copied lent) → IsOfTable s.table.now.id lent
  among_of_table index s None h = tt
  among_of_table index s (Some range) h = h.of_table

  pub each_found : (records : Records) → IsOrdered records → (index : ℕ) (sources : List Source) (targets : List Target) (lists : List (List Row)) → AreOver index sources targets → HoldTables records targets lists
      → FindRowsOfEach records targets (all_found targets lists)
  each_found records o index [] [] [] a h = tt
  each_found records o index [] [] (rows ∷ more) a h = absurd h
  each_found records o index [] (t ∷ targets) lists a h = absurd a
  each_found records o index (s ∷ sources) [] lists a h = absurd a
  each_found records o index (s ∷ sources) (t ∷ targets) [] a h = absurd h
  each_found records o index (s ∷ sources) (t ∷ targets) (rows ∷ more) a h =
      (finds t records rows o (subst (λ (id : ℕ). IsOfTable id t.range) (sym a.0.id) (among_of_table index s t.range a.1)) h.0, each_found records o (index + 1) sources targets more a.2 h.1)

  pub found_fit : (index : ℕ) (sources : List Source) (targets : List Target) (lists : List (List Row)) → AreOver index sources targets → AreRowsOf (map (λ s. s.table.now) sources) lists
      → AreRowsOf (map (λ s. s.table.now) sources) (all_found targets lists)
  found_fit index [] [] [] a h = tt
  found_fit index [] [] (rows ∷ more) a h = absurd h
  found_fit index [] (t ∷ targets) lists a h = absurd a
  found_fit index (s ∷ sources) [] lists a h = absurd a
  found_fit index (s ∷ sources) (t ∷ targets) [] a h = absurd h
  found_fit index (s ∷ sources) (t ∷ targets) (rows ∷ more) a h = (
    subst (λ (layout : Layout). Each (FitsTable layout) (rows_of t rows)) a.0.layout (fit_found t.id t.columns.now t.range rows (subst (λ (layout : Layout). Each (FitsTable layout) rows) (sym a.0.layout) h.0)),
    found_fit (index + 1) sources targets more a.2 h.1,
  )

  -- ---- what is answered of them

  one_longer : (before : List QuerySource) (x : QuerySource) → length (before ++ x ∷ []) ≡ length before + 1
  one_longer [] x = omega arith
  one_longer (y ∷ before) x = let later = one_longer before x in omega (arith, later)

  module _ (q : BoundQuery) (terms_are : q.conditions ≡ map (λ c. c.term) conditions) where
    -- what is said of the rows of a table is said of its target's
    leaves : (index n : ℕ) (s : Source) (t : Target) (range : KeyRange) → n ≡ index → IsTargetOf users s t → IsRangeAmong users conditions index s (Some range)
        → OutsideMayBeLeftOut n t.columns.now users (sees t) q.conditions (is_inside t.id t.columns.now range)
    leaves index n s t range same is h =
        subst (λ (i : ℕ). OutsideMayBeLeftOut i t.columns.now users (sees t) q.conditions (is_inside t.id t.columns.now range)) (sym same)
        (subst (λ (ts : List (Term ColumnIndex)). OutsideMayBeLeftOut index t.columns.now users (sees t) ts (is_inside t.id t.columns.now range)) (sym terms_are)
        (subst (λ (id : ℕ). OutsideMayBeLeftOut index t.columns.now users (sees t) (terms_of conditions) (is_inside id t.columns.now range)) (sym is.id)
        (subst (λ (layout : Layout). OutsideMayBeLeftOut index layout users (sees t) (terms_of conditions) (is_inside s.table.now.id layout range)) (sym is.layout)
        (subst (λ (u : UserNames). OutsideMayBeLeftOut index s.table.now.definition.layout users (row_guard u t.guard.now.existing) (terms_of conditions) (is_inside s.table.now.id s.table.now.definition.layout range)) (sym is.who)
        (subst (λ (g : Formulas). OutsideMayBeLeftOut index s.table.now.definition.layout users (row_guard users g.existing) (terms_of conditions) (is_inside s.table.now.id s.table.now.definition.layout range)) (sym is.guard) h.leaves)))))

    -- one table of FROM
    one_table : (index : ℕ) (s : Source) (t : Target) (rows : List Row) (before rest : List QuerySource) (lent : Option (Bor KeyRange)) → length before ≡ index → IsTargetOf users s t
        → Each (FitsTable t.columns.now) rows → IsRangeAmong users conditions index s (option_copied lent)
        → query (before ++ record { guard = sees t; rows = rows_found t.id t.columns.now lent rows } ∷ rest) users q ≡ query (before ++ source_of t rows ∷ rest) users q
    one_table index s t rows before rest None long is fit h = refl
    one_table index s t rows before rest (Some range) long is fit h =
        left_out_loses_nothing t.columns.now users before rest (sees t) (is_inside t.id t.columns.now range.now) q rows (leaves index (length before) s t range.now long is h) fit

    -- all tables of FROM from this one on
    pub same_answer : (records : Records) (index : ℕ) (before : List QuerySource) (sources : List Source) (targets : List Target) (lists : List (List Row)) → length before ≡ index
        → AreOver index sources targets → HoldTables records targets lists
        → query (before ++ sources_of targets (all_found targets lists)) users q ≡ query (before ++ sources_of targets lists) users q
    same_answer records index before [] [] [] long a h = refl
    same_answer records index before [] [] (rows ∷ more) long a h = absurd h
    same_answer records index before [] (t ∷ targets) lists long a h = absurd a
    same_answer records index before (s ∷ sources) [] lists long a h = absurd a
    same_answer records index before (s ∷ sources) (t ∷ targets) [] long a h = absurd h
    same_answer records index before (s ∷ sources) (t ∷ targets) (rows ∷ more) long a h =
        let found = source_of t (rows_of t rows) in
        let rest = sources_of targets more in
        let rest_found = sources_of targets (all_found targets more) in
        let next = before ++ found ∷ [] in
        let later : query (next ++ rest_found) users q ≡ query (next ++ rest) users q =
        same_answer records (index + 1) next sources targets more (one_longer before found ∙ ap (λ (n : ℕ). n + 1) long) a.2 h.1 in
        ap (λ (ss : List QuerySource). query ss users q) (sym (append_assoc before (found ∷ []) rest_found))
        ∙ later
        ∙ ap (λ (ss : List QuerySource). query ss users q) (append_assoc before (found ∷ []) rest)
        ∙ one_table index s t rows before rest t.range long a.0 h.0.fit a.1
