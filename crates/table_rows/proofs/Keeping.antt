-- Rows that keep their keys: what is set of them, and what the definition makes of them.
use Rattle.std.proofs.Common.{◌≡◌, ◌≢◌, ℕ, zero, suc, ◌+◌, nat_eq, Bool, true, false, ◌&&◌, ◌||◌, if◌then◌else◌, List, [], ◌∷◌, ◌++◌, map, length, Option, Some, None, Result, Ok, Err, refl, sym, ap, ◌∙◌, subst, arith}
use Rattle.std.specs.List.{AllByRecursion, list_any, list_all}
use Rattle.std.specs.Ordering.{is_eq}
use Rattle.std.specs.declared.cmp.Ordering.{Ordering}
use Rattle.std.specs.declared.cmp.Ordering.TheVariants.{Less, Equal, Greater}
use Rattle.std.proofs.lemmas.Bool.{and_parts}
use Rattle.std.proofs.lemmas.Bool.Decides.{nat_tests}
use Rattle.std.proofs.Math.Path.{fun_ext}
use Rattle.sql_types.specs.declared.state.SqlState.{SqlState}
use Rattle.sql_types.specs.declared.state.SqlState.TheVariants.{NotNullViolation, ProgramLimitExceeded}
use Rattle.sql_types.specs.declared.value.Value.{Value}
use Rattle.sql_types.specs.Row.{Row, value_at}
use Rattle.sql_types.specs.Value.{order_of}
use Rattle.std.specs.Ordering.{ordering_then}
use Rattle.sql_ast.specs.Layout.{Layout, IsLayout}
use Rattle.sql_ast.specs.Rows.{row_cmp, fits_record}
use Rattle.sql_ast.specs.Fits.{FitsTable}
use Rattle.sql_ast.specs.declared.scope.ColumnIndex.{ColumnIndex}
use Rattle.sql_ast.specs.Term.{Term}
use Rattle.expressions.specs.Outcome.{Outcome}
use Rattle.expressions.specs.Meaning.{UserNames}
use Rattle.expressions.specs.Stages.{◌>>=◌, require, each}
use Rattle.expressions.proofs.Results.{bind_ok, ok_inside}
use Rattle.store.specs.Records.{Record, Records, Changes, IsOrdered, applied, changed, key_cmp, has_prefix, lookup}
use Rattle.store.proofs.Changes.{ordered_changed, put_applied, all_changed, lookup-changed, lookup-changed_elsewhere, same_values, same_key}
use Rattle.store.proofs.HeldItems.{own_prefix}
use Rattle.row_codec.specs.Rows.{row_key, row_prefix, row_value, key_bytes}
use Rattle.abstract_database.specs.Expressions.{bound_value}
use Rattle.abstract_database.specs.Guards.{Guard}
use Rattle.abstract_database.specs.Lists.{Rising}
use Rattle.abstract_database.specs.Changes.{Chosen, choose, new_rows, other_rows, with_rows, value_beside, replaced_from, replaced, assigned, is_admitted, keeps_not_null, has_double_key}
use Rattle.abstract_database.specs.Whole.{Each}
use Rattle.stored_database.specs.RecordFormat.{row_record}
use Rattle.table_rows.specs.HeldRows.{HoldsRows, ConcernRowsOf}
use Rattle.table_rows.specs.Changed.{without_keys, with_records, old_keys}
use Rattle.table_rows.specs.NewRows.{all_admitted, new_rows_checked}
use Rattle.table_rows.specs.declared.setting.SetRows.{SetRows}
use Rattle.table_rows.specs.Setting.{sets_key, verdict, nothing_set, setting}
use Rattle.table_rows.proofs.Changing.{update_is_held, ordered_without}
use Rattle.table_rows.proofs.Chosen.{all_taken, one_of}
use Rattle.table_rows.proofs.Doubles.{or_parts, any_middle, double_front, no_double}

-- ---- checks, stage by stage

-- the stages over rows that still come, after those that were checked
abbrev stages : Layout → Guard → Result (Unit {0}) SqlState → Bool → Bool → List Row → Result (Unit {0}) SqlState
stages layout guard admitted not_null fit rows =
    admitted >>= λ _. all_admitted guard rows >>= λ _. require (not_null && list_all (keeps_not_null layout.columns) rows) NotNullViolation >>= λ _. require (fit && list_all (fits_record layout) rows) ProgramLimitExceeded

none_come : (layout : Layout) (guard : Guard) (a : Result (Unit {0}) SqlState) (n f : Bool)
    → (a >>= λ _. require n NotNullViolation >>= λ _. require f ProgramLimitExceeded) ≡ stages layout guard a n f []
none_come layout guard (Err code) n f = refl
none_come layout guard (Ok x) false f = refl
none_come layout guard (Ok x) true false = refl
none_come layout guard (Ok x) true true = refl

one_comes : (layout : Layout) (guard : Guard) (row : Row) (rows : List Row) (a here : Result (Unit {0}) SqlState) (n f : Bool)
    → stages layout guard (a >>= λ _. here) (n && keeps_not_null layout.columns row) (f && fits_record layout row) rows
    ≡ (a >>= λ _. (here >>= λ _. all_admitted guard rows) >>= λ _. require (n && list_all (keeps_not_null layout.columns) (row ∷ rows)) NotNullViolation >>= λ _. require (f && list_all (fits_record layout) (row ∷ rows)) ProgramLimitExceeded)
one_comes layout guard row rows (Err code) here n f = refl
one_comes layout guard row rows (Ok x) (Err code) n f = refl
one_comes layout guard row rows (Ok x) (Ok y) false false = refl
one_comes layout guard row rows (Ok x) (Ok y) false true = refl
one_comes layout guard row rows (Ok x) (Ok y) true false = refl
one_comes layout guard row rows (Ok x) (Ok y) true true = refl

-- ---- the rows that are set

module _ (id : ℕ) (layout : Layout) (guard : Guard) where
  abbrev spell : Row → Record
  spell = row_record id layout

  abbrev pub all_set : SetRows → List Chosen → SetRows
  all_set = all_taken (λ x. x) (setting id layout guard)

  checks_after : (set : SetRows) (cs : List Chosen) → verdict (all_set set cs).checks ≡ stages layout guard set.checks.admitted set.checks.not_null set.checks.fit (new_rows cs)
  checks_after set [] = none_come layout guard set.checks.admitted set.checks.not_null set.checks.fit
  checks_after set (c ∷ cs) = go (λ next. checks_after next cs) c.new
    where
      go : ((next : SetRows) → verdict (all_set next cs).checks ≡ stages layout guard next.checks.admitted next.checks.not_null next.checks.fit (new_rows cs)) → (new : Option Row) → verdict (all_set set (record { row = c.row; new = new } ∷ cs)).checks ≡ stages layout guard set.checks.admitted set.checks.not_null set.checks.fit (new_rows (record { row = c.row; new = new } ∷ cs))
      go later None = later set
      go later (Some new) = later (setting id layout guard c.row new set) ∙ one_comes layout guard new (new_rows cs) set.checks.admitted (is_admitted guard new) set.checks.not_null set.checks.fit

  -- the verdict is that of the stages over whole lists
  pub checks_are : (cs : List Chosen) → verdict (all_set nothing_set cs).checks ≡ new_rows_checked layout guard (new_rows cs)
  checks_are cs = checks_after nothing_set cs

  pub set_count : (set : SetRows) (cs : List Chosen) → (all_set set cs).count ≡ set.count + length (new_rows cs)
  set_count set [] = omega arith
  set_count set (c ∷ cs) = go (λ next. set_count next cs) c.new
    where
      go : ((next : SetRows) → (all_set next cs).count ≡ next.count + length (new_rows cs)) → (new : Option Row) → (all_set set (record { row = c.row; new = new } ∷ cs)).count ≡ set.count + length (new_rows (record { row = c.row; new = new } ∷ cs))
      go later None = later set
      go later (Some new) = let counts = later (setting id layout guard c.row new set) in omega (arith, counts)

  if_concern : (key : List ℕ) (value : List ℕ) (fits : Bool) (changes : Changes) → has_prefix (row_prefix id) key ≡ true → ConcernRowsOf id changes → ConcernRowsOf id (if fits then changed key (Some (Some value)) changes else changes)
  if_concern key value false changes h p = p
  if_concern key value true changes h p = all_changed (λ (change : List ℕ × Option (List ℕ)). has_prefix (row_prefix id) change.0 ≡ true) key (Some value) changes h p

  pub set_concern : (set : SetRows) (cs : List Chosen) → ConcernRowsOf id set.changes → ConcernRowsOf id (all_set set cs).changes
  set_concern set [] p = p
  set_concern set (c ∷ cs) p = go (λ next. set_concern next cs) c.new
    where
      go : ((next : SetRows) → ConcernRowsOf id next.changes → ConcernRowsOf id (all_set next cs).changes) → (new : Option Row) → ConcernRowsOf id (all_set set (record { row = c.row; new = new } ∷ cs)).changes
      go later None = later set p
      go later (Some new) = later (setting id layout guard c.row new set) (if_concern (spell c.row).0 (row_value layout new) (fits_record layout new) set.changes (own_prefix (row_prefix id) (row_key layout c.row)) p)

  -- ---- rows with the values of the key that they had

  abbrev pub HasKeyOf : Row → Row → Type 0
  HasKeyOf row new = AllByRecursion (λ index. value_at new index ≡ value_at row index) layout.key

  abbrev pub KeepsKey : Chosen → Type 0
  KeepsKey c = if_some c.new where
    if_some : Option Row → Type 0
    if_some None = Unit {0}
    if_some (Some new) = HasKeyOf c.row new

  same_bytes : (row new : Row) (key : List ℕ) → AllByRecursion (λ index. value_at new index ≡ value_at row index) key → map (value_at new) key ≡ map (value_at row) key
  same_bytes row new [] h = refl
  same_bytes row new (index ∷ key) h = ap (λ v. v ∷ map (value_at new) key) h.0 ∙ ap (λ (vs : List Value). value_at row index ∷ vs) (same_bytes row new key h.1)

  key_kept : (row new : Row) → HasKeyOf row new → (spell new).0 ≡ (spell row).0
  key_kept row new h = ap (λ (vs : List Value). row_prefix id ++ key_bytes vs) (same_bytes row new layout.key h)

  if_put : (key value : List ℕ) (fits : Bool) (changes : Changes) (records : Records) → fits ≡ true → IsOrdered changes → IsOrdered records
      → applied (if fits then changed key (Some (Some value)) changes else changes) records ≡ changed key (Some value) (applied changes records)
  if_put key value true changes records e p o = put_applied key (Some value) changes records p o
  if_put key value false changes records e p o = cc

  if_ordered : (key value : List ℕ) (fits : Bool) (changes : Changes) → IsOrdered changes → IsOrdered (if fits then changed key (Some (Some value)) changes else changes)
  if_ordered key value true changes p = ordered_changed key (Some (Some value)) changes p
  if_ordered key value false changes p = p

  set_changes : (set : SetRows) (cs : List Chosen) (records : Records) → IsOrdered set.changes → IsOrdered records → AllByRecursion KeepsKey cs → list_all (fits_record layout) (new_rows cs) ≡ true
      → applied (all_set set cs).changes records ≡ with_records (map spell (new_rows cs)) (applied set.changes records)
  set_changes set [] records p o kept fit = refl
  set_changes set (c ∷ cs) records p o kept fit = go (λ next q f. set_changes next cs records q o kept.1 f) c.new kept.0 fit
    where
      go : ((next : SetRows) → IsOrdered next.changes → list_all (fits_record layout) (new_rows cs) ≡ true → applied (all_set next cs).changes records ≡ with_records (map spell (new_rows cs)) (applied next.changes records))
          → (new : Option Row) → KeepsKey (record { row = c.row; new = new }) → list_all (fits_record layout) (new_rows (record { row = c.row; new = new } ∷ cs)) ≡ true
          → applied (all_set set (record { row = c.row; new = new } ∷ cs)).changes records ≡ with_records (map spell (new_rows (record { row = c.row; new = new } ∷ cs))) (applied set.changes records)
      go later None k f = later set p f
      go later (Some new) k f =
          let fits = and_parts (fits_record layout new) (list_all (fits_record layout) (new_rows cs)) f in
          later (setting id layout guard c.row new set) (if_ordered (spell c.row).0 (row_value layout new) (fits_record layout new) set.changes p) fits.1
          ∙ ap (with_records (map spell (new_rows cs))) (if_put (spell c.row).0 (row_value layout new) (fits_record layout new) set.changes records fits.0 p o)
          ∙ ap (λ (k : List ℕ). with_records (map spell (new_rows cs)) (changed k (Some (row_value layout new)) (applied set.changes records))) (sym (key_kept c.row new k))

  -- ---- records that are put in place need no removal before

  abbrev Elsewhere : List ℕ → Records → Type 0
  Elsewhere key rs = AllByRecursion (λ r. key_cmp key r.0 ≢ Equal) rs

  stays : (key : List ℕ) (rs : Records) (es : Records) → Elsewhere key rs → lookup key (without_keys (map (λ r. r.0) rs) es) ≡ lookup key es
  stays key [] es h = refl
  stays key (r ∷ rs) es h = stays key rs (changed r.0 None es) h.1 ∙ lookup-changed_elsewhere key r.0 None es h.0

  less_apart : (o : Ordering) → o ≡ Less → o ≢ Equal
  less_apart o e f = cc

  greater_apart : (o : Ordering) → o ≡ Greater → o ≢ Equal
  greater_apart o e f = cc

  -- one record more is put among both
  put_both : (r : Record) (xs ys : Records) (key : List ℕ) (o : Ordering) → IsOrdered xs → IsOrdered ys → key_cmp key r.0 ≡ o → (key_cmp key r.0 ≢ Equal → lookup key xs ≡ lookup key ys)
      → lookup key (changed r.0 (Some r.1) xs) ≡ lookup key (changed r.0 (Some r.1) ys)
  put_both r xs ys key Equal p q e h =
      ap (λ (k : List ℕ). lookup k (changed r.0 (Some r.1) xs)) (same_key key r.0 e) ∙ lookup-changed r.0 (Some r.1) xs p ∙ sym (lookup-changed r.0 (Some r.1) ys q)
      ∙ sym (ap (λ (k : List ℕ). lookup k (changed r.0 (Some r.1) ys)) (same_key key r.0 e))
  put_both r xs ys key Less p q e h =
      let apart = less_apart (key_cmp key r.0) e in lookup-changed_elsewhere key r.0 (Some r.1) xs apart ∙ h apart ∙ sym (lookup-changed_elsewhere key r.0 (Some r.1) ys apart)
  put_both r xs ys key Greater p q e h =
      let apart = greater_apart (key_cmp key r.0) e in lookup-changed_elsewhere key r.0 (Some r.1) xs apart ∙ h apart ∙ sym (lookup-changed_elsewhere key r.0 (Some r.1) ys apart)

  same_with : (rs : Records) (xs ys : Records) → IsOrdered xs → IsOrdered ys → ((key : List ℕ) → Elsewhere key rs → lookup key xs ≡ lookup key ys) → with_records rs xs ≡ with_records rs ys
  same_with [] xs ys p q h = same_values xs ys p q (λ key. h key tt)
  same_with (r ∷ rs) xs ys p q h =
      same_with rs (changed r.0 (Some r.1) xs) (changed r.0 (Some r.1) ys) (ordered_changed r.0 (Some r.1) xs p) (ordered_changed r.0 (Some r.1) ys q)
      (λ key apart. put_both r xs ys key (key_cmp key r.0) p q refl (λ differ. h key (differ, apart)))

  put_in_place : (rs : Records) (es : Records) → IsOrdered es → with_records rs (without_keys (map (λ r. r.0) rs) es) ≡ with_records rs es
  put_in_place rs es o = same_with rs (without_keys (map (λ r. r.0) rs) es) es (ordered_without (map (λ r. r.0) rs) es o) o (λ key apart. stays key rs es apart)

  old_are_new : (cs : List Chosen) → AllByRecursion KeepsKey cs → old_keys id layout cs ≡ map (λ r. r.0) (map spell (new_rows cs))
  old_are_new [] kept = refl
  old_are_new (c ∷ cs) kept = go (old_are_new cs kept.1) c.new kept.0
    where
      go : old_keys id layout cs ≡ map (λ r. r.0) (map spell (new_rows cs)) → (new : Option Row) → KeepsKey (record { row = c.row; new = new }) → old_keys id layout (record { row = c.row; new = new } ∷ cs) ≡ map (λ r. r.0) (map spell (new_rows (record { row = c.row; new = new } ∷ cs)))
      go later None k = later
      go later (Some new) k = ap (λ (key : List ℕ). key ∷ old_keys id layout cs) (sym (key_kept c.row new k)) ∙ ap (λ (keys : List (List ℕ)). (spell new).0 ∷ keys) later

  -- the records hold the rows of the definition
  pub set_held : (cs : List Chosen) (records : Records) → IsLayout layout → IsOrdered records → HoldsRows id layout records (map (λ c. c.row) cs) → AllByRecursion KeepsKey cs → Each (FitsTable layout) (new_rows cs)
      → list_all (fits_record layout) (new_rows cs) ≡ true → HoldsRows id layout (applied (all_set nothing_set cs).changes records) (with_rows layout.key (new_rows cs) (other_rows cs))
  set_held cs records is o h kept fits fit =
      let placed : with_records (map spell (new_rows cs)) (without_keys (old_keys id layout cs) records) ≡ applied (all_set nothing_set cs).changes records =
      ap (λ (keys : List (List ℕ)). with_records (map spell (new_rows cs)) (without_keys keys records)) (old_are_new cs kept)
      ∙ put_in_place (map spell (new_rows cs)) records o
      ∙ sym (set_changes nothing_set cs records tt o kept fit) in
      subst (λ (es : Records). HoldsRows id layout es (with_rows layout.key (new_rows cs) (other_rows cs))) placed (update_is_held id layout records cs is o h fits)

  -- ---- no two rows have one key

  same_order : (row new other : Row) (key : List ℕ) → AllByRecursion (λ index. value_at new index ≡ value_at row index) key → row_cmp key new other ≡ row_cmp key row other
  same_order row new other [] h = refl
  same_order row new other (index ∷ key) h =
      ap (λ v. ordering_then (order_of v (value_at other index)) (row_cmp key new other)) h.0
      ∙ ap (ordering_then (order_of (value_at row index) (value_at other index))) (same_order row new other key h.1)

  same_second : (other row new : Row) (key : List ℕ) → AllByRecursion (λ index. value_at new index ≡ value_at row index) key → row_cmp key other new ≡ row_cmp key other row
  same_second other row new [] h = refl
  same_second other row new (index ∷ key) h =
      ap (λ v. ordering_then (order_of (value_at other index) v) (row_cmp key other new)) h.0
      ∙ ap (ordering_then (order_of (value_at other index) (value_at row index))) (same_second other row new key h.1)

  abbrev same : Row → Row → Bool
  same row other = is_eq (row_cmp layout.key row other)

  any_kept : (row : Row) (cs : List Chosen) → AllByRecursion KeepsKey cs → list_any (λ other. same row other) (other_rows cs ++ new_rows cs) ≡ list_any (λ other. same row other) (map (λ c. c.row) cs)
  any_kept row [] kept = refl
  any_kept row (c ∷ cs) kept = go (any_kept row cs kept.1) c.new kept.0
    where
      go : list_any (λ other. same row other) (other_rows cs ++ new_rows cs) ≡ list_any (λ other. same row other) (map (λ c. c.row) cs) → (new : Option Row) → KeepsKey (record { row = c.row; new = new })
          → list_any (λ other. same row other) (other_rows (record { row = c.row; new = new } ∷ cs) ++ new_rows (record { row = c.row; new = new } ∷ cs)) ≡ (same row c.row || list_any (λ other. same row other) (map (λ c. c.row) cs))
      go later None k = ap (λ b. same row c.row || b) later
      go later (Some new) k =
          any_middle (λ other. same row other) (other_rows cs) new (new_rows cs)
          ∙ ap (λ o. is_eq o || list_any (λ other. same row other) (other_rows cs ++ new_rows cs)) (same_second row c.row new layout.key k)
          ∙ ap (λ b. same row c.row || b) later

  doubles_kept : (cs : List Chosen) → AllByRecursion KeepsKey cs → has_double_key layout.key (other_rows cs ++ new_rows cs) ≡ has_double_key layout.key (map (λ c. c.row) cs)
  doubles_kept [] kept = refl
  doubles_kept (c ∷ cs) kept = go (any_kept c.row cs kept.1) (doubles_kept cs kept.1) c.new kept.0
    where
      go : list_any (λ other. same c.row other) (other_rows cs ++ new_rows cs) ≡ list_any (λ other. same c.row other) (map (λ c. c.row) cs)
          → has_double_key layout.key (other_rows cs ++ new_rows cs) ≡ has_double_key layout.key (map (λ c. c.row) cs) → (new : Option Row) → KeepsKey (record { row = c.row; new = new })
          → has_double_key layout.key (other_rows (record { row = c.row; new = new } ∷ cs) ++ new_rows (record { row = c.row; new = new } ∷ cs)) ≡ (list_any (λ other. same c.row other) (map (λ c. c.row) cs) || has_double_key layout.key (map (λ c. c.row) cs))
      go any later None k = ap (λ b. b || has_double_key layout.key (other_rows cs ++ new_rows cs)) any ∙ ap (λ b. list_any (λ other. same c.row other) (map (λ c. c.row) cs) || b) later
      go any later (Some new) k =
          double_front layout.key (other_rows cs) new (new_rows cs)
          ∙ ap (λ (f : Row → Bool). list_any f (other_rows cs ++ new_rows cs) || has_double_key layout.key (other_rows cs ++ new_rows cs)) (fun_ext (λ other. ap is_eq (same_order c.row new other layout.key k)))
          ∙ ap (λ b. b || has_double_key layout.key (other_rows cs ++ new_rows cs)) any ∙ ap (λ b. list_any (λ other. same c.row other) (map (λ c. c.row) cs) || b) later

  pub no_new_double : (cs : List Chosen) → AllByRecursion KeepsKey cs → Rising (row_cmp layout.key) (map (λ c. c.row) cs) → has_double_key layout.key (other_rows cs ++ new_rows cs) ≡ false
  no_new_double cs kept rise = doubles_kept cs kept ∙ no_double layout.key (map (λ c. c.row) cs) rise

  -- ---- what is set of columns that are none of the key

  -- each row that is chosen keeps its key, where what it becomes has it
  pub all_keep : (existing : Guard) (condition : Row → Outcome) (into : Row → Result Row SqlState) → ((row new : Row) → into row ≡ Ok new → HasKeyOf row new) → (rows : List Row) (cs : List Chosen)
      → each (choose existing condition into) rows ≡ Ok cs → AllByRecursion KeepsKey cs
  all_keep existing condition into keeps [] cs e = subst (AllByRecursion KeepsKey) (ok_inside [] cs e) tt
  all_keep existing condition into keeps (row ∷ rows) cs e =
      let first = bind_ok (choose existing condition into row) _ cs e in
      let more = bind_ok (each (choose existing condition into) rows) _ cs first.2 in
      subst (AllByRecursion KeepsKey) (ok_inside (first.0 ∷ more.0) cs more.2)
      (one_of KeepsKey row (existing row) (condition row) (into row) first.0 tt (λ new made. keeps row new made) first.1, all_keep existing condition into keeps rows more.0 more.1)

-- a column that is not set
beside_none : (index : ℕ) (columns : List ℕ) (values : List Value) (other : Value) → list_any (nat_eq index) columns ≡ false → value_beside index columns values other ≡ other
beside_none index [] values other e = refl
beside_none index (c ∷ cs) [] other e = refl
beside_none index (c ∷ cs) (v ∷ vs) other e =
    let parts = or_parts (nat_eq index c) (list_any (nat_eq index) cs) e in
    ap (λ b. if b then v else value_beside index cs vs other) parts.0 ∙ beside_none index cs vs other parts.1

at_kept : (columns : List ℕ) (values : List Value) (start : ℕ) (row : Row) (i : ℕ) → list_any (nat_eq (start + i)) columns ≡ false → value_at (replaced_from start columns values row) i ≡ value_at row i
at_kept columns values start [] i e = refl
at_kept columns values start (v ∷ vs) zero e = beside_none start columns values v (ap (λ n. list_any (nat_eq n) columns) (omega arith) ∙ e)
at_kept columns values start (v ∷ vs) (suc i) e = at_kept columns values (start + 1) vs i (ap (λ n. list_any (nat_eq n) columns) (omega arith) ∙ e)

first_not_set : (k : ℕ) (key columns : List ℕ) → sets_key (k ∷ key) columns ≡ false → (list_any (nat_eq k) columns ≡ false) × (sets_key key columns ≡ false)
first_not_set k key [] e = (refl, refl)
first_not_set k key (c ∷ cs) e =
    let parts = or_parts (nat_eq c k || list_any (nat_eq c) key) (sets_key (k ∷ key) cs) e in
    let here = or_parts (nat_eq c k) (list_any (nat_eq c) key) parts.0 in
    let later = first_not_set k key cs parts.1 in
    let other_way : nat_eq k c ≡ nat_eq c k = grind (arith, nat_tests) in
    (ap (λ b. b || list_any (nat_eq k) cs) (other_way ∙ here.0) ∙ later.0, ap (λ b. b || sets_key key cs) here.1 ∙ later.1)

values_kept : (key columns : List ℕ) (values : List Value) (row : Row) → sets_key key columns ≡ false → AllByRecursion (λ index. value_at (replaced columns values row) index ≡ value_at row index) key
values_kept [] columns values row e = tt
values_kept (k ∷ key) columns values row e =
    let parts = first_not_set k key columns e in (at_kept columns values 0 row k (ap (λ n. list_any (nat_eq n) columns) (omega arith) ∙ parts.0), values_kept key columns values row parts.1)

-- the row that an UPDATE makes has the key of the row before, where it sets no column of the key
pub assigned_keeps : (layout : Layout) (users : UserNames) (columns : List ℕ) (terms : List (Term ColumnIndex)) (row new : Row) → sets_key layout.key columns ≡ false → assigned users columns terms row ≡ Ok new
    → AllByRecursion (λ index. value_at new index ≡ value_at row index) layout.key
assigned_keeps layout users columns terms row new apart e =
    let made = bind_ok (each (bound_value users (row ∷ [])) terms) (λ values. Ok (replaced columns values row)) new e in
    subst (λ (x : Row). AllByRecursion (λ index. value_at x index ≡ value_at row index) layout.key) (ok_inside (replaced columns made.0 row) new made.2) (values_kept layout.key columns made.0 row apart)
