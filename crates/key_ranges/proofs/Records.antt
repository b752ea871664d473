-- The records in a range are those of the rows inside it.
use Rattle.std.proofs.Common.{◌≡◌, ℕ, Bool, true, false, ◌&&◌, ◌||◌, if◌then◌else◌, nat_eq, List, [], ◌∷◌, map, filter, option_to_list, refl, sym, ap, subst, ◌∙◌}
use Rattle.std.specs.List.{AllByRecursion}
use Rattle.std.specs.declared.cmp.Ordering.{Ordering}
use Rattle.std.specs.declared.cmp.Ordering.TheVariants.{Less, Equal, Greater}
use Rattle.std.specs.Ordering.{is_eq, is_lt}
use Rattle.store.specs.Records.{Record, Records, IsOrdered, IsBefore, key_cmp, entries_where, entry_at, entry_of, found_by, lookup, is_from, has_prefix}
use Rattle.store.specs.Walks.{is_within}
use Rattle.store.specs.Items.{Holds}
use Rattle.store.proofs.Changes.{same_key, itself, after, reversed}
use Rattle.store.proofs.Scans.{past_prefix}
use Rattle.sql_types.specs.Row.{Row}
use Rattle.sql_ast.specs.Layout.{Layout}
use Rattle.row_codec.specs.Rows.{row_prefix}
use Rattle.row_codec.proofs.Layouts.{and_parts}
use Rattle.stored_database.specs.RecordFormat.{row_record}
use Rattle.key_ranges.specs.declared.range.KeyRange.{KeyRange}
use Rattle.key_ranges.specs.declared.range.KeyRange.TheVariants.{Point, Span, Several}
use Rattle.key_ranges.specs.declared.spans.KeySpan.{KeySpan}
use Rattle.key_ranges.specs.Spans.{is_between, is_in_span, is_in_spans}
use Rattle.key_ranges.specs.Ranges.{is_in, is_in_any, is_inside, is_inside_any, records_in, IsRangeOf, IsSpanOf}
use Rattle.key_ranges.specs.Laws.{RangesHoldTheirRows}
use Rattle.key_ranges.proofs.Conditions.{same_number}
use Rattle.key_ranges.proofs.Within.{ordered_equal}

-- ---- what is found is what is in the range

none_equal : (key : List ℕ) (es : Records) → IsBefore key es → entries_where (λ k. is_eq (key_cmp k key)) es ≡ []
none_equal key [] h = refl
none_equal key (e ∷ es) h =
    ap (λ o. if is_eq o then e ∷ entries_where (λ k. is_eq (key_cmp k key)) es else entries_where (λ k. is_eq (key_cmp k key)) es) (after key e.0 h.0)
    ∙ none_equal key es h.1

found_point : (key : List ℕ) (es : Records) → IsOrdered es → option_to_list (entry_at key es) ≡ entries_where (λ k. is_eq (key_cmp k key)) es
found_point key [] o = refl
found_point key (e ∷ es) o = go (key_cmp key e.0) refl (found_point key es o.1)
  where
    others : Records
    others = entries_where (λ k. is_eq (key_cmp k key)) es

    go : (r : Ordering) → r ≡ key_cmp key e.0 → option_to_list (entry_at key es) ≡ others
        → option_to_list (entry_of key (found_by r e.1 (lookup key es))) ≡ (if is_eq (key_cmp e.0 key) then e ∷ others else others)
    go Less c later = later ∙ ap (λ z. if is_eq z then e ∷ others else others) (sym (after key e.0 (sym c)))
    go Equal c later =
        let same : key ≡ e.0 = same_key key e.0 (sym c) in
        let none : others ≡ [] = none_equal key es (subst (λ k. IsBefore k es) (sym same) o.0) in
        let here : key_cmp e.0 key ≡ Equal = subst (λ k. key_cmp k key ≡ Equal) same (itself key) in
        ap (λ k. (k, e.1) ∷ []) same ∙ ap (λ (zs : Records). e ∷ zs) (sym none) ∙ ap (λ z. if is_eq z then e ∷ others else others) (sym here)
    go Greater c later = later ∙ ap (λ z. if is_eq z then e ∷ others else others) (sym (reversed key e.0 (sym c)))

two_tests : (s t : List ℕ → Bool) (es : Records) → entries_where t (entries_where s es) ≡ entries_where (λ k. s k && t k) es
two_tests s t [] = refl
two_tests s t (e ∷ es) = go (s e.0) (two_tests s t es)
  where
    go : (b : Bool) → entries_where t (entries_where s es) ≡ entries_where (λ k. s k && t k) es
        → entries_where t (if b then e ∷ entries_where s es else entries_where s es) ≡ (if b && t e.0 then e ∷ entries_where (λ k. s k && t k) es else entries_where (λ k. s k && t k) es)
    go true later = ap (λ (zs : Records). if t e.0 then e ∷ zs else zs) later
    go false later = later

pub found_range : (range : KeyRange) (es : Records) → IsOrdered es → records_in range es ≡ entries_where (is_in range) es
found_range (Point point) es o = found_point point es o
found_range (Span start stop) es o = two_tests (is_from start) (is_within stop) es
found_range (Several several) es o = refl

-- ---- keys in a range are keys of the table

pub entries_among : (q t : List ℕ → Bool) → ((k : List ℕ) → q k ≡ true → t k ≡ true) → (es : Records) → entries_where q es ≡ entries_where q (entries_where t es)
entries_among q t h [] = refl
entries_among q t h (e ∷ es) = go (q e.0) refl (t e.0) refl (entries_among q t h es)
  where
    go : (a : Bool) → a ≡ q e.0 → (b : Bool) → b ≡ t e.0 → entries_where q es ≡ entries_where q (entries_where t es)
        → (if a then e ∷ entries_where q es else entries_where q es) ≡ entries_where q (if b then e ∷ entries_where t es else entries_where t es)
    go true i true j later = ap (λ (zs : Records). e ∷ zs) later ∙ ap (λ c. if c then e ∷ entries_where q (entries_where t es) else entries_where q (entries_where t es)) i
    go true i false j later = let wrong : t e.0 ≡ true = h e.0 (sym i) in cc
    go false i true j later = later ∙ ap (λ c. if c then e ∷ entries_where q (entries_where t es) else entries_where q (entries_where t es)) i
    go false i false j later = later

prefix_onward : (p q k : List ℕ) → has_prefix p q ≡ true → has_prefix q k ≡ true → has_prefix p k ≡ true
prefix_onward [] q k h l = refl
prefix_onward (x ∷ p) [] k h l = cc
prefix_onward (x ∷ p) (y ∷ q) [] h l = cc
prefix_onward (x ∷ p) (y ∷ q) (z ∷ k) h l =
    let a = and_parts (nat_eq x y) (has_prefix p q) h in
    let b = and_parts (nat_eq y z) (has_prefix q k) l in
    let same : nat_eq x z ≡ true = subst (λ n. nat_eq x n ≡ true) (same_number y z b.0) a.0 in
    ap (λ t. t && has_prefix p k) same ∙ prefix_onward p q k a.1 b.1

less_test : (o : Ordering) → is_lt o ≡ true → o ≡ Less
less_test Less h = refl
less_test Equal h = cc
less_test Greater h = cc

in_span_of : (id : ℕ) (start stop : List ℕ) → (has_prefix (row_prefix id) start ≡ true) × (has_prefix (row_prefix id) stop ≡ true) → (k : List ℕ) → is_between start stop k ≡ true → has_prefix (row_prefix id) k ≡ true
in_span_of id start stop of_table k h = go (has_prefix stop k) refl parts.1 (has_prefix (row_prefix id) k) refl
  where
    parts : (is_from start k ≡ true) × (is_within stop k ≡ true)
    parts = and_parts (is_from start k) (is_within stop k) h

    go : (b : Bool) → b ≡ has_prefix stop k → (b || is_lt (key_cmp k stop)) ≡ true → (c : Bool) → c ≡ has_prefix (row_prefix id) k → has_prefix (row_prefix id) k ≡ true
    go true e w c f = prefix_onward (row_prefix id) stop k of_table.1 (sym e)
    go false e w true f = sym f
    go false e w false f =
        let past : has_prefix (row_prefix id) stop ≡ false = past_prefix (row_prefix id) start k of_table.0 parts.0 (sym f) stop (less_test (key_cmp k stop) w) in
        let there : has_prefix (row_prefix id) stop ≡ true = of_table.1 in
        cc

in_spans : (id : ℕ) (spans : List KeySpan) → AllByRecursion (IsSpanOf id) spans → (k : List ℕ) → is_in_spans spans k ≡ true → has_prefix (row_prefix id) k ≡ true
in_spans id [] of_table k h = cc
in_spans id (s ∷ spans) of_table k h = go (is_in_span s k) refl h (λ i. in_spans id spans of_table.1 k i)
  where
    go : (b : Bool) → b ≡ is_in_span s k → (b || is_in_spans spans k) ≡ true → (is_in_spans spans k ≡ true → has_prefix (row_prefix id) k ≡ true) → has_prefix (row_prefix id) k ≡ true
    go true e i later = in_span_of id s.start s.stop of_table.0 k (sym e)
    go false e i later = later i

pub in_table : (id : ℕ) (range : KeyRange) → IsRangeOf id range → (k : List ℕ) → is_in range k ≡ true → has_prefix (row_prefix id) k ≡ true
in_table id (Point point) of_table k h = subst (λ z. has_prefix (row_prefix id) z ≡ true) (sym (same_key k point (ordered_equal (key_cmp k point) h))) of_table
in_table id (Several several) of_table k h = in_spans id several.spans of_table k h
in_table id (Span start stop) of_table k h = in_span_of id start stop of_table k h

-- ---- records of rows

pub entries_spelled : {X : Type 0} (q : List ℕ → Bool) (spell : X → Record) (xs : List X) → entries_where q (map spell xs) ≡ map spell (filter (λ x. q (spell x).0) xs)
entries_spelled q spell [] = refl
entries_spelled {X} q spell (x ∷ xs) = go (q (spell x).0) (entries_spelled q spell xs)
  where
    go : (b : Bool) → entries_where q (map spell xs) ≡ map spell (filter (λ x. q (spell x).0) xs)
        → (if b then spell x ∷ entries_where q (map spell xs) else entries_where q (map spell xs)) ≡ map spell (if b then x ∷ filter (λ x. q (spell x).0) xs else filter (λ x. q (spell x).0) xs)
    go true later = ap (λ (zs : Records). spell x ∷ zs) later
    go false later = later

pub ranges_hold_their_rows : RangesHoldTheirRows
ranges_hold_their_rows id layout range records rows o of_table held =
    found_range range records o
    ∙ entries_among (is_in range) (has_prefix (row_prefix id)) (in_table id range of_table) records
    ∙ ap (entries_where (is_in range)) held
    ∙ entries_spelled (is_in range) (row_record id layout) rows

-- ---- several ranges

-- where all keys of a range are among those that are found, so are its records
pub found_among : (id : ℕ) (layout : Layout) (range : KeyRange) (among : List ℕ → Bool) (records : Records) (rows : List Row) → IsOrdered records → ((key : List ℕ) → is_in range key ≡ true → among key ≡ true)
    → entries_where among records ≡ map (row_record id layout) rows → records_in range records ≡ map (row_record id layout) (filter (is_inside id layout range) rows)
found_among id layout range among records rows o all found =
    found_range range records o ∙ entries_among (is_in range) among all records ∙ ap (entries_where (is_in range)) found ∙ entries_spelled (is_in range) (row_record id layout) rows

-- the records in several ranges of a table are those of the rows inside them
pub any_hold_their_rows : (id : ℕ) (layout : Layout) (ranges : List KeyRange) (records : Records) (rows : List Row) → ((key : List ℕ) → is_in_any ranges key ≡ true → has_prefix (row_prefix id) key ≡ true)
    → Holds records (row_prefix id) (row_record id layout) rows → entries_where (is_in_any ranges) records ≡ map (row_record id layout) (filter (is_inside_any id layout ranges) rows)
any_hold_their_rows id layout ranges records rows of_table held =
    entries_among (is_in_any ranges) (has_prefix (row_prefix id)) of_table records ∙ ap (entries_where (is_in_any ranges)) held ∙ entries_spelled (is_in_any ranges) (row_record id layout) rows
