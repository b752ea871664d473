-- The records of a table after a change of its rows.
use Rattle.std.proofs.Common.{◌≡◌, ℕ, Bool, true, false, if◌then◌else◌, List, [], ◌∷◌, ◌++◌, map, Option, Some, None, is_none, is_some, ◌||◌, refl, sym, ap, ◌∙◌, subst, inl, inr}
use Rattle.std.specs.List.{AllByRecursion, list_any}
use Rattle.std.specs.declared.cmp.Ordering.{Ordering}
use Rattle.std.specs.declared.cmp.Ordering.TheVariants.{Less, Equal, Greater}
use Rattle.std.specs.Ordering.{is_lt, is_eq}
use Rattle.sql_types.specs.Row.{Row}
use Rattle.sql_ast.specs.Layout.{Layout, IsLayout}
use Rattle.sql_ast.specs.Rows.{row_cmp}
use Rattle.sql_ast.specs.Fits.{FitsTable}
use Rattle.store.specs.Records.{Record, Records, Changes, IsOrdered, IsBefore, applied, changed, changed_by, key_cmp, entries_where, has_prefix, lookup, found_by}
use Rattle.store.proofs.Changes.{itself, same_key, after, ordered_changed, ordered_entries_where, entries_where-changed, entries_where-applied}
use Rattle.store.specs.Items.{Holds, KeysAgree, put_item, put_by}
use Rattle.store.proofs.HeldItems.{item_put, own_prefix}
use Rattle.row_codec.specs.Rows.{row_key, row_prefix}
use Rattle.abstract_database.specs.Lists.{put, the_new}
use Rattle.abstract_database.specs.Changes.{Chosen, new_rows, other_rows, with_rows}
use Rattle.abstract_database.specs.Whole.{Each}
use Rattle.stored_database.specs.RecordFormat.{row_record}
use Rattle.stored_database.proofs.KeyOrder.{row_order, held_rise}
use Rattle.table_rows.specs.HeldRows.{HoldsRows}
use Rattle.table_rows.specs.Changed.{without_keys, with_records, old_key, old_keys, UpdateIsHeld, KeyIsFound, OtherRecordsStay, HeldRowsAreWhole}

-- ---- each element

pub each_of : {X : Type 0} (P : X → Type 0) (xs : List X) → AllByRecursion P xs → Each P xs
each_of P [] all x among = absurd among
each_of P (y ∷ ys) all x (inl is) = subst P is all.0
each_of P (y ∷ ys) all x (inr later) = each_of P ys all.1 x later

pub all_of_each : {X : Type 0} (P : X → Type 0) (xs : List X) → Each P xs → AllByRecursion P xs
all_of_each P [] each = tt
all_of_each P (x ∷ xs) each = (each x (inl refl), all_of_each P xs (λ y among. each y (inr among)))

-- ---- old keys are removed

passed_without : (q : List ℕ → Bool) (ks : List (List ℕ)) (es : Records) → IsOrdered es → AllByRecursion (λ k. q k ≡ true) ks
    → entries_where q (without_keys ks es) ≡ without_keys ks (entries_where q es)
passed_without q [] es o h = refl
passed_without q (k ∷ ks) es o h =
    passed_without q ks (changed k None es) (ordered_changed k None es o) h.1
    ∙ ap (without_keys ks) (entries_where-changed q k None es o ∙ ap (λ b. if b then changed k None (entries_where q es) else entries_where q es) h.0)

pub ordered_without : (ks : List (List ℕ)) (es : Records) → IsOrdered es → IsOrdered (without_keys ks es)
ordered_without [] es o = o
ordered_without (k ∷ ks) es o = ordered_without ks (changed k None es) (ordered_changed k None es o)

-- keys after the first entry leave it
front_stays : (ks : List (List ℕ)) (e : Record) (es : Records) → AllByRecursion (λ k. key_cmp e.0 k ≡ Less) ks → without_keys ks (e ∷ es) ≡ e ∷ without_keys ks es
front_stays [] e es h = refl
front_stays (k ∷ ks) e es h =
    ap (λ r. without_keys ks (changed_by r k None e es (changed k None es))) (after e.0 k h.0)
    ∙ front_stays ks e (changed k None es) h.1

module _ (id : ℕ) (layout : Layout) where
  abbrev spell : Row → Record
  spell = row_record id layout

  keys_after : (key : List ℕ) (chosen : List Chosen) → IsBefore key (map spell (map (λ c. c.row) chosen)) → AllByRecursion (λ k. key_cmp key k ≡ Less) (old_keys id layout chosen)
  keys_after key [] b = tt
  keys_after key (c ∷ cs) b = go c.new (keys_after key cs b.1)
    where
      go : (new : Option Row) → AllByRecursion (λ k. key_cmp key k ≡ Less) (old_keys id layout cs) → AllByRecursion (λ k. key_cmp key k ≡ Less) (old_key id layout (record { row = c.row; new = new }) ++ old_keys id layout cs)
      go None rest = rest
      go (Some new) rest = (b.0, rest)

  pub keys_prefixed : (chosen : List Chosen) → AllByRecursion (λ k. has_prefix (row_prefix id) k ≡ true) (old_keys id layout chosen)
  keys_prefixed [] = tt
  keys_prefixed (c ∷ cs) = go c.new (keys_prefixed cs)
    where
      go : (new : Option Row) → AllByRecursion (λ k. has_prefix (row_prefix id) k ≡ true) (old_keys id layout cs) → AllByRecursion (λ k. has_prefix (row_prefix id) k ≡ true) (old_key id layout (record { row = c.row; new = new }) ++ old_keys id layout cs)
      go None rest = rest
      go (Some new) rest = (own_prefix (row_prefix id) (row_key layout c.row), rest)

  others_left : (chosen : List Chosen) → IsOrdered (map spell (map (λ c. c.row) chosen)) → without_keys (old_keys id layout chosen) (map spell (map (λ c. c.row) chosen)) ≡ map spell (other_rows chosen)
  others_left [] o = refl
  others_left (c ∷ cs) o = go c.new (others_left cs o.1)
    where
      rest : Records
      rest = map spell (map (λ c. c.row) cs)

      go : (new : Option Row) → without_keys (old_keys id layout cs) rest ≡ map spell (other_rows cs)
          → without_keys (old_key id layout (record { row = c.row; new = new }) ++ old_keys id layout cs) (spell c.row ∷ rest) ≡ map spell ((if is_none new then c.row ∷ [] else []) ++ other_rows cs)
      go None e = front_stays (old_keys id layout cs) (spell c.row) rest (keys_after (spell c.row).0 cs o.0) ∙ ap (λ (es : Records). spell c.row ∷ es) e
      go (Some new) e = ap (λ r. without_keys (old_keys id layout cs) (changed_by r (spell c.row).0 None (spell c.row) rest (changed (spell c.row).0 None rest))) (itself (spell c.row).0) ∙ e

  others_held : (records : Records) (chosen : List Chosen) → IsOrdered records → Holds records (row_prefix id) spell (map (λ c. c.row) chosen)
      → Holds (without_keys (old_keys id layout chosen) records) (row_prefix id) spell (other_rows chosen)
  others_held records chosen o h =
      passed_without (has_prefix (row_prefix id)) (old_keys id layout chosen) records o (keys_prefixed chosen)
      ∙ ap (without_keys (old_keys id layout chosen)) h
      ∙ others_left chosen (subst IsOrdered h (ordered_entries_where (has_prefix (row_prefix id)) records o))

  others_fit : (chosen : List Chosen) → AllByRecursion (FitsTable layout) (map (λ c. c.row) chosen) → AllByRecursion (FitsTable layout) (other_rows chosen)
  others_fit [] f = tt
  others_fit (c ∷ cs) f = go c.new (others_fit cs f.1)
    where
      go : (new : Option Row) → AllByRecursion (FitsTable layout) (other_rows cs) → AllByRecursion (FitsTable layout) ((if is_none new then c.row ∷ [] else []) ++ other_rows cs)
      go None rest = (f.0, rest)
      go (Some new) rest = rest

  -- the rows that are not chosen are held where the keys of the others are removed
  pub others_are_held : (records : Records) (chosen : List Chosen) → IsOrdered records → HoldsRows id layout records (map (λ c. c.row) chosen)
      → HoldsRows id layout (without_keys (old_keys id layout chosen) records) (other_rows chosen)
  others_are_held records chosen o h = record {
    held = others_held records chosen o h.held;
    fit = each_of (FitsTable layout) (other_rows chosen) (others_fit chosen (all_of_each (FitsTable layout) (map (λ c. c.row) chosen) h.fit));
  }

  -- ---- new rows are put

  same_put : (cmp : Row → Row → Ordering) (x : Row) (ys : List Row) → put_item cmp x ys ≡ put cmp the_new x ys
  same_put cmp x [] = refl
  same_put cmp x (y ∷ ys) = go (cmp x y) (same_put cmp x ys)
    where
      go : (o : Ordering) → put_item cmp x ys ≡ put cmp the_new x ys → put_by o x y ys (put_item cmp x ys) ≡ (if is_lt o then x ∷ y ∷ ys else if is_eq o then x ∷ ys else y ∷ put cmp the_new x ys)
      go Less e = refl
      go Equal e = refl
      go Greater e = ap (λ zs. y ∷ zs) e

  agree : IsLayout layout → (row : Row) → FitsTable layout row → (rows : List Row) → AllByRecursion (FitsTable layout) rows → KeysAgree (row_cmp layout.key) spell row rows
  agree is row f [] all = tt
  agree is row f (x ∷ xs) all = (row_order id layout row x is f all.0, agree is row f xs all.1)

  fit_put : (cmp : Row → Row → Ordering) (row : Row) → FitsTable layout row → (rows : List Row) → AllByRecursion (FitsTable layout) rows → AllByRecursion (FitsTable layout) (put cmp the_new row rows)
  fit_put cmp row f [] all = (f, tt)
  fit_put cmp row f (y ∷ ys) all = go (cmp row y) (fit_put cmp row f ys all.1)
    where
      go : (o : Ordering) → AllByRecursion (FitsTable layout) (put cmp the_new row ys) → AllByRecursion (FitsTable layout) (if is_lt o then row ∷ y ∷ ys else if is_eq o then row ∷ ys else y ∷ put cmp the_new row ys)
      go Less rest = (f, all)
      go Equal rest = (f, all.1)
      go Greater rest = (all.0, rest)

  -- one new row is put
  pub row_put : IsLayout layout → (row : Row) (records : Records) (rows : List Row) → IsOrdered records → HoldsRows id layout records rows → FitsTable layout row
      → HoldsRows id layout (changed (spell row).0 (Some (spell row).1) records) (put (row_cmp layout.key) the_new row rows)
  row_put is row records rows o h f =
      let all = all_of_each (FitsTable layout) rows h.fit in
      record {
        held = item_put (row_cmp layout.key) spell (row_prefix id) records row rows o (own_prefix (row_prefix id) (row_key layout row)) (agree is row f rows all) h.held
            ∙ ap (map spell) (same_put (row_cmp layout.key) row rows);
        fit = each_of (FitsTable layout) (put (row_cmp layout.key) the_new row rows) (fit_put (row_cmp layout.key) row f rows all);
      }

  rows_put : IsLayout layout → (new : List Row) (records : Records) (rows : List Row) → IsOrdered records → HoldsRows id layout records rows → AllByRecursion (FitsTable layout) new
      → HoldsRows id layout (with_records (map spell new) records) (with_rows layout.key new rows)
  rows_put is [] records rows o h f = h
  rows_put is (row ∷ new) records rows o h f =
      rows_put is new (changed (spell row).0 (Some (spell row).1) records) (put (row_cmp layout.key) the_new row rows) (ordered_changed (spell row).0 (Some (spell row).1) records o)
      (row_put is row records rows o h f.0) f.1

pub update_is_held : UpdateIsHeld
update_is_held id layout records chosen is o h f =
    rows_put id layout is (new_rows chosen) (without_keys (old_keys id layout chosen) records) (other_rows chosen) (ordered_without (old_keys id layout chosen) records o)
    (others_are_held id layout records chosen o h) (all_of_each (FitsTable layout) (new_rows chosen) f)

-- ---- whether a key is there

value_passed : (q : List ℕ → Bool) (key : List ℕ) (es : Records) → q key ≡ true → lookup key (entries_where q es) ≡ lookup key es
value_passed q key [] h = refl
value_passed q key (e ∷ es) h = go (q e.0) refl (key_cmp key e.0) refl (value_passed q key es h)
  where
    go : (b : Bool) → b ≡ q e.0 → (r : Ordering) → r ≡ key_cmp key e.0 → lookup key (entries_where q es) ≡ lookup key es → lookup key (if b then e ∷ entries_where q es else entries_where q es) ≡ found_by r e.1 (lookup key es)
    go true i r c later = ap (λ o. found_by o e.1 (lookup key (entries_where q es))) (sym c) ∙ ap (found_by r e.1) later
    go false i Less c later = later
    go false i Greater c later = later
    go false i Equal c later = let same : key ≡ e.0 = same_key key e.0 (sym c) in let wrong : q e.0 ≡ true = subst (λ (k : List ℕ). q k ≡ true) same h in cc

found_among : (id : ℕ) (layout : Layout) (row : Row) (rows : List Row) → KeysAgree (row_cmp layout.key) (row_record id layout) row rows
    → is_some (lookup (row_record id layout row).0 (map (row_record id layout) rows)) ≡ list_any (λ other. is_eq (row_cmp layout.key row other)) rows
found_among id layout row [] a = refl
found_among id layout row (x ∷ xs) a =
    ap (λ r. is_some (found_by r (row_record id layout x).1 (lookup (row_record id layout row).0 (map (row_record id layout) xs)))) a.0
    ∙ go (row_cmp layout.key row x) (found_among id layout row xs a.1)
  where
    go : (r : Ordering) → is_some (lookup (row_record id layout row).0 (map (row_record id layout) xs)) ≡ list_any (λ other. is_eq (row_cmp layout.key row other)) xs
        → is_some (found_by r (row_record id layout x).1 (lookup (row_record id layout row).0 (map (row_record id layout) xs))) ≡ (is_eq r || list_any (λ other. is_eq (row_cmp layout.key row other)) xs)
    go Less e = e
    go Equal e = refl
    go Greater e = e

pub key_is_found : KeyIsFound
key_is_found id layout records row rows is f h =
    ap is_some (sym (value_passed (has_prefix (row_prefix id)) (row_record id layout row).0 records (own_prefix (row_prefix id) (row_key layout row))))
    ∙ ap (λ (es : Records). is_some (lookup (row_record id layout row).0 es)) h.held
    ∙ found_among id layout row rows (agree id layout is row f rows (all_of_each (FitsTable layout) rows h.fit))

-- ---- what stays

none_pass : (prefix : List ℕ) (changes : Changes) (test : List ℕ → Bool) → AllByRecursion (λ c. has_prefix prefix c.0 ≡ true) changes
    → ((key : List ℕ) → has_prefix prefix key ≡ true → test key ≡ false) → entries_where test changes ≡ []
none_pass prefix [] test all apart = refl
none_pass prefix (c ∷ cs) test all apart = rw (apart c.0 all.0) (none_pass prefix cs test all.1 apart)

pub other_records_stay : OtherRecordsStay
other_records_stay id changes records test o all apart =
    entries_where-applied test changes records o
    ∙ ap (λ (cs : Changes). applied cs (entries_where test records)) (none_pass (row_prefix id) changes test all apart)

pub held_rows_are_whole : HeldRowsAreWhole
held_rows_are_whole id layout records rows is o h = record {
  fit = h.fit;
  order = held_rise (FitsTable layout) (row_cmp layout.key) (row_record id layout) (λ a b p q. row_order id layout a b is p q) records (row_prefix id) rows o h.held h.fit;
}
