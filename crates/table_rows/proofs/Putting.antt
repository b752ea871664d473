-- New rows that are put among others, one after the other.
use Rattle.std.proofs.Common.{◌≡◌, ℕ, Bool, true, false, List, [], ◌∷◌, ◌++◌, Option, Some, None, is_some, Result, Ok, Err, refl, sym, ap, ◌∙◌, subst, inl, inr, append-nil}
use Rattle.std.specs.List.{list_any}
use Rattle.std.specs.Ordering.{is_eq}
use Rattle.sql_types.specs.Row.{Row}
use Rattle.sql_ast.specs.Layout.{Layout, IsLayout}
use Rattle.sql_ast.specs.Rows.{row_cmp}
use Rattle.sql_ast.specs.Fits.{FitsTable}
use Rattle.std.specs.Prelude.{IfOk}
use Rattle.store.specs.declared.fault.StoreFault.{StoreFault}
use Rattle.store.specs.declared.fault.Fault.TheVariants.{Memory, Device, Damaged}
use Rattle.store.specs.Records.{Record, Records, Changes, IsOrdered, applied, changed, has_prefix, lookup, entry_at, entry_of, value_under}
use Rattle.store.proofs.Changes.{ordered_applied, ordered_changed, put_applied, lookup-applied, all_changed}
use Rattle.store.proofs.HeldItems.{own_prefix}
use Rattle.row_codec.specs.Rows.{row_key, row_prefix}
use Rattle.abstract_database.specs.Lists.{put, the_new}
use Rattle.abstract_database.specs.Changes.{has_double_key, with_rows}
use Rattle.abstract_database.specs.Whole.{Each}
use Rattle.stored_database.specs.RecordFormat.{row_record}
use Rattle.table_rows.specs.HeldRows.{HoldsRows, ConcernRowsOf}
use Rattle.store.specs.declared.stop.StatementError.{StatementError}
use Rattle.store.specs.declared.stop.StatementError.TheVariants.{Refused, Failed}
use Rattle.table_rows.specs.Failures.{IsDamagedFor}
use Rattle.table_rows.specs.Puts.{has_key, PutsRecord, PutsAll, PutsRows}
use Rattle.table_rows.proofs.Changing.{row_put, key_is_found, held_rows_are_whole}
use Rattle.table_rows.proofs.Doubles.{found_double, double_put, no_double}

-- ---- whether a key is there

some_of : (key : List ℕ) (found : Option (Option (List ℕ))) (change : List ℕ × Option (List ℕ)) → entry_of key found ≡ Some change → found ≡ Some change.1
some_of key None change e = cc
some_of key (Some value) change e = ap second e
  where
    second : Option (List ℕ × Option (List ℕ)) → Option (Option (List ℕ))
    second None = Some value
    second (Some c) = Some c.1

none_of : {X : Type 0} (key : List ℕ) (found : Option X) → entry_of key found ≡ None → found ≡ None
none_of key None e = refl
none_of key (Some value) e = cc

-- the changes say it
pub key_in_changes : (key : List ℕ) (change : List ℕ × Option (List ℕ)) (changes : Changes) (records : Records) → IsOrdered records → entry_at key changes ≡ Some change → has_key key changes records ≡ is_some change.1
key_in_changes key change changes records o e =
    ap is_some (lookup-applied key changes records o ∙ ap (λ (z : Option (Option (List ℕ))). value_under z (lookup key records)) (some_of key (lookup key changes) change e))

-- the changes do not name it, so the map says it
key_in_records : (key : List ℕ) (found : Bool) (changes : Changes) (records : Records) → IsOrdered records → entry_at key changes ≡ None → found ≡ is_some (lookup key records) → found ≡ has_key key changes records
key_in_records key found changes records o e is =
    is ∙ sym (ap is_some (lookup-applied key changes records o ∙ ap (λ (z : Option (Option (List ℕ))). value_under z (lookup key records)) (none_of key (lookup key changes) e)))

pub read_is : (key : List ℕ) (r : Result Bool StoreFault) (changes : Changes) (records : Records) → IsOrdered records → entry_at key changes ≡ None → IfOk r (λ found. found ≡ is_some (lookup key records))
    → IfOk r (λ found. found ≡ has_key key changes records)
read_is key (Ok found) changes records o e is = key_in_records key found changes records o e is
read_is key (Err fault) changes records o e is = tt

-- ---- rows, one after the other

-- rows are put among the others so far; the rest is still to come
pub record Putting (id : ℕ) (layout : Layout) (all rest others : List Row) (records : Records) (old now : Changes) : Type 0 where
  pub rows : List Row
  pub held : HoldsRows id layout (applied now records) rows
  pub fit : Each (FitsTable layout) rest
  pub doubles : has_double_key layout.key (others ++ all) ≡ has_double_key layout.key (rows ++ rest)
  pub after : with_rows layout.key all others ≡ with_rows layout.key rest rows
  pub concern : ConcernRowsOf id old → ConcernRowsOf id now
  pub ordered : IsOrdered now

-- a record of a row of the table is put
pub put_concern : (id : ℕ) (layout : Layout) (row : Row) (key value : List ℕ) (old new : Changes) → new ≡ changed key (Some (Some value)) old → key ≡ (row_record id layout row).0 → ConcernRowsOf id old → ConcernRowsOf id new
put_concern id layout row key value old new e k p =
    subst (ConcernRowsOf id) (sym e)
    (all_changed (λ (change : List ℕ × Option (List ℕ)). has_prefix (row_prefix id) change.0 ≡ true) key (Some value) old
    (subst (λ (k : List ℕ). has_prefix (row_prefix id) k ≡ true) (sym k) (own_prefix (row_prefix id) (row_key layout row))) p)

module _ (id : ℕ) (layout : Layout) (is : IsLayout layout) (all others : List Row) (records : Records) (o : IsOrdered records) (old : Changes) where
  pub putting_first : IsOrdered old → HoldsRows id layout (applied old records) others → Each (FitsTable layout) all → Putting id layout all all others records old old
  putting_first ordered h f = record { rows = others; held = h; fit = f; doubles = refl; after = refl; concern = λ c. c; ordered = ordered }

  key_among : (row : Row) (rest : List Row) (now : Changes) (p : Putting id layout all (row ∷ rest) others records old now)
      → has_key (row_record id layout row).0 now records ≡ list_any (λ other. is_eq (row_cmp layout.key row other)) p.rows
  key_among row rest now p = key_is_found id layout (applied now records) row p.rows is (p.fit row (inl refl)) p.held

  pub putting_next : (row : Row) (rest : List Row) (now next : Changes) → Putting id layout all (row ∷ rest) others records old now
      → has_key (row_record id layout row).0 now records ≡ false → next ≡ changed (row_record id layout row).0 (Some (Some (row_record id layout row).1)) now
      → Putting id layout all rest others records old next
  putting_next row rest now next p free e =
      let apart : list_any (λ other. is_eq (row_cmp layout.key row other)) p.rows ≡ false = sym (key_among row rest now p) ∙ free in
      let key = (row_record id layout row).0 in
      let value = (row_record id layout row).1 in
      let led : applied next records ≡ changed key (Some value) (applied now records) = ap (λ (cs : Changes). applied cs records) e ∙ put_applied key (Some value) now records p.ordered o in
      record {
        rows = put (row_cmp layout.key) the_new row p.rows;
        held = subst (λ (es : Records). HoldsRows id layout es (put (row_cmp layout.key) the_new row p.rows)) (sym led)
            (row_put id layout is row (applied now records) p.rows (ordered_applied now records o) p.held (p.fit row (inl refl)));
        fit = λ x among. p.fit x (inr among);
        doubles = p.doubles ∙ sym (double_put layout.key row p.rows rest apart);
        after = p.after;
        concern = λ c. subst (ConcernRowsOf id) (sym e) (all_changed (λ (change : List ℕ × Option (List ℕ)). has_prefix (row_prefix id) change.0 ≡ true) key (Some value) now (own_prefix (row_prefix id) (row_key layout row)) (p.concern c));
        ordered = subst IsOrdered (sym e) (ordered_changed key (Some (Some value)) now p.ordered);
      }

  pub putting_last : (now : Changes) → Putting id layout all [] others records old now → PutsAll id layout all others records old now
  putting_last now p = record {
    unique = p.doubles ∙ ap (has_double_key layout.key) (append-nil p.rows)
        ∙ no_double layout.key p.rows (held_rows_are_whole id layout (applied now records) p.rows is (ordered_applied now records o) p.held).order;
    held = subst (HoldsRows id layout (applied now records)) (sym p.after) p.held;
    concern = p.concern;
  }

  -- a row that is not put ends it
  pub putting_failed : (failure : StatementError) (row : Row) (rest : List Row) (now next last : Changes) → Putting id layout all (row ∷ rest) others records old now
      → PutsRecord (Err failure) (row_record id layout row) records now next → PutsRows (Err failure) id layout all others records old last
  putting_failed (Refused code) row rest now next last p h =
      (p.doubles ∙ found_double layout.key p.rows row rest (sym (key_among row rest now p) ∙ h.0), h.1)
  putting_failed (Failed Memory) row rest now next last p h = tt
  putting_failed (Failed Device) row rest now next last p h = tt
  putting_failed (Failed Damaged) row rest now next last p h = h

  -- a row that is put, seen in the code and over the map as it then is
  pub putting_seen : (x : Unit {0}) (seen row : Row) (rest : List Row) (later : Records) (now next : Changes) → seen ≡ row → later ≡ records → Putting id layout all (row ∷ rest) others records old now
      → (let r : Result (Unit {0}) StatementError = Ok x in PutsRecord r (row_record id layout seen) later now next) → Putting id layout all rest others records old next
  putting_seen x seen row rest later now next e m p h =
      let here : (let r : Result (Unit {0}) StatementError = Ok x in PutsRecord r (row_record id layout row) records now next) =
      subst (λ (es : Records). let r : Result (Unit {0}) StatementError = Ok x in PutsRecord r (row_record id layout row) es now next) m
      (subst (λ (y : Row). let r : Result (Unit {0}) StatementError = Ok x in PutsRecord r (row_record id layout y) later now next) e h) in
      putting_next row rest now next p here.0 here.1

  pub failed_seen : (failure : StatementError) (seen row : Row) (rest : List Row) (later : Records) (now next last : Changes) → seen ≡ row → later ≡ records → Putting id layout all (row ∷ rest) others records old now
      → (let r : Result (Unit {0}) StatementError = Err failure in PutsRecord r (row_record id layout seen) later now next) → (let r : Result (Unit {0}) StatementError = Err failure in PutsRows r id layout all others records old last)
  failed_seen failure seen row rest later now next last e m p h =
      putting_failed failure row rest now next last p
      (subst (λ (es : Records). let r : Result (Unit {0}) StatementError = Err failure in PutsRecord r (row_record id layout row) es now next) m
      (subst (λ (y : Row). let r : Result (Unit {0}) StatementError = Err failure in PutsRecord r (row_record id layout y) later now next) e h))

-- a record that is not put is not damaged
pub put_undamaged : (failure : StatementError) (entry : Record) (records : Records) (old new : Changes) → (let r : Result (Unit {0}) StatementError = Err failure in PutsRecord r entry records old new) → IsDamagedFor ⊥ failure
put_undamaged (Refused code) entry records old new h = tt
put_undamaged (Failed Memory) entry records old new h = tt
put_undamaged (Failed Device) entry records old new h = tt
put_undamaged (Failed Damaged) entry records old new h = h
