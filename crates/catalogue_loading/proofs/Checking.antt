-- Records that are checked one after the other.
use Rattle.std.proofs.Common.{◌≡◌, ℕ, List, [], ◌∷◌, ◌++◌, map, refl, ap, sym, ◌∙◌, subst, inl, inr, append_assoc, Ok, Err, Bool, true, false, IsTrue, ◌↔◌}
use Rattle.std.proofs.lemmas.List.{append-nil}
use Rattle.store.specs.declared.fault.Fault.{Fault}
use Rattle.store.specs.declared.fault.Fault.TheVariants.{Memory, Device, Damaged}
use Rattle.store.specs.Records.{Record, Records, IsOrdered, entries_where, has_prefix, is_from}
use Rattle.store.specs.Steps.{AheadWithin, Takes}
use Rattle.store.specs.Walks.{span}
use Rattle.store.proofs.Changes.{ordered_entries_where}
use Rattle.store.proofs.Walking.{span_of_prefix}
use Rattle.sql_types.specs.Row.{Row}
use Rattle.sql_ast.specs.Fits.{FitsTable}
use Rattle.sql_ast.specs.Layout.{Layout}
use Rattle.abstract_database.specs.Lists.{Among}
use Rattle.abstract_database.specs.Whole.{Each}
use Rattle.row_codec.specs.Rows.{row_prefix, row_key}
use Rattle.stored_database.specs.RecordFormat.{row_record}
use Rattle.stored_database.proofs.Lists.{first_of_each, rest_of_each, of_map}
use Rattle.catalogue_loading.specs.RecordChecks.{GoesPast, FailsAt, Tests, AllPass, ChecksRecords, IsRowRecord}
use Rattle.catalogue_loading.specs.Walks.{AreHeld}
use Rattle.catalogue_loading.proofs.Loading.{each_none, each_append}

-- ---- a step

-- the first record is found, and is as it is to be, or not
pub passed : (Passes : Record → Type 0) (found : Record → Type 0) (ahead : Records → Type 0) (within : Bool) (records : Records) (entry : Record) → within ≡ true
    → Takes found ahead within records → ((e : Record) → found e → entry ≡ e) → Passes entry → GoesPast Passes ahead records
passed Passes found ahead true records entry is takes same passes =
    record { entry = takes.0; later = takes.1; first = takes.2; passes = subst Passes (same takes.0 takes.3) passes; is_ahead = takes.4 }
passed Passes found ahead false records entry is takes same passes = absurd cc

pub failed : (Passes : Record → Type 0) (found : Record → Type 0) (ahead : Records → Type 0) (within : Bool) (records : Records) (entry : Record) → within ≡ true
    → Takes found ahead within records → ((e : Record) → found e → entry ≡ e) → (Passes entry → ⊥) → FailsAt Passes records
failed Passes found ahead true records entry is takes same fails =
    record { entry = takes.0; later = takes.1; first = takes.2; fails = λ passes. fails (subst Passes (sym (same takes.0 takes.3)) passes) }
failed Passes found ahead false records entry is takes same fails = absurd cc

pub not_passed : (P : Type 0) (b : Bool) → b ≡ false → (IsTrue b ↔ P) → P → ⊥
not_passed P b is iff p = none (sym is ∙ iff.1 p)
  where
    none : false ≡ true → ⊥
    none h = cc

-- none has the prefix
pub none_within : (found : Record → Type 0) (ahead : Records → Type 0) (within : Bool) (records : Records) → within ≡ false → Takes found ahead within records → records ≡ []
none_within found ahead true records is takes = absurd cc
none_within found ahead false records is takes = takes

-- ---- the walk

-- the records so far pass, and the others with the prefix are ahead
pub record AreChecked (Passes : Record → Type 0) (ahead : Records → Type 0) (records : Records) (prefix : List ℕ) : Type 0 where
  pub past : Records
  pub later : Records
  pub held : entries_where (has_prefix prefix) records ≡ past ++ later
  pub pass : Each Passes past
  pub is_ahead : AheadWithin prefix ahead later

pub nothing_checked : (Passes : Record → Type 0) (ahead : Records → Type 0) (records : Records) (prefix : List ℕ) → IsOrdered records → ahead (entries_where (is_from prefix) records)
    → AreChecked Passes ahead records prefix
nothing_checked Passes ahead records prefix o start = record {
  past = [];
  later = span prefix prefix records;
  held = sym (span_of_prefix prefix records);
  pass = each_none Passes;
  is_ahead = (entries_where (is_from prefix) records, refl, ordered_entries_where (is_from prefix) records o, start);
}

pub one_checked : (Passes : Record → Type 0) (old new : Records → Type 0) (records : Records) (prefix : List ℕ) (so_far : AreChecked Passes old records prefix)
    → GoesPast Passes (AheadWithin prefix new) so_far.later → AreChecked Passes new records prefix
one_checked Passes old new records prefix so_far next = record {
  past = so_far.past ++ next.entry ∷ [];
  later = next.later;
  held = so_far.held ∙ ap (λ (zs : Records). so_far.past ++ zs) next.first ∙ sym (append_assoc so_far.past (next.entry ∷ []) next.later);
  pass = each_append Passes so_far.past next.entry so_far.pass next.passes;
  is_ahead = next.is_ahead;
}

pub goes_past : (Passes : Record → Type 0) (ahead : Records → Type 0) (found : Bool) (records : Records) → found ≡ true → Tests Passes ahead (Ok found) records → GoesPast Passes ahead records
goes_past Passes ahead found records is tested = subst (λ (b : Bool). Tests Passes ahead (Ok b) records) is tested

pub none_left : (Passes : Record → Type 0) (ahead : Records → Type 0) (found : Bool) (records : Records) → found ≡ false → Tests Passes ahead (Ok found) records → records ≡ []
none_left Passes ahead found records is tested = subst (λ (b : Bool). Tests Passes ahead (Ok b) records) is tested

pub all_checked : (Passes : Record → Type 0) (ahead : Records → Type 0) (records : Records) (prefix : List ℕ) (so_far : AreChecked Passes ahead records prefix) → so_far.later ≡ []
    → AllPass Passes records prefix
all_checked Passes ahead records prefix so_far none =
    subst (Each Passes) (sym (so_far.held ∙ ap (λ (zs : Records). so_far.past ++ zs) none ∙ append-nil so_far.past)) so_far.pass

-- a record in the middle is one of them
among_middle : (front rest : Records) (e : Record) → Among e (front ++ e ∷ rest)
among_middle [] rest e = inl refl
among_middle (f ∷ front) rest e = inr (among_middle front rest e)

pub fault_checks : (Passes : Record → Type 0) (old new : Records → Type 0) (records : Records) (prefix : List ℕ) (fault : Fault) (so_far : AreChecked Passes old records prefix)
    → Tests Passes (AheadWithin prefix new) (Err fault) so_far.later → ChecksRecords Passes records prefix (Err fault)
fault_checks Passes old new records prefix Memory so_far tested = tt
fault_checks Passes old new records prefix Device so_far tested = tt
fault_checks Passes old new records prefix Damaged so_far tested = λ all.
    let held = so_far.held ∙ ap (λ (zs : Records). so_far.past ++ zs) tested.first in
    tested.fails (all tested.entry (subst (Among tested.entry) (sym held) (among_middle so_far.past tested.later tested.entry)))

-- ---- rows

rows_of : (id : ℕ) (layout : Layout) (es : Records) → Each (IsRowRecord id layout) es → (rows : List Row) × (es ≡ map (row_record id layout) rows) × Each (FitsTable layout) rows
rows_of id layout [] all = ([], refl, each_none (FitsTable layout))
rows_of id layout (e ∷ es) all =
    let first = first_of_each (IsRowRecord id layout) e es all in
    let later = rows_of id layout es (rest_of_each (IsRowRecord id layout) e es all) in
    (first.0 ∷ later.0, both (sym first.1.spelled) later.1, fits first.0 later.0 first.1.valid later.2)
  where
    both : {a b : Record} {xs ys : Records} → a ≡ b → xs ≡ ys → a ∷ xs ≡ b ∷ ys
    both p q = cc

    fits : (row : Row) (rows : List Row) → FitsTable layout row → Each (FitsTable layout) rows → Each (FitsTable layout) (row ∷ rows)
    fits row rows one others x (inl same) = subst (FitsTable layout) same one
    fits row rows one others x (inr among) = others x among

pub rows_held : (id : ℕ) (layout : Layout) (records : Records) → AllPass (IsRowRecord id layout) records (row_prefix id)
    → (rows : List Row) × AreHeld (FitsTable layout) (row_record id layout) records (row_prefix id) rows
rows_held id layout records all =
    let found = rows_of id layout (entries_where (has_prefix (row_prefix id)) records) all in
    (found.0, record { held = found.1; valid = found.2 })

pub rows_pass : (id : ℕ) (layout : Layout) (records : Records) (rows : List Row) → AreHeld (FitsTable layout) (row_record id layout) records (row_prefix id) rows
    → AllPass (IsRowRecord id layout) records (row_prefix id)
rows_pass id layout records rows held e among =
    let found = of_map (row_record id layout) rows e (subst (Among e) held.held among) in
    (found.0, record { valid = held.valid found.0 found.1; spelled = found.2 })

-- a key without the prefix is no row's
pub no_row : (id : ℕ) (layout : Layout) (entry : Record) → ((rest : List ℕ) → entry.0 ≡ row_prefix id ++ rest → ⊥) → IsRowRecord id layout entry → ⊥
no_row id layout entry none row = none (row_key layout row.0) (sym (ap (λ (e : Record). e.0) row.1.spelled))
