-- What records become whose privilege descriptors get places.
use Rattle.std.proofs.Common.{◌≡◌, ◌≢◌, ◌≤◌, inl, inr, ℕ, zero, suc, Bool, true, false, not, cond, if◌then◌else◌, List, [], ◌∷◌, ◌++◌, map, take, drop, length, Result, Ok, Err, IfOk, refl, ap, sym, ◌∙◌, subst, arith}
use Rattle.std.specs.List.{AllByRecursion}
use Rattle.storage_sizes.specs.declared.record_format.RecordFormat.{RecordFormat}
use Rattle.storage_sizes.specs.declared.record_format.RecordFormat.TheVariants.{V1}
use Rattle.store.specs.Records.{Record, Records, Changes, IsOrdered, entries_where, has_prefix, applied}
use Rattle.store.specs.declared.fault.Fault.{Fault}
use Rattle.store.specs.declared.fault.Fault.TheVariants.{Memory, Device, Damaged}
use Rattle.store.proofs.Changes.{ordered_entries_where}
use Rattle.abstract_database.specs.Lists.{Among}
use Rattle.abstract_database.specs.Whole.{Each}
use Rattle.abstract_database.specs.Database.{Database}
use Rattle.stored_database.specs.Records.{StandsFor}
use Rattle.stored_database.specs.Entries.{IsRecordSize}
use Rattle.stored_database.specs.BothRecordFormats.{with_place, placed, with_places, in_record_format_2}
use Rattle.stored_database.proofs.Lists.{into_map, first_of_each, rest_of_each}
use Rattle.stored_database.proofs.AllRecords.{of_where}
use Rattle.stored_database.proofs.AllSizes.{records_sized}
use Rattle.stored_database.proofs.Placing.{ordered_places}
use Rattle.catalogue_loading.specs.Walks.{AreHeld, LoadsItems}
use Rattle.entry_differences.specs.Differences.{differences, applied_in_turn}
use Rattle.entry_differences.specs.Additions.{HaveRecordSizes}
use Rattle.entry_differences.proofs.DifferenceLemmas.{ordered_in_turn, part_leads_to, elsewhere, all_pass, each_passes}
use Rattle.recovery.specs.MigrationChanges.{with_its_place, IsAnything, HasRoom, MigratesRecords, MigratesRecordsFrom}
use Rattle.recovery.proofs.Parts.{same_parts}

abbrev pub is_descriptor : List ℕ → Bool
is_descriptor key = has_prefix (4 ∷ []) key

abbrev is_other : List ℕ → Bool
is_other key = not (is_descriptor key)

-- ---- which records get a place

still : (key : List ℕ) → is_descriptor key ≡ true → is_descriptor (with_place key) ≡ true
still [] h = cc
still (k ∷ ks) h = h

abbrev placed_by : Bool → Record → Record
placed_by b e = if b then with_its_place e else e

placed_where : (es : Records) → entries_where is_descriptor (with_places es) ≡ map with_its_place (entries_where is_descriptor es)
placed_where [] = refl
placed_where (e ∷ es) = go (is_descriptor e.0) refl (placed_where es) where
  go : (b : Bool) → is_descriptor e.0 ≡ b → entries_where is_descriptor (with_places es) ≡ map with_its_place (entries_where is_descriptor es)
      → entries_where is_descriptor (placed_by b e ∷ with_places es) ≡ map with_its_place (cond b (e ∷ entries_where is_descriptor es) (entries_where is_descriptor es))
  go true h later =
      ap (λ (b : Bool). cond b (with_its_place e ∷ entries_where is_descriptor (with_places es)) (entries_where is_descriptor (with_places es))) (still e.0 h)
      ∙ ap (λ (zs : Records). with_its_place e ∷ zs) later
  go false h later = ap (λ (b : Bool). cond b (e ∷ entries_where is_descriptor (with_places es)) (entries_where is_descriptor (with_places es))) h ∙ later

others_where : (es : Records) → entries_where is_other (with_places es) ≡ entries_where is_other es
others_where [] = refl
others_where (e ∷ es) = go (is_descriptor e.0) refl (others_where es) where
  go : (b : Bool) → is_descriptor e.0 ≡ b → entries_where is_other (with_places es) ≡ entries_where is_other es
      → entries_where is_other (placed_by b e ∷ with_places es) ≡ cond (not b) (e ∷ entries_where is_other es) (entries_where is_other es)
  go true h later = ap (λ (b : Bool). cond (not b) (with_its_place e ∷ entries_where is_other (with_places es)) (entries_where is_other (with_places es))) (still e.0 h) ∙ later
  go false h later =
      ap (λ (b : Bool). cond (not b) (e ∷ entries_where is_other (with_places es)) (entries_where is_other (with_places es))) h
      ∙ ap (λ (zs : Records). e ∷ zs) later

not_others : (es : Records) → AllByRecursion (λ e. is_descriptor e.0 ≡ true) es → AllByRecursion (λ e. is_other e.0 ≡ false) es
not_others [] h = tt
not_others (e ∷ es) h = (ap not h.0, not_others es h.1)

module _ (records : Records) (o : IsOrdered records) where
  abbrev es : Records
  es = entries_where is_descriptor records

  abbrev fs : Records
  fs = map with_its_place es

  rise : IsOrdered fs
  rise = subst IsOrdered (placed_where records) (ordered_entries_where is_descriptor (with_places records) (ordered_places records o))

  pass : AllByRecursion (λ e. is_descriptor e.0 ≡ true) fs
  pass = subst (λ (zs : Records). AllByRecursion (λ e. is_descriptor e.0 ≡ true) zs) (placed_where records) (each_passes is_descriptor (with_places records))

  -- the differences between the descriptors and the same with their places give each of them its place
  pub descriptors_placed : applied_in_turn (differences es fs) records ≡ with_places records
  descriptors_placed =
      same_parts is_descriptor (applied_in_turn (differences es fs) records) (with_places records) (ordered_in_turn (differences es fs) records o) (ordered_places records o)
      (part_leads_to is_descriptor es fs records o rise refl (all_pass is_descriptor fs pass) ∙ sym (placed_where records))
      (elsewhere is_other es fs records o (not_others es (each_passes is_descriptor records)) (not_others fs pass) ∙ sym (others_where records))

-- ---- sizes

place_long : (n : ℕ) (key : List ℕ) → length (take n key ++ 0 ∷ drop n key) ≡ suc (length key)
place_long zero key = refl
place_long (suc n) [] = refl
place_long (suc n) (k ∷ key) = ap suc (place_long n key)

pub sizes_before : (es : Records) → AllByRecursion HasRoom es → HaveRecordSizes es
sizes_before [] h = tt
sizes_before (e ∷ es) h = (((h.0.some, omega (arith, h.0.few)), h.0.value), sizes_before es h.1)

pub sizes_after : (es : Records) → AllByRecursion HasRoom es → HaveRecordSizes (map with_its_place es)
sizes_after [] h = tt
sizes_after (e ∷ es) h = let long = place_long 6 e.0 in (((omega (arith, long), omega (arith, long, h.0.few)), h.0.value), sizes_after es h.1)

some_byte : (key : List ℕ) → is_descriptor key ≡ true → 1 ≤ length key
some_byte [] h = cc
some_byte (k ∷ ks) h = omega arith

room : (e : Record) → is_descriptor e.0 ≡ true → IsRecordSize (with_its_place e) → HasRoom e
room e is size = let long = place_long 6 e.0 in let most = size.0.1 in record { some = some_byte e.0 is; few = omega (arith, long, most); value = size.1 }

-- ---- reading

itself : (es : Records) → map (λ (e : Record). e) es ≡ es
itself [] = refl
itself (e ∷ es) = ap (λ (zs : Records). e ∷ zs) (itself es)

each_of : (P : Record → Type 0) (es : Records) → AllByRecursion P es → (e : Record) → Among e es → P e
each_of P [] h e among = absurd among
each_of P (f ∷ rest) h e (inl is) = subst P is h.0
each_of P (f ∷ rest) h e (inr later) = each_of P rest h.1 e later

all_of : (P : Record → Type 0) (es : Records) → Each P es → AllByRecursion P es
all_of P [] h = tt
all_of P (e ∷ es) h = (first_of_each P e es h, all_of P es (rest_of_each P e es h))

-- what was read are the records of descriptors
read_all : (records items : Records) → AreHeld IsAnything (λ (e : Record). e) records (4 ∷ []) items → entries_where is_descriptor records ≡ items
read_all records items held = held.held ∙ itself items

-- the records of descriptors have room, where with their places they are those of a database
have_room : (records : Records) (db : Database) → StandsFor (with_places records) db → AllByRecursion HasRoom (entries_where is_descriptor records)
have_room records db stands = all_of HasRoom (entries_where is_descriptor records) roomy where
  roomy : (e : Record) → Among e (entries_where is_descriptor records) → HasRoom e
  roomy e among =
      let is = each_of (λ (f : Record). is_descriptor f.0 ≡ true) (entries_where is_descriptor records) (each_passes is_descriptor records) e among in
      let there = into_map placed records e (of_where is_descriptor records e among) in
      let same : placed e ≡ with_its_place e = ap (λ (b : Bool). placed_by b e) is in
      room e is (subst IsRecordSize same (records_sized (with_places records) stands.0 db stands.1 (placed e) there))

-- ---- what the changes come to

migrates_records : (records items : Records) (changes : Changes) → IsOrdered records → AreHeld IsAnything (λ (e : Record). e) records (4 ∷ []) items
    → ((rs : Records) → IsOrdered rs → applied changes rs ≡ applied_in_turn (differences items (map with_its_place items)) rs) → applied changes records ≡ with_places records
migrates_records records items changes o held places =
    places records o
    ∙ ap (λ (es : Records). applied_in_turn (differences es (map with_its_place es)) records) (sym (read_all records items held))
    ∙ descriptors_placed records o

-- a fault of reading
pub fault_of_reading : (fault : Fault) (records : Records) → LoadsItems IsAnything (λ (e : Record). e) records (4 ∷ []) (Err fault) → MigratesRecords (Err fault) records
fault_of_reading Memory records loads = tt
fault_of_reading Device records loads = tt
fault_of_reading Damaged records loads = λ db stands. loads (entries_where is_descriptor records) (record { held = sym (itself (entries_where is_descriptor records)); valid = λ e among. tt })

-- what comes of the places
pub places_migrate : (result : Result Changes Fault) (records items : Records) → IsOrdered records → AreHeld IsAnything (λ (e : Record). e) records (4 ∷ []) items
    → IfOk result (λ changes. (rs : Records) → IsOrdered rs → applied changes rs ≡ applied_in_turn (differences items (map with_its_place items)) rs)
    → (AllByRecursion HasRoom items → result ≢ Err Damaged) → MigratesRecords result records
places_migrate (Ok changes) records items o held places undamaged = migrates_records records items changes o held places
places_migrate (Err Memory) records items o held places undamaged = tt
places_migrate (Err Device) records items o held places undamaged = tt
places_migrate (Err Damaged) records items o held places undamaged = λ db stands. undamaged (subst (AllByRecursion HasRoom) (read_all records items held) (have_room records db stands)) refl

-- the fault of what spells records of record format 1
pub fault_of_first : (record_format : RecordFormat) → record_format ≡ V1 → (fault : Fault) (records : Records) → MigratesRecords (Err fault) records → MigratesRecordsFrom record_format (Err fault) records
fault_of_first record_format first Memory records none = tt
fault_of_first record_format first Device records none = tt
fault_of_first record_format first Damaged records none = λ db stands. none db (subst (λ (s : RecordFormat). StandsFor (in_record_format_2 s records) db) first stands)
