-- Records of rows that were checked.
use Rattle.std.proofs.Common.{◌≡◌, ◌<◌, ◌+◌, ℕ, suc, List, [], ◌∷◌, drop, get_or, length, refl, ap, sym, ◌∙◌, subst, inl, inr, add-one, Result, Ok, Err}
use Rattle.std.proofs.lemmas.Option.{slice_get_read}
use Rattle.std.proofs.Math.Seq.{drop-cons}
use Rattle.sql_types.specs.Row.{Row}
use Rattle.sql_ast.specs.Rows.{row_cmp}
use Rattle.sql_ast.specs.Layout.{IsLayout}
use Rattle.sql_ast.specs.Fits.{FitsTable}
use Rattle.store.specs.declared.fault.Fault.{Fault}
use Rattle.store.specs.declared.fault.Fault.TheVariants.{Memory, Device, Damaged}
use Rattle.store.specs.Records.{Records, IsOrdered}
use Rattle.row_codec.specs.Rows.{row_prefix}
use Rattle.abstract_database.specs.Database.{Database}
use Rattle.abstract_database.specs.Whole.{Each, AreWholeRows, HasWholeRows}
use Rattle.stored_database.specs.Definitions.{TableDefinition, Definitions, ids_of, table_with, tables_with, database_with}
use Rattle.stored_database.specs.RecordFormat.{row_record, rows_prefix}
use Rattle.stored_database.specs.Records.{Define, HoldRows, Shows, StandsFor}
use Rattle.stored_database.proofs.Lists.{first_of_each, rest_of_each}
use Rattle.stored_database.proofs.KeyOrder.{row_order, held_rise}
use Rattle.stored_database.proofs.Validity.{whole_table}
use Rattle.stored_database.proofs.OneDatabase.{IsWholeTableOfRows}
use Rattle.abstract_database.proofs.ElementLemmas.{among_at}
use Rattle.catalogue_loading.specs.RecordChecks.{AllPass, ChecksRecords, IsNoOrphanRow, IsRowRecord}
use Rattle.catalogue_loading.proofs.Checking.{rows_held, rows_pass}
use Rattle.catalogue_loading.proofs.Orphan.{no_orphan_row, each_row_passes}
use Rattle.catalogue_loading.specs.RowChecks.{HasOnlyRows, ChecksTables, ChecksRows, StandForOne}

-- ---- lists

pub each_cons : {X : Type 0} (P : X → Type 0) (x : X) (xs : List X) → P x → Each P xs → Each P (x ∷ xs)
each_cons P x xs first rest y (inl same) = subst P same first
each_cons P x xs first rest y (inr later) = rest y later

pub each_nil : {X : Type 0} (P : X → Type 0) → Each P []
each_nil P x among = absurd among

-- what is left from an element on
pub here : {X : Type 0} (xs : List X) (i : ℕ) (x : X) → x ≡ get_or xs i x → i < length xs → drop i xs ≡ x ∷ drop (i + 1) xs
here xs i x is lt = drop-cons xs i x lt ∙ ap (λ y. y ∷ drop (suc i) xs) (sym is) ∙ ap (λ n. x ∷ drop n xs) (sym (add-one i))

-- ---- tables

abbrev HasLayout : TableDefinition → Type 0
HasLayout t = IsLayout t.definition.layout

-- rows of these tables that the records hold
record RowsOf (records : Records) (ts : List TableDefinition) : Type 0 where
  rows : List (List Row)
  held : HoldRows records ts rows
  whole : Each IsWholeTableOfRows (tables_with ts rows)

rows_of : (records : Records) (ts : List TableDefinition) → IsOrdered records → Each HasLayout ts → Each (HasOnlyRows records) ts → RowsOf records ts
rows_of records [] o is only = record { rows = []; held = tt; whole = each_nil IsWholeTableOfRows }
rows_of records (t ∷ ts) o is only =
    let layout = t.definition.layout in
    let found = rows_held t.id layout records (first_of_each (HasOnlyRows records) t ts only) in
    let later = rows_of records ts o (rest_of_each HasLayout t ts is) (rest_of_each (HasOnlyRows records) t ts only) in
    let whole : AreWholeRows layout found.0 = record {
      fit = found.1.valid;
      order = held_rise (FitsTable layout) (row_cmp layout.key) (row_record t.id layout) (λ a b p q. row_order t.id layout a b (first_of_each HasLayout t ts is) p q)
          records (row_prefix t.id) found.0 o found.1.held found.1.valid;
    } in
    record {
      rows = found.0 ∷ later.rows;
      held = (found.1.held, later.held);
      whole = each_cons IsWholeTableOfRows (table_with t found.0) (tables_with ts later.rows) whole later.whole;
    }

only_rows : (records : Records) (ts : List TableDefinition) (rows : List (List Row)) → HoldRows records ts rows → Each IsWholeTableOfRows (tables_with ts rows) → Each (HasOnlyRows records) ts
only_rows records [] rows held whole = each_nil (HasOnlyRows records)
only_rows records (t ∷ ts) [] held whole = absurd held
only_rows records (t ∷ ts) (r ∷ rows) held whole =
    each_cons (HasOnlyRows records) t ts
    (rows_pass t.id t.definition.layout records r (record { held = held.0; valid = (first_of_each IsWholeTableOfRows (table_with t r) (tables_with ts rows) whole).fit }))
    (only_rows records ts rows held.1 (rest_of_each IsWholeTableOfRows (table_with t r) (tables_with ts rows) whole))

-- ---- one table after the other

pub one_more : (records : Records) (ts : List TableDefinition) (i : ℕ) (t : TableDefinition) → t ≡ get_or ts i t → i < length ts → HasOnlyRows records t
    → (Each (HasOnlyRows records) (drop i ts) → Each (HasOnlyRows records) ts) → Each (HasOnlyRows records) (drop (i + 1) ts) → Each (HasOnlyRows records) ts
one_more records ts i t is lt only so_far rest =
    so_far (subst (Each (HasOnlyRows records)) (sym (here ts i t is lt)) (each_cons (HasOnlyRows records) t (drop (i + 1) ts) only rest))

pub one_fails : (records : Records) (ts : List TableDefinition) (i : ℕ) (t : TableDefinition) (fault : Fault) → t ≡ get_or ts i t → i < length ts
    → ChecksRecords (IsRowRecord t.id t.definition.layout) records (row_prefix t.id) (Err fault) → ChecksTables (Err fault) records ts
one_fails records ts i t Memory is lt fails = tt
one_fails records ts i t Device is lt fails = tt
one_fails records ts i t Damaged is lt fails = λ all. fails (all t (among_at ts i t (slice_get_read ts (length ts) i t refl lt is)))

-- ---- databases

pub shown : (records : Records) (d : Definitions) → IsOrdered records → Define records d → Each (HasOnlyRows records) d.tables
    → AllPass (IsNoOrphanRow (ids_of d.tables)) records rows_prefix → (db : Database) × Shows records d db
shown records d o defined only orphans =
    let found = rows_of records d.tables o (λ t among. (whole_table d defined.valid t among).layout) only in (
      database_with d found.rows,
      record {
        defined = defined;
        rows = found.rows;
        held = found.held;
        no_other_row = no_orphan_row (ids_of d.tables) records orphans;
        is = refl;
        whole_rows = found.whole;
      },
    )

-- records define one catalogue
abbrev pub OneCatalogue : Type 0
OneCatalogue = (records : Records) (d e : Definitions) → Define records d → Define records e → d ≡ e

-- a database that the records stand for has these definitions
pub with_definitions : OneCatalogue → (records : Records) (d : Definitions) (db : Database) → Define records d → StandsFor records db → Shows records d db
with_definitions one records d db defined s = subst (λ (e : Definitions). Shows records e db) (one records s.0 d s.1.defined defined) s.1

pub shown_tables : (records : Records) (d : Definitions) (db : Database) → Shows records d db → Each (HasOnlyRows records) d.tables
shown_tables records d db s = only_rows records d.tables s.rows s.held (subst HasWholeRows s.is s.whole_rows)

pub shown_orphans : (records : Records) (d : Definitions) (db : Database) → Shows records d db → AllPass (IsNoOrphanRow (ids_of d.tables)) records rows_prefix
shown_orphans records d db s = each_row_passes (ids_of d.tables) records s.no_other_row

pub stands_for_one : ((records : Records) (a b : Database) → StandsFor records a → StandsFor records b → a ≡ b) → (records : Records) (d : Definitions)
    → (db : Database) × Shows records d db → StandForOne records d
stands_for_one one records d s = record { database = s.0; shown = s.1; one = λ other stands. one records s.0 other (d, s.1) stands }

-- what the check of the tables answers, where it is all that is answered
pub fault_of_tables : OneCatalogue → (records : Records) (d : Definitions) (fault : Fault) → Define records d → ChecksTables (Err fault) records d.tables → ChecksRows (Err fault) records d
fault_of_tables one records d Memory defined fails = tt
fault_of_tables one records d Device defined fails = tt
fault_of_tables one records d Damaged defined fails = λ db stands. fails (shown_tables records d db (with_definitions one records d db defined stands))

-- and what the check of orphans does after it
pub after_tables : OneCatalogue → (records : Records) (d : Definitions) (result : Result (Unit {0}) Fault) → IsOrdered records → Define records d → Each (HasOnlyRows records) d.tables
    → ChecksRecords (IsNoOrphanRow (ids_of d.tables)) records rows_prefix result → ChecksRows result records d
after_tables one records d (Ok x) o defined only orphans = shown records d o defined only orphans
after_tables one records d (Err Memory) o defined only orphans = tt
after_tables one records d (Err Device) o defined only orphans = tt
after_tables one records d (Err Damaged) o defined only orphans = λ db stands. orphans (shown_orphans records d db (with_definitions one records d db defined stands))
