-- Records among which no orphan is.
use Rattle.std.proofs.Common.{◌≡◌, ℕ, Bool, true, false, not, ◌&&◌, List, [], ◌∷◌, refl, ap, sym, subst}
use Rattle.std.specs.List.{list_any}
use Rattle.store.specs.Records.{Record, Records, entries_where, has_prefix}
use Rattle.abstract_database.specs.Lists.{Among}
use Rattle.stored_database.specs.Records.{is_orphan, is_row_key_of, is_orphan_row}
use Rattle.stored_database.specs.RecordFormat.{rows_prefix}
use Rattle.stored_database.proofs.AllRecords.{into_where, of_where, none_there}
use Rattle.stored_database.proofs.Spelled.{where_none}
use Rattle.catalogue_loading.specs.RecordChecks.{AllPass, IsNoOrphan, IsNoOrphanRow}

all_records : (es : Records) → entries_where (has_prefix []) es ≡ es
all_records [] = refl
all_records (e ∷ es) = ap (λ (zs : Records). e ∷ zs) (all_records es)

pub no_orphan : (ids : List ℕ) (records : Records) → AllPass (IsNoOrphan ids) records [] → entries_where (is_orphan ids) records ≡ []
no_orphan ids records all = where_none (is_orphan ids) records (λ e among. all e (subst (Among e) (sym (all_records records)) among))

-- ---- rows

pub no_orphan_row : (ids : List ℕ) (records : Records) → AllPass (IsNoOrphanRow ids) records rows_prefix → entries_where (is_orphan_row ids) records ≡ []
no_orphan_row ids records all = where_none (is_orphan_row ids) records (λ e among. go e (has_prefix rows_prefix e.0) refl among) where
  go : (e : Record) (b : Bool) → has_prefix rows_prefix e.0 ≡ b → Among e records → is_orphan_row ids e.0 ≡ false
  go e true is among = all e (into_where (has_prefix rows_prefix) records e among is)
  go e false is among = ap (λ (z : Bool). z && not (list_any (is_row_key_of e.0) ids)) is

pub each_row_passes : (ids : List ℕ) (records : Records) → entries_where (is_orphan_row ids) records ≡ [] → AllPass (IsNoOrphanRow ids) records rows_prefix
each_row_passes ids records none e among = none_there (is_orphan_row ids) records none e (of_where (has_prefix rows_prefix) records e among)
