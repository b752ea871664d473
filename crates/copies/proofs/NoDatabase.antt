-- Marked records stand for no database, and those of a database are behind the mark.
use Rattle.std.proofs.Common.{◌≡◌, inl, inr, ℕ, Bool, true, false, if◌then◌else◌, not, List, [], ◌∷◌, Option, Some, None, refl, sym, ap, subst, ◌∙◌}
use Rattle.std.specs.List.{list_any}
use Rattle.std.proofs.lemmas.Bool.{false≢true}
use Rattle.storage_sizes.specs.declared.record_format.RecordFormat.{RecordFormat}
use Rattle.storage_sizes.specs.declared.record_format.RecordFormat.TheVariants.{V1, V2}
use Rattle.store.specs.Records.{Record, Records, entries_where, is_from}
use Rattle.store.specs.Store.{Contents}
use Rattle.abstract_database.specs.Lists.{Among}
use Rattle.abstract_database.specs.Database.{Database}
use Rattle.stored_database.specs.Definitions.{Definitions, ids_of}
use Rattle.stored_database.specs.Entries.{IsRecordSize}
use Rattle.stored_database.specs.Records.{Shows, StandsFor, is_key_of, is_orphan}
use Rattle.stored_database.specs.RecordFormat.{descriptor_prefix, policy_prefix}
use Rattle.stored_database.specs.BothRecordFormats.{Means, Stands, in_record_format_2, with_places}
use Rattle.stored_database.proofs.AllRecords.{KindOf, of_role, of_membership, of_table, of_row, of_descriptor, of_policy, kind_of, none_there}
use Rattle.stored_database.proofs.Lists.{into_right}
use Rattle.stored_database.proofs.Prefixes.{front_of}
use Rattle.copies.specs.RecordCopies.{HasOutsized, behind_mark, mark}
use Rattle.copies.specs.DeviceCopies.{HasNoneOrMark}

-- the mark's key is of no table
no_own : (ids : List ℕ) → list_any (is_key_of (0 ∷ [])) ids ≡ false
no_own [] = refl
no_own (id ∷ ids) = no_own ids

-- nor of any other kind
orphan_mark : (ids : List ℕ) → is_orphan ids (0 ∷ []) ≡ true
orphan_mark ids = ap (λ (b : Bool). not b) (no_own ids)

marked_none : (records others : Records) (db : Database) → records ≡ mark ∷ others → StandsFor records db → ⊥
marked_none records others db is stands =
    let ids = ids_of stands.0.tables in
    false≢true (sym (none_there (is_orphan ids) records stands.1.defined.no_other mark (subst (λ (es : Records). Among mark es) (sym is) (inl refl))) ∙ orphan_mark ids)

-- the mark is spelled alike in both record formats
marked_in_second : (record_format : RecordFormat) (records others : Records) → records ≡ mark ∷ others → (more : Records) × (in_record_format_2 record_format records ≡ mark ∷ more)
marked_in_second V1 records others is = (with_places others, ap with_places is)
marked_in_second V2 records others is = (others, is)

pub marked_stands : (contents : Contents) (others : Records) (db : Database) → contents.records ≡ mark ∷ others → Stands contents db → ⊥
marked_stands contents others db is stands =
    let there = marked_in_second contents.record_format contents.records others is in
    marked_none (in_record_format_2 contents.record_format contents.records) there.0 db there.1 stands

pub left_stands : (x : Option Contents) (db : Database) → HasNoneOrMark x → Means x db → ⊥
left_stands x db (inl none) means = let bad : None ≡ Some means.0 = sym none ∙ means.1 in cc
left_stands x db (inr marked) means =
    let same : marked.0 ≡ means.0 = some_same marked.0 means.0 (sym marked.2 ∙ means.1) in
    marked_stands means.0 marked.1 db (ap (λ (c : Contents). c.records) (sym same) ∙ marked.3) means.2
  where
    some_same : (c d : Contents) → Some c ≡ Some d → c ≡ d
    some_same c d is = cc

-- ---- the records of a database

-- a key of a kind comes behind the mark
behind_kind : (ids key : List ℕ) → KindOf ids key → is_from (0 ∷ 0 ∷ []) key ≡ true
behind_kind ids key (of_role begins) = let f = front_of (1 ∷ []) key begins in ap (is_from (0 ∷ 0 ∷ [])) f.1
behind_kind ids key (of_membership begins) = let f = front_of (2 ∷ []) key begins in ap (is_from (0 ∷ 0 ∷ [])) f.1
behind_kind ids key (of_table begins) = let f = front_of (3 ∷ []) key begins in ap (is_from (0 ∷ 0 ∷ [])) f.1
behind_kind ids key (of_row begins) = let f = front_of (6 ∷ []) key begins in ap (is_from (0 ∷ 0 ∷ [])) f.1
behind_kind ids key (of_descriptor id among begins) = let f = front_of (descriptor_prefix id) key begins in ap (is_from (0 ∷ 0 ∷ [])) f.1
behind_kind ids key (of_policy id among begins) = let f = front_of (policy_prefix id) key begins in ap (is_from (0 ∷ 0 ∷ [])) f.1

all_there : (q : List ℕ → Bool) (records : Records) → ((e : Record) → Among e records → q e.0 ≡ true) → entries_where q records ≡ records
all_there q [] each = refl
all_there q (e ∷ es) each =
    let first : q e.0 ≡ true = each e (inl refl) in
    let rest : entries_where q es ≡ es = all_there q es (λ x among. each x (inr among)) in
    ap (λ (b : Bool). if b then e ∷ entries_where q es else entries_where q es) first ∙ ap (λ (xs : Records). e ∷ xs) rest

pub all_behind : (records : Records) (db : Database) → StandsFor records db → behind_mark records ≡ records
all_behind records db stands =
    let ids = ids_of stands.0.tables in
    all_there (is_from (0 ∷ 0 ∷ [])) records (λ e among. behind_kind ids e.0 (kind_of ids e.0 (none_there (is_orphan ids) records stands.1.defined.no_other e among)))

pub none_outsized : ((records : Records) (d : Definitions) (db : Database) → Shows records d db → (e : Record) → Among e records → IsRecordSize e)
    → (records : Records) (db : Database) → StandsFor records db → HasOutsized records → ⊥
none_outsized sizes records db stands has =
    has.no_size (sizes records stands.0 db stands.1 has.outsized
    (subst (λ (es : Records). Among has.outsized es) (sym has.all) (into_right has.before (has.outsized ∷ has.later) has.outsized (inl refl))))
