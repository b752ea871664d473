-- The removal of what a walk finds, and of what belongs to a table.
use Rattle.std.proofs.Common.{◌≡◌, ℕ, List, [], ◌∷◌, ◌++◌, Result, Ok, Err, OnOk, refl, ap, sym, ◌∙◌, subst, append_assoc}
use Rattle.std.proofs.lemmas.List.{append-nil}
use Rattle.store.specs.Records.{Records, Changes, IsOrdered, applied, entries_where, has_prefix}
use Rattle.store.specs.Walks.{Walk, walk_between, left}
use Rattle.store.proofs.Walking.{span_of_prefix}
use Rattle.row_codec.specs.Rows.{row_prefix}
use Rattle.stored_database.specs.Definitions.{TableDefinition}
use Rattle.catalogue_changes.specs.Differences.{differences, applied_in_turn}
use Rattle.catalogue_changes.specs.SchemaChanges.{descriptor_entries, policy_entries, row_entries, part_removals}
use Rattle.catalogue_changes.specs.Entries.{Adds}
use Rattle.catalogue_changes.proofs.AddLemmas.{both_added}

-- ---- walks

-- what is left to a walk over a prefix that has found nothing yet
pub over_prefix : (walk : Walk) (p prefix : List ℕ) (found : Records) → walk ≡ walk_between p p → p ≡ prefix → left walk found ≡ entries_where (has_prefix prefix) found
over_prefix walk p prefix found is same =
    ap (λ (w : Walk). left w found) is ∙ span_of_prefix p found ∙ ap (λ (q : List ℕ). entries_where (has_prefix q) found) same

-- what is left to the walk is still to be removed
abbrev pub AreRemoved : Walk → Walk → Records → Changes → Changes → Type 0
AreRemoved first walk found old new =
    (records : Records) → IsOrdered records → applied_in_turn (differences (left first found) []) (applied old records) ≡ applied_in_turn (differences (left walk found) []) (applied new records)

-- ---- changes

-- two lists of changes are added, and then a third
pub three_added : (a b c c_too : Changes) (old mid new : Changes) → c ≡ c_too → Adds (a ++ b) old mid → Adds c mid new → Adds (a ++ (b ++ c_too)) old new
three_added a b c c_too old mid new same first second =
    subst (λ (cs : Changes). Adds cs old new) (append_assoc a b c_too) (both_added (a ++ b) c (a ++ b) c_too old mid new refl same first second)

-- what belongs to a table is removed: its definitions, and then its rows
pub parts_added : {T E : Type 0} (r : Result T E) (records : Records) (t : TableDefinition) (id : ℕ) (tables : List TableDefinition) (old mid new : Changes) → tables ≡ t ∷ [] → id ≡ t.id
    → Adds (differences (descriptor_entries (t ∷ [])) [] ++ differences (policy_entries (t ∷ [])) []) old mid
    → OnOk r (Adds (differences (entries_where (has_prefix (row_prefix id)) records) []) mid new) → OnOk r (Adds (part_removals records tables) old new)
parts_added (Err e) records t id tables old mid new is same first second = tt
parts_added (Ok x) records t id tables old mid new is same first second =
    subst (λ (ts : List TableDefinition). Adds (part_removals records ts) old new) (sym is)
    (three_added (differences (descriptor_entries (t ∷ [])) []) (differences (policy_entries (t ∷ [])) []) (differences (entries_where (has_prefix (row_prefix id)) records) [])
    (differences (row_entries records (t ∷ [])) []) old mid new
    (ap (λ (i : ℕ). differences (entries_where (has_prefix (row_prefix i)) records) []) same ∙ ap (λ (es : Records). differences es []) (sym (append-nil (entries_where (has_prefix (row_prefix t.id)) records)))) first second)
