-- Changes that are added to others.
use Rattle.std.proofs.Common.{◌≡◌, List, ◌++◌, map, ap, sym, ◌∙◌}
use Rattle.sql_ast.specs.declared.role.Role.{Role}
use Rattle.sql_ast.specs.declared.role.Membership.{Membership}
use Rattle.stored_database.specs.RecordFormat.{role_record, membership_record}
use Rattle.store.specs.Records.{Records, Changes, applied}
use Rattle.catalogue_changes.specs.Differences.{differences, applied_in_turn}
use Rattle.catalogue_changes.specs.Entries.{Adds}
use Rattle.entry_differences.proofs.DifferenceLemmas.{in_turn_append}

-- changes are added, and then more
pub both_added : (these later these_too later_too : Changes) (old mid new : Changes) → these ≡ these_too → later ≡ later_too → Adds these old mid → Adds later mid new → Adds (these_too ++ later_too) old new
both_added these later these_too later_too old mid new p q a b = λ records ordered.
    b records ordered ∙ ap (applied_in_turn later) (a records ordered) ∙ sym (in_turn_append these later (applied old records)) ∙ same p q (applied old records)
  where
    same : {cs ds es fs : Changes} → cs ≡ es → ds ≡ fs → (records : Records) → applied_in_turn (cs ++ ds) records ≡ applied_in_turn (es ++ fs) records
    same g h records = cc

pub same_role_changes : {a b c d : List Role} → a ≡ c → b ≡ d → differences (map role_record a) (map role_record b) ≡ differences (map role_record c) (map role_record d)
same_role_changes p q = cc

pub same_membership_changes : {a b c d : List Membership} → a ≡ c → b ≡ d → differences (map membership_record a) (map membership_record b) ≡ differences (map membership_record c) (map membership_record d)
same_membership_changes p q = cc
