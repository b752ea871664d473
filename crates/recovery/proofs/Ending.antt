-- How a migration ends: with the commit of its one list, or with none.
use Rattle.std.proofs.Common.{◌≡◌, Bool, false, List, [], ◌∷◌, Result, Ok, Err, refl, ap, sym, ◌∙◌, subst, arith}
use Rattle.storage_sizes.specs.declared.record_format.RecordFormat.{RecordFormat}
use Rattle.storage_sizes.specs.declared.record_format.RecordFormat.TheVariants.{V1, V2}
use Rattle.store.specs.Records.{Records, Changes, applied}
use Rattle.store.specs.Contents.{changed_in}
use Rattle.store.specs.Store.{StoreState, stored, KeepsHistory, OnlyReads, Commits, failed_after}
use Rattle.store.specs.declared.fault.StoreFault.{StoreFault}
use Rattle.store.proofs.Reading.{history_joined}
use Rattle.abstract_database.specs.Database.{Database}
use Rattle.stored_database.specs.BothRecordFormats.{with_places, Stands}
use Rattle.recovery.specs.declared.fault.OpeningFault.TheVariants.{Commit}
use Rattle.recovery.specs.Migrated.{failed_after_opening, HasOpeningCause, Migrates}
use Rattle.recovery.specs.MigrationChanges.{AreMigrating}
use Rattle.recovery.proofs.Migrating.{IsSettled, commit_cause, nothing_done, commit_fails, commit_done}

-- ---- lists

no_list : {c : Changes} {cs : List Changes} → [] ≡ c ∷ cs → ⊥
no_list h = cc

one_list : {c d : Changes} {cs : List Changes} → c ∷ [] ≡ d ∷ cs → c ≡ d
one_list h = cc

-- where there is a list, the records are of record format 1, and its changes spell them in record format 2
pub record IsFirst (old : StoreState) (changes : Changes) : Type 0 where
  pub first : old.record_format ≡ V1
  pub migrates_records : applied changes old.map ≡ with_places old.map

first_by : (s : RecordFormat) (records : Records) (lists : List Changes) (c : Changes) (cs : List Changes) → lists ≡ c ∷ cs → AreMigrating s records lists → (s ≡ V1) × (applied c records ≡ with_places records)
first_by V1 records lists c cs is are = (refl, ap (λ (ds : Changes). applied ds records) (sym (one_list (sym are.1 ∙ is))) ∙ are.2)
first_by V2 records lists c cs is are = absurd (no_list (sym are ∙ is))

pub is_first : (old : StoreState) (lists : List Changes) (c : Changes) (cs : List Changes) → lists ≡ c ∷ cs → AreMigrating old.record_format old.map lists → IsFirst old c
is_first old lists c cs is are = let both = first_by old.record_format old.map lists c cs is are in record { first = both.0; migrates_records = both.1 }

second_by : (s : RecordFormat) (records : Records) (lists : List Changes) → lists ≡ [] → AreMigrating s records lists → s ≡ V2
second_by V1 records lists is are = absurd (no_list (sym is ∙ are.1))
second_by V2 records lists is are = refl

-- where there is none, they are of the second
pub is_second : (old : StoreState) (lists : List Changes) → lists ≡ [] → AreMigrating old.record_format old.map lists → old.record_format ≡ V2
is_second old lists is are = second_by old.record_format old.map lists is are

-- by whether there is a list
pub by_lists : {P : Type 0} (lists : List Changes) → (lists ≡ [] → P) → ((c : Changes) (cs : List Changes) → lists ≡ c ∷ cs → P) → P
by_lists [] none some = none refl
by_lists (c ∷ cs) none some = some c cs refl

pub no_fault : {fault : StoreFault} {u : Unit {0}} → Err fault ≡ Ok u → ⊥
no_fault h = cc

-- ---- the commit

same_history : (s : StoreState) → KeepsHistory s s
same_history s = record { sound = λ is. is; fulls = omega arith; failures = omega arith; faults = omega arith }

abbrev pub CommitsNone : {S : Type 0} → Result (Unit {0}) StoreFault → S → S → List Changes → Type 0
CommitsNone result mid new lists = lists ≡ [] → (result ≡ Ok tt) × (new ≡ mid)

abbrev pub CommitsOne : Result (Unit {0}) StoreFault → StoreState → StoreState → List Changes → Type 0
CommitsOne result mid new lists = (changes : Changes) (others : List Changes) → lists ≡ changes ∷ others → Commits result (changed_in V2 changes (stored mid)) mid new

module _ {S : Type 0} (state : S → StoreState) (old mid new : S) (lists : List Changes) (reads : OnlyReads (state old) (state mid)) (unfailed : (state mid).has_failed ≡ (state old).has_failed) where
  pub ends_history : (result : Result (Unit {0}) StoreFault) → CommitsNone result mid new lists → CommitsOne result (state mid) (state new) lists → KeepsHistory (state old) (state new)
  ends_history result none some = history_joined (state old) (state mid) (state new) reads.history
      (by_lists lists (λ is. subst (λ (x : S). KeepsHistory (state mid) (state x)) (sym (none is).1) (same_history (state mid))) (λ c cs is. (some c cs is).history))

  pub failed_ok : (u v : Unit {0}) → CommitsNone (Ok u) mid new lists → CommitsOne (Ok u) (state mid) (state new) lists → (state new).has_failed ≡ failed_after_opening (Ok v) (state old).has_failed
  failed_ok u v none some = by_lists lists (λ is. ap (λ (x : S). (state x).has_failed) (none is).1 ∙ unfailed) (λ c cs is. (some c cs is).failed ∙ unfailed)

  pub failed_err : (fault : StoreFault) → CommitsNone (Err fault) mid new lists → CommitsOne (Err fault) (state mid) (state new) lists
      → (state new).has_failed ≡ failed_after_opening (Err (Commit fault)) (state old).has_failed
  failed_err fault none some = by_lists lists (λ is. absurd (no_fault (none is).0))
      (λ c cs is. (some c cs is).failed ∙ ap (λ (had : Bool). failed_after {T = Unit {0}} (Err fault) had) unfailed)

  module _ (sound : (state old).sound) (are : AreMigrating (state old).record_format (state old).map lists) where
    pub cause_err : (fault : StoreFault) → CommitsNone (Err fault) mid new lists → CommitsOne (Err fault) (state mid) (state new) lists → HasOpeningCause (Commit fault) (state old) (state new)
    cause_err fault none some = by_lists lists (λ is. absurd (no_fault (none is).0))
        (λ c cs is. commit_cause fault (state old) (state mid) (state new) (is_first (state old) lists c cs is are).first reads (reads.unchanged sound) unfailed (some c cs is).history (some c cs is).cause)

    module _ (works : (state old).has_failed ≡ false) (db : Database) (settled : IsSettled (state old)) (stands : Stands (stored (state old)) db) where
      pub migrates_ok : (u : Unit {0}) → CommitsNone (Ok u) mid new lists → CommitsOne (Ok u) (state mid) (state new) lists → Migrates (Ok u) db (state old) (state new)
      migrates_ok u none some = by_lists lists
          (λ is. nothing_done (state old) (state new) db sound settled stands (subst (λ (x : S). OnlyReads (state old) (state x)) (sym (none is).1) reads) (is_second (state old) lists is are) u)
          (λ c cs is.
          let first = is_first (state old) lists c cs is are in
          commit_done c (state old) (state mid) (state new) sound reads first.first first.migrates_records db settled stands u ((some c cs is).at_once (reads.history.sound sound) (unfailed ∙ works)))

      pub migrates_err : (fault : StoreFault) → CommitsNone (Err fault) mid new lists → CommitsOne (Err fault) (state mid) (state new) lists → Migrates (Err (Commit fault)) db (state old) (state new)
      migrates_err fault none some = by_lists lists (λ is. absurd (no_fault (none is).0))
          (λ c cs is.
          let first = is_first (state old) lists c cs is are in
          commit_fails c (state old) (state mid) (state new) sound reads first.first first.migrates_records db settled stands fault ((some c cs is).at_once (reads.history.sound sound) (unfailed ∙ works)))
