-- Reads of a map, as reads of a view of it.
use Rattle.std.specs.Prelude.{MatchOption, is_some}
use Rattle.std.specs.Borrow.{Bor}
use Rattle.std.proofs.Common.{◌≡◌, ℕ, Bool, List, Option, Some, None, Result, Ok, Err, refl, ap, sym, ◌∙◌, subst}
use Rattle.store.specs.Records.{Record, Records, Changes, IsOrdered, IsFound, entry_at, entry_of, lookup}
use Rattle.store.specs.Steps.{Goes}
use Rattle.store.specs.declared.fault.StoreFault.{StoreFault}
use Rattle.store.specs.declared.fault.StoreFault.TheVariants.{Full, Memory, Device, Number}
use Rattle.store.specs.declared.fault.Fault.{Fault}
use Rattle.store.specs.declared.fault.Fault.TheVariants as reader
use Rattle.store.specs.Store.{StoreState, HasReadCause, OnlyReads, Reads, failed_after}
use Rattle.store.specs.Readers.{HasRead}
use Rattle.store.proofs.Reading.{cause_later, reads_joined}
use Rattle.transactions.specs.Views.{applied_all, view_state, latest}
use Rattle.transactions.specs.Calls.{KeepsRecords}
use Rattle.transactions.proofs.Latest.{lookup-applied_all}

pub view_only_reads : (lists : List Changes) (old new : StoreState) → OnlyReads old new → OnlyReads (view_state lists old) (view_state lists new)
view_only_reads lists old new reads = record {
  history = record { sound = reads.history.sound; fulls = reads.history.fulls; failures = reads.history.failures; faults = reads.history.faults };
  unchanged = λ sound. record { map = ap (applied_all lists) (reads.unchanged sound).map; record_format = (reads.unchanged sound).record_format; number = (reads.unchanged sound).number };
  leaves = λ sound. reads.leaves sound;
}

pub view_cause : (fault : StoreFault) (lists : List Changes) (old new : StoreState) → HasReadCause fault old new → HasReadCause fault (view_state lists old) (view_state lists new)
view_cause Full lists old new cause = cause
view_cause Memory lists old new cause = cause
view_cause Device lists old new cause = record { counted = cause.counted; fault = cause.fault }
view_cause Number lists old new cause = cause

-- an answer after reads of the map
pub view_answered : (lists : List Changes) (entry : Option Record) (found : Bool) (out : Record) (old new : StoreState) → OnlyReads old new → new.has_failed ≡ old.has_failed
    → (old.sound → IsFound found out entry) → Reads entry (Ok found) out (view_state lists old) (view_state lists new)
view_answered lists entry found out old new reads same is = record {
  only_reads = view_only_reads lists old new reads;
  found = is;
  cause = tt;
  failed = same;
  closed = λ none had. absurd none;
}

-- a fault after them
pub view_refused : (lists : List Changes) (entry : Option Record) (fault : StoreFault) (out : Record) (old new : StoreState) → OnlyReads old new
    → new.has_failed ≡ failed_after {T = Bool} (Err fault) old.has_failed → HasReadCause fault old new
    → Reads entry (Err fault) out (view_state lists old) (view_state lists new)
view_refused lists entry fault out old new reads same cause = record {
  only_reads = view_only_reads lists old new reads;
  found = λ sound. tt;
  cause = view_cause fault lists old new cause;
  failed = same;
  closed = λ none had. absurd none;
}

-- what the map answers of a key of which the changes say nothing
pub view_read : (lists : List Changes) (entry seen : Option Record) (result : Result Bool StoreFault) (out : Record) (old new : StoreState) → (old.sound → seen ≡ entry)
    → Reads seen result out old new → Reads entry result out (view_state lists old) (view_state lists new)
view_read lists entry seen (Ok found) out old new same reads =
    view_answered lists entry found out old new reads.only_reads reads.failed (λ sound. subst (λ (e : Option Record). IsFound found out e) (same sound) (reads.found sound))
view_read lists entry seen (Err fault) out old new same reads = view_refused lists entry fault out old new reads.only_reads reads.failed reads.cause

-- what the map does, as the view does it
pub view_goes : {T : Type 0} (lists : List Changes) (A B : T → Type 0) (result : Result T StoreFault) (old new : StoreState) → (old.sound → (x : T) → A x → B x) → Goes A result old new
    → Goes B result (view_state lists old) (view_state lists new)
view_goes lists A B (Ok x) old new so goes = record {
  only_reads = view_only_reads lists old new goes.only_reads;
  answer = λ sound. so sound x (goes.answer sound);
  cause = tt;
  failed = goes.failed;
  closed = λ none had. absurd none;
}
view_goes lists A B (Err fault) old new so goes = record {
  only_reads = view_only_reads lists old new goes.only_reads;
  answer = λ sound. tt;
  cause = view_cause fault lists old new goes.cause;
  failed = goes.failed;
  closed = λ none had. absurd none;
}

-- an answer after reads of the map
pub view_found : {T : Type 0} (lists : List Changes) (does : T → Type 0) (x : T) (old new : StoreState) → OnlyReads old new → new.has_failed ≡ old.has_failed → (old.sound → does x) → Goes does (Ok x) (view_state lists old) (view_state lists new)
view_found lists does x old new reads same is = record {
  only_reads = view_only_reads lists old new reads;
  answer = is;
  cause = tt;
  failed = same;
  closed = λ none had. absurd none;
}

-- what is answered after reads of the map, and after reads before these
pub view_goes_later : {T : Type 0} (lists : List Changes) (old mid new : StoreState) → OnlyReads old mid → mid.has_failed ≡ old.has_failed → (A B : T → Type 0) (result : Result T StoreFault) → (old.sound → (x : T) → A x → B x) → OnlyReads mid new
    → Goes A result (view_state lists mid) (view_state lists new) → Goes B result (view_state lists old) (view_state lists new)
view_goes_later lists old mid new first same A B (Ok x) so second goes = record {
  only_reads = view_only_reads lists old new (reads_joined old mid new first second);
  answer = λ sound. so sound x (goes.answer (first.history.sound sound));
  cause = tt;
  failed = goes.failed ∙ same;
  closed = λ none had. absurd none;
}
view_goes_later {T} lists old mid new first same A B (Err fault) so second goes = record {
  only_reads = view_only_reads lists old new (reads_joined old mid new first second);
  answer = λ sound. tt;
  cause = cause_later fault (view_state lists old) (view_state lists mid) (view_state lists new) (view_only_reads lists old mid first).history same (view_only_reads lists mid new second).history goes.cause;
  failed = goes.failed ∙ ap (λ (b : Bool). failed_after {T = T} (Err fault) b) same;
  closed = λ none had. absurd none;
}

-- ---- the map below a view

-- reads of a map leave its records
pub records_kept : (old new : StoreState) → OnlyReads old new → KeepsRecords old new
records_kept old new reads = record { sound = reads.history.sound; unchanged = reads.unchanged }

-- reads of a view that leave the records below it are reads of the map, whatever the lists
pub map_only_reads : (lists later : List Changes) (old new : StoreState) → KeepsRecords old new → OnlyReads (view_state lists old) (view_state later new) → OnlyReads old new
map_only_reads lists later old new keeps reads = record {
  history = record { sound = keeps.sound; fulls = reads.history.fulls; failures = reads.history.failures; faults = reads.history.faults };
  unchanged = keeps.unchanged;
  leaves = λ sound. reads.leaves sound;
}

-- and what a reader of the view answers, with its faults, a reader of the map does
pub map_has_read : {T : Type 0} (lists later : List Changes) (result : Result T Fault) (old new : StoreState) → KeepsRecords old new
    → HasRead result (view_state lists old) (view_state later new) → HasRead result old new
map_has_read lists later (Ok x) old new keeps read = record { only_reads = map_only_reads lists later old new keeps read.only_reads; cause = tt; failed = read.failed }
map_has_read lists later (Err reader.Memory) old new keeps read = record { only_reads = map_only_reads lists later old new keeps read.only_reads; cause = tt; failed = read.failed }
map_has_read lists later (Err reader.Device) old new keeps read = record {
  only_reads = map_only_reads lists later old new keeps read.only_reads;
  cause = record { counted = read.cause.counted; fault = read.cause.fault };
  failed = read.failed;
}
map_has_read lists later (Err reader.Damaged) old new keeps read = record { only_reads = map_only_reads lists later old new keeps read.only_reads; cause = tt; failed = read.failed }

-- ---- entries under changes

pub put_entry : (key value : List ℕ) (word : Option (List ℕ)) (lists : List Changes) (es : Records) → IsOrdered es → latest key lists ≡ Some word → word ≡ Some value
    → entry_at key (applied_all lists es) ≡ Some (key, value)
put_entry key value word lists es rise says is = ap (entry_of key) (lookup-applied_all key lists es rise) ∙ rw says (rw is refl)

pub removed_entry : (key : List ℕ) (word : Option (List ℕ)) (lists : List Changes) (es : Records) → IsOrdered es → latest key lists ≡ Some word → word ≡ None
    → entry_at key (applied_all lists es) ≡ None
removed_entry key word lists es rise says is = ap (entry_of key) (lookup-applied_all key lists es rise) ∙ rw says (rw is refl)

pub old_entry : (key : List ℕ) (lists : List Changes) (es : Records) → IsOrdered es → latest key lists ≡ None → entry_at key es ≡ entry_at key (applied_all lists es)
old_entry key lists es rise says = sym (ap (entry_of key) (lookup-applied_all key lists es rise ∙ rw says refl))

-- whether a key has an entry
pub change_answers : (key : List ℕ) (word : Option (List ℕ)) (lists : List Changes) (es : Records) (put : Option (Bor (List ℕ))) → IsOrdered es → latest key lists ≡ Some word
    → MatchOption put (word ≡ None) (λ value. word ≡ Some value.now) → is_some put ≡ is_some (lookup key (applied_all lists es))
change_answers key word lists es None rise says is =
    let none : lookup key (applied_all lists es) ≡ None = lookup-applied_all key lists es rise ∙ rw says is in
    sym (ap (λ (o : Option (List ℕ)). is_some o) none)
change_answers key word lists es (Some value) rise says is =
    let there : lookup key (applied_all lists es) ≡ Some value.now = lookup-applied_all key lists es rise ∙ rw says is in
    sym (ap (λ (o : Option (List ℕ)). is_some o) there)

pub map_answers : (key : List ℕ) (lists : List Changes) (es : Records) → IsOrdered es → latest key lists ≡ None → is_some (lookup key es) ≡ is_some (lookup key (applied_all lists es))
map_answers key lists es rise says =
    let same : lookup key (applied_all lists es) ≡ lookup key es = lookup-applied_all key lists es rise ∙ rw says refl in
    sym (ap (λ (o : Option (List ℕ)). is_some o) same)
