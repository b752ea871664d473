-- How a copy grows, commit by commit.
use Rattle.std.proofs.Common.{◌≡◌, ◌≤◌, ◌+◌, ◌^◌, ℕ, arith, IfErr, ◌⊎◌, inl, inr, ◌++◌, ◌∷◌, [], Bool, true, false, Option, Some, Result, Ok, Err, refl, sym, ap, subst, ◌∙◌}
use Rattle.std.proofs.lemmas.List.{append_assoc}
use Rattle.std.specs.Result.{IsErrAnd}
use Rattle.sector_device.specs.Timeline.{LeavesOnly, joined, weakened}
use Rattle.store.specs.Records.{Records, Changes, IsOrdered, applied}
use Rattle.store.specs.Contents.{changed_by_batch}
use Rattle.store.specs.Store.{Contents, StoreState, Commits, HasCause, IsUnchanged, KeepsHistory, MayLeaveDuring, OnlyReads, stored}
use Rattle.storage_sizes.specs.declared.record_format.RecordFormat.{RecordFormat}
use Rattle.store.specs.declared.fault.Fault.{Fault}
use Rattle.store.specs.declared.fault.StoreFault.{StoreFault}
use Rattle.store.specs.declared.fault.StoreFault.TheVariants.{Full, Memory, Device, Number}
use Rattle.store.specs.declared.fault.Fault.TheVariants as reading
use Rattle.store.specs.Readers.{HasRead, HasFaultCause}
use Rattle.store.proofs.Reading.{rose_later, cause_later, fault_later}
use Rattle.copies.specs.declared.fault.CopyFault.{CopyFault}
use Rattle.copies.specs.declared.fault.CopyFault.TheVariants.{Pages, Read, Write, WrongSize, Full as NoRoom}
use Rattle.copies.specs.RecordCopies.{IsUnfinished, Fills, Finishes, HasMark, HasOutsized, HasWriteCause, HasCopyCause, AfterCopy, Copies, whole, mark, put_in, unmarked, behind_mark}
use Rattle.copies.proofs.Copied.{grows, ends}

-- the target works, and has the mark and some of the records, the others of which are ahead; a stop until now leaves the mark
pub record Grows (ahead : Records → Type 0) (records : Records) (old new : StoreState) : Type 0 where
  pub had : Records
  pub later : Records
  pub all : records ≡ had ++ later
  pub is_ahead : ahead later
  pub map : new.map ≡ mark ∷ had
  pub record_format : new.record_format ≡ old.record_format
  pub sound : new.sound
  pub works : new.has_failed ≡ false
  pub leaves : LeavesOnly IsUnfinished old.time new.time

either : (result : Result (Unit {0}) StoreFault) (before after : Contents) (x : Option Contents) → MayLeaveDuring result before after x → (x ≡ Some before) ⊎ (x ≡ Some after)
either (Ok y) before after x is = is
either (Err Full) before after x is = inl is
either (Err Memory) before after x is = inl is
either (Err Device) before after x is = is
either (Err Number) before after x is = inl is

-- records are committed behind those that were there
pub grown_on : (A B : Records → Type 0) (records : Records) (old mid new : StoreState) (batch : Changes) → IsOrdered (mark ∷ records)
    → Commits (Ok tt) (changed_by_batch batch (stored mid)) mid new → Grows A records old mid
    → ((later : Records) → A later → Fills B true later [] batch) → Grows B records old new
grown_on A B records old mid new batch o commits g fill =
    let f = fill g.later g.is_ahead in
    let at = commits.at_once g.sound g.works in
    let split : records ≡ g.had ++ (f.0 ++ f.1) = g.all ∙ ap (λ (xs : Records). g.had ++ xs) f.2 in
    let made : applied batch mid.map ≡ mark ∷ (g.had ++ f.0) =
    ap (λ (xs : Records). applied batch xs) g.map ∙ ap (λ (cs : Changes). applied cs (mark ∷ g.had)) f.3 ∙ grows g.had f.0 f.1 (subst (λ (xs : Records). IsOrdered (mark ∷ xs)) split o) in
    let unfinished : (x : Option Contents) → (x ≡ Some (stored mid)) ⊎ (x ≡ Some (changed_by_batch batch (stored mid))) → IsUnfinished x = λ x is. elim is [
      | inl same ↦ (stored mid, g.had, same, g.map)
      | inr same ↦ (changed_by_batch batch (stored mid), g.had ++ f.0, same, made)
    ] in
    record {
      had = g.had ++ f.0;
      later = f.1;
      all = split ∙ sym (append_assoc g.had f.0 f.1);
      is_ahead = f.4;
      map = at.committed.map ∙ made;
      record_format = at.committed.record_format ∙ g.record_format;
      sound = commits.history.sound g.sound;
      works = commits.failed ∙ g.works;
      leaves = joined IsUnfinished old.time mid.time new.time g.leaves
          (weakened _ IsUnfinished mid.time new.time unfinished at.leaves);
    }

copy_leaves : (whole : Contents) (old new : StoreState) → LeavesOnly IsUnfinished old.time new.time → LeavesOnly (λ x. IsUnfinished x ⊎ (x ≡ Some whole)) old.time new.time
copy_leaves whole old new leaves = weakened IsUnfinished (λ x. IsUnfinished x ⊎ (x ≡ Some whole)) old.time new.time (λ x is. inl is) leaves

-- the mark is there still
marked : (A : Records → Type 0) (records : Records) (old mid : StoreState) → Grows A records old mid → HasMark mid
marked A records old mid g = record {
  sound = g.sound;
  works = g.works;
  marked = (stored mid, g.had, refl, g.map);
  left = g.leaves.now;
}

-- and so it is after a commit that changed nothing
unchanged : (A : Records → Type 0) (records : Records) (old mid new : StoreState) → Grows A records old mid → KeepsHistory mid new → new.has_failed ≡ mid.has_failed → IsUnchanged mid new
    → ((x : Option Contents) → new.time.left x → x ≡ Some (stored mid)) → HasMark new
unchanged A records old mid new g history failed same left = record {
  sound = history.sound g.sound;
  works = failed ∙ g.works;
  marked = (stored new, g.had, refl, same.map ∙ g.map);
  left = λ x there. (stored mid, g.had, left x there, g.map);
}

-- what the target is after a commit that failed
after_fault : (A : Records → Type 0) (records : Records) (whole after : Contents) (old mid new : StoreState) (fault : StoreFault) → Grows A records old mid → Commits (Err fault) after mid new
    → AfterCopy (Err (Write fault)) whole new
after_fault A records whole after old mid new Full g commits =
    let at = commits.at_once g.sound g.works in unchanged A records old mid new g commits.history commits.failed at.committed at.left
after_fault A records whole after old mid new Memory g commits =
    let at = commits.at_once g.sound g.works in unchanged A records old mid new g commits.history commits.failed at.committed at.left
after_fault A records whole after old mid new Device g commits = tt
after_fault A records whole after old mid new Number g commits =
    let at = commits.at_once g.sound g.works in unchanged A records old mid new g commits.history commits.failed at.committed at.left

-- nothing is committed any more
pub stopped : (A : Records → Type 0) (records : Records) (whole : Contents) (old mid : StoreState) (fault : Fault) → Grows A records old mid → Copies (Err (Read fault)) whole old mid
stopped A records whole old mid fault g = record { leaves = copy_leaves whole old mid g.leaves; after = marked A records old mid g }

-- a commit failed
pub broken : (A : Records → Type 0) (records : Records) (whole : Contents) (old mid new : StoreState) (batch : Changes) (fault : StoreFault) (B : Records → Type 0) → IsOrdered (mark ∷ records)
    → Commits (Err fault) (changed_by_batch batch (stored mid)) mid new → Grows A records old mid
    → ((later : Records) → A later → Fills B true later [] batch) → Copies (Err (Write fault)) whole old new
broken A records whole old mid new batch fault B o commits g fill =
    let f = fill g.later g.is_ahead in
    let at = commits.at_once g.sound g.works in
    let split : records ≡ g.had ++ (f.0 ++ f.1) = g.all ∙ ap (λ (xs : Records). g.had ++ xs) f.2 in
    let made : applied batch mid.map ≡ mark ∷ (g.had ++ f.0) =
    ap (λ (xs : Records). applied batch xs) g.map ∙ ap (λ (cs : Changes). applied cs (mark ∷ g.had)) f.3 ∙ grows g.had f.0 f.1 (subst (λ (xs : Records). IsOrdered (mark ∷ xs)) split o) in
    let unfinished : (x : Option Contents) → MayLeaveDuring (Err fault) (stored mid) (changed_by_batch batch (stored mid)) x → IsUnfinished x = λ x may. elim (either (Err fault) _ _ x may) [
      | inl same ↦ (stored mid, g.had, same, g.map)
      | inr same ↦ (changed_by_batch batch (stored mid), g.had ++ f.0, same, made)
    ] in
    record {
      leaves = copy_leaves whole old new (joined IsUnfinished old.time mid.time new.time g.leaves (weakened _ IsUnfinished mid.time new.time unfinished at.leaves));
      after = after_fault A records whole _ old mid new fault g commits;
    }

-- what the last commit leaves
last_leaves : (A : Records → Type 0) (records : Records) (whole : Contents) (old mid new : StoreState) (batch : Changes) (result : Result (Unit {0}) StoreFault) → Grows A records old mid
    → changed_by_batch (unmarked batch) (stored mid) ≡ whole → Commits result (changed_by_batch (unmarked batch) (stored mid)) mid new
    → LeavesOnly (λ x. IsUnfinished x ⊎ (x ≡ Some whole)) old.time new.time
last_leaves A records whole old mid new batch result g is commits =
    joined _ old.time mid.time new.time (copy_leaves whole old mid g.leaves)
    (weakened _ (λ x. IsUnfinished x ⊎ (x ≡ Some whole)) mid.time new.time
    (λ x may. elim (either result _ _ x may) [
      | inl same ↦ inl (stored mid, g.had, same, g.map)
      | inr same ↦ inr (same ∙ ap (λ (c : Contents). Some c) is)
    ]) (commits.at_once g.sound g.works).leaves)

abbrev of : RecordFormat → Records → Contents
of record_format records = record { record_format = record_format; records = records }

-- the mark goes with the last records
pub finished : (A : Records → Type 0) (source : Records) (old mid new : StoreState) (batch : Changes) (result : Result (Unit {0}) CopyFault) → IsOrdered (mark ∷ behind_mark source)
    → Finishes result batch mid new → ((fault : Fault) → result ≡ Err (Read fault) → new ≡ mid) → Grows A (behind_mark source) old mid
    → ((later : Records) → A later → batch ≡ put_in later []) → Copies result (whole old.record_format source) old new
finished A source old mid new batch result o done same g fill = by_answer result done same
  where
    records : applied (unmarked batch) mid.map ≡ behind_mark source
    records =
        ap (λ (xs : Records). applied (unmarked batch) xs) g.map
        ∙ ap (λ (cs : Changes). applied (unmarked cs) (mark ∷ g.had)) (fill g.later g.is_ahead)
        ∙ ends g.had g.later (subst (λ (xs : Records). IsOrdered (mark ∷ xs)) g.all o) ∙ sym g.all

    is : changed_by_batch (unmarked batch) (stored mid) ≡ whole old.record_format source
    is = contents _ _ _ _ g.record_format records
      where
        contents : (s t : RecordFormat) (xs ys : Records) → s ≡ t → xs ≡ ys → of s xs ≡ of t ys
        contents s t xs ys a b = ap (λ (z : RecordFormat). of z xs) a ∙ ap (λ (zs : Records). of t zs) b

    by_answer : (r : Result (Unit {0}) CopyFault) → Finishes r batch mid new → ((fault : Fault) → r ≡ Err (Read fault) → new ≡ mid) → Copies r (whole old.record_format source) old new
    by_answer (Ok x) commits kept =
        let at = commits.at_once g.sound g.works in
        record {
          leaves = last_leaves A (behind_mark source) (whole old.record_format source) old mid new batch (Ok x) g is commits;
          after = record {
            sound = commits.history.sound g.sound;
            works = commits.failed ∙ g.works;
            stored_is = now at.committed.record_format at.committed.map ∙ is;
            left = λ y left. at.left y left ∙ ap (λ (c : Contents). Some c) is;
          };
        }
      where
        now : new.record_format ≡ mid.record_format → new.map ≡ applied (unmarked batch) mid.map → stored new ≡ changed_by_batch (unmarked batch) (stored mid)
        now a b = ap (λ (z : RecordFormat). of z new.map) a ∙ ap (λ (zs : Records). of mid.record_format zs) b
    by_answer (Err (Read fault)) commits kept = subst (λ (s : StoreState). Copies (Err (Read fault)) (whole old.record_format source) old s) (sym (kept fault refl)) (stopped A (behind_mark source) (whole old.record_format source) old mid fault g)
    by_answer (Err (Write fault)) commits kept = record { leaves = last_leaves A (behind_mark source) (whole old.record_format source) old mid new batch (Err fault) g is commits; after = after_fault A (behind_mark source) (whole old.record_format source) _ old mid new fault g commits }
    by_answer (Err (Pages fault)) commits kept = absurd commits
    by_answer (Err WrongSize) commits kept = absurd commits
    by_answer (Err (NoRoom least)) commits kept = absurd commits

-- some of the records are put into an empty batch
pub some_put : (B : Records → Type 0) (more : Bool) (xs : Records) (start new : Changes) → more ≡ true → start ≡ [] → Fills B more xs start new → Fills B true xs [] new
some_put B true xs start new is none fills = (fills.0, fills.1, fills.2, fills.3 ∙ ap (λ (cs : Changes). put_in fills.0 cs) none, fills.4)
some_put B false xs start new is none fills = absurd cc

-- all of them are
pub all_put : (B : Records → Type 0) (more : Bool) (xs : Records) (start new : Changes) → more ≡ false → start ≡ [] → Fills B more xs start new → new ≡ put_in xs []
all_put B false xs start new is none fills = fills ∙ ap (λ (cs : Changes). put_in xs cs) none
all_put B true xs start new is none fills = absurd cc

-- the answer is this fault
pub answered : (P : Result (Unit {0}) CopyFault → Type 0) (fault : CopyFault) (result : Result (Unit {0}) CopyFault) → IsErrAnd result (λ given. given ≡ fault) → P (Err fault) → P result
answered P fault (Err given) is p = subst (λ (f : CopyFault). P (Err f)) (sym is) p
answered P fault (Ok x) is p = absurd is

-- the source's part of a copy: it was only read, works as at first, and the records not taken yet are ahead
pub record HasRest (A : Records → Type 0) (records : Records) : Type 0 where
  pub done : Records
  pub later : Records
  pub all : records ≡ done ++ later
  pub is_ahead : A later

pub rest_begun : (A : Records → Type 0) (records : Records) → A records → HasRest A records
rest_begun A records ahead = record { done = []; later = records; all = refl; is_ahead = ahead }

pub rest_goes_on : (A B : Records → Type 0) (records : Records) (old new : Changes) → HasRest A records → ((later : Records) → A later → Fills B true later old new) → HasRest B records
rest_goes_on A B records old new rest fill =
    let f = fill rest.later rest.is_ahead in
    record {
      done = rest.done ++ f.0;
      later = f.1;
      all = rest.all ∙ ap (λ (xs : Records). rest.done ++ xs) f.2 ∙ sym (append_assoc rest.done f.0 f.1);
      is_ahead = f.4;
    }

-- one of the rest has a size that no store takes
pub outsized_of : (A : Records → Type 0) (records : Records) → HasRest A records → ((later : Records) → A later → HasOutsized later) → HasOutsized records
outsized_of A records rest ahead =
    let o = ahead rest.later rest.is_ahead in
    record {
      before = rest.done ++ o.before;
      outsized = o.outsized;
      later = o.later;
      all = rest.all ∙ ap (λ (xs : Records). rest.done ++ xs) o.all ∙ sym (append_assoc rest.done o.before (o.outsized ∷ o.later));
      no_size = o.no_size;
    }

-- some are put, without a premise on what was there
pub some_filled : (B : Records → Type 0) (more : Bool) (xs : Records) (start new : Changes) → more ≡ true → Fills B more xs start new → Fills B true xs start new
some_filled B true xs start new is fills = fills
some_filled B false xs start new is fills = absurd cc

-- ---- causes

-- the cause of a fault of a commit, after commits that were carried out
pub write_cause : (fault : StoreFault) (old mid new : StoreState) (commits_so_far : ℕ) → commits_so_far ≤ 2 ^ 62 → KeepsHistory old mid → mid.has_failed ≡ old.has_failed
    → (old.sound → old.has_failed ≡ false → mid.number ≤ old.number + commits_so_far) → KeepsHistory mid new → HasCause fault mid new → HasWriteCause fault old new
write_cause Full old mid new n most history same number later cause = rose_later old.fulls mid.fulls new.fulls history.fulls later.fulls cause
write_cause Memory old mid new n most history same number later cause = tt
write_cause Device old mid new n most history same number later cause = cause_later Device old mid new history same later cause
write_cause Number old mid new n most history same number later cause = λ sound works. omega (arith, number sound works, cause, most)

-- the cause of a fault of a read, after reads that did not fail
pub read_cause : {T : Type 0} (fault : Fault) (old mid new : StoreState) → OnlyReads old mid → mid.has_failed ≡ old.has_failed → HasRead {T = T} (Err fault) mid new → HasFaultCause fault old new
read_cause {T} fault old mid new reads same read = (fault_later {T = T} {U = Unit {0}} fault old mid new reads same read).cause

-- what the last commit's fault stands in
pub finished_cause : (result : Result (Unit {0}) CopyFault) (batch : Changes) (source read old mid new : StoreState) (commits_so_far : ℕ) → commits_so_far ≤ 2 ^ 62 → KeepsHistory old mid
    → mid.has_failed ≡ old.has_failed → (old.sound → old.has_failed ≡ false → mid.number ≤ old.number + commits_so_far) → KeepsHistory mid new
    → ((fault : Fault) → result ≡ Err (Read fault) → (new ≡ mid) × (fault ≡ reading.Memory)) → Finishes result batch mid new → IfErr result (λ fault. HasCopyCause fault source read old new)
finished_cause (Ok x) batch source read old mid new n most history same number later refused done = tt
finished_cause (Err (Read fault)) batch source read old mid new n most history same number later refused done =
    subst (λ (f : Fault). HasFaultCause f source read) (sym (refused fault refl).1) tt
finished_cause (Err (Write fault)) batch source read old mid new n most history same number later refused done = write_cause fault old mid new n most history same number later done.cause
finished_cause (Err (Pages fault)) batch source read old mid new n most history same number later refused done = absurd done
finished_cause (Err WrongSize) batch source read old mid new n most history same number later refused done = absurd done
finished_cause (Err (NoRoom least)) batch source read old mid new n most history same number later refused done = absurd done

abbrev fault_in : CopyFault → Fault
fault_in (Read fault) = fault
fault_in fault = reading.Memory

-- Damaged of a copy is that of its read
pub read_given : (fault : Fault) → Read fault ≡ Read reading.Damaged → fault ≡ reading.Damaged
read_given fault is = ap fault_in is
