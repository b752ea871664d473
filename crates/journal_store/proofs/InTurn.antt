-- Commits in turn, of which the first ones change nothing.
use Rattle.std.proofs.Common.{◌≡◌, ◌⊎◌, inl, inr, false, Option, Some, Result, Ok, Err, IfErr, sym, ap, subst, ◌∙◌, arith}
use Rattle.std.proofs.lemmas.Bool.{false≢true}
use Rattle.sector_device.specs.Timeline.{LeavesOnly, weakened, joined}
use Rattle.store.specs.Contents.{changed_by_batch}
use Rattle.store.specs.Records.{Changes}
use Rattle.store.specs.Store.{Contents, StoreState, KeepsHistory, IsUnchanged, AfterCommit, MayLeaveDuring, MayLeaveNow, CommitsAtOnce, Commits, HasCause, failed_after, stored}
use Rattle.store.specs.declared.fault.StoreFault.{StoreFault}
use Rattle.store.specs.declared.fault.StoreFault.TheVariants.{Full, Memory, Device, Number}
use Rattle.store.proofs.Reading.{history_joined, rose_later, cause_later}
use Rattle.kv_store.specs.ContentLaws.{same_parts}

-- calls that leave what is stored, and the number: a stop leaves what is stored, too
pub record KeepsStored (old new : StoreState) : Type 0 where
  pub history : KeepsHistory old new
  pub unchanged : old.sound → old.has_failed ≡ false → IsUnchanged old new
  pub leaves : old.sound → old.has_failed ≡ false → LeavesOnly (λ x. x ≡ Some (stored old)) old.time new.time
  pub failed : new.has_failed ≡ old.has_failed
  pub number : new.number ≡ old.number

-- a commit that found no room
pub full_keeps : (after : Contents) (old new : StoreState) → new.number ≡ old.number → Commits (Err Full) after old new → KeepsStored old new
full_keeps after old new number commits = record {
  history = commits.history;
  unchanged = λ sound worked. (commits.at_once sound worked).committed;
  leaves = λ sound worked. (commits.at_once sound worked).leaves;
  failed = commits.failed;
  number = number;
}

-- a commit that changes nothing
pub nothing_keeps : (old new : StoreState) → new.number ≡ old.number → Commits (Ok tt) (stored old) old new → KeepsStored old new
nothing_keeps old new number commits = record {
  history = commits.history;
  unchanged = λ sound worked.
      let is = (commits.at_once sound worked).committed in
      record { map = is.map; record_format = is.record_format; number = number };
  leaves = λ sound worked. weakened _ (λ x. x ≡ Some (stored old)) old.time new.time (λ x either. elim either [
    | inl is ↦ is
    | inr is ↦ is
  ]) (commits.at_once sound worked).leaves;
  failed = commits.failed;
  number = number;
}

-- what was there before may be left during a commit, whatever it answers
before_may : (result : Result (Unit {0}) StoreFault) (before after : Contents) (x : Option Contents) → x ≡ Some before → MayLeaveDuring result before after x
before_may (Ok y) before after x is = inl is
before_may (Err Full) before after x is = is
before_may (Err Memory) before after x is = is
before_may (Err Device) before after x is = inl is
before_may (Err Number) before after x is = is

unchanged_joined : (old mid new : StoreState) → IsUnchanged old mid → IsUnchanged mid new → IsUnchanged old new
unchanged_joined old mid new first second = record { map = second.map ∙ first.map; record_format = second.record_format ∙ first.record_format; number = second.number ∙ first.number }

committed_later : (result : Result (Unit {0}) StoreFault) (after : Contents) (old mid new : StoreState) → IsUnchanged old mid → AfterCommit result after mid new → AfterCommit result after old new
committed_later (Ok y) after old mid new still is = record {
  map = is.map;
  record_format = is.record_format;
  not_back = omega (arith, is.not_back, still.number);
  by_one = omega (arith, is.by_one, still.number);
}
committed_later (Err Full) after old mid new still is = unchanged_joined old mid new still is
committed_later (Err Memory) after old mid new still is = unchanged_joined old mid new still is
committed_later (Err Device) after old mid new still is = tt
committed_later (Err Number) after old mid new still is = unchanged_joined old mid new still is

fault_later : (fault : StoreFault) (old mid new : StoreState) → KeepsStored old mid → KeepsHistory mid new → HasCause fault mid new → HasCause fault old new
fault_later Full old mid new still history cause = rose_later old.fulls mid.fulls new.fulls still.history.fulls history.fulls cause
fault_later Memory old mid new still history cause = tt
fault_later Device old mid new still history cause = cause_later Device old mid new still.history still.failed history cause
fault_later Number old mid new still history cause = sym still.number ∙ cause

-- a commit after calls that change nothing is a commit since the first of them
pub commits_later : (result : Result (Unit {0}) StoreFault) (batch : Changes) (old mid new : StoreState) → old.has_failed ≡ false → KeepsStored old mid
    → Commits result (changed_by_batch batch (stored mid)) mid new → Commits result (changed_by_batch batch (stored old)) old new
commits_later result batch old mid new works still commits = record {
  history = history_joined old mid new still.history commits.history;
  at_once = λ sound worked.
      let unchanged = still.unchanged sound worked in
      let same : stored mid ≡ stored old = same_parts (stored mid) (stored old) unchanged.record_format unchanged.map in
      let at_once = commits.at_once (still.history.sound sound) (still.failed ∙ worked) in
      record {
        committed = committed_later result (changed_by_batch batch (stored old)) old mid new unchanged
            (subst (λ (c : Contents). AfterCommit result (changed_by_batch batch c) mid new) same at_once.committed);
        leaves = joined (MayLeaveDuring result (stored old) (changed_by_batch batch (stored old))) old.time mid.time new.time
            (weakened (λ x. x ≡ Some (stored old)) (MayLeaveDuring result (stored old) (changed_by_batch batch (stored old))) old.time mid.time (before_may result (stored old) (changed_by_batch batch (stored old))) (still.leaves sound worked))
            (subst (λ (c : Contents). LeavesOnly (MayLeaveDuring result c (changed_by_batch batch c)) mid.time new.time) same at_once.leaves);
        left = λ x left. subst (λ (c : Contents). MayLeaveNow result c (changed_by_batch batch c) x) same (at_once.left x left);
      };
  cause = cause result commits.cause;
  failed = commits.failed ∙ ap (failed_after result) still.failed;
  closed = λ had. absurd (false≢true (sym works ∙ had));
  still = λ sound had. absurd (false≢true (sym works ∙ had));
}
  where
    cause : (r : Result (Unit {0}) StoreFault) → IfErr r (λ fault. HasCause fault mid new) → IfErr r (λ fault. HasCause fault old new)
    cause (Ok y) is = tt
    cause (Err fault) is = fault_later fault old mid new still commits.history is

-- where it is refused, it does not matter what it would have stored
pub refused_alike : (fault : StoreFault) (after other : Contents) (old new : StoreState) → old.has_failed ≡ false → after ≡ stored old → Commits (Err fault) after old new → Commits (Err fault) other old new
refused_alike fault after other old new works same commits = record {
  history = commits.history;
  at_once = λ sound worked. refused fault (commits.at_once sound worked);
  cause = commits.cause;
  failed = commits.failed;
  closed = commits.closed;
  still = commits.still;
}
  where
    -- a stop leaves what was there
    one_left : (x : Option Contents) → ((x ≡ Some (stored old)) ⊎ (x ≡ Some after)) → ((x ≡ Some (stored old)) ⊎ (x ≡ Some other))
    one_left x either = elim either [
      | inl is ↦ inl is
      | inr is ↦ inl (is ∙ ap (λ (c : Contents). Some c) same)
    ]

    refused : (f : StoreFault) → CommitsAtOnce (Err f) after old new → CommitsAtOnce (Err f) other old new
    refused Full is = record { committed = is.committed; leaves = is.leaves; left = is.left }
    refused Memory is = record { committed = is.committed; leaves = is.leaves; left = is.left }
    refused Device is = record { committed = tt; leaves = weakened _ (MayLeaveDuring (Err Device) (stored old) other) old.time new.time one_left is.leaves; left = λ x left. one_left x (is.left x left) }
    refused Number is = record { committed = is.committed; leaves = is.leaves; left = is.left }

-- of a sound store that works, what a commit stores may be said in another way
pub commits_as : (result : Result (Unit {0}) StoreFault) (after other : Contents) (old new : StoreState) → (old.sound → old.has_failed ≡ false → after ≡ other) → Commits result after old new → Commits result other old new
commits_as result after other old new same commits = record {
  history = commits.history;
  at_once = λ sound worked. subst (λ (c : Contents). CommitsAtOnce result c old new) (same sound worked) (commits.at_once sound worked);
  cause = commits.cause;
  failed = commits.failed;
  closed = commits.closed;
  still = commits.still;
}
