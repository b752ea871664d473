-- Reads, one after the other.
use Rattle.std.proofs.Common.{◌≡◌, Result, Ok, Err, OnErr, inl, inr, ⊎_elim, refl, sym, ◌∙◌, ◌<◌, ◌≤◌, ◌^◌, ◌-◌, ℕ, arith}
use Rattle.std.proofs.lemmas.Bool.{cases_lt}
use Rattle.sector_device.specs.Timeline.{IsPresent, joined, weakened}
use Rattle.sector_device.proofs.Runs.{started}
use Rattle.store.specs.declared.fault.StoreFault.{StoreFault}
use Rattle.store.specs.declared.fault.StoreFault.TheVariants.{Full, Memory, Device, Number}
use Rattle.store.specs.declared.fault.Fault.{Fault}
use Rattle.store.specs.declared.fault.Fault.TheVariants as reader
use Rattle.store.specs.Readers.{HasRead}
use Rattle.store.specs.Store.{StoreState, Rose, HasDeviceCause, HasReadCause, KeepsHistory, OnlyReads}

-- before the first read
pub none_read : (s : StoreState) → (s.sound → IsPresent s.time) → OnlyReads s s
none_read s present = record {
  history = record { sound = λ is. is; fulls = omega arith; failures = omega arith; faults = omega arith };
  unchanged = λ is. record { map = refl; record_format = refl; number = refl };
  leaves = λ is. started s.time.left s.time (present is) (λ x left. left);
}

pub history_joined : (old mid new : StoreState) → KeepsHistory old mid → KeepsHistory mid new → KeepsHistory old new
history_joined old mid new first second = record {
  sound = λ is. second.sound (first.sound is);
  fulls = omega (arith, first.fulls, second.fulls);
  failures = omega (arith, first.failures, second.failures);
  faults = omega (arith, first.faults, second.faults);
}

-- reads, and then more of them
pub reads_joined : (old mid new : StoreState) → OnlyReads old mid → OnlyReads mid new → OnlyReads old new
reads_joined old mid new first second = record {
  history = history_joined old mid new first.history second.history;
  unchanged = λ is.
      let then = second.unchanged (first.history.sound is) in
      record { map = then.map ∙ (first.unchanged is).map; record_format = then.record_format ∙ (first.unchanged is).record_format; number = then.number ∙ (first.unchanged is).number };
  leaves = λ is. joined old.time.left old.time mid.time new.time (first.leaves is)
      (weakened mid.time.left old.time.left mid.time new.time (first.leaves is).now (second.leaves (first.history.sound is)));
}

-- a count that rose after it had not fallen rose
pub rose_later : (a b c : ℕ) → a ≤ b → b ≤ c → Rose b c → Rose a c
rose_later a b c first second rose = elim (cases_lt a c) [
  | inl lt ↦ inl lt
  | inr from ↦ ⊎_elim (λ (lt : b < c). absurd (omega (arith, lt, from, first))) (λ (end : b ≡ 2 ^ 64 - 1). inr (omega (arith, end, from, first, second))) rose
]

-- the cause of Device after reads that did not fail is one since the first of them
device_cause_later : (old mid new : StoreState) → KeepsHistory old mid → mid.has_failed ≡ old.has_failed → KeepsHistory mid new → HasDeviceCause mid new → HasDeviceCause old new
device_cause_later old mid new first same second cause = record {
  counted = ⊎_elim (λ failed. inl (sym same ∙ failed)) (λ rose. inr (rose_later old.failures mid.failures new.failures first.failures second.failures rose)) cause.counted;
  fault = λ is. ⊎_elim (λ failed. inl (sym same ∙ failed)) (λ rose. inr (rose_later old.faults mid.faults new.faults first.faults second.faults rose)) (cause.fault (first.sound is));
}

-- and so is the cause of any fault of a read
pub cause_later : (fault : StoreFault) (old mid new : StoreState) → KeepsHistory old mid → mid.has_failed ≡ old.has_failed → KeepsHistory mid new → HasReadCause fault mid new → HasReadCause fault old new
cause_later Full old mid new first same second cause = cause
cause_later Memory old mid new first same second cause = tt
cause_later Device old mid new first same second cause = device_cause_later old mid new first same second cause
cause_later Number old mid new first same second cause = cause

-- a reader's fault after reads that did not fail
pub fault_later : {T U : Type 0} (fault : Fault) (old mid new : StoreState) → OnlyReads old mid → mid.has_failed ≡ old.has_failed
    → HasRead {T = T} (Err fault) mid new → HasRead {T = U} (Err fault) old new
fault_later reader.Memory old mid new reads same read = record { only_reads = reads_joined old mid new reads read.only_reads; cause = tt; failed = read.failed ∙ same }
fault_later reader.Device old mid new reads same read = record {
  only_reads = reads_joined old mid new reads read.only_reads;
  cause = cause_later Device old mid new reads.history same read.only_reads.history read.cause;
  failed = read.failed;
}
fault_later reader.Damaged old mid new reads same read = record { only_reads = reads_joined old mid new reads read.only_reads; cause = tt; failed = read.failed ∙ same }

-- its answer after reads that did not fail
pub answer_later : {T U : Type 0} (x : T) (y : U) (old mid new : StoreState) → OnlyReads old mid → mid.has_failed ≡ old.has_failed
    → HasRead (Ok x) mid new → HasRead (Ok y) old new
answer_later x y old mid new reads same read = record { only_reads = reads_joined old mid new reads read.only_reads; cause = tt; failed = read.failed ∙ same }

-- an allocation that fails after reads that did not
pub no_memory_later : {T : Type 0} (fault : Fault) (old mid : StoreState) → OnlyReads old mid → mid.has_failed ≡ old.has_failed → fault ≡ reader.Memory
    → HasRead {T = T} (Err fault) old mid
no_memory_later reader.Memory old mid reads same is = record { only_reads = reads; cause = tt; failed = same }
no_memory_later reader.Device old mid reads same is = cc
no_memory_later reader.Damaged old mid reads same is = cc

-- what holds whatever is answered
pub on_any_err : {T E P : Type 0} (r : Result T E) → P → OnErr r P
on_any_err (Ok x) p = tt
on_any_err (Err e) p = p
