-- What is left of a copy to a device.
use Rattle.std.proofs.Common.{◌≡◌, ◌≤◌, ◌/◌, ◌^◌, ◌-◌, ◌⊎◌, ℕ, inl, inr, false, ◌∷◌, [], Some, Result, Ok, Err, IfErr, refl, sym, ap, subst, ◌∙◌, arith}
use Rattle.std.proofs.lemmas.Bool.{cases_lt, false≢true}
use Rattle.storage_sizes.specs.CurrentRecordFormat.{current}
use Rattle.sector_device.specs.Timeline.{LeavesOnly, joined, weakened, read_by}
use Rattle.sector_device.specs.Device.{DeviceState, Image, HasFailed, IsLeft, timeline}
use Rattle.sector_device.specs.declared.device.Device.{Ghosts}
use Rattle.store.specs.declared.fault.Fault.{Fault}
use Rattle.store.specs.declared.fault.Fault.TheVariants as read
use Rattle.store.specs.declared.fault.StoreFault.{StoreFault}
use Rattle.store.specs.declared.fault.StoreFault.TheVariants as write
use Rattle.store.specs.Records.{Records}
use Rattle.store.specs.Store.{Contents, KeepsHistory, HasDeviceCause, Rose, StoreState, stored}
use Rattle.cow_pages.specs.Cow.{device_below, device_of}
use Rattle.kv_store.specs.Contents.{HasContents, IsReadAs}
use Rattle.kv_store.specs.declared.page_store.PageStore.{PageStore}
use Rattle.kv_store.specs.PageStore.{pages_of, store_state}
use Rattle.copies.specs.RecordCopies.{Contains, Copies, HasCopyCause, HasMark, IsUnfinished, mark, whole}
use Rattle.copies.specs.declared.fault.CopyFault.{CopyFault}
use Rattle.copies.specs.declared.fault.CopyFault.TheVariants.{Pages, Read, Write, WrongSize, Full}
use Rattle.copies.proofs.Beginning.{sectors_are}
use Rattle.copies.specs.DeviceCopies.{CannotBegin, CopiesAll, CopiesTo, HasNoneOrMark, HasNoneOrMarkOr, HasSourceCause, IsBegun, IsCopied, IsNotBegun, IsNotCopied, Tries, marked, records_on, told_of}
use Rattle.copies.specs.Wanted.{TellsWanted}
use Rattle.store.proofs.Reading.{cause_later}

-- ---- nothing was copied

tries_nothing : (contents : Contents) (d e : DeviceState) → IsNotBegun d e → Tries contents d e
tries_nothing contents d e is = record {
  size = is.size;
  faithful = is.history.faithful;
  failures = is.history.failures;
  any_moment = λ faithful blank. weakened HasNoneOrMark (HasNoneOrMarkOr contents) (records_on d) (records_on e) (λ x none. inl none) (is.leaves faithful blank);
}

not_copied : (d e : DeviceState) → IsNotBegun d e → IsNotCopied d e
not_copied d e is = λ faithful blank. (is.leaves faithful blank).now

pub cannot_begin : {D : Type 0} (g : Ghosts D) (contents : Contents) (fault : CopyFault) (old new : D) → CannotBegin g fault old new → CopiesAll g.state contents (Err fault) old new
cannot_begin g contents (Write write.Memory) old new is = (tries_nothing contents (g.state old) (g.state new) is, not_copied (g.state old) (g.state new) is)
cannot_begin g contents (Write write.Device) old new is = (tries_nothing contents (g.state old) (g.state new) is.0, is.1)
cannot_begin g contents (Write write.Full) old new is = absurd is
cannot_begin g contents (Write write.Number) old new is = absurd is
cannot_begin g contents WrongSize old new is = is
cannot_begin g contents (Full least) old new is = absurd is
cannot_begin g contents (Pages fault) old new is = absurd is
cannot_begin g contents (Read read.Memory) old new is = absurd is
cannot_begin g contents (Read read.Device) old new is = absurd is
cannot_begin g contents (Read read.Damaged) old new is = absurd is

-- before anything is read the source is not the cause
unread : {D : Type 0} (g : Ghosts D) (P : Type 0) (fault : Fault) (old new : D) → CannotBegin g (Read fault) old new → P
unread g P read.Memory old new is = absurd is
unread g P read.Device old new is = absurd is
unread g P read.Damaged old new is = absurd is

pub no_source_cause : {D : Type 0} (g : Ghosts D) (fault : CopyFault) (old new : D) (s t : StoreState) → CannotBegin g fault old new → HasSourceCause fault s t
no_source_cause g (Read fault) old new s t is = unread g (HasSourceCause (Read fault) s t) fault old new is
no_source_cause g (Write fault) old new s t is = tt
no_source_cause g (Pages fault) old new s t is = tt
no_source_cause g WrongSize old new s t is = tt
no_source_cause g (Full least) old new s t is = tt

pub no_damage : {D : Type 0} (g : Ghosts D) (P : Type 0) (fault : CopyFault) (old new : D) → CannotBegin g fault old new → fault ≡ Read read.Damaged → P
no_damage g P (Read fault) old new is bad = unread g P fault old new is
no_damage g P (Write fault) old new is bad = let no : Write fault ≡ Read read.Damaged = bad in cc
no_damage g P (Pages fault) old new is bad = let no : Pages fault ≡ Read read.Damaged = bad in cc
no_damage g P WrongSize old new is bad = let no : WrongSize ≡ Read read.Damaged = bad in cc
no_damage g P (Full least) old new is bad = let no : Full least ≡ Read read.Damaged = bad in cc

-- ---- a copy was begun

module _ {D : Type 0} {g : Ghosts D} (d : DeviceState) (s t : PageStore D g) (begun : IsBegun d s) (history : KeepsHistory (store_state s) (store_state t)) where
  abbrev e : DeviceState
  e = device_below (pages_of t)

  -- a copy into the marked store, in the current record format
  spelled : (result : Result (Unit {0}) CopyFault) (records : Records) → d.faithful
      → ((store_state s).sound → (store_state s).has_failed ≡ false → (store_state s).map ≡ mark ∷ [] → Copies result (whole (store_state s).record_format records) (store_state s) (store_state t))
      → Copies result (whole current records) (store_state s) (store_state t)
  spelled result records faithful copies =
      let is = begun.contents faithful in
      subst (λ (c : Contents). Copies result (whole c.record_format records) (store_state s) (store_state t)) is
      (copies (begun.sound faithful) begun.works (ap (λ (c : Contents). c.records) is))

  tries : (result : Result (Unit {0}) CopyFault) (contents : Contents) → (d.faithful → Copies result contents (store_state s) (store_state t)) → Tries contents d e
  tries result contents copies = record {
    size = begun.size;
    faithful = λ faithful. (history.sound (begun.sound faithful)).faithful;
    failures = omega (arith, begun.history.failures, history.faults);
    any_moment = λ faithful blank.
        let P = HasNoneOrMarkOr contents in
        subst (λ (n : ℕ). LeavesOnly P (records_on d) (read_by (IsReadAs n) (timeline e))) (sectors_are (pages_of t))
        (joined P (records_on d) (store_state s).time (store_state t).time
        (weakened HasNoneOrMark P (records_on d) (store_state s).time (λ x none. inl none) (begun.leaves faithful blank))
        (weakened (λ x. IsUnfinished x ⊎ (x ≡ Some contents)) P (store_state s).time (store_state t).time (λ x is. elim is [ inl marked ↦ inl (inr marked) | inr whole ↦ inr whole ]) (copies faithful).leaves));
  }

  -- the mark is there still
  still_marked : (d.faithful → HasMark (store_state t)) → IsNotCopied d e
  still_marked has = λ faithful blank x left.
      inr ((has faithful).left x (left.0, left.1, subst (λ (n : ℕ). IsReadAs n left.0 x) (sym (sectors_are (pages_of t))) left.2))

  failed_since : HasDeviceCause (store_state s) (store_state t) → d.faithful → HasFailed d e
  failed_since cause faithful = elim (cause.fault (begun.sound faithful)) [
    | inl failed ↦ absurd (false≢true (sym begun.works ∙ failed))
    | inr rose ↦ elim rose [
      | inl more ↦ inl (omega (arith, begun.history.failures, more))
      | inr most ↦ elim (cases_lt d.failures (2 ^ 64 - 1)) [
        | inl lt ↦ inl (omega (arith, lt, most, history.faults))
        | inr past ↦ inr (omega (arith, past, most, begun.history.failures))
      ]
    ]
  ]

  copied : (contents : Contents) → ((store_state t).sound → (store_state t).has_failed ≡ false → (image : Image) → IsLeft e image → HasContents (e.sectors / 8) (stored (store_state t)) image)
      → (d.faithful → Contains contents (store_state t)) → d.faithful → IsCopied contents e
  copied contents images contains faithful = λ image left.
      let there = contains faithful in
      subst (λ (c : Contents). HasContents (e.sectors / 8) c image) there.stored_is (images there.sound there.works image left)

module _ {D : Type 0} {g : Ghosts D} (old : D) (s t : PageStore D g) (begun : IsBegun (g.state old) s) (history : KeepsHistory (store_state s) (store_state t)) (contents : Contents)
    (images : (store_state t).sound → (store_state t).has_failed ≡ false → (image : Image) → IsLeft (device_below (pages_of t)) image
    → HasContents ((device_below (pages_of t)).sectors / 8) (stored (store_state t)) image) (source kept : StoreState) (no_room : CopyFault) (tells : TellsWanted ((g.state old).sectors / 8) contents.records no_room) where
  -- no room was left, for this fault
  no_room_copied : (fault : CopyFault) → TellsWanted ((g.state old).sectors / 8) contents.records fault → Tries contents (g.state old) (device_below (pages_of t)) → IsNotCopied (g.state old) (device_below (pages_of t))
      → CopiesAll g.state contents (Err fault) old (device_of (pages_of t))
  no_room_copied (Full least) told tried not = (tried, not, told)
  no_room_copied (Read read.Device) told tried not = (tried, not)
  no_room_copied (Write write.Memory) told tried not = (tried, not)
  no_room_copied (Read read.Memory) told tried not = absurd told
  no_room_copied (Read read.Damaged) told tried not = absurd told
  no_room_copied (Write write.Full) told tried not = absurd told
  no_room_copied (Write write.Device) told tried not = absurd told
  no_room_copied (Write write.Number) told tried not = absurd told
  no_room_copied (Pages fault) told tried not = absurd told
  no_room_copied WrongSize told tried not = absurd told

  pub all_copied : (result : Result (Unit {0}) CopyFault) → ((g.state old).faithful → Copies result contents (store_state s) (store_state t))
      → ((fault : CopyFault) → result ≡ Err fault → HasCopyCause fault source kept (store_state s) (store_state t)) → CopiesAll g.state contents (told_of no_room result) old (device_of (pages_of t))
  all_copied (Ok x) copies cause = (tries (g.state old) s t begun history (Ok x) contents copies, copied (g.state old) s t begun history contents images (λ faithful. (copies faithful).after))
  all_copied (Err (Read read.Memory)) copies cause = (tries (g.state old) s t begun history (Err (Read read.Memory)) contents copies, still_marked (g.state old) s t begun history (λ faithful. (copies faithful).after))
  all_copied (Err (Read read.Device)) copies cause = (tries (g.state old) s t begun history (Err (Read read.Device)) contents copies, still_marked (g.state old) s t begun history (λ faithful. (copies faithful).after))
  all_copied (Err (Read read.Damaged)) copies cause = (tries (g.state old) s t begun history (Err (Read read.Damaged)) contents copies, still_marked (g.state old) s t begun history (λ faithful. (copies faithful).after))
  all_copied (Err (Write write.Full)) copies cause = no_room_copied no_room tells (tries (g.state old) s t begun history (Err (Write write.Full)) contents copies) (still_marked (g.state old) s t begun history (λ faithful. (copies faithful).after))
  all_copied (Err (Write write.Memory)) copies cause = (tries (g.state old) s t begun history (Err (Write write.Memory)) contents copies, still_marked (g.state old) s t begun history (λ faithful. (copies faithful).after))
  all_copied (Err (Write write.Device)) copies cause =
      (tries (g.state old) s t begun history (Err (Write write.Device)) contents copies, failed_since (g.state old) s t begun history (cause (Write write.Device) refl))
  all_copied (Err (Write write.Number)) copies cause = no_room_copied no_room tells (tries (g.state old) s t begun history (Err (Write write.Number)) contents copies) (still_marked (g.state old) s t begun history (λ faithful. (copies faithful).after))
  all_copied (Err (Pages fault)) copies cause = absurd (cause (Pages fault) refl)
  all_copied (Err WrongSize) copies cause = absurd (cause WrongSize refl)
  all_copied (Err (Full least)) copies cause = absurd (cause (Full least) refl)

-- Damaged is told where a record of the source has a size that no store takes
pub told_damaged : (P : Type 0) (no_room : CopyFault) → (no_room ≡ Read read.Damaged → ⊥) → (result : Result (Unit {0}) CopyFault) → IfErr result (λ fault. fault ≡ Read read.Damaged → P)
    → IfErr (told_of no_room result) (λ fault. fault ≡ Read read.Damaged → P)
told_damaged P no_room other (Ok x) is = tt
told_damaged P no_room other (Err (Read read.Memory)) is = λ bad. let no : Write write.Memory ≡ Read read.Damaged = bad in cc
told_damaged P no_room other (Err (Read read.Device)) is = is
told_damaged P no_room other (Err (Read read.Damaged)) is = is
told_damaged P no_room other (Err (Write write.Full)) is = λ bad. absurd (other bad)
told_damaged P no_room other (Err (Write write.Memory)) is = is
told_damaged P no_room other (Err (Write write.Device)) is = is
told_damaged P no_room other (Err (Write write.Number)) is = λ bad. absurd (other bad)
told_damaged P no_room other (Err (Pages fault)) is = is
told_damaged P no_room other (Err WrongSize) is = is
told_damaged P no_room other (Err (Full least)) is = is

-- reads go on after a cause, which stays
cause_stays : (old mid new : StoreState) → KeepsHistory mid new → HasDeviceCause old mid → HasDeviceCause old new
cause_stays old mid new later cause = record {
  counted = elim cause.counted [ inl failed ↦ inl failed | inr rose ↦ inr (rose_on old.failures mid.failures new.failures later.failures rose) ];
  fault = λ sound. elim (cause.fault sound) [ inl failed ↦ inl failed | inr rose ↦ inr (rose_on old.faults mid.faults new.faults later.faults rose) ];
}
  where
    rose_on : (a b c : ℕ) → b ≤ c → Rose a b → Rose a c
    rose_on a b c on (inl more) = inl (omega (arith, more, on))
    rose_on a b c on (inr most) = elim (cases_lt a c) [ inl lt ↦ inl lt | inr from ↦ inr (omega (arith, from, on, most)) ]

-- why there was no room stands in the source since it was read first
no_room_since : (fault : CopyFault) (old mid new : StoreState) → KeepsHistory old mid → mid.has_failed ≡ old.has_failed → KeepsHistory mid new → HasSourceCause fault mid new → HasSourceCause fault old new
no_room_since (Read read.Memory) old mid new first same later cause = tt
no_room_since (Read read.Device) old mid new first same later cause = cause_later write.Device old mid new first same later cause
no_room_since (Read read.Damaged) old mid new first same later cause = tt
no_room_since (Write fault) old mid new first same later cause = tt
no_room_since (Pages fault) old mid new first same later cause = tt
no_room_since WrongSize old mid new first same later cause = tt
no_room_since (Full least) old mid new first same later cause = tt

-- the source is told to have failed where a read of it did: in the copy, or when its records were counted
pub told_source : (no_room : CopyFault) (result : Result (Unit {0}) CopyFault) (source kept counted target written : StoreState) → KeepsHistory source kept → KeepsHistory kept counted
    → ((fault : StoreFault) → result ≡ Err (Write fault) → kept.has_failed ≡ source.has_failed) → HasSourceCause no_room kept counted
    → IfErr result (λ fault. HasCopyCause fault source kept target written) → IfErr (told_of no_room result) (λ fault. HasSourceCause fault source counted)
told_source no_room (Ok x) source kept counted target written first later works why is = tt
told_source no_room (Err (Read read.Memory)) source kept counted target written first later works why is = tt
told_source no_room (Err (Read read.Device)) source kept counted target written first later works why is = cause_stays source kept counted later is
told_source no_room (Err (Read read.Damaged)) source kept counted target written first later works why is = tt
told_source no_room (Err (Write write.Full)) source kept counted target written first later works why is = no_room_since no_room source kept counted first (works write.Full refl) later why
told_source no_room (Err (Write write.Memory)) source kept counted target written first later works why is = tt
told_source no_room (Err (Write write.Device)) source kept counted target written first later works why is = tt
told_source no_room (Err (Write write.Number)) source kept counted target written first later works why is = no_room_since no_room source kept counted first (works write.Number refl) later why
told_source no_room (Err (Pages fault)) source kept counted target written first later works why is = tt
told_source no_room (Err WrongSize) source kept counted target written first later works why is = tt
told_source no_room (Err (Full least)) source kept counted target written first later works why is = tt

cause_of : (result : Result (Unit {0}) CopyFault) (P : CopyFault → Type 0) → IfErr result P → (fault : CopyFault) → result ≡ Err fault → P fault
cause_of (Ok x) P is fault same = let no : ◌≡◌ {A = Result (Unit {0}) CopyFault} (Ok x) (Err fault) = same in cc
cause_of (Err given) P is fault same = subst P (given_is same) is
  where
    given_is : ◌≡◌ {A = Result (Unit {0}) CopyFault} (Err given) (Err fault) → given ≡ fault
    given_is h = cc

pub copies_to : {D : Type 0} (g : Ghosts D) (old new : D) (s t : PageStore D g) (records : Records) (source kept : StoreState) (no_room : CopyFault) (result : Result (Unit {0}) CopyFault) (told : Result (Unit {0}) CopyFault)
    → TellsWanted ((g.state old).sectors / 8) (whole current records).records no_room → IsBegun (g.state old) s → KeepsHistory (store_state s) (store_state t)
    → ((store_state t).sound → (store_state t).has_failed ≡ false → (image : Image) → IsLeft (device_below (pages_of t)) image → HasContents ((device_below (pages_of t)).sectors / 8) (stored (store_state t)) image)
    → ((store_state s).sound → (store_state s).has_failed ≡ false → (store_state s).map ≡ mark ∷ [] → Copies result (whole (store_state s).record_format records) (store_state s) (store_state t))
    → IfErr result (λ fault. HasCopyCause fault source kept (store_state s) (store_state t)) → told ≡ told_of no_room result → new ≡ device_of (pages_of t) → CopiesTo g.state records told old new
copies_to g old new s t records source kept no_room result told tells begun history images copies cause told_is new_is =
    let all : CopiesTo g.state records (told_of no_room result) old (device_of (pages_of t)) =
    all_copied old s t begun history (whole current records) images source kept no_room tells result (λ faithful. spelled (g.state old) s t begun history result records faithful copies)
    (cause_of result (λ fault. HasCopyCause fault source kept (store_state s) (store_state t)) cause) in
    subst (λ (r : Result (Unit {0}) CopyFault). CopiesTo g.state records r old new) (sym told_is)
    (subst (λ (x : _). CopiesTo g.state records (told_of no_room result) old x) (sym new_is) all)
