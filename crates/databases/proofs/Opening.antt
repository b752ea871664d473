-- What a life on a device leaves, by what it leaves of the store.
use Rattle.std.proofs.Common.{if◌then◌else◌, ◌≡◌, ◌⊎◌, ◌≤◌, ◌/◌, ◌^◌, ◌-◌, inl, inr, Bool, true, false, ℕ, List, Option, Some, None, Result, Ok, Err, IfErr, refl, sym, subst, ◌∙◌, arith}
use Rattle.std.proofs.lemmas.Bool.{cases_lt, false≢true}
use Rattle.sector_device.specs.Timeline.{Timeline, LeavesOnly, IsPresent, joined, weakened, read_by}
use Rattle.sector_device.specs.Device.{Image, DeviceState, IsLeft, HasFailed, timeline}
use Rattle.sector_device.specs.Device.{KeepsHistory as DeviceHistory}
use Rattle.sector_device.proofs.Runs.{lifted}
use Rattle.sql_types.specs.declared.answer.Answer.{Answer}
use Rattle.store.specs.declared.fault.Fault.TheVariants as read
use Rattle.store.specs.declared.fault.StoreFault.TheVariants as commit
use Rattle.store.specs.Store.{StoreState, Contents, stored, KeepsHistory, OnlyReads, Rose, HasDeviceCause}
use Rattle.cow_pages.specs.declared.open.OpenFault.{OpenFault}
use Rattle.cow_pages.specs.declared.open.OpenFault.TheVariants.{WrongSize, NotADatabase, NewerFormat, Damaged, Device, Memory}
use Rattle.cow_pages.specs.Image.{is_size, first_fault, fault_of_image}
use Rattle.cow_pages.specs.Held.{KeepsContent}
use Rattle.sector_device.specs.declared.device.Device.{Ghosts}
use Rattle.cow_pages.proofs.Faults.{means_faultless}
use Rattle.journal_store.specs.declared.device_stores.DeviceStore.{DeviceStore}
use Rattle.journal_store.specs.DeviceImages.{IsReadAs, HasContents}
use Rattle.journal_store.specs.DeviceOpening.{IsNamedFor, IsOpened}
use Rattle.journal_store.specs.DeviceReads.{OnlyLooksInto}
use Rattle.journal_store.specs.DeviceStoreLaws.{content_has}
use Rattle.journal_store.specs.DeviceStores.{device_of, state_under, store_state}
use Rattle.journal_store.proofs.Since.{content_since}
use Rattle.abstract_database.specs.Database.{Database}
use Rattle.abstract_database.specs.Runs.{ReadingRelation, Standing, At}
use Rattle.server.specs.Standing.{Means}
use Rattle.recovery.specs.declared.fault.OpeningFault.{OpeningFault}
use Rattle.recovery.specs.declared.fault.OpeningFault.TheVariants.{Read, Commit}
use Rattle.recovery.specs.Openings.{AreOfFirst, HasLooked, HasOpeningCause, IsNumberAfter, KeepsDatabase, OnlyLooks}
use Rattle.databases.specs.declared.fault.DatabaseFault.{DatabaseFault}
use Rattle.databases.specs.declared.fault.DatabaseFault.TheVariants.{Pages, Records}
use Rattle.databases.specs.Lives.{ClientEvent, IsFoundLeft, LeavesFound, up_to, IsLife, IsNoLife, BeginsAt, EndsAt, IsLifeOver, Lives, IsRefused}
use Rattle.databases.specs.OnDevice.{records_on, IsOfDevice, life_result_of, IsNumberOf, AreCountedOn, HoldsRecordFormat1}
use Rattle.databases.specs.OnDevice.{IsLifeOn, IsServedOn, LivesOn, AreRefused, IsOnlyRead, LeavesDatabase, IsNotBegun, IsRefusedOn}

-- what was only read leaves what was left
pub reading_leaves : (old mid : DeviceState) → KeepsContent old mid → LeavesOnly (records_on old).left (records_on old) (read_by (IsReadAs (old.sectors / 8)) (timeline mid))
reading_leaves old mid keeps =
    lifted (IsReadAs (old.sectors / 8)) (IsLeft old) (records_on old).left (timeline old) (timeline mid) (λ image x left reads. (image, left, reads)) keeps.leaves

-- and what was found
pub opening_leaves : (last : Standing) (old mid : DeviceState) → LeavesFound last (records_on old) → KeepsContent old mid
    → LeavesOnly (IsFoundLeft last) (records_on old) (read_by (IsReadAs (old.sectors / 8)) (timeline mid))
opening_leaves last old mid found keeps =
    weakened (records_on old).left (IsFoundLeft last) (records_on old) (read_by (IsReadAs (old.sectors / 8)) (timeline mid)) found (reading_leaves old mid keeps)

-- an opening that looked only read
looked_reads : (fault : OpeningFault) (old new : StoreState) → HasLooked (Err fault) old new → OnlyReads old new
looked_reads (Read fault) old new looked = looked.only_reads
looked_reads (Commit fault) old new looked = absurd looked

-- ---- a life over the store on a device

module _ {D : Type 0} {g : Ghosts D} (old : DeviceState) (store left : DeviceStore D g) where
  abbrev new : DeviceState
  new = state_under left

  -- the opening reads records by the number of the store's sectors
  opened_records : (P : Option Contents → Type 0) → DeviceHistory old (state_under store) →
      LeavesOnly P (records_on old) (read_by (IsReadAs (old.sectors / 8)) (timeline (state_under store))) → LeavesOnly P (records_on old) (store_state store).time
  opened_records P history leaves =
      subst (λ (n : ℕ). LeavesOnly P (records_on old) (read_by (IsReadAs (n / 8)) (timeline (state_under store)))) (sym history.sectors) leaves

  -- the number of a store that works is that of its device's content
  last_number : (number : ℕ) → (store_state left).sound → (store_state left).has_failed ≡ false → IsLeft new new.content → number ≡ (store_state left).number → IsNumberOf new number
  last_number number sound works content same =
      let has = content_has left sound works content in
      (stored (store_state left), has.0, same ∙ sym has.1)

  counted_on : (begin end : At) → IsOpened old store → old.faithful → (store_state left).sound → IsLeft new new.content → BeginsAt (store_state store) begin.counts
      → EndsAt (store_state left) end → AreCountedOn old new begin end
  counted_on begin end opened faithful sound content begins ends =
      let holds = opened.holds faithful in
      record {
        first_number = (
          stored (store_state store),
          holds.contents,
          subst (λ (there : ℕ). IsNumberAfter (store_state store).record_format there begin.counts.number) (sym holds.number_is) begins.number,
        );
        first_faults = omega (arith, opened.history.failures, begins.faults);
        last_number = λ stands. last_number end.counts.number sound (ends.works stands) content (ends.counts.number stands);
        last_faults = ends.counts.faults;
      }

  module _ (Reads : ReadingRelation) (last : Standing) (events : List ClientEvent) (before after : List Answer) where
    -- a life that began later
    began_later : (mid later : Timeline (Option Contents)) (told : List Answer) (moments : List ℕ) → LeavesOnly (IsFoundLeft last) (records_on old) mid
        → IsLife Reads last events told moments mid later → IsLife Reads last events told moments (records_on old) later
    began_later mid later told moments first life = record {
      database = life.database;
      found = life.found;
      begin = life.begin;
      over = life.over;
      until = joined (IsFoundLeft last) (records_on old) mid (up_to life.begin.moment later) first life.until;
      begun = life.begun;
      end = life.end;
      ran = life.ran;
      ends = life.ends;
      leaves = life.leaves;
    }

    life_on : (P : At → Type 0) (told : List Answer) (moments : List ℕ) → IsOpened old store → old.faithful → (store_state left).sound → IsLeft new new.content
        → LeavesOnly (IsFoundLeft last) (records_on old) (store_state store).time → (life : IsLifeOver Reads last events told moments (store_state store) (store_state left)) → P life.0.begin
        → (is : IsLifeOn Reads last events told moments old new) × P is.0.begin
    unfolding began_later
    life_on P told moments opened faithful sound content first life holds = (
      (began_later (store_state store).time (store_state left).time told moments first life.0, counted_on life.0.begin life.0.end opened faithful sound content life.1 life.2),
      holds,
    )

    none_on : LeavesOnly (IsFoundLeft last) (records_on old) (store_state store).time → IsNoLife last (store_state store).time (store_state left).time → IsNoLife last (records_on old) (records_on new)
    none_on first none = joined (IsFoundLeft last) (records_on old) (store_state store).time (store_state left).time first none

    -- the content is what the store contained
    of_first : IsOpened old store → old.faithful → AreOfFirst (stored (store_state store)) → HoldsRecordFormat1 old
    of_first opened faithful first = (stored (store_state store), (opened.holds faithful).contents, first)

  -- ---- no life over its records

  -- a failure that the device counted after the opening
  failed_since : old.failures ≤ (store_state store).faults → (store_state store).faults ≤ new.failures → Rose (store_state store).faults new.failures → HasFailed old new
  failed_since first second failed = elim failed [
    | inl rose ↦ inl (omega (arith, first, rose))
    | inr most ↦ elim (cases_lt old.failures (2 ^ 64 - 1)) [
      | inl lt ↦ inl (omega (arith, lt, most, second))
      | inr past ↦ inr (omega (arith, past, most, first))
    ]
  ]

  pub device_cause : IsOpened old store → old.faithful → KeepsHistory (store_state store) (store_state left) → HasDeviceCause (store_state store) (store_state left) → HasFailed old new
  device_cause opened faithful history cause = elim (cause.fault (opened.holds faithful).sound) [
    | inl failed ↦ absurd (false≢true (sym opened.has_not_failed ∙ failed))
    | inr rose ↦ failed_since opened.history.failures history.faults rose
  ]

  -- the cause of a fault of the device
  pub failed_for : (fault : OpeningFault) → IsOpened old store → old.faithful → KeepsHistory (store_state store) (store_state left) → HasOpeningCause fault (store_state store) (store_state left)
      → IsOfDevice (Records fault) → HasFailed old new
  failed_for (Read read.Memory) opened faithful history cause is = absurd is
  failed_for (Read read.Device) opened faithful history cause is = device_cause opened faithful history cause
  failed_for (Read read.Damaged) opened faithful history cause is = absurd is
  failed_for (Commit commit.Full) opened faithful history cause is = absurd is
  failed_for (Commit commit.Memory) opened faithful history cause is = absurd is
  failed_for (Commit commit.Device) opened faithful history cause is = device_cause opened faithful history cause.1
  failed_for (Commit commit.Number) opened faithful history cause is = absurd is

  are_refused : (fault : OpeningFault) (number : ℕ) → number ≡ (store_state store).number → (store_state store).sound → IsRefused fault (store_state store) (store_state left)
      → AreRefused fault (stored (store_state store)) number
  are_refused (Read read.Memory) number same sound refused = tt
  are_refused (Read read.Device) number same sound refused = tt
  are_refused (Read read.Damaged) number same sound refused = refused.cause sound
  are_refused (Commit commit.Full) number same sound refused = (refused.cause sound).0
  are_refused (Commit commit.Memory) number same sound refused = (refused.cause sound).0
  are_refused (Commit commit.Device) number same sound refused = (refused.cause sound).0
  are_refused (Commit commit.Number) number same sound refused = ((refused.cause sound).0, same ∙ (refused.cause sound).1)

  opening_reads : IsOpened old store → old.faithful → LeavesOnly (records_on old).left (records_on old) (store_state store).time
  opening_reads opened faithful = opened_records (records_on old).left opened.history (reading_leaves old (state_under store) (opened.content faithful))

  only_read : IsOpened old store → old.faithful → KeepsContent old new → OnlyReads (store_state store) (store_state left) → IsOnlyRead old new
  only_read opened faithful content reads =
      let first = opening_reads opened faithful in
      let more = weakened (store_state store).time.left (records_on old).left (store_state store).time (store_state left).time first.now (reads.leaves (opened.holds faithful).sound) in
      record {
        content = content;
        leaves = joined (records_on old).left (records_on old) (store_state store).time (store_state left).time first more;
      }

  pub leaves_database : (db : Database) (outcome : Result (Unit {0}) OpeningFault) → IsOpened old store → old.faithful → KeepsDatabase db outcome (store_state store) (store_state left) → LeavesDatabase db old new
  leaves_database db outcome opened faithful keeps =
      let P : Option Contents → Type 0 = λ x. (records_on old).left x ⊎ Means x db in
      let first = weakened (records_on old).left P (records_on old) (store_state store).time (λ x was. inl was) (opening_reads opened faithful) in
      let more = weakened (λ x. Means x db) P (store_state store).time (store_state left).time (λ x means. inr means) keeps.during in
      record {
        during = joined P (records_on old) (store_state store).time (store_state left).time first more;
        now = keeps.now;
      }

  not_begun : (fault : OpeningFault) → IsOpened old store → old.faithful → IsRefused fault (store_state store) (store_state left)
      → (OnlyLooks (store_state store).record_format (Err fault) → KeepsContent old new) → IsNotBegun (Records fault) old new
  not_begun fault opened faithful refused content =
      let holds = opened.holds faithful in
      record {
        why = fault;
        told = refl;
        contents = stored (store_state store);
        has = holds.contents;
        refused = are_refused fault holds.contents.number holds.number_is holds.sound refused;
        looked = λ looks. only_read opened faithful (content looks) (looked_reads fault (store_state store) (store_state left) (refused.looked looks));
        same = λ db stands. leaves_database db (Err fault) opened faithful (refused.same holds.sound opened.has_not_failed db stands);
      }

  pub refused_over : (result : Result (Unit {0}) OpeningFault) → IsOpened old store → old.faithful → KeepsHistory (store_state store) (store_state left)
      → IfErr result (λ fault. IsRefused fault (store_state store) (store_state left))
      → IfErr result (λ fault. OnlyLooks (store_state store).record_format (Err fault) → KeepsContent old new)
      → IfErr (life_result_of result) (λ fault. IsRefusedOn fault old new)
  refused_over (Ok x) opened faithful history refused content = tt
  refused_over (Err fault) opened faithful history refused content = record {
    cause = failed_for fault opened faithful history (refused.cause (opened.holds faithful).sound);
    outcome = inr (not_begun fault opened faithful refused content);
  }

-- where a store was only read after it was opened, its content is left
pub content_after : {D : Type 0} {g : Ghosts D} → ((device : D) → (g.state device).faithful → IsPresent (timeline (g.state device))) → (old : DeviceState) (store left : DeviceStore D g)
    (result : Result (Unit {0}) OpeningFault) → IsOpened old store → old.faithful
    → IfErr result (λ fault. OnlyLooks (store_state store).record_format (Err fault) → OnlyLooksInto store left)
    → IfErr result (λ fault. OnlyLooks (store_state store).record_format (Err fault) → KeepsContent old (state_under left))
content_after present old store left (Ok x) opened faithful nothing = tt
content_after present old store left (Err why) opened faithful nothing = λ looks. content_since old store left opened (nothing looks) present faithful

-- ---- a life lived, by what it leaves of the store

module _ {D : Type 0} {g : Ghosts D} (device : D) (store left : DeviceStore D g) (Reads : ReadingRelation) (last : Standing) (events : List ClientEvent) (before after : List Answer) where
  abbrev was : DeviceState
  was = g.state device

  lived_from : (X : Type 0) (result : Result (Unit {0}) OpeningFault) → IsOpened was store → was.faithful → (store_state left).sound
      → IsLeft (state_under left) (state_under left).content
      → LeavesOnly (IsFoundLeft last) (records_on was) (store_state store).time → Lives X Reads store_state last events before after (store_state store) left result
      → LivesOn g X Reads last events before after device (device_of left) (life_result_of result)
  lived_from X (Ok x) opened faithful sound content first lives = (
    lives.0,
    lives.1,
    lives.2,
    life_on was store left Reads last events before after (λ (begin : At). IsServedOn g X Reads begin events lives.0 lives.1 (device_of left))
        lives.0 lives.1 opened faithful sound content first lives.3.0 (record { store = left; served = lives.3.1; device = refl }),
  )
  lived_from X (Err (Read read.Memory)) opened faithful sound content first lives = (lives.0, none_on was store left Reads last events before after first lives.1)
  lived_from X (Err (Read read.Device)) opened faithful sound content first lives = (lives.0, none_on was store left Reads last events before after first lives.1)
  lived_from X (Err (Read read.Damaged)) opened faithful sound content first lives = absurd lives
  lived_from X (Err (Commit fault)) opened faithful sound content first lives =
      (of_first was store left Reads last events before after opened faithful lives.0, lives.1, none_on was store left Reads last events before after first lives.2)

  pub lived_on : (X : Type 0) (result : Result (Unit {0}) OpeningFault) (told : Result (Unit {0}) DatabaseFault) (new : D) → told ≡ life_result_of result → new ≡ device_of left
      → IsOpened was store → was.faithful → (store_state left).sound → IsLeft (state_under left) (state_under left).content → LeavesFound last (records_on was)
      → Lives X Reads store_state last events before after (store_state store) left result → LivesOn g X Reads last events before after device new told
  lived_on X result told new told_is new_is opened faithful sound content found lives =
      let all : LivesOn g X Reads last events before after device (device_of left) (life_result_of result) = lived_from X result opened faithful sound content
      (opened_records was store left (IsFoundLeft last) opened.history (opening_leaves last was (state_under store) found (opened.content faithful))) lives in
      subst (λ (r : Result (Unit {0}) DatabaseFault). LivesOn g X Reads last events before after device new r) (sym told_is)
      (subst (λ (e : D). LivesOn g X Reads last events before after device e (life_result_of result)) (sym new_is) all)

-- an error of a life over a store is one on a device
pub unanswered_as : (P : Type 0) (result : Result (Unit {0}) OpeningFault) → IfErr result (λ why. P) → IfErr (life_result_of result) (λ why. P)
unanswered_as P (Ok x) p = tt
unanswered_as P (Err why) p = p

-- an image that has contents has no fault, where its device has the size of one
faultless : (sectors : ℕ) (image : Image) (fault : OpenFault) (contents : Contents) → is_size sectors ≡ true → first_fault sectors image ≡ Some fault
    → HasContents (sectors / 8) contents image → ⊥
faultless sectors image fault contents size first has = elim has.is [
  | inl plain ↦ let bad : Some fault ≡ None = sym first ∙ means_faultless sectors plain.format has.number plain.array image size plain.means in absurd (let no : ⊥ = cc in no)
  | inr journaled ↦
      let under = journaled.has.under in
      let bad : Some fault ≡ None = sym first ∙ means_faultless sectors under.format journaled.has.root under.array image size under.means in absurd (let no : ⊥ = cc in no)
]

-- a fault other than that of the size stands in a device of that size
size_of_fault : (sectors : ℕ) (image : Image) (fault : OpenFault) (size : Bool) → is_size sectors ≡ size → first_fault sectors image ≡ Some fault → (fault ≡ WrongSize → ⊥) → is_size sectors ≡ true
size_of_fault sectors image fault true is first other = is
size_of_fault sectors image fault false is first other = absurd (other (
    let same = subst (λ (b : Bool). (if b then fault_of_image (sectors / 8) image else Some WrongSize) ≡ Some fault) is first in cc))

-- no life began where nothing is left to be found
nothing_found : (last : Standing) (d : DeviceState) → IsLeft d d.content → LeavesFound last (records_on d) → IsReadAs (d.sectors / 8) d.content None → ⊥
nothing_found last d content found none = let means = (found None (d.content, content, none)).1 in let bad : None ≡ Some means.0 = means.1 in cc

wrong_size : (last : Standing) (d : DeviceState) (size : Bool) → is_size d.sectors ≡ size → IsLeft d d.content → LeavesFound last (records_on d) → first_fault d.sectors d.content ≡ Some WrongSize
    → is_size d.sectors ≡ false
wrong_size last d false is content found first = is
wrong_size last d true is content found first = absurd (nothing_found last d content found (λ contents has. faultless d.sectors d.content WrongSize contents is first has))

other_fault : (last : Standing) (d : DeviceState) (fault : OpenFault) → (fault ≡ WrongSize → ⊥) → IsLeft d d.content → LeavesFound last (records_on d) → first_fault d.sectors d.content ≡ Some fault → ⊥
other_fault last d fault other content found first =
    let size = size_of_fault d.sectors d.content fault (is_size d.sectors) refl first other in
    nothing_found last d content found (λ contents has. faultless d.sectors d.content fault contents size first has)

-- what was only read leaves what was found, of a device that has as many sectors
leaves_same : (last : Standing) (d e : DeviceState) → LeavesFound last (records_on d) → KeepsContent d e → e.sectors ≡ d.sectors → IsNoLife last (records_on d) (records_on e)
leaves_same last d e found keeps same =
    subst (λ (n : ℕ). LeavesOnly (IsFoundLeft last) (records_on d) (read_by (IsReadAs (n / 8)) (timeline e))) (sym same) (opening_leaves last d e found keeps)

pub refused_on : {D : Type 0} (g : Ghosts D) (X : Type 0) (Reads : ReadingRelation) (last : Standing) (events : List ClientEvent) (told : List Answer) (d e : D) (fault : OpenFault)
    → IsLeft (g.state d) (g.state d).content → LeavesFound last (records_on (g.state d)) → KeepsContent (g.state d) (g.state e) → (g.state e).sectors ≡ (g.state d).sectors → IsNamedFor fault (g.state d)
    → LivesOn g X Reads last events told told d e (Err (Pages fault))
refused_on g X Reads last events told d e Memory content found keeps same named =
    (refl, leaves_same last (g.state d) (g.state e) found keeps same)
refused_on g X Reads last events told d e Device content found keeps same named =
    (refl, leaves_same last (g.state d) (g.state e) found keeps same)
refused_on g X Reads last events told d e WrongSize content found keeps same named =
    (wrong_size last (g.state d) (is_size (g.state d).sectors) refl content found named, refl, leaves_same last (g.state d) (g.state e) found keeps same)
refused_on g X Reads last events told d e NotADatabase content found keeps same named =
    absurd (other_fault last (g.state d) NotADatabase (λ bad. let other : NotADatabase ≡ WrongSize = bad in cc) content found named)
refused_on g X Reads last events told d e (NewerFormat format) content found keeps same named =
    absurd (other_fault last (g.state d) (NewerFormat format) (λ bad. let other : NewerFormat format ≡ WrongSize = bad in cc) content found named)
refused_on g X Reads last events told d e Damaged content found keeps same named = absurd (elim named [
  | inl first ↦ other_fault last (g.state d) Damaged (λ bad. let other : Damaged ≡ WrongSize = bad in cc) content found first
  | inr none ↦ nothing_found last (g.state d) content found none.1
])

-- no store was opened
pub device_of_pages : (fault : OpenFault) → IsOfDevice (Pages fault) → fault ≡ Device
device_of_pages WrongSize is = absurd is
device_of_pages NotADatabase is = absurd is
device_of_pages (NewerFormat format) is = absurd is
device_of_pages Damaged is = absurd is
device_of_pages Device is = refl
device_of_pages Memory is = absurd is

pub not_opened_on : (d e : DeviceState) (fault : OpenFault) → (fault ≡ Device → HasFailed d e) → KeepsContent d e → IsNamedFor fault d → IsRefusedOn (Pages fault) d e
not_opened_on d e fault cause content named = record {
  cause = λ is. cause (device_of_pages fault is);
  outcome = inl (record { why = fault; told = refl; named = named; content = content });
}
