-- What a stop within an event may leave, on a device that keeps its history.
use Rattle.std.proofs.Common.{◌≡◌, ◌∙◌, ◌⊎◌, ◌≤◌, ◌<◌, ◌+◌, ◌-◌, ◌/◌, ℕ, zero, suc, inl, inr, ⊎_elim, List, [], ◌∷◌, ◌++◌, length, take, get_or, Option, Some, None, refl, sym, subst, ap, arith}
use Rattle.std.proofs.lemmas.Bool.{cases_lt}
use Rattle.std.proofs.lemmas.List.{take_more}
use Rattle.sector_device.specs.Timeline.{Timeline}
use Rattle.sector_device.specs.Device.{Image}
use Rattle.sector_device.specs.History.{Held, changed, after, MayLeave, history_state}
use Rattle.sector_device.specs.HistoryLaws.{content_left}
use Rattle.sector_device.specs.declared.call.Call.{Call}
use Rattle.sector_device.specs.declared.call.Call.TheVariants.{Read, Write, Sync}
use Rattle.sector_device.proofs.Histories.{after_more}
use Rattle.sql_types.specs.declared.answer.Answer.{Answer}
use Rattle.store.specs.Records.{Records}
use Rattle.store.specs.Store.{Contents}
use Rattle.journal_store.specs.DeviceImages.{IsReadAs}
use Rattle.abstract_database.specs.Database.{Database}
use Rattle.abstract_database.specs.Machine.{Event as MachineEvent, Machine}
use Rattle.abstract_database.specs.Runs.{TheText, ReadingRelation, Counts, At, IsStep, by_transition, for_memory, for_space, for_number, for_device, IsBrought, under_way_after}
use Rattle.stored_database.specs.Records.{StandsFor}
use Rattle.stored_database.specs.BothRecordFormats.{in_record_format_2}
use Rattle.server.specs.Standing.{Means, Stands}
use Rattle.databases.specs.OnDevice.{records_on}
use Rattle.databases.specs.Stopping.{IsLeftAt, Changes, LeavesOneAtEach}

-- what a stop left means one database
pub one_meaning : ((records : Records) (a b : Database) → StandsFor records a → StandsFor records b → a ≡ b) → (x : Option Contents) (a b : Database) → Means x a → Means x b → a ≡ b
one_meaning one x a b first second =
    let same : second.0 ≡ first.0 = (let p = first.1 in let q = second.1 in let at : Some second.0 ≡ Some first.0 = sym q ∙ p in cc) in
    one (in_record_format_2 first.0.record_format first.0.records) a b first.2 (subst (λ (c : Contents). Stands c b) same second.2)

-- an event that ended with nothing under way brought what is committed then
brought_is : {Reads : ReadingRelation} {old new : Counts} {m : Machine} {event : MachineEvent TheText} {answer : Answer} {after : Machine}
    (step : IsStep Reads old new m event answer after) (was now : Option Database) → now ≡ under_way_after step was → now ≡ None → (db : Database) → IsBrought step db → db ≡ after.committed
brought_is (by_transition is) was now same none db brought = brought
brought_is (for_memory a b may) was now same none db brought = absurd brought
brought_is (for_space a b may rises) was now same none db brought = absurd brought
brought_is (for_number a b may greatest) was now same none db brought = absurd brought
brought_is (for_device t is may a b failed) was now same none db brought =
    let bad : None ≡ Some t.machine.committed = sym none ∙ same in absurd (let no : ⊥ = cc in no)

-- it cannot be that nothing is read of an image, neither contents nor none
read_somehow : (pages : ℕ) (image : Image) → ((x : Option Contents) → IsReadAs pages image x → ⊥) → ⊥
read_somehow pages image none = none None (λ contents has. none (Some contents) has)

-- what was there before a call may be left after it
before_left : (held : Held) (call : Call) (s : ℕ) → held.left s (held.content s) → (changed held call).left s (held.content s)
before_left held Read s here = here
before_left held (Write sector bytes) s here = inl here
before_left held Sync s here = refl

module _ (sectors : ℕ) (calls : List Call) (failures : ℕ) where
  abbrev time : Timeline (Option Contents)
  time = records_on (history_state sectors calls failures)

  -- what is there after so many calls
  abbrev image_at : ℕ → Image
  image_at k = (after (take k calls)).content

  left_at : (k : ℕ) (image : Image) (x : Option Contents) → k ≤ length calls → MayLeave sectors (take k calls) image → IsReadAs (sectors / 8) image x → IsLeftAt time k x
  left_at k image x within may reads = λ a b from to. (image, (k, from, to, within, may), reads)

  content_may : (k : ℕ) → MayLeave sectors (take k calls) (image_at k)
  content_may k = λ s inside. content_left (take k calls) s

  before_may : (k next : ℕ) → next ≡ k + 1 → next ≤ length calls → MayLeave sectors (take next calls) (image_at k)
  before_may k next is within = λ s inside.
      let more : take next calls ≡ take k calls ++ get_or calls k Read ∷ [] = ap (λ (n : ℕ). take n calls) is ∙ take_more calls k Read (omega (arith, is, within)) in
      subst (λ (h : Held). h.left s (image_at k s)) (sym (after_more (take k calls) (take next calls) (get_or calls k Read) more))
      (before_left (after (take k calls)) (get_or calls k Read) s (content_left (take k calls) s))

  module _ (Reads : ReadingRelation) (w next : At) (event : MachineEvent TheText) (answer : Answer)
      (one : (x : Option Contents) (a b : Database) → Means x a → Means x b → a ≡ b) (changes : Changes Reads time w event answer next) where
    abbrev old : Database
    old = w.standing.machine.committed

    abbrev new : Database
    new = next.standing.machine.committed

    -- a stop right before the event leaves the one, a stop right after it the other, and a stop within it one of them
    found_before : (x : Option Contents) → time.stops w.moment w.moment x → Means x old
    found_before x stop =
        let found = changes.here x stop in
        ⊎_elim
        (λ is. subst (λ (db : Database). Means x db) is found.1)
        (λ under. let bad : None ≡ Some found.0 = sym changes.nothing_before ∙ under in absurd (let no : ⊥ = cc in no))
        found.2

    found_after : (x : Option Contents) → time.stops next.moment next.moment x → Means x new
    found_after x stop =
        let found = changes.happens.now x stop in
        ⊎_elim
        (λ is. subst (λ (db : Database). Means x db) is found.1)
        (λ under. let bad : None ≡ Some found.0 = sym changes.nothing_after ∙ under in absurd (let no : ⊥ = cc in no))
        found.2

    found_within : (x : Option Contents) → time.stops w.moment next.moment x → Means x old ⊎ Means x new
    found_within x stop =
        let found = changes.happens.during x stop in
        ⊎_elim
        (λ at. ⊎_elim
        (λ is. inl (subst (λ (db : Database). Means x db) is found.1))
        (λ under. let bad : None ≡ Some found.0 = sym changes.nothing_before ∙ under in absurd (let no : ⊥ = cc in no))
        at)
        (λ brought. inr (subst (λ (db : Database). Means x db)
        (brought_is changes.happens.step w.standing.under_way next.standing.under_way changes.happens.under_way changes.nothing_after found.0 brought) found.1))
        found.2

    -- after so many calls the database is the one before the event
    abbrev IsOld : ℕ → Type 0
    IsOld k = (x : Option Contents) × IsReadAs (sectors / 8) (image_at k) x × Means x old

    -- at the end of the event it is not
    not_at_end : IsOld next.moment → ⊥
    not_at_end is = changes.another (one is.0 old new is.2 (found_after is.0
        (left_at next.moment (image_at next.moment) is.0 changes.within (content_may next.moment) is.1 next.moment next.moment (omega arith) (omega arith))))

    -- where a stop leaves but one of them at each moment, it stays the one before the event
    stays_old : LeavesOneAtEach time w next → (n k : ℕ) → k ≡ w.moment + n → k ≤ next.moment → (IsOld k → ⊥) → ⊥
    stays_old never zero k is to fails =
        let here : k ≡ w.moment = omega (arith, is) in
        let last : next.moment ≤ length calls = changes.within in
        read_somehow (sectors / 8) (image_at k) (λ x reads.
        fails (x, reads, found_before x (left_at k (image_at k) x (omega (arith, to, last)) (content_may k) reads w.moment w.moment (omega (arith, here)) (omega (arith, here)))))
    stays_old never (suc n) k is to fails =
        let one_more : k ≡ (w.moment + n) + 1 = omega (arith, is) in
        let last : next.moment ≤ length calls = changes.within in
        let within : k ≤ length calls = omega (arith, to, last) in
        let from : w.moment < k = omega (arith, is) in
        stays_old never n (w.moment + n) refl (omega (arith, one_more, to)) (λ was.
        read_somehow (sectors / 8) (image_at k) (λ x reads.
        let left = left_at k (image_at k) x within (content_may k) reads in
        let before = left_at k (image_at (w.moment + n)) was.0 within (before_may (w.moment + n) k one_more within) was.1 in
        ⊎_elim
        (λ means. fails (x, reads, means))
        (λ means. ⊎_elim
        (λ lt. never k from lt (was.0, before, was.2) (x, left, means))
        (λ ge. changes.another (one was.0 old new was.2 (found_after was.0 (before next.moment next.moment (omega (arith, ge, to)) (omega (arith, ge, to))))))
        (cases_lt k next.moment))
        (found_within x (left w.moment next.moment (omega (arith, from)) to))))

    pub either_is_left : LeavesOneAtEach time w next → ⊥
    either_is_left never =
        let later = changes.happens.later in
        stays_old never (next.moment - w.moment) next.moment (omega (arith, later)) (omega arith) not_at_end
