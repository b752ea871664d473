-- A new store that has the mark alone, and what a stop leaves of it.
use Rattle.std.proofs.Common.{◌≡◌, ◌≤◌, ◌/◌, ◌%◌, ◌&&◌, ◌||◌, ℕ, inl, inr, true, false, eqb, [], Option, Some, None, Err, refl, sym, ap, subst, ◌∙◌, arith}
use Rattle.std.proofs.lemmas.Bool.{and_parts, false≢true, leb-true}
use Rattle.std.specs.Prelude.{nat_le}
use Rattle.storage_sizes.specs.CurrentRecordFormat.{current}
use Rattle.sector_device.specs.Timeline.{LeavesOnly, IsPresent, joined, read_by}
use Rattle.sector_device.specs.Device.{DeviceState, Image, HasFailed, IsLeft, timeline, history_joined, history_none}
use Rattle.sector_device.specs.declared.device.Device.{Ghosts}
use Rattle.sector_device.proofs.Runs.{lifted, started, present_lifted}
use Rattle.page_roots.specs.Sector.{begins_with_magic}
use Rattle.store.specs.declared.fault.Fault.TheVariants as read
use Rattle.store.specs.declared.fault.StoreFault.TheVariants as write
use Rattle.store.specs.Store.{Contents, stored}
use Rattle.cow_pages.specs.declared.open.OpenFault.{OpenFault}
use Rattle.cow_pages.specs.declared.open.OpenFault.TheVariants as pages
use Rattle.cow_pages.specs.Image.{first_fault, is_size}
use Rattle.cow_pages.specs.Formatting.{IsBlank, IsUnmarked}
use Rattle.cow_pages.specs.declared.cow.CowPages.{CowPages}
use Rattle.cow_pages.specs.Cow.{device_below, root_of}
use Rattle.cow_pages.specs.Held.{KeepsContent}
use Rattle.cow_pages.specs.PreservedLaws.{failed_later}
use Rattle.cow_pages.proofs.Faults.{means_faultless, one_marked}
use Rattle.cow_pages.proofs.Making.{blank_left}
use Rattle.kv_store.specs.Contents.{HasContents, IsReadAs}
use Rattle.kv_store.specs.ContentLaws.{read_is, same_contents}
use Rattle.kv_store.specs.Formatting.{IsNoneOrFirst, WritesStore, IsMade}
use Rattle.kv_store.specs.Opening.{IsNamedFor, IsOpened, CannotOpen}
use Rattle.kv_store.specs.declared.page_store.PageStore.{PageStore}
use Rattle.kv_store.specs.PageStore.{pages_of, store_state}
use Rattle.copies.specs.RecordCopies.{mark}
use Rattle.copies.specs.declared.fault.CopyFault.{CopyFault}
use Rattle.copies.specs.declared.fault.CopyFault.TheVariants.{Pages, Read, Write, WrongSize, Full}
use Rattle.copies.specs.DeviceCopies.{CannotBegin, HasNoneOrMark, IsBegun, IsNotBegun, Marks, marked, records_on, of_target}

-- the root names as many pages as the device has
pub sectors_are : {D : Type 0} {g : Ghosts D} (p : CowPages D g) → (root_of p).pages ≡ (device_below p).sectors / 8
sectors_are {D} {g} p = omega (arith, p.sized)

-- ---- images

room_of : (sectors : ℕ) → is_size sectors ≡ true → 2 ≤ sectors
room_of sectors is =
    let parts = and_parts (eqb (sectors % 8) 0) (nat_le 64 (sectors / 8) && nat_le (sectors / 8) 65536) is in
    let bounds = and_parts (nat_le 64 (sectors / 8)) (nat_le (sectors / 8) 65536) parts.1 in
    omega (arith, leb-true 64 (sectors / 8) bounds.0)

-- an image that has contents has a root
unmarked_none : (image : Image) (pages : ℕ) (contents : Contents) → IsUnmarked image → HasContents pages contents image → ⊥
unmarked_none image pages contents unmarked has =
    false≢true (sym (both (begins_with_magic (image 0)) (begins_with_magic (image 1)) (unmarked 0 (omega arith)) (unmarked 1 (omega arith))) ∙ one_marked image has.means.root has.means.chosen)
  where
    both : (a b : _) → a ≡ false → b ≡ false → (a || b) ≡ false
    both a b is also = rw is also

read_unmarked : (image : Image) (pages : ℕ) (x : Option Contents) → IsUnmarked image → IsReadAs pages image x → HasNoneOrMark x
read_unmarked image pages None unmarked read = inl refl
read_unmarked image pages (Some contents) unmarked read = absurd (unmarked_none image pages contents unmarked read)

faulty_none : (sectors : ℕ) (image : Image) (fault : OpenFault) (contents : Contents) → is_size sectors ≡ true → first_fault sectors image ≡ Some fault → HasContents (sectors / 8) contents image → ⊥
faulty_none sectors image fault contents size first has =
    let bad : Some fault ≡ None = sym first ∙ means_faultless sectors has.format has.number has.array image size has.means in cc

read_none : (sectors : ℕ) (image : Image) (fault : OpenFault) (x : Option Contents) → is_size sectors ≡ true → first_fault sectors image ≡ Some fault → IsReadAs (sectors / 8) image x → HasNoneOrMark x
read_none sectors image fault None size first read = inl refl
read_none sectors image fault (Some contents) size first read = absurd (faulty_none sectors image fault contents size first read)

read_marked : (pages : ℕ) (image : Image) (x : Option Contents) → HasContents pages marked image → IsReadAs pages image x → HasNoneOrMark x
read_marked pages image x has read = inr (marked, [], read_is image pages marked x has read, refl)

read_first : (sectors : ℕ) (image : Image) (x : Option Contents) → is_size sectors ≡ true → IsNoneOrFirst sectors current mark image → IsReadAs (sectors / 8) image x → HasNoneOrMark x
read_first sectors image x size is read = elim is [
  | inl none ↦ read_none sectors image pages.NotADatabase x size none read
  | inr first ↦ read_marked (sectors / 8) image x first.0 read
]

-- ---- the device is made

-- nothing was written
pub unwritten : (d : DeviceState) → is_size d.sectors ≡ true → IsPresent (timeline d) → IsBlank d → LeavesOnly HasNoneOrMark (records_on d) (records_on d)
unwritten d size present blank =
    started HasNoneOrMark (records_on d) (present_lifted (IsReadAs (d.sectors / 8)) (timeline d) present)
    (λ x left. read_unmarked left.0 (d.sectors / 8) x (blank_left d (room_of d.sectors size) blank left.0 left.1) left.2)

pub not_written : (d : DeviceState) → is_size d.sectors ≡ true → (d.faithful → IsPresent (timeline d)) → IsNotBegun d d
not_written d size present = record {
  size = size;
  history = history_none d;
  leaves = λ faithful blank. unwritten d size (present faithful) blank;
}

made_leaves : (d e : DeviceState) → is_size d.sectors ≡ true → WritesStore current mark d e → d.faithful → IsBlank d → LeavesOnly HasNoneOrMark (records_on d) (records_on e)
made_leaves d e size writes faithful blank =
    subst (λ (n : ℕ). LeavesOnly HasNoneOrMark (records_on d) (read_by (IsReadAs (n / 8)) (timeline e))) (sym writes.history.sectors)
    (lifted (IsReadAs (d.sectors / 8)) _ HasNoneOrMark (timeline d) (timeline e) (λ image x is read. read_first d.sectors image x size is read) (writes.any_moment faithful blank))

pub half_written : (d e : DeviceState) → is_size d.sectors ≡ true → WritesStore current mark d e → IsNotBegun d e
half_written d e size writes = record { size = size; history = writes.history; leaves = made_leaves d e size writes }

-- ---- and opened

module _ (d e : DeviceState) (size : is_size d.sectors ≡ true) (writes : WritesStore current mark d e) (made : d.faithful → IsMade current mark d e) where
  -- each image that a stop leaves has the mark alone
  left_marked : d.faithful → (image : Image) → IsLeft e image → HasContents (e.sectors / 8) marked image
  left_marked faithful image left = subst (λ (n : ℕ). HasContents (n / 8) marked image) (sym writes.history.sectors) ((made faithful).left image left).0

  read_leaves : (f : DeviceState) → KeepsContent e f → d.faithful → IsBlank d → LeavesOnly HasNoneOrMark (records_on d) (read_by (IsReadAs (e.sectors / 8)) (timeline f))
  read_leaves f keeps faithful blank =
      joined HasNoneOrMark (records_on d) (records_on e) (read_by (IsReadAs (e.sectors / 8)) (timeline f)) (made_leaves d e size writes faithful blank)
      (lifted (IsReadAs (e.sectors / 8)) (IsLeft e) HasNoneOrMark (timeline e) (timeline f)
      (λ image x left read. read_marked (e.sectors / 8) image x (left_marked faithful image left) read) keeps.leaves)

  pub begun : {D : Type 0} {g : Ghosts D} (s : PageStore D g) → (e.faithful → IsLeft e e.content) → IsOpened e s → IsBegun d s
  begun {D} {g} s content opened =
      let same : (root_of (pages_of s)).pages ≡ e.sectors / 8 = sectors_are (pages_of s) ∙ ap (λ (n : ℕ). n / 8) opened.history.sectors in
      record {
        size = size;
        history = history_joined d e (device_below (pages_of s)) writes.history opened.history;
        works = opened.has_not_failed;
        sound = λ faithful. (opened.holds (writes.history.faithful faithful)).sound;
        contents = λ faithful.
            let there = writes.history.faithful faithful in
            same_contents e.content (e.sectors / 8) (e.sectors / 8) (stored (store_state s)) marked (opened.holds there).contents (left_marked faithful e.content (content there));
        leaves = λ faithful blank.
            subst (λ (n : ℕ). LeavesOnly HasNoneOrMark (records_on d) (read_by (IsReadAs n) (timeline (device_below (pages_of s))))) (sym same)
            (read_leaves (device_below (pages_of s)) (opened.content (writes.history.faithful faithful)) faithful blank);
      }

  pub not_begun : (f : DeviceState) (fault : OpenFault) → CannotOpen e fault f → IsNotBegun d f
  not_begun f fault cannot = record {
    size = size;
    history = history_joined d e f writes.history cannot.history;
    leaves = λ faithful blank.
        subst (λ (n : ℕ). LeavesOnly HasNoneOrMark (records_on d) (read_by (IsReadAs (n / 8)) (timeline f))) (sym cannot.history.sectors)
        (read_leaves f (cannot.content (writes.history.faithful faithful)) faithful blank);
  }

  -- no fault stands in the content, so the device failed
  pub not_named : (f : DeviceState) (fault : OpenFault) → (e.faithful → IsLeft e e.content) → CannotOpen e fault f → (fault ≡ pages.Memory → ⊥) → d.faithful → HasFailed d f
  not_named f fault content cannot other faithful = by_fault fault other (cannot.named there) cannot.cause
    where
      there : e.faithful
      there = writes.history.faithful faithful

      size_is : is_size e.sectors ≡ true
      size_is = subst (λ (n : ℕ). is_size n ≡ true) (sym writes.history.sectors) size

      has : HasContents (e.sectors / 8) marked e.content
      has = left_marked faithful e.content (content there)

      by_fault : (named : OpenFault) → (named ≡ pages.Memory → ⊥) → IsNamedFor named e → (named ≡ pages.Device → HasFailed e f) → HasFailed d f
      by_fault pages.WrongSize not is failed = absurd (faulty_none e.sectors e.content pages.WrongSize marked size_is is has)
      by_fault pages.NotADatabase not is failed = absurd (faulty_none e.sectors e.content pages.NotADatabase marked size_is is has)
      by_fault (pages.NewerFormat format) not is failed = absurd (faulty_none e.sectors e.content (pages.NewerFormat format) marked size_is is has)
      by_fault pages.Damaged not is failed = absurd (elim is [
        | inl first ↦ faulty_none e.sectors e.content pages.Damaged marked size_is first has
        | inr none ↦ none.1 marked has
      ])
      by_fault pages.Device not is failed = failed_later d e f writes.history cannot.history (failed refl)
      by_fault pages.Memory not is failed = absurd (not refl)

  pub refused : {D : Type 0} (g : Ghosts D) (fault : OpenFault) (old new : D) → g.state old ≡ d → (e.faithful → IsLeft e e.content) → CannotOpen e fault (g.state new) → CannotBegin g (of_target fault) old new
  refused g fault old new same content cannot =
      by_fault fault cannot
    where
      of_device : (named : OpenFault) → (named ≡ pages.Memory → ⊥) → CannotOpen e named (g.state new) → IsNotBegun (g.state old) (g.state new) × ((g.state old).faithful → HasFailed (g.state old) (g.state new))
      of_device named other is =
          subst (λ (s : DeviceState). IsNotBegun s (g.state new) × (s.faithful → HasFailed s (g.state new))) (sym same) (not_begun (g.state new) named is, not_named (g.state new) named content is other)

      by_fault : (named : OpenFault) → CannotOpen e named (g.state new) → CannotBegin g (of_target named) old new
      by_fault pages.WrongSize is = of_device pages.WrongSize (λ bad. let no : pages.WrongSize ≡ pages.Memory = bad in cc) is
      by_fault pages.NotADatabase is = of_device pages.NotADatabase (λ bad. let no : pages.NotADatabase ≡ pages.Memory = bad in cc) is
      by_fault (pages.NewerFormat format) is = of_device (pages.NewerFormat format) (λ bad. let no : pages.NewerFormat format ≡ pages.Memory = bad in cc) is
      by_fault pages.Damaged is = of_device pages.Damaged (λ bad. let no : pages.Damaged ≡ pages.Memory = bad in cc) is
      by_fault pages.Device is = of_device pages.Device (λ bad. let no : pages.Device ≡ pages.Memory = bad in cc) is
      by_fault pages.Memory is = subst (λ (s : DeviceState). IsNotBegun s (g.state new)) (sym same) (not_begun (g.state new) pages.Memory is)

-- the mark was not made
pub not_marked : {D : Type 0} (g : Ghosts D) (fault : CopyFault) (old new : D) → ((device : D) → (g.state device).faithful → IsPresent (timeline (g.state device))) → Marks g (Err fault) old new
    → CannotBegin g fault old new
not_marked g (Write write.Memory) old new present is = subst (λ (x : _). IsNotBegun (g.state old) (g.state x)) (sym is.1) (not_written (g.state old) is.0 (present old))
not_marked g (Write write.Device) old new present is = (half_written (g.state old) (g.state new) is.0 is.1, λ faithful. is.2)
not_marked g (Write write.Full) old new present is = is
not_marked g (Write write.Number) old new present is = is
not_marked g WrongSize old new present is = is
not_marked g (Full least) old new present is = is
not_marked g (Pages fault) old new present is = is
not_marked g (Read read.Memory) old new present is = is
not_marked g (Read read.Device) old new present is = is
not_marked g (Read read.Damaged) old new present is = is
