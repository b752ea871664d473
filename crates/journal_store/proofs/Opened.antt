-- A device with a journal that was opened: what the store holds, or why there is none.
use Rattle.std.proofs.Common.{◌≡◌, ◌<◌, ◌+◌, ◌/◌, inl, inr, ℕ, true, false, List, [], None, Some, get_or, refl, sym, ap, subst, ◌∙◌, arith}
use Rattle.std.specs.Prelude.{Result, Ok, Err, IsErrAnd}
use Rattle.std.proofs.Math.Path.{fun_ext}
use Rattle.storage_sizes.specs.declared.record_format.RecordFormat.TheVariants.{V2}
use Rattle.sector_device.specs.Device.{DeviceState, Image, IsSynced, KeepsHistory, history_joined}
use Rattle.sector_device.specs.declared.device.Device.{Ghosts}
use Rattle.kv_store.proofs.SameKind.{journaled_is_second}
use Rattle.journal.specs.Chain.{Region}
use Rattle.journal.specs.Journal.{IsJournal, NumbersUpTo, IsGreatest}
use Rattle.journal.specs.Journals.{region_in, HasJournal, HoldsJournal}
use Rattle.journal.specs.Reading.{region_of}
use Rattle.journal.proofs.Opening.{region_same, region_still}
use Rattle.cow_pages.specs.declared.open.OpenFault.{OpenFault}
use Rattle.cow_pages.specs.declared.open.OpenFault.TheVariants.{WrongSize, NotADatabase, NewerFormat, Damaged, Device, Memory}
use Rattle.cow_pages.specs.Image.{Means, first_fault, is_size}
use Rattle.cow_pages.specs.Held.{KeepsContent}
use Rattle.cow_pages.specs.Cow.{device_below, root_of}
use Rattle.cow_pages.specs.PreservedLaws.{failed_later}
use Rattle.cow_pages.specs.ReadingLaws.{reads_joined}
use Rattle.cow_pages.proofs.Meaning.{one_meaning}
use Rattle.store.specs.Records.{Records}
use Rattle.store.specs.Store.{Contents}
use Rattle.kv_store.specs.declared.tree_store.TreeStore.{TreeStore}
use Rattle.kv_store.specs.Contents.{HasContentsWith, IsReadWith, contents_of}
use Rattle.kv_store.specs.Numbered.{HasContentsUnder}
use Rattle.kv_store.specs.Opening.{IsNamedWith, IsOpenedWith, CannotOpenWith}
use Rattle.kv_store.specs.TreeStore.{pages_of, store_state}
use Rattle.kv_store.specs.TreeLaws.{keys_rise}
use Rattle.journal_store.specs.declared.stores.JournalStore.{JournalStore}
use Rattle.journal_store.specs.Meaning.{HasJournaledContents, IsJournalReadAs, journal_start, journal_room}
use Rattle.journal_store.specs.Stores.{device_under, base_of, root_number, IsSoundJournal}
use Rattle.journal_store.specs.Opening.{IsNamedFor, HoldsImage, IsOpened, CannotOpen, Opens, IsReplayed, NotReplayed}
use Rattle.journal_store.specs.MeaningLaws.{under_has}
use Rattle.journal_store.proofs.Numbers.{greater}

-- a device of another size than a database may have
pub wrong_size : (d : DeviceState) → is_size d.sectors ≡ false → first_fault d.sectors d.content ≡ Some WrongSize
wrong_size d is = rw is refl

-- the pages of an image that has contents have others, with a journal
in_pages : (pages : ℕ) (contents : Contents) (image : Image) → HasJournaledContents pages contents image → (base : Contents) × HasContentsWith true pages base image
in_pages pages contents image has = (has.base, under_has pages has.root has.base image has.under)

-- contents of pages under the number of their root
as_under : (pages number : ℕ) (contents : Contents) (image : Image) (has : HasContentsWith true pages contents image) → has.number ≡ number → HasContentsUnder true pages number contents image
as_under pages number contents image has same = record {
  format = has.format;
  array = has.array;
  means = subst (λ (n : ℕ). Means pages has.format n has.array image) same has.means;
  kind = has.kind;
  spelled = has.spelled;
  represents = has.represents;
}

-- a refusal that is passed on
pub refused_on : {D : Type 0} {g : Ghosts D} (d : DeviceState) (r : Result (JournalStore D g) (D × OpenFault)) (e : D × OpenFault) → IsErrAnd r (λ x. x ≡ e)
    → CannotOpen d e.1 (g.state e.0) → Opens d r
refused_on d (Ok s) e is not = absurd is
refused_on {D} {g} d (Err x) e is not = subst (λ (y : D × OpenFault). CannotOpen d y.1 (g.state y.0)) (sym is) not

-- the sectors behind the root sectors were read of a device
module _ (d m : DeviceState) (history : KeepsHistory d m) (keeps : d.faithful → KeepsContent d m) where
  -- what is said of the content is said of the content before
  moved : d.faithful → (P : ℕ → Image → Type 0) → P m.sectors m.content → P d.sectors d.content
  moved faithful P is =
      subst (λ (n : ℕ). P n d.content) history.sectors (subst (λ (image : Image). P m.sectors image) (fun_ext (λ s. (keeps faithful).content s)) is)

  -- the pages are refused
  named_before : d.faithful → (fault : OpenFault) → IsNamedWith true fault m → IsNamedFor fault d
  named_before faithful WrongSize is = moved faithful (λ n image. first_fault n image ≡ Some WrongSize) is
  named_before faithful NotADatabase is = moved faithful (λ n image. first_fault n image ≡ Some NotADatabase) is
  named_before faithful (NewerFormat format) is = moved faithful (λ n image. first_fault n image ≡ Some (NewerFormat format)) is
  named_before faithful Damaged is = elim is [
    | inl first ↦ inl (moved faithful (λ n image. first_fault n image ≡ Some Damaged) first)
    | inr none ↦ inr (
      moved faithful (λ n image. first_fault n image ≡ None) none.0,
      λ contents has.
          let pages = in_pages (d.sectors / 8) contents d.content has in
          moved faithful (λ n image. IsReadWith true (n / 8) image None) none.1 pages.0 pages.1,
    )
  ]
  named_before faithful Device is = tt
  named_before faithful Memory is = elim is [
    | inl none ↦ inl (moved faithful (λ n image. first_fault n image ≡ None) none)
    | inr first ↦ inr (moved faithful (λ n image. first_fault n image ≡ Some Damaged) first)
  ]

  pub pages_refused : (fault : OpenFault) (e : DeviceState) → CannotOpenWith true m fault e → CannotOpen d fault e
  pages_refused fault e not = record {
    history = history_joined d m e history not.history;
    cause = λ is. failed_later d m e history not.history (not.cause is);
    content = λ faithful. reads_joined d m e history (keeps faithful) (not.content (history.faithful faithful));
    named = λ faithful. named_before faithful fault (not.named (history.faithful faithful));
  }

  -- the pages are opened
  module _ {D : Type 0} {g : Ghosts D} (t : TreeStore D g) (opened : IsOpenedWith true m (device_below (pages_of t)) (store_state t)) (sectors : List (List ℕ))
      (read : d.faithful → (q : ℕ) → q < journal_room → get_or sectors q [] ≡ d.content (journal_start + q)) where
    abbrev e : DeviceState
    e = device_below (pages_of t)

    abbrev number : ℕ
    number = (root_of (pages_of t)).number

    history_is : KeepsHistory d e
    history_is = history_joined d m e history opened.history

    content_is : d.faithful → KeepsContent d e
    content_is faithful = reads_joined d m e history (keeps faithful) (opened.content (history.faithful faithful))

    no_fault : d.faithful → first_fault d.sectors d.content ≡ None
    no_fault faithful = moved faithful (λ n image. first_fault n image ≡ None) (opened.holds (history.faithful faithful)).no_fault

    under : d.faithful → HasContentsUnder true (d.sectors / 8) number (contents_of (pages_of t)) d.content
    under faithful =
        let holds = opened.holds (history.faithful faithful) in
        moved faithful (λ n image. HasContentsUnder true (n / 8) number (contents_of (pages_of t)) image)
        (as_under (m.sectors / 8) number (contents_of (pages_of t)) m.content holds.contents holds.number_is)

    region_is : d.faithful → region_of journal_room sectors ≡ region_in journal_start journal_room d.content
    region_is faithful = region_same journal_start journal_room d.content sectors (read faithful)

    pub refused_memory : CannotOpen d Memory e
    refused_memory = record {
      history = history_is;
      cause = λ bad. absurd (let other : Memory ≡ Device = bad in cc);
      content = content_is;
      named = λ faithful. inl (no_fault faithful);
    }

    none_there : d.faithful → NotReplayed number sectors → IsJournalReadAs (d.sectors / 8) d.content None
    none_there faithful not contents has =
        let own = under faithful in
        let roots : has.root ≡ number = (one_meaning (d.sectors / 8) (d.sectors / 8) has.under.format own.format has.root number has.under.array own.array d.content has.under.means own.means).1 in
        not has.es has.batches
        (subst (λ (region : Region). IsJournal region number journal_room has.es) (sym (region_is faithful))
        (subst (λ (n : ℕ). HasJournal journal_start journal_room n has.es d.content) roots has.journal)) has.spelled

    pub refused_damaged : NotReplayed number sectors → CannotOpen d Damaged e
    refused_damaged not = record {
      history = history_is;
      cause = λ bad. absurd (let other : Damaged ≡ Device = bad in cc);
      content = content_is;
      named = λ faithful. inr (no_fault faithful, none_there faithful not);
    }

  -- and the journal is read
  module _ {D : Type 0} {g : Ghosts D} (s : JournalStore D g) (opened : IsOpenedWith true m (device_under s) (store_state s.store)) (sectors : List (List ℕ))
      (read : d.faithful → (q : ℕ) → q < journal_room → get_or sectors q [] ≡ d.content (journal_start + q)) (synced : d.faithful → IsSynced m)
      (is : IsReplayed (root_number s) sectors (record { waiting = s.waiting; top = s.top; end = s.end })) where
    second : (base_of s).record_format ≡ V2
    second = journaled_is_second (root_of (pages_of s.store)).format s.journaled

    region_now : d.faithful → region_of journal_room sectors ≡ region_in journal_start journal_room (device_under s).content
    region_now faithful =
        let all = content_is s.store opened sectors read faithful in
        region_is s.store opened sectors read faithful ∙ region_still journal_start journal_room d.content (device_under s).content (λ q lt. sym (all.content (journal_start + q)))

    holds_journal : d.faithful → HoldsJournal journal_start journal_room (root_number s) s.top is.es (device_under s)
    holds_journal faithful =
        let kept = opened.content (history.faithful faithful) in
        let same = region_now faithful in
        record {
          inside = s.room;
          fixed = λ q lt c left. synced faithful (journal_start + q) (omega (arith, lt, s.room, opened.history.sectors)) c (kept.left (journal_start + q) c left) ∙ sym (kept.content (journal_start + q));
          journal = subst (λ (region : Region). IsJournal region (root_number s) journal_room is.es) same is.is;
          few = subst (λ (region : Region). NumbersUpTo s.top region) same is.top.up_to;
        }

    sound : d.faithful → IsSoundJournal s
    sound faithful = record {
      pages = (opened.holds (history.faithful faithful)).sound;
      works = λ works. record {
        second = second;
        es = is.es;
        holds = holds_journal faithful;
        batches = is.batches;
        spelled = is.spelled;
        waits = is.waits;
        end_is = is.end_is;
        number_is = greater (root_number s) s.top (region_in journal_start journal_room (device_under s).content)
            (subst (λ (region : Region). IsGreatest s.top region) (region_now faithful) is.top);
      };
    }

    holds_image : d.faithful → HoldsImage d s
    holds_image faithful = record {
      sound = sound faithful;
      contents = record {
        root = root_number s;
        base = base_of s;
        under = under s.store opened sectors read faithful;
        second = second;
        es = is.es;
        journal = subst (λ (region : Region). IsJournal region (root_number s) journal_room is.es) (region_is s.store opened sectors read faithful) is.is;
        batches = is.batches;
        spelled = is.spelled;
        is = ap (λ (es : Records). let c : Contents = record { record_format = (base_of s).record_format; records = es } in c)
            (is.waits (base_of s).records (keys_rise s.store (opened.holds (history.faithful faithful)).sound));
      };
      number_is = greater (root_number s) s.top (region_in journal_start journal_room d.content)
          (subst (λ (region : Region). IsGreatest s.top region) (region_is s.store opened sectors read faithful) is.top);
      no_fault = no_fault s.store opened sectors read faithful;
    }

    pub store_opened : IsOpened d s
    store_opened = record {
      history = history_is s.store opened sectors read;
      has_not_failed = opened.has_not_failed;
      no_fulls = opened.no_fulls;
      no_failures = opened.no_failures;
      content = content_is s.store opened sectors read;
      holds = holds_image;
    }
