-- How the store on a device is opened, by how that of a kind is.
use Rattle.std.proofs.Common.{◌≡◌, ◌/◌, inl, inr, ℕ, true, false, None, Some, Result, Ok, Err, refl, sym, subst}
use Rattle.std.proofs.Math.Path.{fun_ext}
use Rattle.std.proofs.lemmas.Bool.{false≢true}
use Rattle.sector_device.specs.Device.{DeviceState, Image, history_joined}
use Rattle.sector_device.specs.declared.device.Device.{Ghosts}
use Rattle.cow_pages.specs.declared.open.OpenFault.{OpenFault}
use Rattle.cow_pages.specs.declared.open.OpenFault.TheVariants.{WrongSize, NotADatabase, NewerFormat, Damaged, Device, Memory}
use Rattle.cow_pages.specs.Image.{first_fault}
use Rattle.cow_pages.specs.PreservedLaws.{failed_later}
use Rattle.cow_pages.specs.ReadingLaws.{reads_joined}
use Rattle.kv_store.specs.declared.page_store.PageStore.{PageStore}
use Rattle.kv_store.specs.Contents.{IsReadWith}
use Rattle.kv_store.specs.Opening.{IsNamedFor as IsNamedInPages, IsOpened as ArePagesOpened, CannotOpen as CannotOpenPages}
use Rattle.journal_store.specs.ImageLaws.{with_number}
use Rattle.journal_store.specs.Meaning.{HasJournaledContents, IsJournalReadAs}
use Rattle.journal_store.specs.declared.stores.JournalStore.{JournalStore}
use Rattle.journal_store.specs.Stores.{journal_state}
use Rattle.journal_store.specs.Opening.{IsNamedFor as IsNamedInJournal, IsOpened as IsJournalOpened, CannotOpen as CannotOpenJournal}
use Rattle.journal_store.specs.declared.device_stores.DeviceStore.{DeviceStore}
use Rattle.journal_store.specs.declared.device_stores.DeviceStore.TheVariants.{Pages, Journaled}
use Rattle.journal_store.specs.DeviceImages.{HasContents, IsReadAs}
use Rattle.journal_store.specs.DeviceOpening.{IsNamedFor, HoldsImage, IsOpened, CannotOpen, Opens, OpensJournaled, is_damaged}
use Rattle.journal_store.specs.DeviceStores.{state_under, store_state}

-- ---- pages without a journal

pub pages_opened : {D : Type 0} {g : Ghosts D} (d : DeviceState) (s : PageStore D g) → ArePagesOpened d s → IsOpened d (Pages s)
pages_opened d s opened = record {
  history = opened.history;
  has_not_failed = opened.has_not_failed;
  no_fulls = opened.no_fulls;
  no_failures = opened.no_failures;
  content = opened.content;
  holds = λ faithful.
      let holds = opened.holds faithful in
      let has = holds.contents in
      record {
        sound = holds.sound;
        contents = record {
          number = has.number;
          is = inl (record { format = has.format; array = has.array; means = has.means; kind = has.kind; spelled = has.spelled; represents = has.represents });
        };
        number_is = holds.number_is;
        no_fault = holds.no_fault;
      };
}

-- ---- pages with a journal

pub journal_opened : {D : Type 0} {g : Ghosts D} (d : DeviceState) (s : JournalStore D g) → IsJournalOpened d s → IsOpened d (Journaled s)
journal_opened d s opened = record {
  history = opened.history;
  has_not_failed = opened.has_not_failed;
  no_fulls = opened.no_fulls;
  no_failures = opened.no_failures;
  content = opened.content;
  holds = λ faithful.
      let holds = opened.holds faithful in
      record {
        sound = holds.sound;
        contents = record { number = (journal_state s).number; is = inr (record { has = holds.contents; number_is = holds.number_is }) };
        number_is = refl;
        no_fault = holds.no_fault;
      };
}

-- ---- refused

named_in_pages : (fault : OpenFault) (d : DeviceState) → is_damaged fault ≡ false → IsNamedInPages fault d → IsNamedFor fault d
named_in_pages WrongSize d not named = named
named_in_pages NotADatabase d not named = named
named_in_pages (NewerFormat format) d not named = named
named_in_pages Damaged d not named = absurd (false≢true (sym not))
named_in_pages Device d not named = tt
named_in_pages Memory d not named = named

-- a fault of pages that does not say that they are damaged
pub pages_refused : (d e : DeviceState) (fault : OpenFault) → is_damaged fault ≡ false → CannotOpenPages d fault e → CannotOpen d fault e
pages_refused d e fault not refused = record {
  history = refused.history;
  cause = refused.cause;
  content = refused.content;
  named = λ faithful. named_in_pages fault d not (refused.named faithful);
}

damaged_is : (fault : OpenFault) → is_damaged fault ≡ true → fault ≡ Damaged
damaged_is WrongSize is = absurd (false≢true is)
damaged_is NotADatabase is = absurd (false≢true is)
damaged_is (NewerFormat format) is = absurd (false≢true is)
damaged_is Damaged is = refl
damaged_is Device is = absurd (false≢true is)
damaged_is Memory is = absurd (false≢true is)

-- ---- they are damaged, or the root says that there is a journal

module _ (d m : DeviceState) (fault : OpenFault) (is : is_damaged fault ≡ true) (pages : CannotOpenPages d fault m) where
  -- what is said of the content is said of the content before
  moved : d.faithful → (P : ℕ → Image → Type 0) → P m.sectors m.content → P d.sectors d.content
  moved faithful P there =
      subst (λ (n : ℕ). P n d.content) pages.history.sectors (subst (λ (image : Image). P m.sectors image) (fun_ext (λ s. (pages.content faithful).content s)) there)

  module _ {D : Type 0} {g : Ghosts D} (s : DeviceStore D g) (opened : IsOpened m s) where
    holds_before : d.faithful → HoldsImage d (store_state s)
    holds_before faithful =
        let holds = opened.holds (pages.history.faithful faithful) in
        let there : (n : ℕ) → (image : Image) → Type 0 = λ n image. (contents : HasContents (n / 8) (record { record_format = (store_state s).record_format; records = (store_state s).map }) image) × (contents.number ≡ (store_state s).number) in
        let has = moved faithful there (holds.contents, holds.number_is) in
        record { sound = holds.sound; contents = has.0; number_is = has.1; no_fault = moved faithful (λ n image. first_fault n image ≡ None) holds.no_fault }

    pub opened_then : IsOpened d s
    opened_then = record {
      history = history_joined d m (state_under s) pages.history opened.history;
      has_not_failed = opened.has_not_failed;
      no_fulls = opened.no_fulls;
      no_failures = opened.no_failures;
      content = λ faithful. reads_joined d m (state_under s) pages.history (pages.content faithful) (opened.content (pages.history.faithful faithful));
      holds = holds_before;
    }

  -- the pages have no contents without a journal, and none with one
  no_contents : d.faithful → IsReadWith false (d.sectors / 8) d.content None → IsJournalReadAs (m.sectors / 8) m.content None → IsReadAs (d.sectors / 8) d.content None
  no_contents faithful plain journaled contents has = elim has.is [
    | inl under ↦ plain contents (with_number (d.sectors / 8) has.number contents d.content under)
    | inr under ↦ moved faithful (λ n image. HasJournaledContents (n / 8) contents image → ⊥) (journaled contents) under.has
  ]

  none_of_both : (fault : OpenFault) → is_damaged fault ≡ true → IsNamedInPages fault d → d.faithful → (first_fault m.sectors m.content ≡ None) × IsJournalReadAs (m.sectors / 8) m.content None → IsNamedFor Damaged d
  none_of_both Damaged same named faithful none = elim named [
    | inl first ↦ inl first
    | inr plain ↦ inr (moved faithful (λ n image. first_fault n image ≡ None) none.0, no_contents faithful plain.1 none.1)
  ]
  none_of_both WrongSize same named faithful none = absurd (false≢true same)
  none_of_both NotADatabase same named faithful none = absurd (false≢true same)
  none_of_both (NewerFormat format) same named faithful none = absurd (false≢true same)
  none_of_both Device same named faithful none = absurd (false≢true same)
  none_of_both Memory same named faithful none = absurd (false≢true same)

  named_before : (why : OpenFault) → d.faithful → IsNamedInJournal why m → IsNamedFor why d
  named_before WrongSize faithful named = moved faithful (λ n image. first_fault n image ≡ Some WrongSize) named
  named_before NotADatabase faithful named = moved faithful (λ n image. first_fault n image ≡ Some NotADatabase) named
  named_before (NewerFormat format) faithful named = moved faithful (λ n image. first_fault n image ≡ Some (NewerFormat format)) named
  named_before Damaged faithful named = elim named [
    | inl first ↦ inl (moved faithful (λ n image. first_fault n image ≡ Some Damaged) first)
    | inr none ↦ none_of_both fault is (pages.named faithful) faithful none
  ]
  named_before Device faithful named = tt
  named_before Memory faithful named = elim named [
    | inl none ↦ inl (moved faithful (λ n image. first_fault n image ≡ None) none)
    | inr first ↦ inr (moved faithful (λ n image. first_fault n image ≡ Some Damaged) first)
  ]

  pub refused_then : (e : DeviceState) (why : OpenFault) → CannotOpenJournal m why e → CannotOpen d why e
  refused_then e why refused = record {
    history = history_joined d m e pages.history refused.history;
    cause = λ failed. failed_later d m e pages.history refused.history (refused.cause failed);
    content = λ faithful. reads_joined d m e pages.history (pages.content faithful) (refused.content (pages.history.faithful faithful));
    named = λ faithful. named_before why faithful (refused.named (pages.history.faithful faithful));
  }

  -- by the answer of a journal's opening
  pub journal_then : {D : Type 0} {g : Ghosts D} (result : Result (DeviceStore D g) (D × OpenFault)) → OpensJournaled m result → Opens d result
  journal_then (Ok s) opened = opened_then s opened
  journal_then {D} {g} (Err e) refused = refused_then (g.state e.0) e.1 refused
