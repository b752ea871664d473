-- What is known of pages that were opened and whose tree was checked.
use Rattle.std.proofs.Common.{◌≡◌, ◌≢◌, ◌/◌, ◌⊎◌, ℕ, Bool, true, false, None, inl, inr, sym, ap, ◌∙◌, refl, subst, arith}
use Rattle.std.proofs.lemmas.Bool.{false≢true}
use Rattle.sector_device.specs.Device.{DeviceState, KeepsHistory, HasFailed, history_joined}
use Rattle.sector_device.specs.declared.device.Device.{Ghosts}
use Rattle.page_roots.specs.Formats.{record_format_of, has_journal}
use Rattle.page_roots.specs.declared.format.Format.{Format}
use Rattle.page_roots.specs.Root.{RootFields}
use Rattle.pages.specs.declared.array.PageFault.{PageFault}
use Rattle.pages.specs.declared.array.PageFault.TheVariants as page
use Rattle.cow_pages.specs.declared.cow.CowPages.{CowPages}
use Rattle.cow_pages.specs.declared.page_map.PageMap.{PageMap}
use Rattle.cow_pages.specs.declared.open.OpenFault.{OpenFault}
use Rattle.cow_pages.specs.declared.open.OpenFault.TheVariants.{WrongSize, NotADatabase, NewerFormat, Damaged, Device, Memory}
use Rattle.cow_pages.specs.Image.{Means}
use Rattle.cow_pages.specs.Held.{KeepsContent}
use Rattle.cow_pages.specs.Cow.{device_below, root_of, has_failed, durable_array, working_array, IsOpen, StaysDurable}
use Rattle.cow_pages.specs.Calls.{OnlyReadsPages, IsOpened as ArePagesOpened}
use Rattle.cow_pages.specs.Preserved.{IsPreserved, FailedWith}
use Rattle.cow_pages.specs.PreservedLaws.{failed_later}
use Rattle.cow_pages.specs.ReadingLaws.{reads_joined}
use Rattle.cow_pages.proofs.Meaning.{one_meaning}
use Rattle.page_tree.specs.Forest.{Represents}
use Rattle.page_tree.specs.Calls.{IsCaused}
use Rattle.page_tree.specs.Check.{IsChecked}
use Rattle.page_tree.proofs.Represented.{map_of_same}
use Rattle.store.specs.Store.{Contents, stored}
use Rattle.kv_store.specs.declared.tree_store.TreeStore.{TreeStore}
use Rattle.kv_store.specs.Contents.{HasContentsWith, IsReadWith, HoldsContents, is_journaled}
use Rattle.kv_store.specs.TreeStore.{pages_of, store_state}
use Rattle.kv_store.specs.Refusals.{RefusesOpen}
use Rattle.kv_store.proofs.Reading.{pages_failed}
use Rattle.kv_store.specs.Opening.{IsOpenedWith, CannotOpenWith}

-- pages whose root says otherwise than asked are handed back
pub kind_refused : {D : Type 0} {g : Ghosts D} (journal : Bool) (d : DeviceState) (p : CowPages D g) → ArePagesOpened d p → is_journaled p ≢ journal → CannotOpenWith journal d Damaged (device_below p)
kind_refused {D} {g} journal d p opened other = record {
  history = opened.history;
  cause = λ bad. absurd (let same : Damaged ≡ Device = bad in cc);
  content = λ faithful. (opened.holds faithful).content;
  named = λ faithful. inr (
    (opened.holds faithful).no_fault,
    λ contents has.
        let same = one_meaning (d.sectors / 8) (root_of p).pages has.format (root_of p).format has.number (root_of p).number has.array (durable_array p) d.content has.means (opened.holds faithful).means in
        other (ap (λ (f : Format). has_journal f) (sym same.0) ∙ has.kind),
  );
}

module _ {D : Type 0} {g : Ghosts D} (d : DeviceState) (p q : CowPages D g) (opened : ArePagesOpened d p) (preserved : IsPreserved p q) (reads : OnlyReadsPages p q) where
  pub history_is : KeepsHistory d (device_below q)
  history_is = history_joined d (device_below p) (device_below q) opened.history preserved.preserved.history

  pub content_is : d.faithful → KeepsContent d (device_below q)
  content_is faithful = reads_joined d (device_below p) (device_below q) opened.history (opened.holds faithful).content (reads.content (opened.history.faithful faithful))

  pages_are : d.sectors / 8 ≡ (root_of p).pages
  pages_are = omega (arith, p.sized, opened.history.sectors)

  pub contents_in : (journal : Bool) → is_journaled p ≡ journal → (contents : Contents) → d.faithful → record_format_of (root_of p).format ≡ contents.record_format → Represents contents.records (working_array p) → (has : HasContentsWith journal (d.sectors / 8) contents d.content) × (has.number ≡ (root_of p).number)
  contents_in journal kind contents faithful spelled represents = (
    record {
      format = (root_of p).format;
      number = (root_of p).number;
      array = durable_array p;
      means = subst (λ (n : ℕ). Means n (root_of p).format (root_of p).number (durable_array p) d.content) (sym pages_are) (opened.holds faithful).means;
      kind = kind;
      spelled = spelled;
      represents = map_of_same (working_array p) (durable_array p) contents.records opened.same_arrays represents;
    },
    refl,
  )

  pub none_in : (journal : Bool) → d.faithful → IsChecked (working_array p) false → IsReadWith journal (d.sectors / 8) d.content None
  none_in journal faithful none contents has =
      let same = one_meaning (d.sectors / 8) (root_of p).pages has.format (root_of p).format has.number (root_of p).number has.array (durable_array p) d.content has.means (opened.holds faithful).means in
      none contents.records (map_of_same has.array (working_array p) contents.records (λ l. same.2 l ∙ sym (opened.same_arrays l)) has.represents)

  holds_after : (contents : Contents) → d.faithful → IsOpen q → StaysDurable p q → record_format_of (root_of p).format ≡ contents.record_format → Represents contents.records (working_array p) → HoldsContents contents q
  holds_after contents faithful is_open stays spelled represents = record {
    is_open = is_open;
    spelled = ap (λ (r : RootFields). record_format_of r.format) preserved.preserved.root ∙ spelled;
    durable = map_of_same (working_array p) (durable_array q) contents.records (λ l. opened.same_arrays l ∙ sym (stays.same l)) represents;
    same = λ l. reads.array (opened.history.faithful faithful) l ∙ (opened.same_arrays l ∙ sym (stays.same l));
  }

  pub store_opened : (journal : Bool) → is_journaled p ≡ journal → (s : TreeStore D g) → pages_of s ≡ q → (store_state s).has_failed ≡ false → ((store_state s).fulls ≡ 0) × ((store_state s).failures ≡ 0)
      → ((contents : Contents) → HoldsContents contents q → (store_state s).sound × (stored (store_state s) ≡ contents))
      → ((faithful : d.faithful) → IsOpen q × StaysDurable p q × IsChecked (working_array p) true) → IsOpenedWith journal d (device_below (pages_of s)) (store_state s)
  store_opened journal kind s pages works counts sound checked = record {
    history = subst (λ (x : CowPages D g). KeepsHistory d (device_below x)) (sym pages) history_is;
    has_not_failed = works;
    no_fulls = counts.0;
    no_failures = counts.1;
    content = λ faithful. subst (λ (x : CowPages D g). KeepsContent d (device_below x)) (sym pages) (content_is faithful);
    holds = λ faithful.
        let is = checked faithful in
        let contents : Contents = record { record_format = record_format_of (root_of p).format; records = is.2.0 } in
        let held = sound contents (holds_after contents faithful is.0 is.1 refl is.2.1) in
        let here = contents_in journal kind (stored (store_state s)) faithful (ap (λ (c : Contents). c.record_format) (sym held.1))
        (subst (λ (c : Contents). Represents c.records (working_array p)) (sym held.1) is.2.1) in
        record {
          sound = held.0;
          contents = here.0;
          number_is = here.1 ∙ (ap (λ (m : PageMap). m.root.number) (sym reads.map) ∙ ap (λ (x : CowPages D g). (root_of x).number) (sym pages));
          no_fault = (opened.holds faithful).no_fault;
        };
  }

  pub store_damaged : (journal : Bool) → ((faithful : d.faithful) → IsChecked (working_array p) false) → CannotOpenWith journal d Damaged (device_below q)
  store_damaged journal none = record {
    history = history_is;
    cause = λ bad. absurd (let other : Damaged ≡ Device = bad in cc);
    content = content_is;
    named = λ faithful. inr ((opened.holds faithful).no_fault, none_in journal faithful (none faithful));
  }

  failed_since : has_failed q ≡ true → HasFailed d (device_below q)
  failed_since failed = elim (preserved.cause failed) [
    | inl was ↦ absurd (false≢true (sym opened.has_not_failed ∙ was))
    | inr now ↦ failed_later d (device_below p) (device_below q) opened.history preserved.preserved.history now
  ]

  pub store_refused : (journal : Bool) (fault : PageFault) (failed : Bool) (refused : OpenFault) → failed ≡ has_failed q → (d.faithful → IsCaused (λ f. FailedWith p q f) fault) → (fault ≡ page.Full → ⊥) → RefusesOpen fault failed refused → CannotOpenWith journal d refused (device_below q)
  store_refused journal fault failed WrongSize is why full refuses = absurd refuses
  store_refused journal fault failed NotADatabase is why full refuses = absurd refuses
  store_refused journal fault failed (NewerFormat format) is why full refuses = absurd refuses
  store_refused journal fault failed Damaged is why full refuses = record {
    history = history_is;
    cause = λ bad. absurd (let other : Damaged ≡ Device = bad in cc);
    content = content_is;
    named = λ faithful. absurd (false≢true (sym refuses.0 ∙ (is ∙ pages_failed p q fault full ((why faithful).well_formed, (why faithful).cause) (λ memory. absurd (refuses.1 memory)))));
  }
  store_refused journal fault failed Device is why full refuses = record {
    history = history_is;
    cause = λ same. failed_since (sym is ∙ refuses);
    content = content_is;
    named = λ faithful. tt;
  }
  store_refused journal fault failed Memory is why full refuses = record {
    history = history_is;
    cause = λ bad. absurd (let other : Memory ≡ Device = bad in cc);
    content = content_is;
    named = λ faithful. inl (opened.holds faithful).no_fault;
  }

pub not_full : (fault : PageFault) → (fault ≡ page.Memory) ⊎ (fault ≡ page.Device) → fault ≡ page.Full → ⊥
not_full fault which full = elim which [
  | inl memory ↦ let bad : page.Memory ≡ page.Full = sym memory ∙ full in cc
  | inr device ↦ let bad : page.Device ≡ page.Full = sym device ∙ full in cc
]

-- a page has eight sectors
pub sectors_are : {D : Type 0} {g : Ghosts D} (p : CowPages D g) → (root_of p).pages ≡ (device_below p).sectors / 8
sectors_are {D} {g} p = omega (arith, p.sized)
