-- A root sector is emptied: the root beside it stays the root.
use Rattle.std.proofs.Common.{◌≡◌, ◌≢◌, ◌<◌, ◌+◌, ◌*◌, ◌⊎◌, inl, inr, ⊎_elim, ℕ, List, false, refl, sym, ap, subst, ◌∙◌, arith}
use Rattle.std.proofs.lemmas.Bool.{cases_eq}
use Rattle.sector_device.specs.Timeline.{LeavesOnly, IsPresent, weakened}
use Rattle.sector_device.proofs.Runs.{started, goes_on}
use Rattle.sector_device.specs.Device.{DeviceState, Image, IsLeft, IsSynced, KeepsHistory, OnlyReads, Writes, timeline}
use Rattle.sector_device.specs.declared.device.Device.{Ghosts}
use Rattle.page_roots.specs.Chosen.{IsOlder}
use Rattle.page_roots.specs.Root.{RootFields, home}
use Rattle.page_roots.specs.Sector.{root_at}
use Rattle.page_roots.specs.declared.sector.RootSector.{RootSector}
use Rattle.page_roots.specs.declared.sector.RootSector.TheVariants.{Empty, Found}
use Rattle.cow_pages.specs.declared.cow.CowPages.{CowPages}
use Rattle.cow_pages.specs.Cow.{device_below, root_of, durable_array}
use Rattle.cow_pages.specs.Held.{IsSettled}
use Rattle.cow_pages.specs.Image.{array_of, Means}
use Rattle.cow_pages.proofs.Loading.{reach_inside}
use Rattle.cow_pages.proofs.Meaning.{homes, durable_means}
use Rattle.store.specs.Store.{Contents}
use Rattle.kv_store.specs.Contents.{HoldsContents, is_journaled}
use Rattle.kv_store.specs.Numbered.{HasContentsUnder}
use Rattle.journal_store.specs.Emptying.{SaysNoJournal, HasNoJournalRoot, MayBeEmptied, EmptiesSector, IsRid}

-- ---- by calls

module _ (sector : ℕ) where
  pub nothing_emptied : (d : DeviceState) → IsPresent (timeline d) → EmptiesSector sector d d
  nothing_emptied d present = record {
    content = λ s. inl refl;
    left = λ s c left. inl left;
    any_moment = started (MayBeEmptied sector d) (timeline d) present (λ image left s inside. inl (left s inside));
  }

  module _ (old mid new : DeviceState) (sectors : new.sectors ≡ old.sectors) (so_far : EmptiesSector sector old mid) where
    -- a sector that is as it was
    content_stays : (s : ℕ) → new.content s ≡ mid.content s → (new.content s ≡ old.content s) ⊎ ((s ≡ sector) × (root_at sector (new.content s) ≡ Empty))
    content_stays s same = elim (so_far.content s) [
      | inl was ↦ inl (same ∙ was)
      | inr is ↦ inr (is.0, ap (λ (b : List ℕ). root_at sector b) same ∙ is.1)
    ]

    may_leave : ((s : ℕ) (c : List ℕ) → new.left s c → old.left s c ⊎ ((s ≡ sector) × (root_at sector c ≡ Empty))) → (image : Image) → IsLeft new image → MayBeEmptied sector old image
    may_leave emptied image left s inside = emptied s (image s) (left s (omega (arith, inside, sectors)))

    pub then_read : OnlyReads mid new → EmptiesSector sector old new
    then_read reads =
        let emptied : (s : ℕ) (c : List ℕ) → new.left s c → old.left s c ⊎ ((s ≡ sector) × (root_at sector c ≡ Empty)) = λ s c left. so_far.left s c (reads.left s c left) in
        record {
          content = λ s. content_stays s (reads.content s);
          left = emptied;
          any_moment = goes_on (MayBeEmptied sector old) (timeline old) (timeline mid) (timeline new) so_far.any_moment reads.time (may_leave emptied);
        }

    module _ (bytes : List ℕ) (empty : root_at sector bytes ≡ Empty) (writes : Writes sector bytes mid new) where
      content_there : (s : ℕ) → s ≡ sector → (new.content s ≡ old.content s) ⊎ ((s ≡ sector) × (root_at sector (new.content s) ≡ Empty))
      content_there s is = elim writes.content [
        | inl written ↦ inr (is, ap (λ (t : ℕ). root_at sector (new.content t)) is ∙ (ap (λ (b : List ℕ). root_at sector b) written ∙ empty))
        | inr same ↦ content_stays s (subst (λ (t : ℕ). new.content t ≡ mid.content t) (sym is) same)
      ]

      left_there : (s : ℕ) (c : List ℕ) → s ≡ sector → new.left s c → old.left s c ⊎ ((s ≡ sector) × (root_at sector c ≡ Empty))
      left_there s c is left = elim (writes.left c (subst (λ (t : ℕ). new.left t c) is left)) [
        | inl was ↦ so_far.left s c (subst (λ (t : ℕ). mid.left t c) (sym is) was)
        | inr same ↦ inr (is, ap (λ (b : List ℕ). root_at sector b) same ∙ empty)
      ]

      emptied_then : (s : ℕ) (c : List ℕ) → new.left s c → old.left s c ⊎ ((s ≡ sector) × (root_at sector c ≡ Empty))
      emptied_then s c left = elim (cases_eq s sector) [
        | inl is ↦ left_there s c is left
        | inr other ↦ so_far.left s c (writes.others_left s c other left)
      ]

      pub then_written : EmptiesSector sector old new
      then_written = record {
        content = λ s. elim (cases_eq s sector) [
          | inl is ↦ content_there s is
          | inr other ↦ content_stays s (writes.others s other)
        ];
        left = emptied_then;
        any_moment = goes_on (MayBeEmptied sector old) (timeline old) (timeline mid) (timeline new) so_far.any_moment writes.time (may_leave emptied_then);
      }

-- it was read
pub emptied_by_read : (sector : ℕ) (d m : DeviceState) → IsPresent (timeline d) → KeepsHistory d m → OnlyReads d m → EmptiesSector sector d m
emptied_by_read sector d m present history reads = then_read sector d d m history.sectors (nothing_emptied sector d present) reads

pub emptied_by_reads : (sector : ℕ) (d m e : DeviceState) → IsPresent (timeline d) → KeepsHistory d m → KeepsHistory m e → OnlyReads d m → OnlyReads m e → EmptiesSector sector d e
emptied_by_reads sector d m e present first second reads again = then_read sector d m e (second.sectors ∙ first.sectors) (emptied_by_read sector d m present first reads) again

-- and then written
pub emptied_by_write : (sector : ℕ) (bytes : List ℕ) → root_at sector bytes ≡ Empty → (d m e : DeviceState) → IsPresent (timeline d) → KeepsHistory d m → KeepsHistory m e → OnlyReads d m → Writes sector bytes m e → EmptiesSector sector d e
emptied_by_write sector bytes empty d m e present first second reads writes = then_written sector d m e (second.sectors ∙ first.sectors) (emptied_by_read sector d m present first reads) bytes empty writes

-- a sector that says so already is left as it is
pub rid_already : (sector : ℕ) (d m e : DeviceState) → IsPresent (timeline d) → KeepsHistory d m → KeepsHistory m e → OnlyReads d m → OnlyReads m e → IsSynced e → SaysNoJournal (root_at sector (d.content sector)) → IsRid sector d e
rid_already sector d m e present first second reads again synced says = record {
  synced = synced;
  says = subst (λ (b : List ℕ). SaysNoJournal (root_at sector b)) (sym (again.content sector ∙ reads.content sector)) says;
  unwritten = λ is. record {
    content = λ s. again.content s ∙ reads.content s;
    left = λ s c left. reads.left s c (again.left s c left);
    leaves = goes_on (IsLeft d) (timeline d) (timeline m) (timeline e)
        (goes_on (IsLeft d) (timeline d) (timeline d) (timeline m) (started (IsLeft d) (timeline d) present (λ image left. left)) reads.time
        (λ image left s inside. reads.left s (image s) (left s (omega (arith, inside, first.sectors)))))
        again.time
        (λ image left s inside. reads.left s (image s) (again.left s (image s) (left s (omega (arith, inside, first.sectors, second.sectors)))));
  };
}

-- a sector that is empty says nothing
pub rid_now : (sector : ℕ) (bytes : List ℕ) → root_at sector bytes ≡ Empty → (d m e : DeviceState) → m.content sector ≡ bytes → OnlyReads m e → IsSynced e → (SaysNoJournal (root_at sector (d.content sector)) → ⊥) → IsRid sector d e
rid_now sector bytes empty d m e written again synced said = record {
  synced = synced;
  says = subst SaysNoJournal (sym (ap (λ (b : List ℕ). root_at sector b) (again.content sector ∙ written) ∙ empty)) tt;
  unwritten = λ is. absurd (said is);
}

-- ---- of pages

module _ (d : DeviceState) (root : RootFields) (entries : List ℕ) (settled : IsSettled d root entries) where
  abbrev older : ℕ
  older = home (root.number + 1)

  older_where : (c : List ℕ) → d.left older c ⊎ (root_at older c ≡ Empty) → IsOlder (root_at older c) root.number
  older_where c may = elim may [
    | inl was ↦ settled.other c was
    | inr empty ↦ subst (λ (r : RootSector). IsOlder r root.number) (sym empty) tt
  ]

  -- what a stop leaves while the other root sector is emptied
  pub emptied_means : (image : Image) → MayBeEmptied older d image → Means root.pages root.format root.number (array_of d.content entries) image
  emptied_means image may =
      let apart = (homes root.number).2 in
      let other : (s : ℕ) → s < d.sectors → s ≢ older → d.left s (image s) = λ s inside not. ⊎_elim (λ was. was) (λ is. absurd (not is.0)) (may s inside) in
      let inside_home : home root.number < d.sectors = omega (arith, (homes root.number).0, settled.durable.sectors, settled.durable.room) in
      let inside_older : older < d.sectors = omega (arith, (homes root.number).1, settled.durable.sectors, settled.durable.room) in
      durable_means d image root entries settled.durable (other (home root.number) inside_home apart)
      (λ page reach k lt.
      let inside = reach_inside root.pages root.maps entries settled.durable.held.sound page reach in
      other (8 * page + k) (omega (arith, inside.1, lt, settled.durable.sectors)) (λ is. omega (arith, is, inside.0, (homes root.number).1)))
      (older_where (image older) (⊎_elim (λ was. inl was) (λ is. inr is.1) (may older inside_older)))

module _ {D : Type 0} {g : Ghosts D} (p : CowPages D g) (c : Contents) (holds : HoldsContents c p) (e : DeviceState) (empties : EmptiesSector (home ((root_of p).number + 1)) (device_below p) e) where
  -- the contents stay
  pub leaves_emptied : LeavesOnly (HasContentsUnder (is_journaled p) (root_of p).pages (root_of p).number c) (timeline (device_below p)) (timeline e)
  leaves_emptied = weakened (MayBeEmptied (home ((root_of p).number + 1)) (device_below p)) _ (timeline (device_below p)) (timeline e)
      (λ image may. record {
        format = (root_of p).format;
        array = durable_array p;
        means = emptied_means (device_below p) (root_of p) p.map.durable.items holds.is_open.settled image may;
        kind = refl;
        spelled = holds.spelled;
        represents = holds.durable;
      }) empties.any_moment

  -- and then no root sector says that there is a journal
  module _ (sectors : e.sectors ≡ (device_below p).sectors) (kind : is_journaled p ≡ false) (rid : IsRid (home ((root_of p).number + 1)) (device_below p) e) where
    root_there : (image : Image) → IsLeft e image → SaysNoJournal (root_at (home (root_of p).number) (image (home (root_of p).number)))
    root_there image left =
        let s : ℕ = home (root_of p).number in
        let durable = holds.is_open.settled.durable in
        let inside : s < e.sectors = omega (arith, (homes (root_of p).number).0, durable.sectors, durable.room, sectors) in
        let same : e.content s ≡ (device_below p).content s = ⊎_elim (λ was. was) (λ is. absurd ((homes (root_of p).number).2 is.0)) (empties.content s) in
        let is : root_at s (image s) ≡ Found (root_of p) = ap (λ (b : List ℕ). root_at s b) (rid.synced s inside (image s) (left s inside) ∙ same) ∙ durable.here in
        subst SaysNoJournal (sym is) kind

    older_there : (image : Image) → IsLeft e image → SaysNoJournal (root_at (home ((root_of p).number + 1)) (image (home ((root_of p).number + 1))))
    older_there image left =
        let s : ℕ = home ((root_of p).number + 1) in
        let durable = holds.is_open.settled.durable in
        let inside : s < e.sectors = omega (arith, (homes (root_of p).number).1, durable.sectors, durable.room, sectors) in
        subst (λ (b : List ℕ). SaysNoJournal (root_at s b)) (sym (rid.synced s inside (image s) (left s inside))) rid.says

    pub none_says : (image : Image) → IsLeft e image → HasNoJournalRoot image
    none_says image left s lt = elim (cases_eq s (home ((root_of p).number + 1))) [
      | inl is ↦ subst (λ (t : ℕ). SaysNoJournal (root_at t (image t))) (sym is) (older_there image left)
      | inr other ↦
          let is : home (root_of p).number ≡ s = omega (arith, lt, other, (homes (root_of p).number).0, (homes (root_of p).number).1, (homes (root_of p).number).2) in
          subst (λ (t : ℕ). SaysNoJournal (root_at t (image t))) is (root_there image left)
    ]
