-- The sectors behind the root sectors, cleared.
use Rattle.std.proofs.Common.{◌≡◌, ◌<◌, ◌≤◌, ◌+◌, ◌-◌, inl, inr, ⊎_elim, ℕ, List, [], replicate, refl, sym, subst, ◌∙◌, arith}
use Rattle.std.proofs.lemmas.Bool.{cases_lt}
use Rattle.std.proofs.lemmas.List.{get_or-replicate, length-replicate}
use Rattle.sector_device.specs.Timeline.{weakened}
use Rattle.sector_device.specs.Device.{DeviceState, Image, IsSynced, IsBehindRoots, timeline}
use Rattle.sector_device.specs.Sectors.{IsSectorOf, MayHoldSectors, WritesSectors, HoldsSectors}
use Rattle.journal.specs.Chain.{Region, Blank, Chains}
use Rattle.journal.specs.Journal.{IsJournal, IsSound, NumbersUpTo}
use Rattle.journal.specs.Sectors.{zeros, sector_at}
use Rattle.journal.proofs.SectorsRead.{blank_where}
use Rattle.journal.specs.Journals.{region_in, HoldsJournal}
use Rattle.journal.proofs.Appending.{inside_is, outside_is}
use Rattle.journal_store.specs.Clearing.{MayBeCleared, ClearsSome, IsCleared}
use Rattle.journal_store.specs.Formatting.{HasNoParts}
use Rattle.journal_store.specs.Meaning.{journal_start, journal_room}

-- one of six sectors of zeros
zero_sector : (s : ℕ) (c : List ℕ) → IsSectorOf 2 (replicate 6 zeros) s c → IsBehindRoots s × (c ≡ zeros)
zero_sector s c is =
    let within : is.index < 6 = omega (arith, is.within, length-replicate 6 zeros) in
    ((omega (arith, is.place), omega (arith, is.place, within)), is.is ∙ get_or-replicate 6 is.index zeros [] within)

module _ (d e : DeviceState) where
  cleared_or : (image : Image) → MayHoldSectors 2 (replicate 6 zeros) d image → MayBeCleared d image
  cleared_or image may s inside = elim (may s inside) [
    | inl was ↦ inl was
    | inr is ↦ inr (zero_sector s (image s) is)
  ]

  pub clears_some : WritesSectors 2 (replicate 6 zeros) d e → ClearsSome d e
  clears_some writes = record {
    content = λ s. ⊎_elim (λ same. inl same) (λ is. inr (zero_sector s (e.content s) is)) (writes.content s);
    left = λ s c left. ⊎_elim (λ was. inl was) (λ is. inr (zero_sector s c is)) (writes.left s c left);
    any_moment = weakened (MayHoldSectors 2 (replicate 6 zeros) d) (MayBeCleared d) (timeline d) (timeline e) cleared_or writes.any_moment;
  }

  pub all_cleared : HoldsSectors 2 (replicate 6 zeros) e.content → IsSynced e → IsCleared e
  all_cleared holds synced = record {
    cleared = λ s behind.
        let index : ℕ = s - 2 in
        let lt : index < 6 = omega (arith, behind.0, behind.1) in
        let place : 2 + index ≡ s = omega (arith, behind.0) in
        subst (λ (t : ℕ). e.content t ≡ zeros) place (holds index (omega (arith, lt, length-replicate 6 zeros)) ∙ get_or-replicate 6 index zeros [] lt);
    synced = synced;
  }

-- sectors that say nothing are a journal without records, of whatever root
no_record : (region : Region) → ((q : ℕ) → region q ≡ Blank) → (root : ℕ) → Chains region root 0 0 journal_room []
no_record region blank root e whole = let none = blank 0 in let some = whole.holds 0 (omega (arith, whole.some)) in absurd (cc)

pub blank_journal : (region : Region) → ((q : ℕ) → region q ≡ Blank) → (root : ℕ) → IsJournal region root journal_room []
blank_journal region blank root = record {
  chain = no_record region blank root;
  sound = λ q. subst (λ s. IsSound root journal_room 0 q s) (sym (blank q)) tt;
}

pub no_numbers : (region : Region) → ((q : ℕ) → region q ≡ Blank) → NumbersUpTo 0 region
no_numbers region blank q part is = let none = blank q in absurd (cc)

pub no_parts_blank : (image : Image) → HasNoParts image → (q : ℕ) → region_in journal_start journal_room image q ≡ Blank
no_parts_blank image none q = elim (cases_lt q journal_room) [
  | inr past ↦ outside_is journal_start journal_room image q past
  | inl lt ↦
      inside_is journal_start journal_room image q lt
      ∙ (blank_where journal_room (image (journal_start + q)) (sector_at journal_room (image (journal_start + q))) refl).1 (none (journal_start + q) (omega arith, omega (arith, lt)))
]

-- a device whose sectors are cleared holds a journal without records
pub cleared_holds : (root : ℕ) (d : DeviceState) → 8 ≤ d.sectors → IsCleared d → HoldsJournal journal_start journal_room root 0 [] d
cleared_holds root d room is = record {
  inside = omega (arith, room);
  fixed = λ q lt. is.synced (journal_start + q) (omega (arith, lt, room));
  journal = blank_journal (region_in journal_start journal_room d.content) (no_parts_blank d.content is.cleared) root;
  few = no_numbers (region_in journal_start journal_room d.content) (no_parts_blank d.content is.cleared);
}
