-- The journal of a store that was opened without one is turned on.
use Rattle.std.proofs.Common.{◌≡◌, ◌<◌, ◌+◌, ◌-◌, ◌^◌, ◌/◌, inl, inr, ⊎_elim, ℕ, Bool, false, Ok, Err, sym, subst, ◌∙◌}
use Rattle.storage_sizes.specs.declared.record_format.RecordFormat.TheVariants.{V1}
use Rattle.sector_device.specs.Timeline.{LeavesOnly}
use Rattle.sector_device.specs.Device.{DeviceState, KeepsSize, timeline}
use Rattle.sector_device.specs.declared.device.Device.{Ghosts}
use Rattle.cow_pages.specs.declared.cow.CowPages.{CowPages}
use Rattle.cow_pages.specs.Cow.{device_below, root_of}
use Rattle.store.specs.Store.{Contents}
use Rattle.store.specs.declared.fault.StoreFault.{StoreFault}
use Rattle.store.specs.declared.fault.StoreFault.TheVariants.{Full, Memory, Device, Number}
use Rattle.kv_store.specs.declared.tree_store.TreeStore.{TreeStore}
use Rattle.kv_store.specs.Contents.{HoldsContents, contents_of, is_journaled}
use Rattle.kv_store.specs.Numbered.{HasContentsUnder}
use Rattle.kv_store.specs.Opening.{IsOpenedWith}
use Rattle.kv_store.specs.TreeStore.{pages_of, store_state}
use Rattle.journal_store.specs.Images.{HasContents, IsJournaledUnder}
use Rattle.journal_store.proofs.Formatted.{failed_later}
use Rattle.journal_store.specs.DeviceStoreLaws.{sectors_are}
use Rattle.journal_store.specs.declared.switch_fault.SwitchFault.TheVariants.{Refused}
use Rattle.journal_store.specs.Beginning.{HasNotBegun, HadNoMapRoom, Begins}
use Rattle.journal_store.specs.Faults.{KeepsContents}
use Rattle.journal_store.specs.TurningOn.{IsOn, IsStillOff, IsNotMigrated, CannotTurnOn}
use Rattle.journal_store.proofs.Beginning.{has_plain}
use Rattle.journal_store.proofs.Kept.{kept, read_leaves, pages_are, had_under}

module _ {D : Type 0} {g : Ghosts D} (content_left : (device : D) (s : ℕ) → (g.state device).faithful → s < (g.state device).sectors → (g.state device).left s ((g.state device).content s))
    (d : DeviceState) (s : TreeStore D g) (opened : IsOpenedWith false d (device_below (pages_of s)) (store_state s)) (kind : is_journaled (pages_of s) ≡ false) (faithful : d.faithful) where
  abbrev p : CowPages D g
  p = pages_of s

  abbrev c : Contents
  c = contents_of p

  abbrev m : DeviceState
  m = device_below p

  held : HoldsContents c p
  held = (opened.holds faithful).sound.works opened.has_not_failed

  -- what it had
  pub had_plain : HasContentsUnder false (d.sectors / 8) (root_of p).number c d.content
  had_plain = subst (λ (journal : Bool). HasContentsUnder journal (d.sectors / 8) (root_of p).number c d.content) kind
      (had_under d p opened.history.sectors c held (opened.content faithful) (λ q inside. content_left p.device q (opened.history.faithful faithful) inside))

  pub not_migrated : c.record_format ≡ V1 → IsNotMigrated d m
  not_migrated first = record { content = opened.content faithful; number = (root_of p).number; contents = c; had = had_plain; first = first }

  module _ (e : DeviceState) (size : KeepsSize m e) where
    keeps : LeavesOnly (HasContents (root_of p).pages c) (timeline m) (timeline e) → KeepsContents c d e
    keeps leaves = kept c d m e opened.history.sectors (has_plain (d.sectors / 8) (root_of p).number c d.content had_plain) (opened.content faithful)
        (read_leaves c m e size.sectors (subst (λ (n : ℕ). LeavesOnly (HasContents n c) (timeline m) (timeline e)) (sectors_are p) leaves))

    -- there is a journal now
    pub turned_on : (number : ℕ) → number ≡ (root_of p).number + 1 → Begins g c (Ok tt) (root_of p) m e → IsOn number d e
    turned_on number is begins = record {
      contents = c;
      keeps = keeps begins.leaves;
      left = λ image left. subst (λ (n : ℕ). IsJournaledUnder n number c image) (pages_are d p opened.history.sectors)
          (subst (λ (n : ℕ). IsJournaledUnder (root_of p).pages n c image) (sym is) (begins.outcome image left).0);
      how = inr (record { before = (root_of p).number; had = had_plain; by_one = is; none = λ image left. (begins.outcome image left).1 });
    }

    still_off : (Cause : Contents → ℕ → Type 0) → LeavesOnly (HasContents (root_of p).pages c) (timeline m) (timeline e) → HasNotBegun c (root_of p) e → Cause c (root_of p).number → IsStillOff Cause d e
    still_off Cause leaves not cause = record {
      contents = c;
      number = (root_of p).number;
      had = had_plain;
      keeps = keeps leaves;
      left = λ image left. subst (λ (n : ℕ). HasContentsUnder false n (root_of p).number c image) (pages_are d p opened.history.sectors) (not image left);
      cause = cause;
    }

    no_room : (q : CowPages D g) → HadNoMapRoom c (root_of p).number m q → HadNoMapRoom c (root_of p).number d q
    no_room q had = record {
      holds = had.holds;
      number_is = had.number_is;
      none = had.none;
      content = λ t. ⊎_elim (λ same. inl (same ∙ (opened.content faithful).content t)) (λ behind. inr behind) (had.content t);
    }

    -- or it is refused
    pub not_turned_on : (fault : StoreFault) → Begins g c (Err fault) (root_of p) m e → CannotTurnOn g (Refused fault) d e
    not_turned_on Full begins =
        still_off (λ contents number. (pages : CowPages D g) × HadNoMapRoom contents number d pages) begins.leaves begins.outcome.1 (begins.outcome.0.0, no_room begins.outcome.0.0 begins.outcome.0.1)
    not_turned_on Memory begins = absurd begins.outcome
    not_turned_on Device begins = record { contents = c; keeps = keeps begins.leaves; cause = failed_later d m e opened.history.failures size.failures begins.outcome }
    not_turned_on Number begins = still_off (λ contents number. number ≡ 2 ^ 64 - 1) begins.leaves begins.outcome.1 begins.outcome.0
