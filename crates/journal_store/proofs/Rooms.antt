-- Why a commit of a store with a journal finds no room, and what its number is.
use Rattle.std.proofs.Common.{◌≡◌, ◌⊎◌, ◌<◌, ◌+◌, inl, inr, ℕ, false, List, [], ◌∷◌, Result, Ok, Err, length, max, refl, ◌∙◌, arith}
use Rattle.std.specs.Prelude.{OnOk}
use Rattle.sector_device.specs.Device.{KeepsHistory, history_none, history_joined}
use Rattle.sector_device.specs.declared.device.Device.{Ghosts}
use Rattle.journal.specs.Chain.{Region, Entry, Chains, end_of}
use Rattle.journal.proofs.Chaining.{end_later}
use Rattle.journal.specs.Journals.{region_in}
use Rattle.store.specs.Records.{Records, Changes}
use Rattle.store.specs.Store.{stored}
use Rattle.store.specs.declared.fault.StoreFault.{StoreFault}
use Rattle.transactions.specs.Views.{applied_all}
use Rattle.kv_store.specs.ContentLaws.{same_parts}
use Rattle.journal_store.specs.declared.stores.JournalStore.{JournalStore}
use Rattle.journal_store.specs.Commits.{NothingWaits, ContainsTheSame, HadNoRoomBehind}
use Rattle.journal_store.specs.Meaning.{SpellBatches, journal_start, journal_room}
use Rattle.journal_store.specs.Stores.{device_under, root_number, IsSoundJournal, journal_state}
use Rattle.journal_store.proofs.InTurn.{KeepsStored}

-- records that end where they begin are none, and have no batches
no_batches : (region : Region) (root last room : ℕ) (es : List Entry) (batches : List Changes) → Chains region root last 0 room es → end_of 0 es ≡ 0 → SpellBatches es batches
    → (records : Records) → applied_all batches records ≡ records
no_batches region root last room [] [] chain end spelled records = refl
no_batches region root last room [] (b ∷ bs) chain end spelled records = absurd spelled
no_batches region root last room (e ∷ es) batches chain end spelled records = absurd (omega (arith, chain.0.some, end_later (0 + length e.parts) es, end))

module _ {D : Type 0} {g : Ghosts D} where
  -- where the records take no sector, nothing waits
  pub nothing_waits : (s : JournalStore D g) → IsSoundJournal s → s.store.has_failed ≡ false → s.end ≡ 0 → NothingWaits s
  nothing_waits s sound works none records in_order =
      let is = sound.works works in
      is.waits records in_order
      ∙ no_batches (region_in journal_start journal_room (device_under s).content) (root_number s) 0 journal_room is.es is.batches is.holds.journal.chain (is.end_is ∙ none) is.spelled records

  -- a store contains what it contains
  pub contains_itself : (s : JournalStore D g) → IsSoundJournal s → ContainsTheSame s s
  contains_itself s sound = record { sound = sound; same = refl; number = refl; history = history_none (device_under s) }

  -- calls that keep what is stored
  pub contains_later : (s t : JournalStore D g) → IsSoundJournal s → s.store.has_failed ≡ false → KeepsStored (journal_state s) (journal_state t) → KeepsHistory (device_under s) (device_under t) → ContainsTheSame s t
  contains_later s t sound works keeps history =
      let same = keeps.unchanged sound works in
      record {
        sound = keeps.history.sound sound;
        same = same_parts (stored (journal_state t)) (stored (journal_state s)) same.record_format same.map;
        number = keeps.number;
        history = history;
      }

  -- what is so of a later state is so of the old one
  pub room_since : (batch : Changes) (s t : JournalStore D g) → ContainsTheSame s t → t.waiting ≡ s.waiting → HadNoRoomBehind batch t → HadNoRoomBehind batch s
  room_since batch s t since waits had = record {
    later = had.later;
    since = record {
      sound = had.since.sound;
      same = had.since.same ∙ since.same;
      number = had.since.number ∙ since.number;
      history = history_joined (device_under s) (device_under t) (device_under had.later) since.history had.since.history;
    };
    none = elim had.none [
      | inl behind ↦ inl behind
      | inr alone ↦ inr (alone.0 ∙ waits, alone.1)
    ];
  }

-- two roots more are a newer root
pub two_roots : (result : Result (Unit {0}) StoreFault) (old mid new : ℕ) (P : Type 0) → mid ≡ old → OnOk result (new ≡ mid + 2) → OnOk result P → OnOk result ((old < new) × P)
two_roots (Ok x) old mid new P same two is = (omega (arith, same, two), is)
two_roots (Err fault) old mid new P same two is = tt

-- a newer root
pub by_root : (result : Result (Unit {0}) StoreFault) (P Q : Type 0) → OnOk result Q → OnOk result (P ⊎ Q)
by_root (Ok x) P Q is = inr is
by_root (Err fault) P Q is = tt

-- a record of the next number
pub by_record : (result : Result (Unit {0}) StoreFault) (Q : Type 0) (old_root old_top number root top : ℕ) → number ≡ max old_root old_top → OnOk result ((root ≡ old_root) × (top ≡ number + 1))
    → OnOk result (((root ≡ old_root) × (max root top ≡ max old_root old_top + 1)) ⊎ Q)
by_record (Ok x) Q old_root old_top number root top is record_of = inl (record_of.0, omega (arith, is, record_of.0, record_of.1))
by_record (Err fault) Q old_root old_top number root top is record_of = tt
