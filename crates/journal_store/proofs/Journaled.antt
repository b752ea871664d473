-- What is said of a store with a journal is said of the store on its device.
use Rattle.std.proofs.Common.{◌≡◌, ℕ, Bool, Option, Result, sym, subst}
use Rattle.sector_device.specs.Timeline.{read_by}
use Rattle.sector_device.specs.Device.{timeline}
use Rattle.sector_device.specs.declared.device.Device.{Ghosts}
use Rattle.store.specs.Records.{Record, Records, Changes}
use Rattle.store.specs.Steps.{Goes}
use Rattle.store.specs.Store.{Contents, StoreState, Reads, Commits, stored}
use Rattle.store.specs.declared.fault.StoreFault.{StoreFault}
use Rattle.kv_store.specs.declared.reserve.Reserve.{Reserve}
use Rattle.kv_store.specs.TreeStore.{pages_of as tree_pages}
use Rattle.journal_store.specs.declared.stores.JournalStore.{JournalStore}
use Rattle.journal_store.specs.Stores.{device_under, journal_state}
use Rattle.journal_store.specs.Reads.{KeepsJournal}
use Rattle.journal_store.specs.declared.device_stores.DeviceStore.{DeviceStore}
use Rattle.journal_store.specs.declared.device_stores.DeviceStore.TheVariants.{Journaled}
use Rattle.journal_store.specs.Commits.{CommitsInJournal}
use Rattle.journal_store.specs.DeviceCommits.{CommitsOn}
use Rattle.journal_store.specs.DeviceImages.{IsReadAs}
use Rattle.journal_store.specs.DeviceReads.{OnlyLooksInto}
use Rattle.journal_store.specs.DeviceStores.{store_state}
use Rattle.journal_store.specs.DeviceStoreLaws.{sectors_are}

module _ {D : Type 0} {g : Ghosts D} where
  -- read as images of so many pages
  abbrev read_in : ℕ → JournalStore D g → StoreState
  read_in pages s = record (journal_state s) { time = read_by (IsReadAs pages) (timeline (device_under s)) }

  as_states : (P : StoreState → StoreState → Type 0) (s t : JournalStore D g) → P (journal_state s) (journal_state t) → P (store_state (Journaled s)) (store_state (Journaled t))
  as_states P s t given =
      subst (λ (n : ℕ). P (read_in n s) (store_state (Journaled t))) (sectors_are (tree_pages s.store))
      (subst (λ (n : ℕ). P (journal_state s) (read_in n t)) (sectors_are (tree_pages t.store)) given)

  -- of the store on a device, where it is this one
  module _ (x : DeviceStore D g) (s t : JournalStore D g) (is : x ≡ Journaled s) where
    pub looks_in_journal : KeepsJournal s t → OnlyLooksInto x (Journaled t)
    looks_in_journal keeps = subst (λ (y : DeviceStore D g). OnlyLooksInto y (Journaled t)) (sym is) keeps

    pub reads_in_journal : (entry : Records → Option Record) (result : Result Bool StoreFault) (out : Record) → Reads (entry (journal_state s).map) result out (journal_state s) (journal_state t)
        → Reads (entry (store_state x).map) result out (store_state x) (store_state (Journaled t))
    reads_in_journal entry result out reads =
        subst (λ (y : DeviceStore D g). Reads (entry (store_state y).map) result out (store_state y) (store_state (Journaled t))) (sym is)
        (as_states (λ old new. Reads (entry (journal_state s).map) result out old new) s t reads)

    pub goes_in_journal : {T : Type 0} (answers : DeviceStore D g → T → Type 0) (result : Result T StoreFault) → Goes (answers (Journaled s)) result (journal_state s) (journal_state t)
        → Goes (answers x) result (store_state x) (store_state (Journaled t))
    goes_in_journal answers result goes =
        subst (λ (y : DeviceStore D g). Goes (answers y) result (store_state y) (store_state (Journaled t))) (sym is)
        (as_states (λ old new. Goes (answers (Journaled s)) result old new) s t goes)

    pub commits_in_journal : (changed : Contents → Contents) (result : Result (Unit {0}) StoreFault) → Commits result (changed (stored (journal_state s))) (journal_state s) (journal_state t)
        → Commits result (changed (stored (store_state x))) (store_state x) (store_state (Journaled t))
    commits_in_journal changed result commits =
        subst (λ (y : DeviceStore D g). Commits result (changed (stored (store_state y))) (store_state y) (store_state (Journaled t))) (sym is)
        (as_states (λ old new. Commits result (changed (stored (journal_state s))) old new) s t commits)

    pub kind_in_journal : (reserve : Reserve) (changes : Changes) (changed : Contents → Contents) (result : Result (Unit {0}) StoreFault) → CommitsInJournal changes result s t → CommitsOn reserve changes changed result x (Journaled t)
    kind_in_journal reserve changes changed result commits = subst (λ (y : DeviceStore D g). CommitsOn reserve changes changed result y (Journaled t)) (sym is) commits
