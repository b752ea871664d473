-- What a commit of lists of changes does.
use Rattle.std.specs.Prelude.{◌≡◌, ◌⊎◌, ℕ, List, Result, Err}
use Rattle.store.specs.Contents.{changed_by_batch}
use Rattle.store.specs.Records.{Changes, lookup}
use Rattle.store.specs.Store.{StoreState, Commits, stored}
use Rattle.store.specs.declared.fault.StoreFault.{StoreFault}
use Rattle.store.specs.declared.fault.StoreFault.TheVariants.{Memory}
use Rattle.transactions.specs.Views.{latest}

-- memory was refused before the store was called, or changes are committed that say of each key what the lists say of it
abbrev pub CommitsJoined : {S : Type 0} → (S → StoreState) → List Changes → Result (Unit {0}) StoreFault → S → S → Type 0
CommitsJoined state lists result old new =
    ((result ≡ Err Memory) × (new ≡ old))
    ⊎ ((cs : Changes) × ((key : List ℕ) → lookup key cs ≡ latest key lists) × Commits result (changed_by_batch cs (stored (state old))) (state old) (state new))
