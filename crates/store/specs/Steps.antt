-- A walk by places: what is ahead of a place, and what a step takes of it.
use Rattle.std.specs.Prelude.{◌≡◌, ℕ, Bool, true, false, List, [], ◌∷◌, Result, Err, IfOk, IfErr}
use Rattle.store.specs.declared.fault.StoreFault.{StoreFault}
use Rattle.store.specs.declared.fault.StoreFault.TheVariants.{Device}
use Rattle.store.specs.Records.{Record, Records, IsOrdered, entries_where}
use Rattle.store.specs.Store.{StoreState, OnlyReads, HasReadCause, failed_after}
use Rattle.store.specs.Walks.{is_within}

-- a step over these records: it finds the first of them and goes behind it, or none is left
abbrev pub Takes : (Record → Type 0) → (Records → Type 0) → Bool → Records → Type 0
Takes found ahead true records = (e : Record) × (later : Records) × (records ≡ e ∷ later) × found e × ahead later
Takes found ahead false records = records ≡ []

-- these records are ahead of a place, up to a stop
abbrev pub AheadWithin : List ℕ → (Records → Type 0) → Records → Type 0
AheadWithin stop ahead left = (records : Records) × (left ≡ entries_where (is_within stop) records) × IsOrdered records × ahead records

-- a read, whatever it answers; of a sound map the answer is such a one
pub record Goes {T : Type 0} (answers : T → Type 0) (result : Result T StoreFault) (old new : StoreState) : Type 0 where
  pub only_reads : OnlyReads old new
  pub answer : old.sound → IfOk result answers
  pub cause : IfErr result (λ fault. HasReadCause fault old new)
  pub failed : new.has_failed ≡ failed_after result old.has_failed
  -- once the map has answered Device, it answers nothing else
  pub closed : old.closes → old.has_failed ≡ true → result ≡ Err Device
