-- A walk over the records of a span of keys.
use Rattle.std.specs.Prelude.{◌≡◌, ◌-◌, ◌^◌, ℕ, Bool, true, false, ◌||◌, List, ◌∷◌, [], length, min, Result, Err, IfOk, IfErr}
use Rattle.std.specs.Ordering.{is_lt}
use Rattle.store.specs.declared.fault.StoreFault.{StoreFault}
use Rattle.store.specs.declared.fault.StoreFault.TheVariants.{Device}
use Rattle.store.specs.Records.{Record, Records, key_cmp, entries_where, is_from, has_prefix}
use Rattle.store.specs.Store.{StoreState, OnlyReads, HasReadCause, failed_after}

-- where a walk goes on, where it stops, and the entry that it found last
pub record Walk : Type 0 where
  pub next : List ℕ
  pub stop : List ℕ
  pub entry : Record

-- a walk that has found nothing yet
abbrev pub walk_between : List ℕ → List ℕ → Walk
walk_between start stop = record { next = start; stop = stop; entry = ([], []) }

-- the key begins with this stop, or comes before it
abbrev pub is_within : List ℕ → List ℕ → Bool
is_within stop key = has_prefix stop key || is_lt (key_cmp key stop)

-- the records from a key on to the last that is within the stop
abbrev pub span : List ℕ → List ℕ → Records → Records
span start stop records = entries_where (is_within stop) (entries_where (is_from start) records)

-- how many records these are, up to a bound
abbrev pub count_to : ℕ → Records → ℕ
count_to most records = min (length records) most

-- how many records these are, up to 2 ^ 64 - 1
abbrev pub count_of : Records → ℕ
count_of records = count_to (2 ^ 64 - 1) records

-- what a walk has yet to find
abbrev pub left : Walk → Records → Records
left walk records = span walk.next walk.stop records

-- a step of a walk: it finds the first record that is left, or none is left
abbrev pub Moves : Bool → Walk → Walk → Records → Type 0
Moves true old new records = (left old records ≡ new.entry ∷ left new records) × (new.stop ≡ old.stop)
Moves false old new records = left old records ≡ []

-- a step of a walk over a map, whatever it answers
pub record Advances (result : Result Bool StoreFault) (walk next : Walk) (old new : StoreState) : Type 0 where
  pub only_reads : OnlyReads old new
  pub moved : old.sound → IfOk result (λ found. Moves found walk next old.map)
  pub cause : IfErr result (λ fault. HasReadCause fault old new)
  pub failed : new.has_failed ≡ failed_after result old.has_failed
  -- once the map has answered Device, it answers nothing else
  pub closed : old.closes → old.has_failed ≡ true → result ≡ Err Device
