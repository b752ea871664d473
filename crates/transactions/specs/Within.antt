-- What lists of changes say of the keys within a stop, and what a walk keeps of them.
use Rattle.std.specs.Prelude.{ℕ, Bool, true, false, if◌then◌else◌, List, map, Option, Some, None}
use Rattle.store.specs.Records.{Records, Changes, entries_where}
use Rattle.store.specs.Walks.{is_within}
use Rattle.transactions.specs.Merging.{AreMerged}
use Rattle.transactions.specs.declared.merge.Below.{Below}
use Rattle.transactions.specs.declared.merge.Below.TheVariants.{Unread, Read, Ended}
use Rattle.transactions.specs.declared.merge.Merge.{Merge}
use Rattle.transactions.specs.declared.merge.MergedPlace.{MergedPlace}

-- of each list the changes of keys within a stop
abbrev pub lists_within : List ℕ → List Changes → List Changes
lists_within stop lists = map (entries_where (is_within stop)) lists

-- a change whose key is within a stop
abbrev pub change_within : List ℕ → Option (List ℕ × Option (List ℕ)) → Option (List ℕ × Option (List ℕ))
change_within stop None = None
change_within stop (Some change) = if is_within stop change.0 then Some change else None

-- what the map has ahead up to a stop, where the record that was read is within it or not
abbrev pub cut_below : Below → Bool → Below
cut_below Unread within = Unread
cut_below Read true = Read
cut_below Read false = Ended
cut_below Ended within = Ended

-- a walk of which nothing behind a stop is left
abbrev pub cut_at : List ℕ → Merge → Merge
cut_at stop merge = record merge { ahead = cut_below merge.ahead (is_within stop merge.read.0); least = change_within stop merge.least }

-- these records of a map under lists are ahead of a place, up to a stop
abbrev pub AreMergedTo : {P : Type 0} → (P → Records → Type 0) → List ℕ → List Changes → Records → MergedPlace P → Records → Type 0
AreMergedTo below stop lists es place records = AreMerged below (lists_within stop lists) (entries_where (is_within stop) es) (record place { merge = cut_at stop place.merge }) records
