-- What changes are added to others.
use Rattle.std.specs.Prelude.{◌≡◌}
use Rattle.std.specs.List.{AllByRecursion}
use Rattle.store.specs.Records.{Records, Changes, IsOrdered, applied}
use Rattle.stored_database.specs.Entries.{IsRecordSize}
use Rattle.entry_differences.specs.Differences.{applied_in_turn}

-- the changes `new` make what `old` make, and then these
abbrev pub Adds : Changes → Changes → Changes → Type 0
Adds these old new = (records : Records) → IsOrdered records → applied new records ≡ applied_in_turn these (applied old records)

-- each has a size that a store takes
abbrev pub HaveRecordSizes : Records → Type 0
HaveRecordSizes es = AllByRecursion IsRecordSize es
