use Rattle.std.proofs.Common.{◌≡◌, ◌++◌, drop, map}
use Rattle.std.specs.List.{AllByRecursion}
use Rattle.recovery.specs.MigrationChanges.{HasRoom, with_its_place}
use Rattle.recovery.proofs.places.placed_entries.Given as goal

-- the records to come are left to be given a place, where they have room
abbrev pub invariant-loop-entry : goal.invariant-loop-entry
invariant-loop-entry l = record {
  written : l.placed.items ++ map with_its_place (drop l.entry-index l.entries) ≡ map with_its_place l.entries;
  room : AllByRecursion HasRoom (drop l.entry-index l.entries) → AllByRecursion HasRoom l.entries;
  sound : AllByRecursion HasRoom l.entries → AllByRecursion HasRoom (drop l.entry-index l.entries);
}
