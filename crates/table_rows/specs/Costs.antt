-- What a statement over one table costs at most, by the calls that it makes on its map: a look-up, a seek and a step cost one each, and a count one and one more for each record that it counts.
use Rattle.std.specs.Prelude.{◌+◌, ◌*◌, ℕ, List, if◌then◌else◌, length, Option, Some, None}
use Rattle.std.specs.Borrow.{Bor}
use Rattle.store.specs.Records.{Records}
use Rattle.key_ranges.specs.declared.range.KeyRange.{KeyRange}
use Rattle.key_ranges.specs.declared.range.KeyRange.TheVariants.{Point, Span, Several}
use Rattle.table_rows.specs.declared.target.Assignments.{Assignments}
use Rattle.table_rows.specs.declared.target.Target.{Target}
use Rattle.table_rows.specs.Ranged.{records_of}
use Rattle.table_rows.specs.Setting.{sets_key}

-- a walk over these records in so many spans of keys: one for each record, and of each span one for its beginning and one for its end
abbrev pub walk_cost : ℕ → Records → ℕ
walk_cost spans found = length found + 2 * spans

-- these are the records in a range: one key is looked up, and else they are walked over
abbrev pub range_cost : KeyRange → Records → ℕ
range_cost (Point key) found = 1
range_cost (Span start stop) found = walk_cost 1 found
range_cost (Several several) found = walk_cost (length several.spans) found

-- these are the records of a table, or of a range of its keys
abbrev pub found_cost : Option (Bor KeyRange) → Records → ℕ
found_cost None found = walk_cost 1 found
found_cost (Some range) found = range_cost range.now found

-- all records that a target finds: those that it does not find cost nothing
abbrev pub cost_of : Target → Records → ℕ
cost_of target records = found_cost target.range (records_of target records)

-- the rows of an UPDATE: where it sets a column of the key, it looks up one key more for each record that it finds
abbrev pub update_cost : Target → Assignments → Records → ℕ
update_cost target assignments records = if sets_key target.columns.now.key assignments.columns.now then cost_of target records + length (records_of target records) else cost_of target records
