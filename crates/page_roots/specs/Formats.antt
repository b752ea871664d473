-- The table of formats: the number that stands in a root, and what it says.
use Rattle.std.specs.Prelude.{ℕ, Bool, true, false, ◌==◌, if◌then◌else◌}
use Rattle.storage_sizes.specs.declared.record_format.RecordFormat.{RecordFormat}
use Rattle.storage_sizes.specs.declared.record_format.RecordFormat.TheVariants.{V1, V2}
use Rattle.page_roots.specs.declared.format.Format.{Format}
use Rattle.page_roots.specs.declared.format.Format.TheVariants.{One, Two, Three}

-- the number in the root
abbrev pub number_of : Format → ℕ
number_of One = 1
number_of Two = 2
number_of Three = 3

-- how the records are spelled
abbrev pub record_format_of : Format → RecordFormat
record_format_of One = V1
record_format_of Two = V2
record_format_of Three = V2

-- whether the six sectors behind the root sectors are a journal
abbrev pub has_journal : Format → Bool
has_journal One = false
has_journal Two = false
has_journal Three = true

-- the format of its number. Of a number that is no format's it is the last one, whose number is another, so that no root is spelled so.
abbrev pub format_in : ℕ → Format
format_in number = if number == 1 then One else (if number == 2 then Two else Three)

-- the format of this record format, with no journal
abbrev pub format_of : RecordFormat → Format
format_of V1 = One
format_of V2 = Two

-- the format that differs from this one in the record format alone, which is 2
abbrev pub migrated : Format → Format
migrated One = Two
migrated Two = Two
migrated Three = Three
