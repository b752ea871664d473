-- How many bytes the changes of a batch take in a record.
use Rattle.std.specs.Prelude.{ℕ, [], length}
use Rattle.store.specs.Records.{Changes}
use Rattle.journal.specs.Changes.{changes_then}

-- the length of their encoding, without the zeros that fill the last part
abbrev pub encoded_length : Changes → ℕ
encoded_length changes = length (changes_then changes [])
