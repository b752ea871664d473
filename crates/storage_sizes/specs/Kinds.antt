-- The kinds of records.
use Rattle.std.specs.Prelude.{ℕ}
use Rattle.storage_sizes.specs.declared.record_kind.RecordKind.{RecordKind}
use Rattle.storage_sizes.specs.declared.record_kind.RecordKind.TheVariants.{Role, Membership, Table, Descriptor, Policy, Row}

-- the byte with which the keys of a kind begin
abbrev pub kind_byte : RecordKind → ℕ
kind_byte Role = 1
kind_byte Membership = 2
kind_byte Table = 3
kind_byte Descriptor = 4
kind_byte Policy = 5
kind_byte Row = 6
