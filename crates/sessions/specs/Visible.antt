-- What a session sees of the records.
use Rattle.std.specs.Prelude.{ℕ, ◌==◌, if◌then◌else◌, List, Option, Some, None}
use Rattle.store.specs.Records.{Records, Changes}
use Rattle.transactions.specs.Views.{applied_all}
use Rattle.server.specs.declared.writer.Writer.{Writer}

-- the changes under which it sees them, if it holds the writer lock
abbrev pub lists_seen : ℕ → Option Writer → Option (List Changes)
lists_seen number None = None
lists_seen number (Some writer) = if writer.session == number then Some writer.lists else None

-- the records that a session sees: the holder those under its changes, each other session the committed ones
abbrev pub records_seen : ℕ → Option Writer → Records → Records
records_seen number None records = records
records_seen number (Some writer) records = if writer.session == number then applied_all writer.lists records else records
