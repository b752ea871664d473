-- Who holds the writer lock, as a server knows it.
use Rattle.std.specs.Prelude.{ℕ, Bool, false, not, ◌==◌, if◌then◌else◌, Option, Some, None}
use Rattle.stored_database.specs.Definitions.{Definitions}
use Rattle.server.specs.declared.writer.Writer.{Writer}
use Rattle.server.specs.Writers.{definitions_or}

-- the session of this number holds the writer lock
abbrev pub is_lock_of : ℕ → Option Writer → Bool
is_lock_of number None = false
is_lock_of number (Some writer) = writer.session == number

-- another session holds it
abbrev pub is_lock_of_other : ℕ → Option Writer → Bool
is_lock_of_other number None = false
is_lock_of_other number (Some writer) = not (writer.session == number)

-- the definitions that a session sees: the holder its own, each other session the committed ones
abbrev pub definitions_seen : ℕ → Option Writer → Definitions → Definitions
definitions_seen number None d = d
definitions_seen number (Some writer) d = if writer.session == number then definitions_or writer.catalogue d else d
