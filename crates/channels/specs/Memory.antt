-- Connections in memory.
use Rattle.std.specs.Prelude.{ℕ, ◌==◌, Option, Some, None, if◌then◌else◌}
use Rattle.std.specs.Global.{Vec}
use Rattle.channels.specs.Channels.{NamedBytes}
use Rattle.channels.specs.declared.memory.Gone.{Gone}
use Rattle.channels.specs.declared.memory.Gone.TheVariants as gone

-- what the client of a number sends
abbrev pub bytes_of : Option (Vec ℕ) → NamedBytes
bytes_of None = None
bytes_of (Some bytes) = Some bytes.items

-- what had gone out to a client that was let go
abbrev pub went_out : Gone → ℕ → NamedBytes
went_out gone.Nobody c = None
went_out (gone.Client' client bytes p others) c = if client == c then Some bytes.items else went_out others c
