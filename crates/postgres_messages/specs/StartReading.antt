-- How a packet of the start is read.
use Rattle.std.specs.Prelude.{◌-◌, ◌==◌, ℕ, zero, suc, if◌then◌else◌, List, [], ◌∷◌, length, map, Option, Some, None, Result, Ok, Err}
use Rattle.std.specs.Int.{w32}
use Rattle.postgres_messages.specs.declared.read_error.ReadError.{ReadError}
use Rattle.postgres_messages.specs.declared.read_error.ReadError.TheVariants as errors
use Rattle.postgres_messages.specs.declared.start.Parameter.{Parameter}
use Rattle.postgres_messages.specs.declared.start.StartPacket.{StartPacket}
use Rattle.postgres_messages.specs.declared.start.StartPacket.TheVariants as packets
use Rattle.postgres_messages.specs.Reading.{◌>>=◌, number_at, string_at, ended}
use Rattle.postgres_messages.specs.Start.{TheParameter, TheStart, cancel_request, gss_request, ssl_request, startup, other_version, is_three, SpellsStart}

-- a parameter of this name, and what follows it
unfoldable pub parameter_at : List ℕ → List ℕ → Option (TheParameter × List ℕ)
parameter_at name bytes = do
  value ← string_at bytes
  Some (record { name = name; value = value.0 }, value.1)

-- parameters up to an empty name, where there are fewer than this
unfoldable pub parameters_at : ℕ → List ℕ → Option (List TheParameter × List ℕ)
parameters_at zero bytes = None
parameters_at (suc n) bytes = do
  name ← string_at bytes
  if length name.0 == 0 then Some ([], name.1) else (parameter_at name.0 name.1 >>= λ p. parameters_at n p.1 >>= λ others. Some (p.0 ∷ others.0, others.1))

unfoldable pub startup_in : ℕ → List ℕ → Option TheStart
startup_in minor body = do
  parameters ← parameters_at (length body) body
  ended parameters.1 (startup minor parameters.0)

unfoldable pub cancel_in : List ℕ → Option TheStart
cancel_in body = do
  process ← number_at w32 body
  key ← number_at w32 process.1
  ended key.1 (cancel_request process.0 key.0)

unfoldable pub start_in : ℕ → List ℕ → Option TheStart
start_in code body =
    if code == 80877102 then cancel_in body
    else (if code == 80877103 then ended body ssl_request
    else (if code == 80877104 then ended body gss_request
    else (if is_three code then startup_in (code - 196608) body
    else Some (other_version code body))))

unfoldable pub start_at : List ℕ → Option TheStart
start_at bytes = do
  n ← number_at w32 bytes
  code ← number_at w32 n.1
  if n.0 == length bytes then start_in code.0 code.1 else None

abbrev pub viewed_parameter : Parameter → TheParameter
viewed_parameter p = record { name = p.name.now; value = p.value.now }

abbrev pub viewed_start : StartPacket → TheStart
viewed_start (packets.CancelRequest process key) = cancel_request process key
viewed_start packets.GssEncRequest = gss_request
viewed_start packets.SslRequest = ssl_request
viewed_start (packets.Startup minor parameters) = startup minor (map viewed_parameter parameters.items)
viewed_start (packets.OtherVersion code body) = other_version code body.now

-- The packet that the bytes spell; Malformed if they spell none. Its texts are bytes.
abbrev pub IsReadStart : List ℕ → Result StartPacket ReadError → Type 0
IsReadStart bytes (Ok p) = SpellsStart bytes (viewed_start p)
IsReadStart bytes (Err e) = fault e where
  fault : ReadError → Type 0
  fault errors.Memory = Unit {0}
  fault errors.Malformed = (p : TheStart) → SpellsStart bytes p → ⊥
  fault errors.NotText = ⊥
