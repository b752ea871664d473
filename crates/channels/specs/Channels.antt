-- What the calls of a connection do, none of which waits.
use Rattle.std.specs.Prelude.{◌≡◌, ◌≢◌, ◌≤◌, ◌++◌, ℕ, List, take, drop, Option}
use Rattle.std.specs.Io.KnownBytes.{Appends, Consumes, Keeps}
use Rattle.channels.specs.declared.channel.Received.{Received}
use Rattle.channels.specs.declared.channel.Received.TheVariants as received
use Rattle.channels.specs.declared.channel.Sent.{Sent}
use Rattle.channels.specs.declared.channel.Sent.TheVariants as sent

-- the bytes that a connection still gives or has taken, where its contract names them
abbrev pub NamedBytes : Type 0
NamedBytes = Option (List ℕ)

-- what came was the front of what was still to come
abbrev pub IsReceived : NamedBytes → NamedBytes → Received → List ℕ → Type 0
IsReceived old new (received.Bytes count) buffer = Consumes old new (take count buffer)
IsReceived old new received.Nothing buffer = Keeps old new
IsReceived old new received.End buffer = Keeps old new
IsReceived old new received.Failed buffer = Keeps old new

abbrev pub ReceivesAtMost : Received → ℕ → Type 0
ReceivesAtMost (received.Bytes count) size = (1 ≤ count) × (count ≤ size)
ReceivesAtMost _ size = Unit {0}

-- what was taken was the front of what there was to send
abbrev pub IsSent : NamedBytes → NamedBytes → Sent → List ℕ → Type 0
IsSent old new (sent.Bytes count) bytes = Appends old new (take count bytes)
IsSent old new sent.Nothing bytes = Keeps old new
IsSent old new sent.Failed bytes = Keeps old new

abbrev pub SendsAtMost : Sent → ℕ → Type 0
SendsAtMost (sent.Bytes count) size = (1 ≤ count) × (count ≤ size)
SendsAtMost _ size = Unit {0}

-- the bytes of each client are the same
abbrev pub KeepsAll : (ℕ → NamedBytes) → (ℕ → NamedBytes) → Type 0
KeepsAll old new = (c : ℕ) → new c ≡ old c

-- and of each but one
abbrev pub KeepsOthers : ℕ → (ℕ → NamedBytes) → (ℕ → NamedBytes) → Type 0
KeepsOthers client old new = (c : ℕ) → c ≢ client → new c ≡ old c

-- all that was said and has not gone out: what is left of the bytes that are going, and those said since
abbrev pub left : List ℕ → ℕ → List ℕ → List ℕ
left going sent said = drop sent going ++ said
