-- What stands at the front of the bytes of a connection.
use Rattle.std.specs.Prelude.{◌+◌, ◌&&◌, ℕ, nat_lt, nat_le, if◌then◌else◌, List, [], ◌∷◌, length, Option, Some, None}
use Rattle.std.specs.Int.{w32, from_be_bytes}
use Rattle.postgres_messages.specs.declared.front.StreamFront.{StreamFront}
use Rattle.postgres_messages.specs.declared.front.StreamFront.TheVariants.{Nothing, Whole, Bad}
use Rattle.postgres_messages.specs.declared.kind.MessageKind.{MessageKind}
use Rattle.postgres_messages.specs.Kind.{kind_of}

-- Behind a length n, where so many bytes stand from the length on, and so many before it: a length out of range is bad at once.
abbrev pub front_of_length : ℕ → ℕ → ℕ → ℕ → ℕ → StreamFront
front_of_length first least most n there =
    if nat_le least n && nat_le n most
    then (if nat_lt there n then Nothing else Whole (first + n))
    else Bad

-- A length counts itself and what follows it.
unfoldable pub front_behind : ℕ → ℕ → ℕ → List ℕ → StreamFront
front_behind first least most bytes =
    if nat_lt (length bytes) 4 then Nothing
    else front_of_length first least most (from_be_bytes w32 bytes) (length bytes)

-- Behind a byte that tells a kind there is a length; another byte is bad.
abbrev pub front_of_kind : Option MessageKind → ℕ → List ℕ → StreamFront
front_of_kind None limit rest = Bad
front_of_kind (Some k) limit rest = front_behind 1 4 limit rest

-- a message of a connection that has begun
abbrev pub message_front : ℕ → List ℕ → StreamFront
message_front limit [] = Nothing
message_front limit (byte ∷ rest) = front_of_kind (kind_of byte) limit rest

-- a packet of the start: it has no kind, and 8 to 10,000 bytes
abbrev pub start_front : List ℕ → StreamFront
start_front bytes = front_behind 0 8 10000 bytes
