-- How messages are read, from the front of bytes on.
use Rattle.std.specs.Prelude.{◌==◌, ◌&&◌, ℕ, zero, suc, nat_lt, nat_le, if◌then◌else◌, List, [], ◌∷◌, length, take, drop, Option, Some, None}
use Rattle.std.specs.Int.{Width, w16, w32, byte_len, from_be_bytes}
use Rattle.postgres_messages.specs.declared.kind.MessageKind.{MessageKind}
use Rattle.postgres_messages.specs.declared.kind.MessageKind.TheVariants as kind
use Rattle.postgres_messages.specs.Kind.{kind_of}
use Rattle.postgres_messages.specs.Frontend.{TheTarget, statement, portal, TheBinding, TheMessage, bind, close, copy_data, copy_done, copy_fail, describe, execute, flush, function_call, parse, password, query, sync, terminate}

infixl 10 ◌>>=◌
abbrev pub ◌>>=◌ : {A B : Type 0} → Option A → (A → Option B) → Option B
(Some x) >>= f = f x
None >>= f = None

-- A part is what stands at the front, and what follows it.
abbrev pub number_at : Width → List ℕ → Option (ℕ × List ℕ)
number_at w bytes = if nat_lt (length bytes) (byte_len w) then None else Some (from_be_bytes w (take (byte_len w) bytes), drop (byte_len w) bytes)

unfoldable pub string_at : List ℕ → Option (List ℕ × List ℕ)
string_at [] = None
string_at (zero ∷ rest) = Some ([], rest)
string_at (suc b ∷ rest) = do
  more ← string_at rest
  Some (suc b ∷ more.0, more.1)

-- so many bytes, where the length is positive
unfoldable pub bytes_at : ℕ → List ℕ → Option (Option (List ℕ) × List ℕ)
bytes_at n rest = if nat_lt n 0x80000000 && nat_le n (length rest) then Some (Some (take n rest), drop n rest) else None

unfoldable pub value_at : List ℕ → Option (Option (List ℕ) × List ℕ)
value_at bytes = do
  n ← number_at w32 bytes
  if n.0 == 0xFFFFFFFF then Some (None, n.1) else bytes_at n.0 n.1

-- so many parts of one kind
unfoldable pub parts_at : {A : Type 0} → (List ℕ → Option (A × List ℕ)) → ℕ → List ℕ → Option (List A × List ℕ)
parts_at part zero bytes = Some ([], bytes)
parts_at part (suc n) bytes = do
  first ← part bytes
  others ← parts_at part n first.1
  Some (first.0 ∷ others.0, others.1)

-- parts behind their number
unfoldable pub counted_at : {A : Type 0} → (List ℕ → Option (A × List ℕ)) → List ℕ → Option (List A × List ℕ)
counted_at part bytes = do
  n ← number_at w16 bytes
  parts_at part n.0 n.1

-- nothing follows
abbrev pub ended : {A : Type 0} → List ℕ → A → Option A
ended rest x = if length rest == 0 then Some x else None

abbrev pub named_target : ℕ → List ℕ → Option TheTarget
named_target byte name = if byte == 83 then Some (statement name) else (if byte == 80 then Some (portal name) else None)

unfoldable pub target_at : List ℕ → Option TheTarget
target_at [] = None
target_at (byte ∷ rest) = do
  name ← string_at rest
  if length name.1 == 0 then named_target byte name.0 else None

unfoldable pub binding_at : List ℕ → Option TheBinding
binding_at bytes = do
  formats ← counted_at (number_at w16) bytes
  values ← counted_at value_at formats.1
  results ← counted_at (number_at w16) values.1
  ended results.1 (record { formats = formats.0; values = values.0; results = results.0 })

unfoldable pub bind_in : List ℕ → Option TheMessage
bind_in body = do
  name ← string_at body
  prepared ← string_at name.1
  b ← binding_at prepared.1
  Some (bind name.0 prepared.0 b)

unfoldable pub execute_in : List ℕ → Option TheMessage
execute_in body = do
  name ← string_at body
  rows ← number_at w32 name.1
  ended rows.1 (execute name.0 rows.0)

unfoldable pub parse_in : List ℕ → Option TheMessage
parse_in body = do
  name ← string_at body
  text ← string_at name.1
  types ← counted_at (number_at w32) text.1
  ended types.1 (parse name.0 text.0 types.0)

unfoldable pub query_in : List ℕ → Option TheMessage
query_in body = do
  text ← string_at body
  ended text.1 (query text.0)

unfoldable pub close_in : List ℕ → Option TheMessage
close_in body = do
  t ← target_at body
  Some (close t)

unfoldable pub describe_in : List ℕ → Option TheMessage
describe_in body = do
  t ← target_at body
  Some (describe t)

-- a message by its kind
unfoldable pub message_in : MessageKind → List ℕ → Option TheMessage
message_in kind.Bind body = bind_in body
message_in kind.Close body = close_in body
message_in kind.CopyData body = Some (copy_data body)
message_in kind.CopyDone body = Some (copy_done body)
message_in kind.CopyFail body = Some (copy_fail body)
message_in kind.Describe body = describe_in body
message_in kind.Execute body = execute_in body
message_in kind.Flush body = ended body flush
message_in kind.FunctionCall body = Some (function_call body)
message_in kind.Parse body = parse_in body
message_in kind.Password body = Some (password body)
message_in kind.Query body = query_in body
message_in kind.Sync body = ended body sync
message_in kind.Terminate body = ended body terminate

-- a message and nothing behind it
unfoldable pub message_at : List ℕ → Option TheMessage
message_at [] = None
message_at (byte ∷ rest) = do
  k ← kind_of byte
  n ← number_at w32 rest
  if n.0 == length rest then message_in k n.1 else None
