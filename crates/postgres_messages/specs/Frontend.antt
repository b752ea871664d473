-- The messages of a client, and the bytes of each (PostgreSQL 15 manual, 55.7).
use Rattle.std.specs.Prelude.{◌≡◌, ◌<◌, ◌+◌, ◌^◌, ◌&&◌, ℕ, Bool, true, List, [], ◌∷◌, ◌++◌, length, Option}
use Rattle.std.specs.Str.{is_utf8}
use Rattle.postgres_messages.specs.declared.kind.MessageKind.{MessageKind}
use Rattle.postgres_messages.specs.declared.kind.MessageKind.TheVariants as kind
use Rattle.postgres_messages.specs.Kind.{byte_of}
use Rattle.postgres_messages.specs.Fields.{int16, int32, string, HasNoZeroByte, value, HasShortValue, counted, AreCounted, packet}

-- what Describe and Close are about
pub data TheTarget : Type 0 where
  statement : List ℕ → TheTarget
  portal : List ℕ → TheTarget

-- formats, values and result formats of Bind
pub record TheBinding : Type 0 where
  pub formats : List ℕ
  pub values : List (Option (List ℕ))
  pub results : List ℕ

pub data TheMessage : Type 0 where
  bind : List ℕ → List ℕ → TheBinding → TheMessage  -- a portal, the statement that it is made of, and what is bound
  close : TheTarget → TheMessage
  copy_data : List ℕ → TheMessage
  copy_done : List ℕ → TheMessage
  copy_fail : List ℕ → TheMessage
  describe : TheTarget → TheMessage
  execute : List ℕ → ℕ → TheMessage  -- a portal, and how many rows at most
  flush : TheMessage
  function_call : List ℕ → TheMessage
  parse : List ℕ → List ℕ → List ℕ → TheMessage  -- a statement, its text, and the types of its parameters
  password : List ℕ → TheMessage
  query : List ℕ → TheMessage
  sync : TheMessage
  terminate : TheMessage

abbrev pub the_kind : TheMessage → MessageKind
the_kind (bind p s b) = kind.Bind
the_kind (close t) = kind.Close
the_kind (copy_data b) = kind.CopyData
the_kind (copy_done b) = kind.CopyDone
the_kind (copy_fail b) = kind.CopyFail
the_kind (describe t) = kind.Describe
the_kind (execute p n) = kind.Execute
the_kind flush = kind.Flush
the_kind (function_call b) = kind.FunctionCall
the_kind (parse s t types) = kind.Parse
the_kind (password b) = kind.Password
the_kind (query t) = kind.Query
the_kind sync = kind.Sync
the_kind terminate = kind.Terminate

-- Byte1('S') and a statement, or Byte1('P') and a portal
abbrev pub target : TheTarget → List ℕ
target (statement name) = 83 ∷ string name
target (portal name) = 80 ∷ string name

abbrev pub binding : TheBinding → List ℕ
binding b = counted int16 b.formats ++ (counted value b.values ++ counted int16 b.results)

-- the bodies; those of COPY, of FunctionCall and of passwords stand as they are
abbrev pub the_body : TheMessage → List ℕ
the_body (bind p s b) = string p ++ (string s ++ binding b)
the_body (close t) = target t
the_body (copy_data b) = b
the_body (copy_done b) = b
the_body (copy_fail b) = b
the_body (describe t) = target t
the_body (execute p n) = string p ++ int32 n
the_body flush = []
the_body (function_call b) = b
the_body (parse s t types) = string s ++ (string t ++ counted int32 types)
the_body (password b) = b
the_body (query t) = string t
the_body sync = []
the_body terminate = []

abbrev pub message_bytes : TheMessage → List ℕ
message_bytes m = packet (byte_of (the_kind m)) (the_body m)

abbrev pub HasObjectName : TheTarget → Type 0
HasObjectName (statement name) = HasNoZeroByte name
HasObjectName (portal name) = HasNoZeroByte name

pub record IsBinding (b : TheBinding) : Type 0 where
  pub formats : AreCounted (λ n. n < 2 ^ 16) b.formats
  pub values : AreCounted HasShortValue b.values
  pub results : AreCounted (λ n. n < 2 ^ 16) b.results

-- names and texts have no zero, numbers and counts fit
abbrev pub HasBody : TheMessage → Type 0
HasBody (bind p s b) = HasNoZeroByte p × HasNoZeroByte s × IsBinding b
HasBody (close t) = HasObjectName t
HasBody (copy_data b) = Unit {0}
HasBody (copy_done b) = Unit {0}
HasBody (copy_fail b) = Unit {0}
HasBody (describe t) = HasObjectName t
HasBody (execute p n) = HasNoZeroByte p × (n < 2 ^ 32)
HasBody flush = Unit {0}
HasBody (function_call b) = Unit {0}
HasBody (parse s t types) = HasNoZeroByte s × HasNoZeroByte t × AreCounted (λ n. n < 2 ^ 32) types
HasBody (password b) = Unit {0}
HasBody (query t) = HasNoZeroByte t
HasBody sync = Unit {0}
HasBody terminate = Unit {0}

-- the bytes are this message and nothing else
pub record SpellsMessage (bytes : List ℕ) (m : TheMessage) : Type 0 where
  pub bytes_are : bytes ≡ message_bytes m
  pub has_body : HasBody m
  pub has_length : 4 + length (the_body m) < 2 ^ 32

abbrev pub is_text_target : TheTarget → Bool
is_text_target (statement name) = is_utf8 name
is_text_target (portal name) = is_utf8 name

-- its names and its text are UTF-8
abbrev pub is_text : TheMessage → Bool
is_text (bind p s b) = is_utf8 p && is_utf8 s
is_text (close t) = is_text_target t
is_text (describe t) = is_text_target t
is_text (execute p n) = is_utf8 p
is_text (parse s t types) = is_utf8 s && is_utf8 t
is_text (query t) = is_utf8 t
is_text _ = true
