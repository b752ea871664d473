-- Blocks as a client sees them, by what is said to it.
use Rattle.std.specs.Prelude.{ℕ, Bool, false, if◌then◌else◌, List, [], ◌∷◌, codes, bytes_eq, Option, Some, None, option_and_then}
use Rattle.postgres_messages.specs.Backend.{TheReply, command_complete, error_response, row_description, data_row, portal_suspended}
use Rattle.postgres_messages.specs.declared.backend.Severity.{Severity}
use Rattle.postgres_messages.specs.declared.backend.Severity.TheVariants.{Error}
use Rattle.postgres_talks.specs.declared.fault.TalkFault.TheVariants as fault
use Rattle.postgres_talks.specs.declared.requests.Request.{Request}
use Rattle.postgres_talks.specs.declared.requests.Request.TheVariants as request
use Rattle.postgres_talks.specs.Faults.{fault_text}
use Rattle.postgres_talks.specs.Sayings.{Saying, message}

-- none was begun; one was; one was, and an error was said in it
pub data Seen : Type 0 where
  outside : Seen
  clean : Seen
  spoilt : Seen

abbrev pub begun : Seen → Seen
begun outside = clean
begun b = b

-- a block in which an error was said is not committed
abbrev pub committed : Seen → Option Seen
committed spoilt = None
committed b = Some outside

abbrev pub seen_tag : Seen → List ℕ → Option Seen
seen_tag b tag =
    if bytes_eq tag (codes "COMMIT") then committed b
    else (if bytes_eq tag (codes "ROLLBACK") then Some outside
    else (if bytes_eq tag (codes "BEGIN") then Some (begun b)
    else Some b))

-- an error fails a block, but for that of a text that names a catalogue
abbrev pub seen_report : Severity → Bool → Seen → Seen
seen_report Error false clean = spoilt
seen_report severity excused b = b

abbrev pub is_excused : List ℕ → Bool
is_excused text = bytes_eq text (fault_text fault.Catalogue)

abbrev pub seen_message : Seen → TheReply → Option Seen
seen_message b (command_complete tag) = seen_tag b tag
seen_message b (error_response r) = Some (seen_report r.severity (is_excused r.message) b)
seen_message b m = Some b

abbrev pub seen : Seen → Saying → Option Seen
seen b (message m) = seen_message b m
seen b s = Some b

-- What a client sees in all that is said, unless a block was committed in which an error was said.
abbrev pub seen_all : Seen → List Saying → Option Seen
seen_all b [] = Some b
seen_all b (s ∷ ss) = option_and_then (λ c. seen_all c ss) (seen b s)

-- a part of the answer to a statement
abbrev pub IsOfAnswer : Saying → Type 0
IsOfAnswer (message (command_complete tag)) = Unit {0}
IsOfAnswer (message (row_description columns)) = Unit {0}
IsOfAnswer (message (data_row values)) = Unit {0}
IsOfAnswer (message portal_suspended) = Unit {0}
IsOfAnswer s = ⊥

-- a message that an error in a batch lets pass
abbrev pub IsPassedOver : Request → Type 0
IsPassedOver request.Sync = ⊥
IsPassedOver request.Leave = ⊥
IsPassedOver (request.Breaks f) = ⊥
IsPassedOver r = Unit {0}
