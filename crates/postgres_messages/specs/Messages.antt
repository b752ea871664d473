-- What reading a message tells.
use Rattle.std.specs.Prelude.{◌≡◌, true, false, ℕ, List, Result, Ok, Err}
use Rattle.postgres_messages.specs.declared.read_error.ReadError.{ReadError}
use Rattle.postgres_messages.specs.declared.read_error.ReadError.TheVariants.{Memory, Malformed, NotText}
use Rattle.postgres_messages.specs.declared.frontend.FrontendMessage.{FrontendMessage}
use Rattle.postgres_messages.specs.Frontend.{TheMessage, SpellsMessage, is_text}
use Rattle.postgres_messages.specs.Views.{viewed_message}

-- The message that the bytes spell, if its names and its text are UTF-8; NotText if they are not; Malformed if the bytes spell none.
abbrev pub IsMessageRead : List ℕ → Result FrontendMessage ReadError → Type 0
IsMessageRead bytes (Ok m) = SpellsMessage bytes (viewed_message m) × (is_text (viewed_message m) ≡ true)
IsMessageRead bytes (Err e) = fault e where
  fault : ReadError → Type 0
  fault Memory = Unit {0}
  fault Malformed = (m : TheMessage) → SpellsMessage bytes m → ⊥
  fault NotText = (m : TheMessage) × SpellsMessage bytes m × (is_text m ≡ false)
