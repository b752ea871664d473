-- What a client sends to show a password (PostgreSQL 15 manual, 55.3.1 and 55.7).
use Rattle.std.specs.Prelude.{◌≡◌, Bool, true, false, ℕ, List, ◌++◌, Option, Result, Ok, Err}
use Rattle.std.specs.Str.{is_utf8}
use Rattle.postgres_messages.specs.declared.read_error.ReadError.{ReadError}
use Rattle.postgres_messages.specs.declared.read_error.ReadError.TheVariants as errors
use Rattle.postgres_messages.specs.declared.sasl.SaslInitial.{SaslInitial}
use Rattle.postgres_messages.specs.Fields.{string, HasNoZeroByte, value, HasShortValue}
use Rattle.postgres_messages.specs.Reading.{◌>>=◌, string_at, value_at, ended}
use Rattle.postgres_messages.specs.Views.{viewed_value}

-- the mechanism that a client chose, and its first message, if it sent one
pub record TheInitial : Type 0 where
  pub mechanism : List ℕ
  pub response : Option (List ℕ)

abbrev pub initial_body : TheInitial → List ℕ
initial_body i = string i.mechanism ++ value i.response

-- the body is that of this SASLInitialResponse
pub record SpellsInitial (body : List ℕ) (i : TheInitial) : Type 0 where
  pub body_is : body ≡ initial_body i
  pub mechanism : HasNoZeroByte i.mechanism
  pub response : HasShortValue i.response

unfoldable pub initial_in : List ℕ → Option TheInitial
initial_in body = do
  mechanism ← string_at body
  response ← value_at mechanism.1
  ended response.1 (record { mechanism = mechanism.0; response = response.0 })

abbrev pub is_text_initial : TheInitial → Bool
is_text_initial i = is_utf8 i.mechanism

abbrev pub viewed_initial : SaslInitial → TheInitial
viewed_initial i = record { mechanism = i.mechanism.now; response = viewed_value i.response }

-- What the body spells; NotText if the mechanism is not UTF-8; Malformed if it spells none.
abbrev pub IsReadInitial : List ℕ → Result SaslInitial ReadError → Type 0
IsReadInitial body (Ok i) = SpellsInitial body (viewed_initial i) × (is_utf8 i.mechanism.now ≡ true)
IsReadInitial body (Err e) = fault e where
  fault : ReadError → Type 0
  fault errors.Memory = Unit {0}
  fault errors.Malformed = (i : TheInitial) → SpellsInitial body i → ⊥
  fault errors.NotText = (i : TheInitial) × SpellsInitial body i × (is_utf8 i.mechanism ≡ false)
