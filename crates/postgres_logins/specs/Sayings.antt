-- What is said to a client before it is let in, in messages of PostgreSQL.
use Rattle.std.specs.Prelude.{ℕ, List, [], ◌∷◌, ◌++◌, codes, None}
use Rattle.sql_types.specs.declared.state.SqlState.{SqlState}
use Rattle.sql_types.specs.State.{state_code}
use Rattle.postgres_messages.specs.Backend.{authentication_continue, authentication_final, authentication_sasl, error_response, reply_bytes}
use Rattle.postgres_messages.specs.declared.backend.Severity.TheVariants.{Fatal}
use Rattle.postgres_texts.specs.Sentences.{refusal_text}

-- the byte N: the connection is not encrypted
abbrev pub no_encryption : List ℕ
no_encryption = 78 ∷ []

-- AuthenticationSASL offers one mechanism
abbrev pub offer_said : List ℕ
offer_said = reply_bytes (authentication_sasl (codes "SCRAM-SHA-256"))

-- AuthenticationSASLContinue and AuthenticationSASLFinal carry the server's two messages
abbrev pub first_said : List ℕ → List ℕ
first_said message = reply_bytes (authentication_continue message)

abbrev pub last_said : List ℕ → List ℕ
last_said message = reply_bytes (authentication_final message)

-- why the connection ends: a code and a sentence
abbrev pub fatal_said : List ℕ → List ℕ → List ℕ
fatal_said code sentence = reply_bytes (error_response (record { severity = Fatal; code = code; message = sentence; position = None }))

abbrev pub refusal_said : SqlState → List ℕ
refusal_said state = fatal_said (state_code state) (refusal_text state)

-- the password of a role was not shown
abbrev pub failure_sentence : List ℕ → List ℕ
failure_sentence role = codes "password authentication failed for user \"" ++ (role ++ codes "\"")

abbrev pub failure_said : List ℕ → List ℕ
failure_said role = fatal_said (codes "28P01") (failure_sentence role)
