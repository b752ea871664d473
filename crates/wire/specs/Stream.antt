-- What a stream of frames spells.
use Rattle.std.specs.Prelude.{◌≡◌, ℕ, Bool, true, false, List, [], ◌∷◌, ◌++◌, drop}
use Rattle.sql_types.specs.declared.event.Event.{Event}
use Rattle.wire.specs.Frame.{NextFrame, incomplete, bad, whole, next_frame}

-- events end before a whole frame, or at a bad one
abbrev pub ending : Bool → NextFrame
ending false = incomplete
ending true = bad

-- The bytes spell these events, and then this rest: with a bad frame at its front, or with no whole frame, good or bad.
abbrev pub Spells : List ℕ → List Event → Bool → List ℕ → Type 0
Spells bytes [] is_bad rest = (next_frame bytes ≡ ending is_bad) × (rest ≡ bytes)
Spells bytes (e ∷ es) is_bad rest = (size : ℕ) × (next_frame bytes ≡ whole e size) × Spells (drop size bytes) es is_bad rest

pub record Reading (bytes : List ℕ) : Type 0 where
  pub events : List Event
  pub is_bad : Bool
  pub rest : List ℕ
  pub spelled : Spells bytes events is_bad rest

-- Of these bytes, taken so far, these events were given, and so much is held back. After a bad frame that frame is held.
abbrev pub IsStream : List ℕ → List Event → Bool → List ℕ → Type 0
IsStream bytes events false held = Spells bytes events false held
IsStream bytes events true held = (next_frame held ≡ bad) × ((rest : List ℕ) × Spells bytes events true rest)

-- What a piece does where these bytes are held back: a stream that has ended stays as it is; else what is held back and the
-- piece spell the events, and their rest is held back.
abbrev pub IsFed : List ℕ → List ℕ → List Event → Bool → List ℕ → Type 0
IsFed old piece events is_bad new =
    (next_frame old ≡ bad → (events ≡ []) × (is_bad ≡ true) × (new ≡ old))
    × ((next_frame old ≡ bad → ⊥) → Spells (old ++ piece) events is_bad new)
