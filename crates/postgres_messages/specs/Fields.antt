-- The parts of which messages consist (PostgreSQL 15 manual, 55.6).
use Rattle.std.specs.Prelude.{◌≢◌, ◌<◌, ◌+◌, ◌^◌, ℕ, List, [], ◌∷◌, ◌++◌, length, All, Option, Some, None, IfSome}
use Rattle.std.specs.List.{flat_map}
use Rattle.std.specs.Int.{w16, w32, to_be_bytes}

-- Int16 and Int32: most significant byte first
abbrev pub int16 : ℕ → List ℕ
int16 n = to_be_bytes w16 n

abbrev pub int32 : ℕ → List ℕ
int32 n = to_be_bytes w32 n

-- String: a text, and the zero that ends it
abbrev pub string : List ℕ → List ℕ
string text = text ++ (0 ∷ [])

-- a text has no zero inside
abbrev pub HasNoZeroByte : List ℕ → Type 0
HasNoZeroByte text = All (λ byte. byte ≢ 0) text

-- a value: its length, and its bytes; null: the length -1
abbrev pub value : Option (List ℕ) → List ℕ
value None = int32 0xFFFFFFFF
value (Some bytes) = int32 (length bytes) ++ bytes

-- a value's length is a positive Int32
abbrev pub HasShortValue : Option (List ℕ) → Type 0
HasShortValue v = IfSome v (λ bytes. length bytes < 2 ^ 31)

-- items behind their number, an Int16
abbrev pub counted : {A : Type 0} → (A → List ℕ) → List A → List ℕ
counted item items = int16 (length items) ++ flat_map item items

-- few enough items to be counted, each of this form
pub record AreCounted {A : Type 0} (HasForm : A → Type 0) (items : List A) : Type 0 where
  pub count : length items < 2 ^ 16
  pub each : All HasForm items

-- a message: its kind, a length that counts itself and the body, and the body
abbrev pub packet : ℕ → List ℕ → List ℕ
packet kind body = kind ∷ (int32 (4 + length body) ++ body)
