-- What a line of a script requests.
use Rattle.std.specs.Prelude.{◌≡◌, ◌≢◌, ℕ, Bool, true, not, length, ◌==◌, ◌&&◌, ◌||◌, List, [], ◌∷◌, ◌++◌, codes, Option, Some, None}
use Rattle.std.specs.List.{list_all}
use Rattle.std.specs.Borrow.{Bor}
use Rattle.std.specs.Char.{is_ascii_alphanumeric}
use Rattle.wire.specs.declared.script_line.Line.{Line}
use Rattle.wire.specs.declared.script_line.Line.TheVariants as line

-- an ASCII letter, a digit or "_"
abbrev pub is_name_byte : ℕ → Bool
is_name_byte byte = is_ascii_alphanumeric byte || byte == 95

-- the name of a session in a script
abbrev pub is_session_name : List ℕ → Bool
is_session_name bytes = not (length bytes == 0) && list_all is_name_byte bytes

-- what a line requests: nothing, or an event of the session that it names
pub data Request : Type 0 where
  nothing : Request
  opens : List ℕ → List ℕ → Request
  asks : List ℕ → List ℕ → Request
  closes : List ℕ → Request

-- an empty line and a comment, "open NAME LOGIN", "NAME: TEXT", "close NAME"
pub data Spells (line : List ℕ) : Request → Type 0 where
  empty : line ≡ [] → Spells line nothing
  comment : {rest : List ℕ} → line ≡ codes "#" ++ rest → Spells line nothing
  opening : {name login : List ℕ} → is_session_name name ≡ true → line ≡ codes "open " ++ (name ++ (codes " " ++ login)) → Spells line (opens name login)
  asking : {name text : List ℕ} → is_session_name name ≡ true → line ≡ name ++ (codes ": " ++ text) → Spells line (asks name text)
  closing : {name : List ℕ} → is_session_name name ≡ true → line ≡ codes "close " ++ name → Spells line (closes name)

-- a line that spells no request
abbrev pub IsInvalid : List ℕ → Type 0
IsInvalid line = (r : Request) → Spells line r → ⊥

-- the request that a line was read as
abbrev pub request_of : Line → Request
request_of line.Skipped = nothing
request_of (line.Open name login) = opens name.now login.now
request_of (line.Statement name text) = asks name.now text.now
request_of (line.Close name) = closes name.now

-- a line is read as the request that it spells, and an invalid line as none
abbrev pub ReadsAs : List ℕ → Option Line → Type 0
ReadsAs bytes None = IsInvalid bytes
ReadsAs bytes (Some l) = Spells bytes (request_of l)

-- a text is a session name, this byte and a rest, or there are no such parts
abbrev pub IsNameSplit : ℕ → List ℕ → Option (Bor (List ℕ) × Bor (List ℕ)) → Type 0
IsNameSplit byte text None = (name rest : List ℕ) → is_session_name name ≡ true → text ≢ name ++ byte ∷ rest
IsNameSplit byte text (Some parts) = (is_session_name parts.0.now ≡ true) × (text ≡ parts.0.now ++ byte ∷ parts.1.now)
