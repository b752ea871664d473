-- The packets with which a connection starts: they have no kind (PostgreSQL 15 manual, 55.7).
use Rattle.std.specs.Prelude.{◌≡◌, ◌≢◌, ◌<◌, ◌+◌, ◌^◌, ◌==◌, ◌&&◌, ◌||◌, ℕ, Bool, false, nat_le, nat_lt, List, [], ◌∷◌, ◌++◌, length, All}
use Rattle.std.specs.List.{flat_map}
use Rattle.postgres_messages.specs.Fields.{int32, string, HasNoZeroByte}

-- a parameter of the session
pub record TheParameter : Type 0 where
  pub name : List ℕ
  pub value : List ℕ

pub data TheStart : Type 0 where
  cancel_request : ℕ → ℕ → TheStart  -- a process and its key
  gss_request : TheStart
  ssl_request : TheStart
  startup : ℕ → List TheParameter → TheStart  -- version 3 and this minor number, and parameters
  other_version : ℕ → List ℕ → TheStart  -- another number, and the bytes behind it

-- the number that tells what the packet is
abbrev pub code_of : TheStart → ℕ
code_of (cancel_request process key) = 80877102
code_of ssl_request = 80877103
code_of gss_request = 80877104
code_of (startup minor parameters) = 196608 + minor
code_of (other_version code body) = code

abbrev pub parameter : TheParameter → List ℕ
parameter p = string p.name ++ string p.value

-- parameters end with a zero in the place of a name
abbrev pub start_body : TheStart → List ℕ
start_body (cancel_request process key) = int32 process ++ int32 key
start_body ssl_request = []
start_body gss_request = []
start_body (startup minor parameters) = flat_map parameter parameters ++ (0 ∷ [])
start_body (other_version code body) = body

-- a length that counts itself, the number, and what belongs to it
abbrev pub start_bytes : TheStart → List ℕ
start_bytes p = int32 (8 + length (start_body p)) ++ (int32 (code_of p) ++ start_body p)

pub record IsParameter (p : TheParameter) : Type 0 where
  pub name : HasNoZeroByte p.name
  pub some_name : p.name ≢ []
  pub value : HasNoZeroByte p.value

-- version 3 with any minor number
abbrev pub is_three : ℕ → Bool
is_three code = nat_le 196608 code && nat_lt code 262144

-- a number that is read here
abbrev pub is_known : ℕ → Bool
is_known code = code == 80877102 || (code == 80877103 || (code == 80877104 || is_three code))

abbrev pub HasStart : TheStart → Type 0
HasStart (cancel_request process key) = (process < 2 ^ 32) × (key < 2 ^ 32)
HasStart ssl_request = Unit {0}
HasStart gss_request = Unit {0}
HasStart (startup minor parameters) = (minor < 2 ^ 16) × All IsParameter parameters
HasStart (other_version code body) = (code < 2 ^ 32) × (is_known code ≡ false)

-- the bytes are this packet and nothing else
pub record SpellsStart (bytes : List ℕ) (p : TheStart) : Type 0 where
  pub bytes_are : bytes ≡ start_bytes p
  pub has_start : HasStart p
  pub has_length : 8 + length (start_body p) < 2 ^ 32
