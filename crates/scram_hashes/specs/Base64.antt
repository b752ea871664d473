-- Bytes in base64 with padding (RFC 4648, 4), where each run of bytes has one text.
use Rattle.std.specs.Prelude.{◌≡◌, ℕ, List, length}
use Rattle.base64.specs.Engines.{standard}
use Rattle.base64.specs.GeneralPurpose.{encode_of, IsBytes}

abbrev pub base64 : List ℕ → List ℕ
base64 bytes = encode_of standard bytes

-- the text of these bytes
pub record Encodes (text bytes : List ℕ) : Type 0 where
  pub are_bytes : IsBytes bytes
  pub text_is : text ≡ base64 bytes

-- the same, of 32 bytes
pub record EncodesKey (text key : List ℕ) : Type 0 where
  pub encodes : Encodes text key
  pub size : length key ≡ 32
