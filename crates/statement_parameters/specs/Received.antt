-- The values of parameters as a client sends them (PostgreSQL 15 manual, 55.2.3, "Extended Query", and chapter 8).
use Rattle.std.specs.Prelude.{◌^◌, ℕ, ◌+◌, ◌-◌, ◌*◌, ◌==◌, ◌&&◌, ◌||◌, nat_lt, nat_le, not, Bool, true, false, if◌then◌else◌, pos, neg_ℤ, List, [], ◌∷◌, codes, drop, length, slice_range, Option, Some, None, Result, Ok, Err}
use Rattle.std.specs.Char.{is_ascii_digit}
use Rattle.std.specs.Int.{w16, w32, w64, cast_signed, from_be_bytes}
use Rattle.std.specs.List.{list_any}
use Rattle.std.specs.Str.{byte, is_utf8, str_eq_ignore_ascii_case}
use Rattle.sql_types.specs.declared.value.Value.{Value}
use Rattle.sql_types.specs.declared.value.Value.TheVariants as value
use Rattle.statement_parameters.specs.declared.received.ValueFault.{ValueFault}
use Rattle.statement_parameters.specs.declared.received.ValueFault.TheVariants as fault
use Rattle.statement_parameters.specs.declared.types.ParameterType.{ParameterType}
use Rattle.statement_parameters.specs.declared.types.ParameterType.TheVariants as type

-- ---- spaces around

abbrev pub is_space : ℕ → Bool
is_space b = b == 32 || (nat_le 9 b && nat_le b 13)

abbrev pub are_spaces : List ℕ → Bool
are_spaces [] = true
are_spaces (b ∷ bs) = if is_space b then are_spaces bs else false

abbrev pub without_spaces : List ℕ → List ℕ
without_spaces [] = []
without_spaces (b ∷ bs) = if is_space b then without_spaces bs else b ∷ bs

-- ---- numbers: a sign or none, digits, and spaces around

-- digits behind those of a number; all above 2 ^ 63, which no type holds, count as one
abbrev pub grown : ℕ → ℕ → ℕ
grown n b = if nat_lt (2 ^ 63) (n * 10 + (b - 48)) then 2 ^ 63 + 1 else n * 10 + (b - 48)

abbrev pub digits_from : ℕ → List ℕ → Option ℕ
digits_from n [] = Some n
digits_from n (b ∷ bs) = if is_ascii_digit b then digits_from (grown n b) bs else (if are_spaces (b ∷ bs) then Some n else None)

abbrev pub unsigned_in : List ℕ → Option ℕ
unsigned_in [] = None
unsigned_in (b ∷ bs) = if is_ascii_digit b then digits_from 0 (b ∷ bs) else None

-- whether a minus stands before it, and the number
abbrev pub with_minus : Bool → Option ℕ → Option (Bool × ℕ)
with_minus is_negative None = None
with_minus is_negative (Some n) = Some (is_negative, n)

abbrev pub signed_in : List ℕ → Option (Bool × ℕ)
signed_in [] = None
signed_in (b ∷ bs) =
    if b == byte "-" then with_minus true (unsigned_in bs)
    else (if b == byte "+" then with_minus false (unsigned_in bs)
    else with_minus false (unsigned_in (b ∷ bs)))

-- a number of a type whose least number is that below zero
abbrev pub number_within : ℕ → Option (Bool × ℕ) → Result Value ValueFault
number_within most None = Err fault.NoNumber
number_within most (Some (true, n)) = if nat_le n most then Ok (value.Int (neg_ℤ (pos n))) else Err fault.OutOfRange
number_within most (Some (false, n)) = if nat_lt n most then Ok (value.Int (pos n)) else Err fault.OutOfRange

abbrev pub number_value : ℕ → List ℕ → Result Value ValueFault
number_value most bytes = number_within most (signed_in (without_spaces bytes))

-- a number with a point may have a fraction, which no type of the language has
abbrev pub decimal_value : List ℕ → Result Value ValueFault
decimal_value bytes = if list_any (λ b. b == byte ".") bytes then Err fault.OutOfRange else number_value (2 ^ 63) bytes

-- ---- booleans: what begins one of the words and no other, in any case, and spaces around

abbrev pub boolean_words : List (List ℕ × Bool)
boolean_words =
    (codes "t", true) ∷ (codes "tr", true) ∷ (codes "tru", true) ∷ (codes "true", true)
    ∷ (codes "f", false) ∷ (codes "fa", false) ∷ (codes "fal", false) ∷ (codes "fals", false) ∷ (codes "false", false)
    ∷ (codes "y", true) ∷ (codes "ye", true) ∷ (codes "yes", true) ∷ (codes "n", false) ∷ (codes "no", false)
    ∷ (codes "on", true) ∷ (codes "of", false) ∷ (codes "off", false) ∷ (codes "1", true) ∷ (codes "0", false) ∷ []

-- the word, and nothing but spaces behind it
abbrev pub spells_word : List ℕ → List ℕ → Bool
spells_word word bytes = str_eq_ignore_ascii_case word (slice_range bytes 0 (length word)) && are_spaces (drop (length word) bytes)

abbrev pub boolean_in : List (List ℕ × Bool) → List ℕ → Option Bool
boolean_in [] bytes = None
boolean_in (w ∷ ws) bytes = if spells_word w.0 bytes then Some w.1 else boolean_in ws bytes

abbrev pub boolean_or_none : Option Bool → Result Value ValueFault
boolean_or_none (Some b) = Ok (value.Bool b)
boolean_or_none None = Err fault.NoBoolean

abbrev pub boolean_value : List ℕ → Result Value ValueFault
boolean_value bytes = boolean_or_none (boolean_in boolean_words (without_spaces bytes))

-- ---- texts: UTF-8 without a zero byte

abbrev pub text_value : List ℕ → Result Value ValueFault
text_value bytes = if list_any (λ b. b == 0) bytes then Err fault.NotText else (if is_utf8 bytes then Ok (value.Text bytes) else Err fault.NotText)

-- ---- binary: numbers with the greatest byte first, and a boolean by whether its byte is 0

abbrev pub int2_value : List ℕ → Result Value ValueFault
int2_value (a ∷ b ∷ []) = Ok (value.Int (cast_signed w16 (from_be_bytes w16 (a ∷ b ∷ []))))
int2_value bytes = Err fault.WrongLength

abbrev pub int4_value : List ℕ → Result Value ValueFault
int4_value (a ∷ b ∷ c ∷ d ∷ []) = Ok (value.Int (cast_signed w32 (from_be_bytes w32 (a ∷ b ∷ c ∷ d ∷ []))))
int4_value bytes = Err fault.WrongLength

abbrev pub int8_value : List ℕ → Result Value ValueFault
int8_value (a ∷ b ∷ c ∷ d ∷ e ∷ f ∷ g ∷ h ∷ []) = Ok (value.Int (cast_signed w64 (from_be_bytes w64 (a ∷ b ∷ c ∷ d ∷ e ∷ f ∷ g ∷ h ∷ []))))
int8_value bytes = Err fault.WrongLength

abbrev pub bool_value : List ℕ → Result Value ValueFault
bool_value (b ∷ []) = Ok (value.Bool (not (b == 0)))
bool_value bytes = Err fault.WrongLength

-- ---- by type and format

abbrev pub in_text : ParameterType → List ℕ → Result Value ValueFault
in_text type.Bool bytes = boolean_value bytes
in_text type.Int8 bytes = number_value (2 ^ 63) bytes
in_text type.Int4 bytes = number_value (2 ^ 31) bytes
in_text type.Int2 bytes = number_value (2 ^ 15) bytes
in_text type.Numeric bytes = decimal_value bytes
in_text t bytes = text_value bytes

abbrev pub in_binary : ParameterType → List ℕ → Result Value ValueFault
in_binary type.Bool bytes = bool_value bytes
in_binary type.Int8 bytes = int8_value bytes
in_binary type.Int4 bytes = int4_value bytes
in_binary type.Int2 bytes = int2_value bytes
in_binary type.Numeric bytes = Err fault.WrongLength
in_binary t bytes = text_value bytes

-- no bytes are a null
abbrev pub in_format : Bool → ParameterType → Option (List ℕ) → Result Value ValueFault
in_format is_text t None = Ok value.Null
in_format is_text t (Some bytes) = if is_text then in_text t bytes else in_binary t bytes

-- a format is 0, text, or 1, binary
abbrev pub received_value : ParameterType → ℕ → Option (List ℕ) → Result Value ValueFault
received_value t format bytes = if nat_lt 1 format then Err fault.UnknownFormat else in_format (format == 0) t bytes
