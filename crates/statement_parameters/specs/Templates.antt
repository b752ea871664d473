-- How a written text is read: its tokens are those of the masked text, and a number behind the sign of a parameter is one.
use Rattle.std.specs.Prelude.{◌≡◌, ℕ, ◌-◌, ◌==◌, ◌&&◌, nat_lt, nat_le, max, Bool, true, false, if◌then◌else◌, List, [], ◌∷◌, map, codes, slice_index, slice_range, Option, Some, None, Result, Ok, Err}
use Rattle.std.specs.List.{list_any}
use Rattle.std.specs.Option.{ok_or}
use Rattle.std.specs.Str.{byte, str_eq_ignore_ascii_case}
use Rattle.sql_types.specs.declared.state.SqlState.{SqlState}
use Rattle.sql_lexer.specs.declared.token.TokenKind.{TokenKind}
use Rattle.sql_lexer.specs.declared.token.TokenKind.TheVariants as kind
use Rattle.sql_lexer.specs.Lexeme.{Lexeme, end_of}
use Rattle.sql_lexer.specs.Lexing.{Lexes}
use Rattle.statement_parameters.specs.declared.fault.TemplateFault.{TemplateFault}
use Rattle.statement_parameters.specs.declared.fault.TemplateFault.TheVariants as fault
use Rattle.statement_parameters.specs.Parts.{StatementPart, token, parameter}

-- a part, and the blanks and comments of the masked text before it
pub record Fragment : Type 0 where
  pub before : List ℕ
  pub part : StatementPart

abbrev pub parts_of : List Fragment → List StatementPart
parts_of fs = map (λ f. f.part) fs

-- ---- parts

abbrev pub number_by : TokenKind → Bool → Option ℕ
number_by (kind.Number n) true = Some n
number_by k is_signed = None

-- the number of a parameter: the masked text has it where the written one has it behind a sign
abbrev pub number_behind : List ℕ → Lexeme → Option ℕ
number_behind text t = number_by t.kind (slice_index text (t.start - 1) == byte "$")

-- there are 65535 parameters
abbrev pub part_by : Option ℕ → List ℕ → Option StatementPart
part_by (Some n) bytes = if nat_lt 0 n && nat_le n 65535 then Some (parameter n) else None
part_by None bytes = Some (token bytes)

abbrev pub fragment_behind : List ℕ → Option StatementPart → Option Fragment
fragment_behind blanks None = None
fragment_behind blanks (Some p) = Some (record { before = blanks; part = p })

-- a token of a masked text, behind what stands from a place on
abbrev pub fragment_of : List ℕ → List ℕ → ℕ → Lexeme → Option Fragment
fragment_of text masked_text from t = fragment_behind (slice_range masked_text from t.start) (part_by (number_behind text t) t.bytes)

abbrev pub with_fragment : Option Fragment → Option (List Fragment) → Option (List Fragment)
with_fragment None fs = None
with_fragment (Some f) None = None
with_fragment (Some f) (Some fs) = Some (f ∷ fs)

abbrev pub fragments_from : List ℕ → List ℕ → ℕ → List Lexeme → Option (List Fragment)
fragments_from text masked_text from [] = Some []
fragments_from text masked_text from (t ∷ ts) = with_fragment (fragment_of text masked_text from t) (fragments_from text masked_text (end_of t) ts)

-- ---- the whole

abbrev pub template_of : List ℕ → List ℕ → Result (List Lexeme) SqlState → Result (List Fragment) TemplateFault
template_of text masked_text (Ok tokens) = ok_or (fragments_from text masked_text 0 tokens) fault.UnknownParameter
template_of text masked_text (Err state) = Err (fault.Refused state)

-- what the tokens of its masked text make of a written text
pub record IsTemplateOf (text masked_text : List ℕ) (r : Result (List Fragment) TemplateFault) : Type 0 where
  pub tokens : Result (List Lexeme) SqlState
  pub lexes : Lexes masked_text tokens
  pub template_is : r ≡ template_of text masked_text tokens

-- ---- its parameters

abbrev pub number_of : StatementPart → ℕ
number_of (token bytes) = 0
number_of (parameter n) = n

abbrev pub greatest_from : ℕ → List Fragment → ℕ
greatest_from n [] = n
greatest_from n (f ∷ fs) = greatest_from (max n (number_of f.part)) fs

-- the greatest number, or 0
abbrev pub parameter_count : List Fragment → ℕ
parameter_count fs = greatest_from 0 fs

-- the parameter of this number stands somewhere; no parameter has the number 0
abbrev pub has_parameter : List Fragment → ℕ → Bool
has_parameter fs n = list_any (λ f. number_of f.part == n) fs

abbrev pub is_word : List ℕ → StatementPart → Bool
is_word word (token bytes) = str_eq_ignore_ascii_case word bytes
is_word word (parameter n) = false

-- its first part is this word, in any case
abbrev pub begins_with : List ℕ → List Fragment → Bool
begins_with word [] = false
begins_with word (f ∷ fs) = is_word word f.part

abbrev pub is_limit : StatementPart → Bool
is_limit p = is_word (codes "limit") p

-- the parameter stands behind the word LIMIT, which stands right before or is known to
abbrev pub is_limited : Bool → ℕ → List Fragment → Bool
is_limited behind n [] = false
is_limited behind n (f ∷ fs) = if behind && number_of f.part == n then true else is_limited (is_limit f.part) n fs

abbrev pub follows_limit : List Fragment → ℕ → Bool
follows_limit fs n = is_limited false n fs
