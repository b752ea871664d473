-- A text with values: what it is, and which faults there are.
use Rattle.std.specs.Prelude.{◌≡◌, ◌<◌, ◌≤◌, ℕ, ◌-◌, List, [], ◌∷◌, ◌++◌, map, slice_get, Option, Some, None, Result, Ok, Err, IsUtf8}
use Rattle.std.specs.List.{concat}
use Rattle.std.specs.Option.{option_map}
use Rattle.std.specs.Prelude.{length}
use Rattle.sql_types.specs.declared.value.Value.{Value}
use Rattle.statement_parameters.specs.declared.fault.BindFault.{BindFault}
use Rattle.statement_parameters.specs.declared.fault.BindFault.TheVariants as fault
use Rattle.statement_parameters.specs.Parts.{StatementPart, token, parameter, appended, bound_tokens, literal_tokens, HasExactTokens}
use Rattle.statement_parameters.specs.Templates.{Fragment, parts_of}

-- ---- how it is written

-- a blank on both sides
abbrev pub literal_text : List (List ℕ) → List ℕ
literal_text tokens = 32 ∷ (concat tokens ++ (32 ∷ []))

abbrev pub part_text : List (List (List ℕ)) → StatementPart → Option (List ℕ)
part_text literals (token bytes) = Some bytes
part_text literals (parameter n) = option_map literal_text (slice_get literals (n - 1))

abbrev pub fragment_text : List (List (List ℕ)) → Fragment → Option (List ℕ)
fragment_text literals f = option_map (λ text. f.before ++ text) (part_text literals f.part)

abbrev pub text_with : List (List (List ℕ)) → List Fragment → Option (List ℕ)
text_with literals [] = Some []
text_with literals (f ∷ fs) = appended (fragment_text literals f) (text_with literals fs)

-- the written text with each comment a blank, and each parameter a literal between two
abbrev pub written_with : List Value → List Fragment → Option (List ℕ)
written_with values template = text_with (map literal_tokens values) template

-- ---- what it is

-- the text as it is written, which is not too long, and its tokens are those of the template with the values
pub record IsBoundText (template : List Fragment) (values : List Value) (text : List ℕ) : Type 0 where
  pub written : written_with values template ≡ Some text
  pub fits : length text ≤ 65536
  pub expected : List (List ℕ)
  pub bound : bound_tokens values (parts_of template) ≡ Some expected
  pub has : HasExactTokens expected text

-- a text that is written so is longer
abbrev pub IsTooLong : List Fragment → List Value → Type 0
IsTooLong template values = (text : List ℕ) × (written_with values template ≡ Some text) × (65536 < length text)

-- the text is UTF-8, as it is to be, and has the tokens of the template with the values
abbrev pub IsBoundAsText : List Fragment → List Value → List ℕ → Type 0
IsBoundAsText template values text = IsUtf8 text × IsBoundText template values text

-- a text that is written so is not too long, and is no such text
abbrev pub HasOtherTokens : List Fragment → List Value → Type 0
HasOtherTokens template values = (text : List ℕ) × (written_with values template ≡ Some text) × (length text ≤ 65536) × ¬ (IsBoundAsText template values text)

-- the text; or a parameter has no value, or the text is too long, or has other tokens, which are three different things
abbrev pub IsTemplateBinding : List Fragment → List Value → Result (List ℕ) BindFault → Type 0
IsTemplateBinding template values (Ok text) = IsBoundAsText template values text
IsTemplateBinding template values (Err fault.NoValue) = bound_tokens values (parts_of template) ≡ None
IsTemplateBinding template values (Err fault.TooLong) = IsTooLong template values
IsTemplateBinding template values (Err fault.OtherTokens) = HasOtherTokens template values
