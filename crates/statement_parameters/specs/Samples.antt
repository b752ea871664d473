-- Samples of types: a statement that is taken with them has parameters of these types.
use Rattle.std.specs.Prelude.{ℕ, suc, ◌==◌, ◌&&◌, nat_le, true, if◌then◌else◌, pos, List, [], ◌∷◌, length, Option, Some, None}
use Rattle.std.specs.Str.{is_utf8}
use Rattle.sql_types.specs.declared.value.Value.{Value}
use Rattle.sql_types.specs.declared.value.Value.TheVariants as value
use Rattle.statement_parameters.specs.declared.types.ParameterKind.{ParameterKind}
use Rattle.statement_parameters.specs.declared.types.ParameterKind.TheVariants as kind
use Rattle.statement_parameters.specs.declared.types.ParameterType.{ParameterType}
use Rattle.statement_parameters.specs.Bindings.{written_with}
use Rattle.statement_parameters.specs.Templates.{Fragment}
use Rattle.statement_parameters.specs.Types.{kind_of}

abbrev pub sample_of_kind : ParameterKind → Value
sample_of_kind kind.BigInt = value.Int (pos 0)
sample_of_kind kind.Text = value.Text []
sample_of_kind kind.Boolean = value.Bool true

abbrev pub sample_or_null : Option ParameterKind → Value
sample_or_null (Some k) = sample_of_kind k
sample_or_null None = value.Null

-- at one index that of the candidate
abbrev pub sample_at : ℕ → ParameterKind → ℕ → ParameterType → Value
sample_at at candidate index t = if index == at then sample_of_kind candidate else sample_or_null (kind_of t)

-- of the parameters from an index on
abbrev pub sample_values : ℕ → ParameterKind → ℕ → List ParameterType → List Value
sample_values at candidate index [] = []
sample_values at candidate index (t ∷ ts) = sample_at at candidate index t ∷ sample_values at candidate (suc index) ts

-- a text of UTF-8 that is not too long
abbrev pub fitting : Option (List ℕ) → Option (List ℕ)
fitting None = None
fitting (Some text) = if nat_le (length text) 65536 && is_utf8 text then Some text else None

-- the template with samples, as it is written
abbrev pub sample_text : ℕ → ParameterKind → List ParameterType → List Fragment → Option (List ℕ)
sample_text at candidate types template = fitting (written_with (sample_values at candidate 0 types) template)
