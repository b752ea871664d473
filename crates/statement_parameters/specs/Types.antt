-- The types that a client may declare for parameters, and what they stand for.
use Rattle.std.specs.Prelude.{ℕ, ◌==◌, if◌then◌else◌, List, [], ◌∷◌, Option, Some, None}
use Rattle.statement_parameters.specs.declared.types.ParameterKind.{ParameterKind}
use Rattle.statement_parameters.specs.declared.types.ParameterKind.TheVariants as kind
use Rattle.statement_parameters.specs.declared.types.ParameterType.{ParameterType}
use Rattle.statement_parameters.specs.declared.types.ParameterType.TheVariants as type

abbrev pub oid_of : ParameterType → ℕ
oid_of type.Undeclared = 0
oid_of type.Bool = 16
oid_of type.Name = 19
oid_of type.Int8 = 20
oid_of type.Int2 = 21
oid_of type.Int4 = 23
oid_of type.Text = 25
oid_of type.Unknown = 705
oid_of type.Varchar = 1043
oid_of type.Numeric = 1700

abbrev pub parameter_types : List ParameterType
parameter_types =
    type.Undeclared ∷ type.Bool ∷ type.Name ∷ type.Int8 ∷ type.Int2 ∷ type.Int4 ∷ type.Text ∷ type.Unknown ∷ type.Varchar ∷ type.Numeric ∷ []

abbrev pub type_in : List ParameterType → ℕ → Option ParameterType
type_in [] oid = None
type_in (t ∷ ts) oid = if oid_of t == oid then Some t else type_in ts oid

abbrev pub type_of_oid : ℕ → Option ParameterType
type_of_oid oid = type_in parameter_types oid

-- the type of the language, where one is declared
abbrev pub kind_of : ParameterType → Option ParameterKind
kind_of type.Undeclared = None
kind_of type.Bool = Some kind.Boolean
kind_of type.Name = Some kind.Text
kind_of type.Int8 = Some kind.BigInt
kind_of type.Int2 = Some kind.BigInt
kind_of type.Int4 = Some kind.BigInt
kind_of type.Text = Some kind.Text
kind_of type.Unknown = None
kind_of type.Varchar = Some kind.Text
kind_of type.Numeric = Some kind.BigInt

abbrev pub type_of_kind : ParameterKind → ParameterType
type_of_kind kind.BigInt = type.Int8
type_of_kind kind.Text = type.Text
type_of_kind kind.Boolean = type.Bool
