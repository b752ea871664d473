-- Statements with parameters: which types these have, and what values make of one (PostgreSQL 15 manual, 55.2.3, "Extended Query").
use Rattle.std.specs.Prelude.{◌≡◌, ◌&&◌, ◌||◌, ◌==◌, ℕ, zero, suc, Bool, not, is_some, true, false, if◌then◌else◌, List, [], ◌∷◌, codes, length, max, slice_index, Option, Some, None, Result, Ok, Err}
use Rattle.std.specs.Option.{option_map}
use Rattle.sql_types.specs.declared.state.SqlState.TheVariants.{NumericValueOutOfRange, ProgramLimitExceeded}
use Rattle.sql_types.specs.declared.value.Value.{Value}
use Rattle.postgres_messages.specs.Frontend.{TheBinding}
use Rattle.statement_parameters.specs.declared.fault.BindFault.{BindFault}
use Rattle.statement_parameters.specs.declared.fault.BindFault.TheVariants as unbound
use Rattle.statement_parameters.specs.declared.received.ValueFault.{ValueFault}
use Rattle.statement_parameters.specs.declared.received.ValueFault.TheVariants as unread
use Rattle.statement_parameters.specs.declared.types.ParameterType.{ParameterType}
use Rattle.statement_parameters.specs.declared.types.ParameterType.TheVariants as type
use Rattle.statement_parameters.specs.Bindings.{IsTemplateBinding}
use Rattle.statement_parameters.specs.Received.{received_value}
use Rattle.statement_parameters.specs.Templates.{Fragment, begins_with, follows_limit, parameter_count}
use Rattle.statement_parameters.specs.Types.{kind_of, type_of_oid}
use Rattle.postgres_talks.specs.declared.fault.TalkFault.{TalkFault}
use Rattle.postgres_talks.specs.declared.fault.TalkFault.TheVariants as fault
use Rattle.postgres_talks.specs.declared.named_pieces.NamedPiece.{NamedPiece}
use Rattle.postgres_talks.specs.declared.parameters.TypedTemplate.{TypedTemplate}
use Rattle.postgres_talks.specs.declared.piece.StatementPiece.{StatementPiece}
use Rattle.postgres_talks.specs.Pieces.{ArePiecesOf, labelled}

-- ---- the types that a client declares

-- parameters stand in these statements alone
abbrev pub takes_values : List Fragment → Bool
takes_values t = begins_with (codes "select") t || (begins_with (codes "insert") t || (begins_with (codes "update") t || begins_with (codes "delete") t))

-- as many as there are numbers or declared types
abbrev pub type_count : List Fragment → List ℕ → ℕ
type_count t oids = max (parameter_count t) (length oids)

-- behind LIMIT stands a number
abbrev pub placed_type : Bool → ParameterType → ParameterType
placed_type is_limit t = if is_limit && not (is_some (kind_of t)) then type.Int8 else t

-- the type at an index; 0, which declares none, where the client names no more
abbrev pub declared_type : List Fragment → List ℕ → ℕ → Option ParameterType
declared_type t oids i = option_map (placed_type (follows_limit t (suc i))) (type_of_oid (slice_index oids i))

abbrev pub with_type : Option ParameterType → Option (List ParameterType) → Option (List ParameterType)
with_type None ts = None
with_type (Some t) None = None
with_type (Some t) (Some ts) = Some (t ∷ ts)

-- those from an index on, if each is a type of a parameter
abbrev pub types_from : List Fragment → List ℕ → ℕ → ℕ → Option (List ParameterType)
types_from t oids i zero = Some []
types_from t oids i (suc left) = with_type (declared_type t oids i) (types_from t oids (suc i) left)

abbrev pub declared_types : List Fragment → List ℕ → Option (List ParameterType)
declared_types t oids = types_from t oids 0 (type_count t oids)

-- ---- the values that it binds

abbrev pub value_fault : ValueFault → TalkFault
value_fault unread.NoNumber = fault.InvalidText
value_fault unread.NoBoolean = fault.InvalidText
value_fault unread.OutOfRange = fault.Refused NumericValueOutOfRange
value_fault unread.WrongLength = fault.InvalidBinary
value_fault unread.NotText = fault.NotText
value_fault unread.UnknownFormat = fault.UnknownFormat

abbrev pub binding_fault : BindFault → TalkFault
binding_fault unbound.NoValue = fault.OtherCount
binding_fault unbound.TooLong = fault.Refused ProgramLimitExceeded
binding_fault unbound.OtherTokens = fault.OtherTokens

-- the code of the format of the next value: without codes all values are text, and one is for all
abbrev pub next_code : List ℕ → ℕ
next_code [] = 0
next_code (c ∷ cs) = c

-- those of the values behind it
abbrev pub other_codes : List ℕ → List ℕ
other_codes [] = []
other_codes (c ∷ []) = c ∷ []
other_codes (c ∷ d ∷ cs) = d ∷ cs

-- there is at most one, or one for each of so many values
abbrev pub are_codes_for : List ℕ → ℕ → Bool
are_codes_for [] n = true
are_codes_for (c ∷ []) n = true
are_codes_for (c ∷ d ∷ cs) n = length (c ∷ d ∷ cs) == n

abbrev pub with_value : Result Value ValueFault → Result (List Value) ValueFault → Result (List Value) ValueFault
with_value (Err f) vs = Err f
with_value (Ok v) (Err f) = Err f
with_value (Ok v) (Ok vs) = Ok (v ∷ vs)

-- each of its type, or the first fault
abbrev pub received_values : List ParameterType → List ℕ → List (Option (List ℕ)) → Result (List Value) ValueFault
received_values [] codes fields = Ok []
received_values (t ∷ ts) codes [] = Ok []
received_values (t ∷ ts) codes (b ∷ bs) = with_value (received_value t (next_code codes) b) (received_values ts (other_codes codes) bs)

-- ---- what they make of a statement

-- a text that is one statement
abbrev pub only_piece : List StatementPiece → Result StatementPiece TalkFault
only_piece (p ∷ []) = Ok p
only_piece ps = Err fault.SeveralStatements

-- its columns have these labels
abbrev pub with_labels_of : List (Option (List ℕ)) → Result StatementPiece TalkFault → Result StatementPiece TalkFault
with_labels_of ls (Ok p) = Ok (labelled ls p)
with_labels_of ls (Err f) = Err f

abbrev pub IsPieceOfBound : List (Option (List ℕ)) → Result (List ℕ) BindFault → Result StatementPiece TalkFault → Type 0
IsPieceOfBound ls (Err f) r = r ≡ Err (binding_fault f)
IsPieceOfBound ls (Ok text) r = (pieces : List StatementPiece) × ArePiecesOf false text pieces × (r ≡ with_labels_of ls (only_piece pieces))

-- the text of the template with these values is the statement, whose columns have the labels of the template
abbrev pub IsBoundByValues : TypedTemplate → Result (List Value) ValueFault → Result StatementPiece TalkFault → Type 0
IsBoundByValues t (Err f) r = r ≡ Err (value_fault f)
IsBoundByValues t (Ok values) r = (bound : Result (List ℕ) BindFault) × IsTemplateBinding t.template values bound × IsPieceOfBound t.labels bound r

abbrev pub count_fault : TypedTemplate → TheBinding → Option TalkFault
count_fault t b =
    if length b.values == length t.types then (if are_codes_for b.formats (length t.types) then None else Some fault.OtherFormats)
    else Some fault.OtherCount

abbrev pub IsBoundUnless : Option TalkFault → TypedTemplate → TheBinding → Result StatementPiece TalkFault → Type 0
IsBoundUnless (Some f) t b r = r ≡ Err f
IsBoundUnless None t b r = IsBoundByValues t (received_values t.types b.formats b.values) r

-- a statement without parameters takes no values
abbrev pub bound_plain : StatementPiece → ℕ → Result StatementPiece TalkFault
bound_plain p count = if count == 0 then Ok p else Err fault.OtherCount

abbrev pub IsBoundFrom : Option TypedTemplate → StatementPiece → TheBinding → Result StatementPiece TalkFault → Type 0
IsBoundFrom None p b r = r ≡ bound_plain p (length b.values)
IsBoundFrom (Some t) p b r = IsBoundUnless (count_fault t b) t b r

-- what is bound makes this of what was found under a name, or it has this fault
abbrev pub IsBoundPiece : Option NamedPiece → TheBinding → Result StatementPiece TalkFault → Type 0
IsBoundPiece None b r = r ≡ Err fault.UnknownStatement
IsBoundPiece (Some n) b r = IsBoundFrom n.parameters n.piece b r
