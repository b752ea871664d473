-- How the types of parameters are found that a client has not declared: the machine is asked about texts with samples in their place.
use Rattle.std.specs.Prelude.{ℕ, suc, nat_lt, ◌&&◌, not, Bool, true, is_some, if◌then◌else◌, List, [], ◌∷◌, length, drop, set, Option, Some, None}
use Rattle.sql_ast.specs.declared.description.StatementDescription.{StatementDescription}
use Rattle.sql_ast.specs.declared.description.StatementDescription.TheVariants as description
use Rattle.sql_types.specs.declared.state.SqlState.TheVariants.{DatatypeMismatch, ProgramLimitExceeded}
use Rattle.talks.specs.declared.want.Want.{Want}
use Rattle.talks.specs.declared.want.Want.TheVariants as want
use Rattle.postgres_messages.specs.Backend.{parse_complete}
use Rattle.statement_parameters.specs.declared.types.ParameterKind.{ParameterKind}
use Rattle.statement_parameters.specs.declared.types.ParameterKind.TheVariants as kind
use Rattle.statement_parameters.specs.declared.types.ParameterType.{ParameterType}
use Rattle.statement_parameters.specs.Samples.{sample_text}
use Rattle.statement_parameters.specs.Templates.{has_parameter}
use Rattle.statement_parameters.specs.Types.{kind_of, type_of_kind}
use Rattle.postgres_talks.specs.declared.fault.TalkFault.{TalkFault}
use Rattle.postgres_talks.specs.declared.fault.TalkFault.TheVariants as fault
use Rattle.postgres_talks.specs.declared.moment.TalkStage.TheVariants as stage
use Rattle.postgres_talks.specs.declared.moment.TalkMoment.{TalkMoment}
use Rattle.postgres_talks.specs.declared.named_pieces.NamedPiece.{NamedPiece}
use Rattle.postgres_talks.specs.declared.outcome.Outcome.{Outcome}
use Rattle.postgres_talks.specs.declared.outcome.Outcome.TheVariants as outcome
use Rattle.postgres_talks.specs.declared.parameters.TypedTemplate.{TypedTemplate}
use Rattle.postgres_talks.specs.declared.piece.StatementPiece.{StatementPiece}
use Rattle.postgres_talks.specs.declared.piece.StatementPiece.TheVariants as piece
use Rattle.postgres_talks.specs.Labels.{bare}
use Rattle.postgres_talks.specs.Named.{find, put, without}
use Rattle.postgres_talks.specs.Outcomes.{description_outcome}
use Rattle.postgres_talks.specs.Sayings.{Saying, message, fatal_said}
use Rattle.postgres_talks.specs.Steps.{describes, ends, listens, looks}

-- ---- which type is looked for

abbrev pub first_unknown : ℕ → List ParameterType → Option ℕ
first_unknown i [] = None
first_unknown i (t ∷ ts) = if is_some (kind_of t) then first_unknown (suc i) ts else Some i

-- the first index from one on whose type is to be found
abbrev pub unknown_from : ℕ → List ParameterType → Option ℕ
unknown_from i ts = first_unknown i (drop i ts)

-- a parameter is a text where one fits, as in PostgreSQL
abbrev pub next_candidate : ParameterKind → Option ParameterKind
next_candidate kind.Text = Some kind.BigInt
next_candidate kind.BigInt = Some kind.Boolean
next_candidate kind.Boolean = None

-- behind a candidate that does not fit
abbrev pub candidate_behind : ℕ → ParameterKind → List ParameterType → StatementDescription → Option ParameterKind
candidate_behind at c ts (description.Refused DatatypeMismatch) = if nat_lt at (length ts) then next_candidate c else None
candidate_behind at c ts d = None

-- ---- what is asked

-- what is refused is not kept
abbrev pub refuses : TalkFault → TalkMoment → TalkMoment
refuses f m = looks (stage.Refusing f) (record m { statements = without m.name m.statements })

abbrev pub asks_of : ℕ → ParameterKind → Option (List ℕ) → TalkMoment → TalkMoment
asks_of at c None m = refuses (fault.Refused ProgramLimitExceeded) m
asks_of at c (Some text) m = describes (stage.Typing at c) (bare text) m

-- whether the candidate is the type of the parameter at an index; behind the last index, whether the statement is one
abbrev pub asks_sample : ℕ → ParameterKind → TypedTemplate → TalkMoment → TalkMoment
asks_sample at c t m = asks_of at c (sample_text at c t.types t.template) m

abbrev pub asks_first : Option ℕ → TypedTemplate → TalkMoment → TalkMoment
asks_first (Some at) t m = asks_sample at kind.Text t m
asks_first None t m = asks_sample (length t.types) kind.Text t m

-- for a statement that is to be kept
abbrev pub begins_typing : TypedTemplate → TalkMoment → TalkMoment
begins_typing t m = asks_first (unknown_from 0 t.types) t m

-- ---- what is learnt

-- a parameter whose type is looked for stands nowhere, as `$1` in a text that has `$2` alone
abbrev pub is_missing : ℕ → TypedTemplate → Bool
is_missing at t = nat_lt at (length t.types) && not (has_parameter t.template (suc at))

-- it has no type, as PostgreSQL has it
abbrev pub unless_missing : Outcome → Bool → Outcome
unless_missing outcome.Done true = outcome.Refused fault.IndeterminateType
unless_missing o missing = o

abbrev pub typing_outcome : ℕ → TypedTemplate → StatementDescription → Outcome
typing_outcome at t d = unless_missing (description_outcome None [] d) (is_missing at t)

-- the candidate is the type
abbrev pub typed : ℕ → ParameterKind → TypedTemplate → TypedTemplate
typed at c t = record t { types = set t.types at (type_of_kind c) }

abbrev pub new_template : List ℕ → StatementPiece → TypedTemplate → NamedPiece
new_template name p t = record { name = name; piece = p; columns = None; formats = []; parameters = Some t; rest = None }

abbrev pub keeps : StatementPiece → TypedTemplate → TalkMoment → TalkMoment
keeps p t m = record m { statements = put (new_template m.name p t) m.statements }

-- the text with samples, by which it is described, and the labels of its columns
abbrev pub sampled_piece : List (Option (List ℕ)) → Want → StatementDescription → StatementPiece
sampled_piece ls (want.Description session text) (description.Rows columns) = piece.Select (record { text = text; labels = ls })
sampled_piece ls (want.Description session text) d = piece.Statement text
sampled_piece ls w d = piece.Empty

abbrev pub goes_on_typing : Option ℕ → TypedTemplate → StatementDescription → TalkMoment → TalkMoment
goes_on_typing (Some at) t d m = asks_sample at kind.Text t (keeps piece.Empty t m)
goes_on_typing None t d m = listens (keeps (sampled_piece t.labels m.want d) t m)

abbrev pub types_by : Outcome → ℕ → ParameterKind → TypedTemplate → StatementDescription → TalkMoment → TalkMoment
types_by outcome.Done at c t d m = goes_on_typing (unknown_from (suc at) t.types) (typed at c t) d m
types_by (outcome.Refused f) at c t d m = refuses f m
types_by (outcome.Breaks f) at c t d m = ends m

abbrev pub tries : Option ParameterKind → ℕ → ParameterKind → TypedTemplate → StatementDescription → TalkMoment → TalkMoment
tries (Some next) at c t d m = asks_sample at next t m
tries None at c t d m = types_by (typing_outcome at t d) at c t d m

-- of what is kept under a name
abbrev pub template_in : Option NamedPiece → Option TypedTemplate
template_in None = None
template_in (Some n) = n.parameters

abbrev pub types_found : Option TypedTemplate → ℕ → ParameterKind → StatementDescription → TalkMoment → TalkMoment
types_found None at c d m = ends m
types_found (Some t) at c d m = tries (candidate_behind at c t.types d) at c t d m

abbrev pub after_typing : ℕ → ParameterKind → TalkMoment → StatementDescription → TalkMoment
after_typing at c m d = types_found (template_in (find m.name m.statements)) at c d m

-- ---- what is said

abbrev pub said_behind : Option ℕ → List Saying
said_behind (Some at) = []
said_behind None = message parse_complete ∷ []

abbrev pub said_typed : Outcome → Option ℕ → List Saying
said_typed outcome.Done next = said_behind next
said_typed (outcome.Refused f) next = []
said_typed (outcome.Breaks f) next = fatal_said f ∷ []

abbrev pub said_tried : Option ParameterKind → Outcome → Option ℕ → List Saying
said_tried (Some c) o next = []
said_tried None o next = said_typed o next

abbrev pub said_types : Option TypedTemplate → ℕ → ParameterKind → StatementDescription → List Saying
said_types None at c d = []
said_types (Some t) at c d = said_tried (candidate_behind at c t.types d) (typing_outcome at t d) (unknown_from (suc at) t.types)

abbrev pub said_typing : ℕ → ParameterKind → TalkMoment → StatementDescription → List Saying
said_typing at c m d = said_types (template_in (find m.name m.statements)) at c d
