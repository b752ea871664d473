-- What a message of a client asks, and what is said to it.
use Rattle.std.specs.Prelude.{◌≡◌, ◌&&◌, ◌==◌, ℕ, Bool, true, false, nat_lt, nat_le, is_some, if◌then◌else◌, List, [], ◌∷◌, length, map, codes, bytes_eq, Option, Some, None, Result, Ok, Err}
use Rattle.std.specs.Str.{is_utf8}
use Rattle.sql_ast.specs.declared.description.ResultColumn.{ResultColumn}
use Rattle.sql_types.specs.declared.state.SqlState.TheVariants.{InvalidAuthorization, ProgramLimitExceeded, ProtocolViolation}
use Rattle.sql_types.specs.declared.value.Value.{Value}
use Rattle.postgres_messages.specs.Backend.{bind_complete, close_complete, parse_complete}
use Rattle.postgres_messages.specs.Frontend.{TheMessage, statement, portal, TheBinding, bind, close, copy_data, copy_done, copy_fail, describe, execute, flush, parse, password, query, sync, terminate, SpellsMessage, is_text}
use Rattle.postgres_messages.specs.Start.{TheParameter, TheStart, cancel_request, gss_request, ssl_request, startup, other_version, SpellsStart}
use Rattle.statement_parameters.specs.declared.fault.TemplateFault.{TemplateFault}
use Rattle.statement_parameters.specs.declared.fault.TemplateFault.TheVariants as unread
use Rattle.statement_parameters.specs.declared.template.LabelledTemplate.{LabelledTemplate}
use Rattle.statement_parameters.specs.declared.types.ParameterKind.TheVariants as kind
use Rattle.statement_parameters.specs.declared.types.ParameterType.{ParameterType}
use Rattle.statement_parameters.specs.Masks.{is_plain}
use Rattle.statement_parameters.specs.Samples.{sample_text}
use Rattle.statement_parameters.specs.Readings.{IsTemplateReading}
use Rattle.statement_parameters.specs.Templates.{Fragment, parameter_count}
use Rattle.talks.specs.declared.want.SessionEntry.{SessionEntry}
use Rattle.talks.specs.declared.want.Way.TheVariants as way
use Rattle.talks.specs.declared.want.Want.TheVariants as want
use Rattle.postgres_talks.specs.declared.fault.TalkFault.{TalkFault}
use Rattle.postgres_talks.specs.declared.fault.TalkFault.TheVariants as fault
use Rattle.postgres_talks.specs.declared.moment.DescribedKind.TheVariants as named
use Rattle.postgres_talks.specs.declared.moment.Mode.{Mode}
use Rattle.postgres_talks.specs.declared.moment.Mode.TheVariants as mode
use Rattle.postgres_talks.specs.declared.moment.TalkStage.{TalkStage}
use Rattle.postgres_talks.specs.declared.moment.TalkStage.TheVariants as stage
use Rattle.postgres_talks.specs.declared.moment.TalkMoment.{TalkMoment}
use Rattle.postgres_talks.specs.declared.named_pieces.NamedPiece.{NamedPiece}
use Rattle.postgres_talks.specs.declared.parameters.TypedTemplate.{TypedTemplate}
use Rattle.postgres_talks.specs.declared.piece.StatementPiece.{StatementPiece}
use Rattle.postgres_talks.specs.declared.piece.StatementPiece.TheVariants as piece
use Rattle.postgres_talks.specs.declared.requests.Request.{Request}
use Rattle.postgres_talks.specs.declared.requests.Request.TheVariants as request
use Rattle.postgres_talks.specs.Sayings.{Saying, no_encryption, message, fatal_said}
use Rattle.postgres_talks.specs.Moments.{describes_found, discards, looks, ends, finishes, goes_on}
use Rattle.postgres_messages.specs.declared.backend.ValueFormat.{ValueFormat}
use Rattle.postgres_talks.specs.Formats.{are_format_codes, are_formats_for, format_of}
use Rattle.postgres_talks.specs.Settled.{settled_row}
use Rattle.postgres_talks.specs.Named.{find, put, put_bound, without}
use Rattle.postgres_talks.specs.Parameters.{IsBoundPiece, declared_types, takes_values, type_count}
use Rattle.postgres_talks.specs.Pieces.{ArePiecesOf}
use Rattle.postgres_talks.specs.Portals.{held_in, left_by}
use Rattle.postgres_talks.specs.Typing.{begins_typing, new_template}

-- bytes that are no message
abbrev pub broken : Request
broken = request.Breaks (fault.Refused ProtocolViolation)

abbrev pub denied : Request
denied = request.Breaks (fault.Refused InvalidAuthorization)

-- ---- packets of the start

-- the value of the first parameter of a name
abbrev pub parameter_of : List ℕ → List TheParameter → Option (List ℕ)
parameter_of name [] = None
parameter_of name (p ∷ ps) = if bytes_eq p.name name then Some p.value else parameter_of name ps

-- a role is named by text
abbrev pub login_of : Option (List ℕ) → Request
login_of None = denied
login_of (Some role) = if nat_lt 0 (length role) && is_utf8 role then request.Login role else denied

abbrev pub start_request : TheStart → Request
start_request ssl_request = request.Encryption
start_request gss_request = request.Encryption
start_request (cancel_request process key) = request.Leave
start_request (startup minor parameters) = if minor == 0 then login_of (parameter_of (codes "user") parameters) else request.Breaks fault.OtherVersion
start_request (other_version code body) = request.Breaks fault.OtherVersion

-- what the bytes of a packet of the start ask
pub data IsStartRequest (bytes : List ℕ) : Request → Type 0 where
  a_packet : (p : TheStart) → SpellsStart bytes p → IsStartRequest bytes (start_request p)
  no_packet : ((p : TheStart) → SpellsStart bytes p → ⊥) → IsStartRequest bytes broken

-- ---- messages

-- how many rows are asked for at most: 0, and a number below zero, stand for all
abbrev pub row_limit : ℕ → ℕ
row_limit n = if nat_lt n 2147483648 then n else 0

-- what a message asks that has no text
abbrev pub plain_request : TheMessage → Request
plain_request sync = request.Sync
plain_request terminate = request.Leave
plain_request flush = request.Nothing
plain_request (copy_data body) = request.Nothing
plain_request (copy_done body) = request.Nothing
plain_request (copy_fail body) = request.Nothing
plain_request (password body) = broken
plain_request (execute p n) = request.Execute p (row_limit n)
plain_request (close (statement name)) = request.CloseStatement name
plain_request (close (portal name)) = request.ClosePortal name
plain_request (describe (statement name)) = request.DescribeStatement name
plain_request (describe (portal name)) = request.DescribePortal name
plain_request m = request.Fails mode.Query fault.Unsupported

-- ---- statements that are prepared

-- one statement is prepared
abbrev pub prepare_request : List ℕ → List StatementPiece → Request
prepare_request name (p ∷ []) = request.Prepare name p
prepare_request name ps = request.Fails mode.Batch fault.SeveralStatements

-- one that has parameters is kept unless it is known already to be refused
abbrev pub template_request : List ℕ → TypedTemplate → List StatementPiece → Request
template_request name t (piece.Faulty f ∷ []) = request.Fails mode.Batch f
template_request name t (p ∷ []) = request.PrepareTemplate name t
template_request name t ps = request.Fails mode.Batch fault.SeveralStatements

-- what it is, with a sample of each type that is declared
abbrev pub IsSampledParse : List ℕ → TypedTemplate → Option (List ℕ) → Request → Type 0
IsSampledParse name t None r = r ≡ request.Fails mode.Batch (fault.Refused ProgramLimitExceeded)
IsSampledParse name t (Some text) r = (pieces : List StatementPiece) × ArePiecesOf false text pieces × (r ≡ template_request name t pieces)

abbrev pub IsTypedParse : List ℕ → LabelledTemplate → Option (List ParameterType) → Request → Type 0
IsTypedParse name t None r = r ≡ request.Fails mode.Batch fault.UnknownType
IsTypedParse name t (Some types) r =
    IsSampledParse name (record { template = t.template; labels = t.labels; types = types }) (sample_text (length types) kind.Text types t.template) r

-- there are at most 4096
abbrev pub template_fault : List Fragment → List ℕ → Option TalkFault
template_fault t oids =
    if takes_values t then (if nat_le (type_count t oids) 4096 then None else Some (fault.Refused ProgramLimitExceeded))
    else Some fault.UnknownParameter

abbrev pub IsTemplateParse : Option TalkFault → List ℕ → LabelledTemplate → List ℕ → Request → Type 0
IsTemplateParse (Some f) name t oids r = r ≡ request.Fails mode.Batch f
IsTemplateParse None name t oids r = IsTypedParse name t (declared_types t.template oids) r

abbrev pub IsPlainParse : List ℕ → List ℕ → Request → Type 0
IsPlainParse name text r = (pieces : List StatementPiece) × ArePiecesOf true text pieces × (r ≡ prepare_request name pieces)

-- a text without parameters is one of the language
abbrev pub IsCountedParse : Bool → List ℕ → List ℕ → LabelledTemplate → List ℕ → Request → Type 0
IsCountedParse true name text t oids r = IsPlainParse name text r
IsCountedParse false name text t oids r = IsTemplateParse (template_fault t.template oids) name t oids r

abbrev pub IsParseOf : Result LabelledTemplate TemplateFault → List ℕ → List ℕ → List ℕ → Request → Type 0
IsParseOf (Ok t) name text oids r = IsCountedParse (parameter_count t.template == 0) name text t oids r
IsParseOf (Err unread.UnknownParameter) name text oids r = r ≡ request.Fails mode.Batch fault.UnknownParameter
IsParseOf (Err f) name text oids r = IsPlainParse name text r

abbrev pub IsReadParse : List ℕ → List ℕ → List ℕ → Request → Type 0
IsReadParse name text oids r = (read : Result LabelledTemplate TemplateFault) × IsTemplateReading text read × IsParseOf read name text oids r

-- a plain text has none
abbrev pub IsParseBy : Bool → List ℕ → List ℕ → List ℕ → Request → Type 0
IsParseBy true name text oids r = IsPlainParse name text r
IsParseBy false name text oids r = IsReadParse name text oids r

abbrev pub IsParse : List ℕ → List ℕ → List ℕ → Request → Type 0
IsParse name text oids r = IsParseBy (is_plain text) name text oids r

-- ---- statements that are bound

abbrev pub IsBindOf : Option NamedPiece → List ℕ → List ℕ → TheBinding → Request → Type 0
IsBindOf found p s b r = (bound : Result StatementPiece TalkFault) × IsBoundPiece found b bound × (r ≡ request.Bind p s bound (map format_of b.results))

abbrev pub IsBindBy : Bool → Option NamedPiece → List ℕ → List ℕ → TheBinding → Request → Type 0
IsBindBy true found p s b r = IsBindOf found p s b r
IsBindBy false found p s b r = r ≡ request.Fails mode.Batch fault.UnknownFormat

-- in formats that there are
abbrev pub IsBind : List NamedPiece → List ℕ → List ℕ → TheBinding → Request → Type 0
IsBind ns p s b r = IsBindBy (are_format_codes b.results) (find s ns) p s b r

-- what a message asks, where these statements were prepared
abbrev pub IsAskedBy : List NamedPiece → TheMessage → Request → Type 0
IsAskedBy ns (query text) r = (pieces : List StatementPiece) × ArePiecesOf true text pieces × (r ≡ request.Statements pieces)
IsAskedBy ns (parse name text oids) r = IsParse name text oids r
IsAskedBy ns (bind p s b) r = IsBind ns p s b r
IsAskedBy ns m r = r ≡ plain_request m

-- by what rules a message is answered, by its first byte: Q is a simple query
abbrev pub mode_of : List ℕ → Mode
mode_of [] = mode.Batch
mode_of (b ∷ bs) = if b == 81 then mode.Query else mode.Batch

-- what the bytes of a message ask
pub data IsMessageRequest (ns : List NamedPiece) (bytes : List ℕ) : Request → Type 0 where
  a_message : {r : Request} (m : TheMessage) → SpellsMessage bytes m → is_text m ≡ true → IsAskedBy ns m r → IsMessageRequest ns bytes r
  no_text : (m : TheMessage) → SpellsMessage bytes m → is_text m ≡ false → IsMessageRequest ns bytes (request.Fails (mode_of bytes) fault.NotText)
  no_message : ((m : TheMessage) → SpellsMessage bytes m → ⊥) → IsMessageRequest ns bytes broken

abbrev pub IsRequestAt : TalkStage → List NamedPiece → List ℕ → Request → Type 0
IsRequestAt stage.Starting ns bytes r = IsStartRequest bytes r
IsRequestAt s ns bytes r = IsMessageRequest ns bytes r

-- by how the connection stands
abbrev pub IsRequest : TalkMoment → List ℕ → Request → Type 0
IsRequest m bytes r = IsRequestAt m.stage m.statements bytes r

-- ---- what is said to a request

-- anyone may open a session, for any role
abbrev pub anyone : SessionEntry
anyone = record { way = way.Anyone; no_superuser = false; shown = None }

-- behind an error in a batch all is passed over up to Sync
abbrev pub heeded_skipping : Request → Request
heeded_skipping request.Sync = request.Sync
heeded_skipping request.Leave = request.Leave
heeded_skipping (request.Breaks f) = request.Breaks f
heeded_skipping r = request.Nothing

abbrev pub heeded : Mode → Request → Request
heeded mode.Skipping r = heeded_skipping r
heeded t r = r

-- a name other than the empty one that is there
abbrev pub is_taken : List ℕ → List NamedPiece → Bool
is_taken [] ns = false
is_taken name ns = is_some (find name ns)

abbrev pub prepare_fault : List ℕ → List NamedPiece → Option TalkFault
prepare_fault name ns = if is_taken name ns then Some fault.StatementExists else (if nat_le 512 (length ns) then Some (fault.Refused ProgramLimitExceeded) else None)

-- why what was bound is none, or why there is no place for it
abbrev pub bound_fault : Result StatementPiece TalkFault → ℕ → Option TalkFault
bound_fault (Err f) portals = Some f
bound_fault (Ok p) portals = if nat_le 64 portals then Some (fault.Refused ProgramLimitExceeded) else None

abbrev pub bind_fault : List ℕ → Result StatementPiece TalkFault → List NamedPiece → Option TalkFault
bind_fault name bound ns = if is_taken name ns then Some fault.PortalExists else bound_fault bound (length ns)

abbrev pub if_found : Option NamedPiece → TalkFault → Option TalkFault → Option TalkFault
if_found None missing others = Some missing
if_found (Some p) missing others = others

-- the first of two
abbrev pub or_else : Option TalkFault → Option TalkFault → Option TalkFault
or_else None f = f
or_else (Some f) g = Some f

-- how many columns its client knows: a text that is answered without the machine has one, if it answers a row
abbrev pub row_width : Option (List ℕ × List ℕ) → Option ℕ
row_width None = None
row_width (Some r) = Some 1

abbrev pub piece_width : StatementPiece → Option ℕ
piece_width (piece.Settled x ls) = row_width (settled_row x)
piece_width p = None

abbrev pub known_width : Option (List ResultColumn) → StatementPiece → Option ℕ
known_width None p = piece_width p
known_width (Some columns) p = Some (length columns)

abbrev pub width_fault : List ValueFormat → Option ℕ → Option TalkFault
width_fault fs None = None
width_fault fs (Some n) = if are_formats_for fs n then None else Some fault.OtherFormats

abbrev pub formats_fault : List ValueFormat → Option NamedPiece → Option TalkFault
formats_fault fs None = None
formats_fault fs (Some n) = width_fault fs (known_width n.columns n.piece)

-- why it is not done
abbrev pub fault_of : Request → TalkMoment → Option TalkFault
fault_of (request.Prepare name p) m = prepare_fault name m.statements
fault_of (request.PrepareTemplate name t) m = prepare_fault name m.statements
fault_of (request.Bind name prepared bound fs) m = if_found (find prepared m.statements) fault.UnknownStatement (or_else (bind_fault name bound m.portals) (formats_fault fs (find prepared m.statements)))
fault_of (request.Execute name n) m = if_found (find name m.portals) fault.UnknownPortal None
fault_of (request.DescribeStatement name) m = if_found (find name m.statements) fault.UnknownStatement None
fault_of (request.DescribePortal name) m = if_found (find name m.portals) fault.UnknownPortal None
fault_of (request.Fails t f) m = Some f
fault_of r m = None

-- by what rules it is answered
abbrev pub mode_for : Request → Mode → Mode
mode_for (request.Statements pieces) t = mode.Query
mode_for (request.Prepare name p) t = mode.Batch
mode_for (request.PrepareTemplate name p) t = mode.Batch
mode_for (request.Bind name prepared bound fs) t = mode.Batch
mode_for (request.Execute name n) t = mode.Batch
mode_for (request.DescribeStatement name) t = mode.Batch
mode_for (request.DescribePortal name) t = mode.Batch
mode_for (request.CloseStatement name) t = mode.Batch
mode_for (request.ClosePortal name) t = mode.Batch
mode_for (request.Fails s f) t = s
mode_for request.Sync t = mode.Query
mode_for r t = t

abbrev pub said_to_done : Request → List Saying
said_to_done request.Encryption = no_encryption ∷ []
said_to_done (request.Prepare name p) = message parse_complete ∷ []
said_to_done (request.Bind name prepared bound fs) = message bind_complete ∷ []
said_to_done (request.CloseStatement name) = message close_complete ∷ []
said_to_done (request.ClosePortal name) = message close_complete ∷ []
said_to_done (request.Breaks f) = fatal_said f ∷ []
said_to_done r = []

abbrev pub said_unless : Option TalkFault → Request → List Saying
said_unless (Some f) r = []
said_unless None r = said_to_done r

abbrev pub left_of : Option NamedPiece → List StatementPiece
left_of None = []
left_of (Some n) = left_by n.rest n.piece

-- the columns that its client was told
abbrev pub columns_of : Option NamedPiece → Option (List ResultColumn)
columns_of None = None
columns_of (Some n) = n.columns

-- the formats in which its rows are wanted
abbrev pub formats_in : Option NamedPiece → List ValueFormat
formats_in None = []
formats_in (Some n) = n.formats

abbrev pub new_statement : List ℕ → StatementPiece → NamedPiece
new_statement name p = record { name = name; piece = p; columns = None; formats = []; parameters = None; rest = None }

-- with what was found under a name, which is no portal until it is known what is left of its answer
abbrev pub executes : Option NamedPiece → List ℕ → ℕ → TalkMoment → TalkMoment
executes found name n m = record m { left = left_of found; columns = columns_of found; formats = formats_in found; most = n; portal = found; portals = without name m.portals }

-- DISCARD ALL begins no block
abbrev pub carries_out : StatementPiece → TalkMoment → TalkMoment
carries_out piece.DiscardAll m = discards m.block (record m { left = [] })
carries_out p m = goes_on m

-- what is left of an answer is told without the machine
abbrev pub carries_by : Option (List (List Value)) → StatementPiece → TalkMoment → TalkMoment
carries_by None p m = carries_out p m
carries_by (Some rows) p m = looks stage.Resuming m

abbrev pub carries_on : Option NamedPiece → TalkMoment → TalkMoment
carries_on None m = goes_on m
carries_on (Some n) m = carries_by n.rest n.piece m

abbrev pub after_done_request : Request → TalkMoment → TalkMoment
after_done_request (request.Login role) m = record m { stage = stage.Opening; want = want.Open 1 role anyone }
after_done_request (request.Statements pieces) m = goes_on (record m { left = pieces; most = 0 })
after_done_request (request.Prepare name p) m = record m { statements = put (new_statement name p) m.statements }
after_done_request (request.PrepareTemplate name t) m = begins_typing t (record m { name = name; statements = put (new_template name piece.Empty t) m.statements })
after_done_request (request.Bind name prepared bound fs) m = record m { portals = put_bound name fs bound (find prepared m.statements) m.portals }
after_done_request (request.Execute name n) m = carries_on (find name m.portals) (executes (find name m.portals) name n m)
after_done_request (request.DescribeStatement name) m = describes_found named.Statement (find name m.statements) (record m { name = name; formats = [] })
after_done_request (request.DescribePortal name) m = describes_found named.Portal (find name m.portals) (record m { name = name; formats = formats_in (find name m.portals) })
after_done_request (request.CloseStatement name) m = record m { statements = without name m.statements }
after_done_request (request.ClosePortal name) m = record m { portals = without name m.portals }
after_done_request request.Sync m = finishes m.block m.mode (record m { portals = held_in m.block m.portals })
after_done_request request.Leave m = ends m
after_done_request (request.Breaks f) m = ends m
after_done_request r m = m

abbrev pub after_unless : Option TalkFault → Request → TalkMoment → TalkMoment
after_unless (Some f) r m = looks (stage.Refusing f) (record m { mode = mode_for r m.mode })
after_unless None r m = after_done_request r (record m { mode = mode_for r m.mode })

abbrev pub said_to_request : Request → TalkMoment → List Saying
said_to_request r m = said_unless (fault_of (heeded m.mode r) m) (heeded m.mode r)

abbrev pub after_request : Request → TalkMoment → TalkMoment
after_request r m = after_unless (fault_of (heeded m.mode r) m) (heeded m.mode r) m
