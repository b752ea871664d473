-- The messages of a server, and the bytes of each (PostgreSQL 15 manual, 55.7 and 55.8).
use Rattle.std.specs.Prelude.{◌<◌, ◌+◌, ◌^◌, ℕ, List, [], ◌∷◌, ◌++◌, length, codes, decimal, Option, Some, None}
use Rattle.postgres_messages.specs.declared.backend.DataType.{DataType}
use Rattle.postgres_messages.specs.declared.backend.DataType.TheVariants.{Int8, Text, Bool as Boolean}
use Rattle.postgres_messages.specs.declared.backend.ValueFormat.{ValueFormat}
use Rattle.postgres_messages.specs.declared.backend.ValueFormat.TheVariants as format
use Rattle.postgres_messages.specs.declared.backend.Severity.{Severity}
use Rattle.postgres_messages.specs.declared.backend.Severity.TheVariants.{Error, Fatal, Panic, Warning, Notice}
use Rattle.postgres_messages.specs.declared.backend.BlockStatus.{BlockStatus}
use Rattle.postgres_messages.specs.declared.backend.BlockStatus.TheVariants.{Idle, InBlock, Failed}
use Rattle.postgres_messages.specs.Fields.{int16, int32, string, HasNoZeroByte, value, HasShortValue, counted, AreCounted, packet}

-- a column of an answer
pub record TheColumn : Type 0 where
  pub name : List ℕ
  pub data_type : DataType
  pub format : ValueFormat

-- what an error or a notice says
pub record TheReport : Type 0 where
  pub severity : Severity
  pub code : List ℕ
  pub message : List ℕ
  pub position : Option ℕ

pub data TheReply : Type 0 where
  authentication_ok : TheReply
  authentication_sasl : List ℕ → TheReply  -- the mechanism that is offered
  authentication_continue : List ℕ → TheReply
  authentication_final : List ℕ → TheReply
  backend_key_data : ℕ → ℕ → TheReply
  bind_complete : TheReply
  close_complete : TheReply
  command_complete : List ℕ → TheReply
  data_row : List (Option (List ℕ)) → TheReply
  empty_query_response : TheReply
  error_response : TheReport → TheReply
  no_data : TheReply
  notice_response : TheReport → TheReply
  parameter_description : List ℕ → TheReply
  parameter_status : List ℕ → List ℕ → TheReply
  parse_complete : TheReply
  portal_suspended : TheReply
  ready_for_query : BlockStatus → TheReply
  row_description : List TheColumn → TheReply

-- R R R R K 2 3 C D I E n N t S 1 s Z T
abbrev pub reply_kind : TheReply → ℕ
reply_kind authentication_ok = 82
reply_kind (authentication_sasl mechanism) = 82
reply_kind (authentication_continue challenge) = 82
reply_kind (authentication_final outcome) = 82
reply_kind (backend_key_data process key) = 75
reply_kind bind_complete = 50
reply_kind close_complete = 51
reply_kind (command_complete tag) = 67
reply_kind (data_row values) = 68
reply_kind empty_query_response = 73
reply_kind (error_response r) = 69
reply_kind no_data = 110
reply_kind (notice_response r) = 78
reply_kind (parameter_description types) = 116
reply_kind (parameter_status name value) = 83
reply_kind parse_complete = 49
reply_kind portal_suspended = 115
reply_kind (ready_for_query status) = 90
reply_kind (row_description columns) = 84

-- the number of a type in pg_type
abbrev pub type_number : DataType → ℕ
type_number Int8 = 20
type_number Text = 25
type_number Boolean = 16

-- its size, an Int16; -1 where it varies
abbrev pub type_size : DataType → ℕ
type_size Int8 = 8
type_size Text = 0xFFFF
type_size Boolean = 1

abbrev pub format_code : ValueFormat → ℕ
format_code format.Text = 0
format_code format.Binary = 1

-- a column: its name, no table and no column of one, its type and size, no modifier, its format
abbrev pub column : TheColumn → List ℕ
column c = string c.name ++ (int32 0 ++ (int16 0 ++ (int32 (type_number c.data_type) ++ (int16 (type_size c.data_type)
    ++ (int32 0xFFFFFFFF ++ int16 (format_code c.format))))))

abbrev pub severity_text : Severity → List ℕ
severity_text Error = codes "ERROR"
severity_text Fatal = codes "FATAL"
severity_text Panic = codes "PANIC"
severity_text Warning = codes "WARNING"
severity_text Notice = codes "NOTICE"

-- a field of a report: its kind and its text
abbrev pub report_field : ℕ → List ℕ → List ℕ
report_field kind text = kind ∷ string text

abbrev pub position_field : Option ℕ → List ℕ
position_field None = []
position_field (Some n) = report_field 80 (decimal n)

-- S and V: the severity, the second never translated; C: the code; M: the message; P: the position; and a zero
abbrev pub report : TheReport → List ℕ
report r = report_field 83 (severity_text r.severity) ++ (report_field 86 (severity_text r.severity)
    ++ (report_field 67 r.code ++ (report_field 77 r.message ++ (position_field r.position ++ (0 ∷ [])))))

-- I, T, E
abbrev pub status_byte : BlockStatus → ℕ
status_byte Idle = 73
status_byte InBlock = 84
status_byte Failed = 69

abbrev pub reply_body : TheReply → List ℕ
reply_body authentication_ok = int32 0
reply_body (authentication_sasl mechanism) = int32 10 ++ (string mechanism ++ (0 ∷ []))
reply_body (authentication_continue challenge) = int32 11 ++ challenge
reply_body (authentication_final outcome) = int32 12 ++ outcome
reply_body (backend_key_data process key) = int32 process ++ int32 key
reply_body bind_complete = []
reply_body close_complete = []
reply_body (command_complete tag) = string tag
reply_body (data_row values) = counted value values
reply_body empty_query_response = []
reply_body (error_response r) = report r
reply_body no_data = []
reply_body (notice_response r) = report r
reply_body (parameter_description types) = counted int32 types
reply_body (parameter_status name value) = string name ++ string value
reply_body parse_complete = []
reply_body portal_suspended = []
reply_body (ready_for_query status) = status_byte status ∷ []
reply_body (row_description columns) = counted column columns

abbrev pub reply_bytes : TheReply → List ℕ
reply_bytes m = packet (reply_kind m) (reply_body m)

abbrev pub HasTexts : TheReport → Type 0
HasTexts r = HasNoZeroByte r.code × HasNoZeroByte r.message

-- texts have no zero inside, and counts and lengths of values fit
abbrev pub HasReply : TheReply → Type 0
HasReply (authentication_sasl mechanism) = HasNoZeroByte mechanism
HasReply (command_complete tag) = HasNoZeroByte tag
HasReply (data_row values) = AreCounted HasShortValue values
HasReply (error_response r) = HasTexts r
HasReply (notice_response r) = HasTexts r
HasReply (parameter_description types) = length types < 2 ^ 16
HasReply (parameter_status name value) = HasNoZeroByte name × HasNoZeroByte value
HasReply (row_description columns) = AreCounted (λ c. HasNoZeroByte c.name) columns
HasReply _ = Unit {0}

-- it can be written: its length is a positive Int32 too
pub record IsWritable (m : TheReply) : Type 0 where
  pub has_reply : HasReply m
  pub has_length : 4 + length (reply_body m) < 2 ^ 31
