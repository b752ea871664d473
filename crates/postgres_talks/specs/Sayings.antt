-- What is said to a client: whole messages, and before them one byte.
use Rattle.std.specs.Prelude.{◌≡◌, ℕ, List, [], ◌∷◌, ◌++◌, All, None}
use Rattle.std.specs.List.{flat_map}
use Rattle.postgres_messages.specs.Backend.{TheReport, TheReply, error_response, notice_response, ready_for_query, command_complete, reply_bytes, IsWritable}
use Rattle.postgres_messages.specs.declared.backend.Severity.{Severity}
use Rattle.postgres_messages.specs.declared.backend.Severity.TheVariants.{Error, Fatal, Warning}
use Rattle.postgres_messages.specs.declared.backend.BlockStatus.{BlockStatus}
use Rattle.postgres_messages.specs.declared.backend.BlockStatus.TheVariants.{Idle, InBlock, Failed}
use Rattle.sql_types.specs.State.{warning_code}
use Rattle.sql_types.specs.declared.warning.Warning.{Warning as TheWarning}
use Rattle.postgres_texts.specs.Sentences.{warning_text}
use Rattle.talks.specs.declared.want.BlockStanding.{BlockStanding}
use Rattle.talks.specs.declared.want.BlockStanding.TheVariants as standing
use Rattle.postgres_talks.specs.declared.fault.TalkFault.{TalkFault}
use Rattle.postgres_talks.specs.Faults.{fault_code, fault_position, fault_text}

pub data Saying : Type 0 where
  -- the byte N: the connection is not encrypted
  no_encryption : Saying
  message : TheReply → Saying

abbrev pub saying_bytes : Saying → List ℕ
saying_bytes no_encryption = 78 ∷ []
saying_bytes (message m) = reply_bytes m

-- its length is that of what it holds, and fits
abbrev pub IsSayable : Saying → Type 0
IsSayable no_encryption = Unit {0}
IsSayable (message m) = IsWritable m

abbrev pub said_bytes : List Saying → List ℕ
said_bytes sayings = flat_map saying_bytes sayings

-- these bytes are all this, each of which has a form
pub record Says (sayings : List Saying) (said : List ℕ) : Type 0 where
  pub each : All IsSayable sayings
  pub bytes : said ≡ said_bytes sayings

-- all this was said behind what was said before
pub record Puts (sayings : List Saying) (old new : List ℕ) : Type 0 where
  pub each : All IsSayable sayings
  pub bytes : new ≡ old ++ said_bytes sayings

-- ---- messages of a few kinds

abbrev pub report_of : Severity → TalkFault → TheReport
report_of severity f = record { severity = severity; code = fault_code f; message = fault_text f; position = fault_position f }

-- a statement has failed
abbrev pub error_said : TalkFault → Saying
error_said f = message (error_response (report_of Error f))

-- the connection ends
abbrev pub fatal_said : TalkFault → Saying
fatal_said f = message (error_response (report_of Fatal f))

abbrev pub warning_said : TheWarning → Saying
warning_said w = message (notice_response (record { severity = Warning; code = warning_code w; message = warning_text w; position = None }))

-- I, T, E
abbrev pub status_of : BlockStanding → BlockStatus
status_of standing.Outside = Idle
status_of standing.Inside = InBlock
status_of standing.Failed = Failed

abbrev pub ready_said : BlockStanding → Saying
ready_said s = message (ready_for_query (status_of s))

abbrev pub complete_said : List ℕ → Saying
complete_said tag = message (command_complete tag)
