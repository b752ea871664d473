-- The sentence of an error tells whether it spares a block.
use Rattle.std.proofs.Common.{◌≡◌, false, refl}
use Rattle.sql_types.specs.declared.state.SqlState.{SqlState}
use Rattle.sql_types.specs.declared.state.SqlState.TheVariants as state
use Rattle.postgres_texts.specs.Sentences.{refusal_text}
use Rattle.postgres_talks.specs.declared.fault.TalkFault.{TalkFault}
use Rattle.postgres_talks.specs.declared.fault.TalkFault.TheVariants as fault
use Rattle.postgres_talks.specs.Blocks.{is_excused}
use Rattle.postgres_talks.specs.Faults.{fault_text}
use Rattle.postgres_talks.specs.Moments.{spares}

state_spares : (s : SqlState) → is_excused (refusal_text s) ≡ false
state_spares state.SyntaxError = refl
state_spares state.NameTooLong = refl
state_spares state.UndefinedTable = refl
state_spares state.UndefinedColumn = refl
state_spares state.AmbiguousColumn = refl
state_spares state.DuplicateAlias = refl
state_spares state.UndefinedObject = refl
state_spares state.DuplicateTable = refl
state_spares state.DuplicateObject = refl
state_spares state.DuplicateColumn = refl
state_spares state.DatatypeMismatch = refl
state_spares state.InsufficientPrivilege = refl
state_spares state.InvalidGrantOperation = refl
state_spares state.DependentPrivileges = refl
state_spares state.DependentObjects = refl
state_spares state.DivisionByZero = refl
state_spares state.NumericValueOutOfRange = refl
state_spares state.NotNullViolation = refl
state_spares state.UniqueViolation = refl
state_spares state.InFailedTransaction = refl
state_spares state.LockNotAvailable = refl
state_spares state.InvalidAuthorization = refl
state_spares state.ProgramLimitExceeded = refl
state_spares state.TooManyConnections = refl
state_spares state.DiskFull = refl
state_spares state.OutOfMemory = refl
state_spares state.IoError = refl
state_spares state.ProtocolViolation = refl
state_spares state.ConnectionDoesNotExist = refl
state_spares state.ConnectionNameInUse = refl

pub text_spares : (f : TalkFault) → is_excused (fault_text f) ≡ spares f
text_spares (fault.Refused s) = state_spares s
text_spares (fault.SyntaxAt n) = refl
text_spares fault.NotText = refl
text_spares fault.OtherVersion = refl
text_spares fault.Unsupported = refl
text_spares fault.Internal = refl
text_spares fault.ReservedWord = refl
text_spares fault.Catalogue = refl
text_spares fault.SeveralStatements = refl
text_spares fault.UnknownStatement = refl
text_spares fault.UnknownPortal = refl
text_spares fault.StatementExists = refl
text_spares fault.PortalExists = refl
text_spares fault.OtherCount = refl
text_spares fault.OtherColumns = refl
text_spares fault.UnknownFormat = refl
text_spares fault.OtherFormats = refl
text_spares fault.UnknownParameter = refl
text_spares fault.IndeterminateType = refl
text_spares fault.UnknownType = refl
text_spares fault.InvalidText = refl
text_spares fault.InvalidBinary = refl
text_spares fault.OtherTokens = refl
text_spares fault.InsideBlock = refl
text_spares fault.OnlyReads = refl
