-- What a client is told of an error: its code and its sentence.
use Rattle.std.specs.Prelude.{ℕ, List, codes, Option, Some, None}
use Rattle.sql_types.specs.State.{state_code}
use Rattle.postgres_texts.specs.Sentences.{refusal_text}
use Rattle.postgres_talks.specs.declared.fault.TalkFault.{TalkFault}
use Rattle.postgres_talks.specs.declared.fault.TalkFault.TheVariants.{Refused, SyntaxAt, NotText, OtherVersion, Unsupported, Internal, ReservedWord, Catalogue, SeveralStatements, UnknownStatement, UnknownPortal, StatementExists, PortalExists, OtherCount, OtherColumns, UnknownFormat, OtherFormats, UnknownParameter, IndeterminateType, UnknownType, InvalidText, InvalidBinary, OtherTokens, InsideBlock, OnlyReads}

abbrev pub fault_code : TalkFault → List ℕ
fault_code (Refused state) = state_code state
fault_code (SyntaxAt n) = codes "42601"
fault_code NotText = codes "22021"
fault_code OtherVersion = codes "0A000"
fault_code Unsupported = codes "0A000"
fault_code Internal = codes "XX000"
fault_code ReservedWord = codes "0A000"
fault_code Catalogue = codes "0A000"
fault_code SeveralStatements = codes "42601"
fault_code UnknownStatement = codes "26000"
fault_code UnknownPortal = codes "34000"
fault_code StatementExists = codes "42P05"
fault_code PortalExists = codes "42P03"
fault_code OtherCount = codes "08P01"
fault_code OtherColumns = codes "0A000"
fault_code UnknownFormat = codes "22023"
fault_code OtherFormats = codes "08P01"
fault_code UnknownParameter = codes "42P02"
fault_code IndeterminateType = codes "42P18"
fault_code UnknownType = codes "0A000"
fault_code InvalidText = codes "22P02"
fault_code InvalidBinary = codes "22P03"
fault_code OtherTokens = codes "XX000"
fault_code InsideBlock = codes "25001"
fault_code OnlyReads = codes "25006"

abbrev pub fault_text : TalkFault → List ℕ
fault_text (Refused state) = refusal_text state
fault_text (SyntaxAt n) = codes "syntax error"
fault_text NotText = codes "invalid byte sequence for encoding \"UTF8\""
fault_text OtherVersion = codes "version of the protocol is not 3.0"
fault_text Unsupported = codes "message is not supported"
fault_text Internal = codes "transaction block ended unexpectedly"
fault_text ReservedWord = codes "word that PostgreSQL reserves is not supported"
fault_text Catalogue = codes "catalogues are not supported"
fault_text SeveralStatements = codes "cannot insert multiple commands into a prepared statement"
fault_text UnknownStatement = codes "prepared statement does not exist"
fault_text UnknownPortal = codes "portal does not exist"
fault_text StatementExists = codes "prepared statement already exists"
fault_text PortalExists = codes "portal already exists"
fault_text OtherCount = codes "number of parameters is another"
fault_text OtherColumns = codes "cached plan must not change result type"
fault_text UnknownFormat = codes "format code is not supported"
fault_text OtherFormats = codes "number of format codes is another"
fault_text UnknownParameter = codes "there is no such parameter"
fault_text IndeterminateType = codes "could not determine data type of parameter"
fault_text UnknownType = codes "type of a parameter is not supported"
fault_text InvalidText = codes "invalid input syntax for the type of a parameter"
fault_text InvalidBinary = codes "incorrect binary data format in a parameter"
fault_text OtherTokens = codes "statement with its values has other tokens"
fault_text InsideBlock = codes "DISCARD ALL cannot run inside a transaction block"
fault_text OnlyReads = codes "cannot execute statement in a read-only transaction"

-- the character of the client's text at which it stands, where that is told
abbrev pub fault_position : TalkFault → Option ℕ
fault_position (SyntaxAt n) = Some n
fault_position f = None
