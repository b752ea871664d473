-- The kinds of messages that a client sends, and the byte of each (PostgreSQL 15 manual, 55.7).
use Rattle.std.specs.Prelude.{◌==◌, ℕ, if◌then◌else◌, Option, Some, None}
use Rattle.postgres_messages.specs.declared.kind.MessageKind.{MessageKind}
use Rattle.postgres_messages.specs.declared.kind.MessageKind.TheVariants.{Bind, Close, CopyData, CopyDone, CopyFail, Describe, Execute, Flush, FunctionCall, Parse, Password, Query, Sync, Terminate}

-- B C d c f D E H F P p Q S X
abbrev pub byte_of : MessageKind → ℕ
byte_of Bind = 66
byte_of Close = 67
byte_of CopyData = 100
byte_of CopyDone = 99
byte_of CopyFail = 102
byte_of Describe = 68
byte_of Execute = 69
byte_of Flush = 72
byte_of FunctionCall = 70
byte_of Parse = 80
byte_of Password = 112
byte_of Query = 81
byte_of Sync = 83
byte_of Terminate = 88

-- the kind whose byte this is
unfoldable pub kind_of : ℕ → Option MessageKind
kind_of byte =
    if byte == 66 then Some Bind
    else (if byte == 67 then Some Close
    else (if byte == 100 then Some CopyData
    else (if byte == 99 then Some CopyDone
    else (if byte == 102 then Some CopyFail
    else (if byte == 68 then Some Describe
    else (if byte == 69 then Some Execute
    else (if byte == 72 then Some Flush
    else (if byte == 70 then Some FunctionCall
    else (if byte == 80 then Some Parse
    else (if byte == 112 then Some Password
    else (if byte == 81 then Some Query
    else (if byte == 83 then Some Sync
    else (if byte == 88 then Some Terminate
    else None)))))))))))))
