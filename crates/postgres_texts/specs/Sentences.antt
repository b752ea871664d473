-- What is said of a refusal and of a warning, in English. The sentences name nothing, so each code has one.
use Rattle.std.specs.Prelude.{ℕ, List, codes}
use Rattle.sql_types.specs.declared.state.SqlState.{SqlState}
use Rattle.sql_types.specs.declared.state.SqlState.TheVariants.{SyntaxError, NameTooLong, UndefinedTable, UndefinedColumn, AmbiguousColumn, DuplicateAlias, UndefinedObject, DuplicateTable, DuplicateObject, DuplicateColumn, DatatypeMismatch, InsufficientPrivilege, InvalidGrantOperation, DependentPrivileges, DependentObjects, DivisionByZero, NumericValueOutOfRange, NotNullViolation, UniqueViolation, InFailedTransaction, LockNotAvailable, InvalidAuthorization, ProgramLimitExceeded, TooManyConnections, DiskFull, OutOfMemory, IoError, ProtocolViolation, ConnectionDoesNotExist, ConnectionNameInUse}
use Rattle.sql_types.specs.declared.warning.Warning.{Warning}
use Rattle.sql_types.specs.declared.warning.Warning.TheVariants.{PrivilegeNotRevoked, PrivilegeNotGranted, ActiveTransaction, NoActiveTransaction}

abbrev pub refusal_text : SqlState → List ℕ
refusal_text SyntaxError = codes "syntax error"
refusal_text NameTooLong = codes "name of over 63 bytes"
refusal_text UndefinedTable = codes "no such table"
refusal_text UndefinedColumn = codes "no such column"
refusal_text AmbiguousColumn = codes "column name that two tables have"
refusal_text DuplicateAlias = codes "two tables under the same name"
refusal_text UndefinedObject = codes "no such role or policy"
refusal_text DuplicateTable = codes "table exists already"
refusal_text DuplicateObject = codes "role or policy exists already"
refusal_text DuplicateColumn = codes "column that is named twice"
refusal_text DatatypeMismatch = codes "value of the wrong type"
refusal_text InsufficientPrivilege = codes "permission denied"
refusal_text InvalidGrantOperation = codes "grant option to PUBLIC, or cycle of memberships"
refusal_text DependentPrivileges = codes "other privileges depend on what is revoked"
refusal_text DependentObjects = codes "role is still in use"
refusal_text DivisionByZero = codes "division by zero"
refusal_text NumericValueOutOfRange = codes "bigint out of range"
refusal_text NotNullViolation = codes "null value in a column that is NOT NULL"
refusal_text UniqueViolation = codes "duplicate key: another row has this primary key"
refusal_text InFailedTransaction = codes "current transaction is aborted, commands ignored until end of transaction block"
refusal_text LockNotAvailable = codes "another session holds the writer lock"
refusal_text InvalidAuthorization = codes "login refused"
refusal_text ProgramLimitExceeded = codes "limit exceeded"
refusal_text TooManyConnections = codes "too many sessions"
refusal_text DiskFull = codes "disk full"
refusal_text OutOfMemory = codes "out of memory"
refusal_text IoError = codes "device failed, and the server has stopped"
refusal_text ProtocolViolation = codes "protocol violation"
refusal_text ConnectionDoesNotExist = codes "session is not open"
refusal_text ConnectionNameInUse = codes "session is open already"

abbrev pub warning_text : Warning → List ℕ
warning_text PrivilegeNotRevoked = codes "not all privileges could be revoked"
warning_text PrivilegeNotGranted = codes "not all privileges were granted"
warning_text ActiveTransaction = codes "there is already a transaction in progress"
warning_text NoActiveTransaction = codes "there is no transaction in progress"
