-- Tests of lists that compute, and what they say of each element.
use Rattle.std.proofs.Common.{◌≡◌, ◌≢◌, ℕ, zero, suc, Bool, true, false, if◌then◌else◌, List, [], ◌∷◌, refl, All, arith}
use Rattle.std.proofs.lemmas.List.Elements.{All-nil, All-cons}
use Rattle.sql_types.specs.declared.state.SqlState.{SqlState}
use Rattle.sql_types.specs.declared.state.SqlState.TheVariants.{SyntaxError, NameTooLong, UndefinedTable, UndefinedColumn, AmbiguousColumn, DuplicateAlias, UndefinedObject, DuplicateTable, DuplicateObject, DuplicateColumn, DatatypeMismatch, InsufficientPrivilege, InvalidGrantOperation, DependentPrivileges, DependentObjects, DivisionByZero, NumericValueOutOfRange, NotNullViolation, UniqueViolation, InFailedTransaction, LockNotAvailable, InvalidAuthorization, ProgramLimitExceeded, TooManyConnections, DiskFull, OutOfMemory, IoError, ProtocolViolation, ConnectionDoesNotExist, ConnectionNameInUse}
use Rattle.sql_types.specs.declared.warning.Warning.{Warning}
use Rattle.sql_types.specs.declared.warning.Warning.TheVariants.{PrivilegeNotRevoked, PrivilegeNotGranted, ActiveTransaction, NoActiveTransaction}
use Rattle.sql_lexer.specs.declared.token.TokenKind.{TokenKind}
use Rattle.sql_lexer.specs.declared.token.TokenKind.TheVariants as kind
use Rattle.sql_lexer.specs.Word.{word_kind}
use Rattle.postgres_texts.specs.Sentences.{refusal_text, warning_text}
use Rattle.postgres_texts.specs.Reserved.{reserved_words}

abbrev has_no_zero : List ℕ → Bool
has_no_zero [] = true
has_no_zero (zero ∷ bytes) = false
has_no_zero (suc n ∷ bytes) = has_no_zero bytes

no_zero : (bytes : List ℕ) → has_no_zero bytes ≡ true → All (λ byte. byte ≢ 0) bytes
no_zero [] is = All-nil (λ byte. byte ≢ 0)
no_zero (zero ∷ bytes) is = let no : false ≡ true = is in absurd cc
no_zero (suc n ∷ bytes) is = All-cons (λ byte. byte ≢ 0) (suc n) bytes (omega arith) (no_zero bytes is)

pub no_zero_in_refusal : (state : SqlState) → All (λ byte. byte ≢ 0) (refusal_text state)
no_zero_in_refusal SyntaxError = no_zero (refusal_text SyntaxError) refl
no_zero_in_refusal NameTooLong = no_zero (refusal_text NameTooLong) refl
no_zero_in_refusal UndefinedTable = no_zero (refusal_text UndefinedTable) refl
no_zero_in_refusal UndefinedColumn = no_zero (refusal_text UndefinedColumn) refl
no_zero_in_refusal AmbiguousColumn = no_zero (refusal_text AmbiguousColumn) refl
no_zero_in_refusal DuplicateAlias = no_zero (refusal_text DuplicateAlias) refl
no_zero_in_refusal UndefinedObject = no_zero (refusal_text UndefinedObject) refl
no_zero_in_refusal DuplicateTable = no_zero (refusal_text DuplicateTable) refl
no_zero_in_refusal DuplicateObject = no_zero (refusal_text DuplicateObject) refl
no_zero_in_refusal DuplicateColumn = no_zero (refusal_text DuplicateColumn) refl
no_zero_in_refusal DatatypeMismatch = no_zero (refusal_text DatatypeMismatch) refl
no_zero_in_refusal InsufficientPrivilege = no_zero (refusal_text InsufficientPrivilege) refl
no_zero_in_refusal InvalidGrantOperation = no_zero (refusal_text InvalidGrantOperation) refl
no_zero_in_refusal DependentPrivileges = no_zero (refusal_text DependentPrivileges) refl
no_zero_in_refusal DependentObjects = no_zero (refusal_text DependentObjects) refl
no_zero_in_refusal DivisionByZero = no_zero (refusal_text DivisionByZero) refl
no_zero_in_refusal NumericValueOutOfRange = no_zero (refusal_text NumericValueOutOfRange) refl
no_zero_in_refusal NotNullViolation = no_zero (refusal_text NotNullViolation) refl
no_zero_in_refusal UniqueViolation = no_zero (refusal_text UniqueViolation) refl
no_zero_in_refusal InFailedTransaction = no_zero (refusal_text InFailedTransaction) refl
no_zero_in_refusal LockNotAvailable = no_zero (refusal_text LockNotAvailable) refl
no_zero_in_refusal InvalidAuthorization = no_zero (refusal_text InvalidAuthorization) refl
no_zero_in_refusal ProgramLimitExceeded = no_zero (refusal_text ProgramLimitExceeded) refl
no_zero_in_refusal TooManyConnections = no_zero (refusal_text TooManyConnections) refl
no_zero_in_refusal DiskFull = no_zero (refusal_text DiskFull) refl
no_zero_in_refusal OutOfMemory = no_zero (refusal_text OutOfMemory) refl
no_zero_in_refusal IoError = no_zero (refusal_text IoError) refl
no_zero_in_refusal ProtocolViolation = no_zero (refusal_text ProtocolViolation) refl
no_zero_in_refusal ConnectionDoesNotExist = no_zero (refusal_text ConnectionDoesNotExist) refl
no_zero_in_refusal ConnectionNameInUse = no_zero (refusal_text ConnectionNameInUse) refl

pub no_zero_in_warning : (warning : Warning) → All (λ byte. byte ≢ 0) (warning_text warning)
no_zero_in_warning PrivilegeNotRevoked = no_zero (warning_text PrivilegeNotRevoked) refl
no_zero_in_warning PrivilegeNotGranted = no_zero (warning_text PrivilegeNotGranted) refl
no_zero_in_warning ActiveTransaction = no_zero (warning_text ActiveTransaction) refl
no_zero_in_warning NoActiveTransaction = no_zero (warning_text NoActiveTransaction) refl

abbrev is_word : TokenKind → Bool
is_word kind.Word = true
is_word _ = false

abbrev are_words : List (List ℕ) → Bool
are_words [] = true
are_words (w ∷ ws) = if is_word (word_kind w) then are_words ws else false

one_word : (k : TokenKind) (rest : Bool) → (if is_word k then rest else false) ≡ true → (k ≡ kind.Word) × (rest ≡ true)
one_word kind.Word rest is = (refl, is)
one_word k rest is = let no : false ≡ true = is in absurd cc

all_words : (ws : List (List ℕ)) → are_words ws ≡ true → All (λ word. word_kind word ≡ kind.Word) ws
all_words [] is = All-nil (λ word. word_kind word ≡ kind.Word)
all_words (w ∷ ws) is =
    let one = one_word (word_kind w) (are_words ws) is in
    All-cons (λ word. word_kind word ≡ kind.Word) w ws one.0 (all_words ws one.1)

pub reserved_are_words : All (λ word. word_kind word ≡ kind.Word) reserved_words
unfolding word_kind
reserved_are_words = all_words reserved_words refl
