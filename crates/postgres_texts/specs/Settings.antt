-- The settings of a session that clients of PostgreSQL set, show and reset (PostgreSQL 15 manual, chapter 20), and their values.
use Rattle.std.specs.Prelude.{ℕ, nat_le, List, [], ◌∷◌, length, codes, Bool, true, false, if◌then◌else◌, Option, Some, None}
use Rattle.std.specs.Str.{str_eq_ignore_ascii_case}
use Rattle.postgres_texts.specs.Words.{is_one_of}
use Rattle.postgres_texts.specs.declared.settings.SessionSetting.{SessionSetting}
use Rattle.postgres_texts.specs.declared.settings.SessionSetting.TheVariants.{ApplicationName, ClientEncoding, ClientMinMessages, DateStyle, DefaultTransactionIsolation, DefaultTransactionReadOnly, ExtraFloatDigits, IntegerDatetimes, LockTimeout, SearchPath, ServerEncoding, ServerVersion, StandardConformingStrings, StatementTimeout, TimeZone, TransactionIsolation}

-- what a setting is when it is set to a text: the value, or why the text is refused
pub data TheValue : Type 0 where
  kept : List ℕ → TheValue
  unsupported : TheValue  -- PostgreSQL has the value, and this server does not
  invalid : TheValue

-- the name of each
abbrev pub name_of : SessionSetting → List ℕ
name_of ApplicationName = codes "application_name"
name_of ClientEncoding = codes "client_encoding"
name_of ClientMinMessages = codes "client_min_messages"
name_of DateStyle = codes "DateStyle"
name_of DefaultTransactionIsolation = codes "default_transaction_isolation"
name_of DefaultTransactionReadOnly = codes "default_transaction_read_only"
name_of ExtraFloatDigits = codes "extra_float_digits"
name_of IntegerDatetimes = codes "integer_datetimes"
name_of LockTimeout = codes "lock_timeout"
name_of SearchPath = codes "search_path"
name_of ServerEncoding = codes "server_encoding"
name_of ServerVersion = codes "server_version"
name_of StandardConformingStrings = codes "standard_conforming_strings"
name_of StatementTimeout = codes "statement_timeout"
name_of TimeZone = codes "TimeZone"
name_of TransactionIsolation = codes "transaction_isolation"

abbrev pub all_settings : List SessionSetting
all_settings = ApplicationName ∷ ClientEncoding ∷ ClientMinMessages ∷ DateStyle ∷ DefaultTransactionIsolation ∷ DefaultTransactionReadOnly ∷ ExtraFloatDigits ∷ IntegerDatetimes ∷ LockTimeout ∷ SearchPath ∷ ServerEncoding ∷ ServerVersion ∷ StandardConformingStrings ∷ StatementTimeout ∷ TimeZone ∷ TransactionIsolation ∷ []

-- the first of the settings that has the name, in any case
abbrev pub named_in : List SessionSetting → List ℕ → Option SessionSetting
named_in [] name = None
named_in (s ∷ ss) name = if str_eq_ignore_ascii_case (name_of s) name then Some s else named_in ss name

-- the setting of a name
abbrev pub setting_named : List ℕ → Option SessionSetting
setting_named name = named_in all_settings name

-- the value at the start and after RESET
abbrev pub initial_value : SessionSetting → List ℕ
initial_value ApplicationName = codes ""
initial_value ClientEncoding = codes "UTF8"
initial_value ClientMinMessages = codes "notice"
initial_value DateStyle = codes "ISO, MDY"
initial_value DefaultTransactionIsolation = codes "read committed"
initial_value DefaultTransactionReadOnly = codes "off"
initial_value ExtraFloatDigits = codes "1"
initial_value IntegerDatetimes = codes "on"
initial_value LockTimeout = codes "0"
initial_value SearchPath = codes "\"$user\", public"
initial_value ServerEncoding = codes "UTF8"
initial_value ServerVersion = codes "15.0 (Guarddb)"
initial_value StandardConformingStrings = codes "on"
initial_value StatementTimeout = codes "0"
initial_value TimeZone = codes "UTC"
initial_value TransactionIsolation = codes "read committed"

-- a client is told of it by ParameterStatus
abbrev pub is_told : SessionSetting → Bool
is_told ApplicationName = true
is_told ClientEncoding = true
is_told ClientMinMessages = false
is_told DateStyle = true
is_told DefaultTransactionIsolation = false
is_told DefaultTransactionReadOnly = true
is_told ExtraFloatDigits = false
is_told IntegerDatetimes = true
is_told LockTimeout = false
is_told SearchPath = false
is_told ServerEncoding = true
is_told ServerVersion = true
is_told StandardConformingStrings = true
is_told StatementTimeout = false
is_told TimeZone = true
is_told TransactionIsolation = false

-- any text may be its value
abbrev pub is_free : SessionSetting → Bool
is_free ApplicationName = true
is_free TimeZone = true
is_free _ = false

-- how each value of another setting may be spelled, and the value
abbrev pub values_of : SessionSetting → List (List ℕ × List ℕ)
values_of ClientEncoding = (codes "utf8", codes "UTF8") ∷ (codes "utf-8", codes "UTF8") ∷ (codes "utf_8", codes "UTF8") ∷ (codes "unicode", codes "UTF8") ∷ (codes "sql_ascii", codes "SQL_ASCII") ∷ (codes "sqlascii", codes "SQL_ASCII") ∷ []
values_of ClientMinMessages = (codes "debug5", codes "debug5") ∷ (codes "debug4", codes "debug4") ∷ (codes "debug3", codes "debug3") ∷ (codes "debug2", codes "debug2") ∷ (codes "debug1", codes "debug1") ∷ (codes "log", codes "log") ∷ (codes "notice", codes "notice") ∷ (codes "warning", codes "warning") ∷ (codes "error", codes "error") ∷ (codes "debug", codes "debug2") ∷ []
values_of DateStyle = (codes "iso", codes "ISO, MDY") ∷ (codes "iso, mdy", codes "ISO, MDY") ∷ (codes "iso,mdy", codes "ISO, MDY") ∷ (codes "iso , mdy", codes "ISO, MDY") ∷ []
values_of DefaultTransactionIsolation = (codes "read committed", codes "read committed") ∷ (codes "read uncommitted", codes "read uncommitted") ∷ []
values_of DefaultTransactionReadOnly = (codes "off", codes "off") ∷ (codes "of", codes "off") ∷ (codes "false", codes "off") ∷ (codes "fals", codes "off") ∷ (codes "fal", codes "off") ∷ (codes "fa", codes "off") ∷ (codes "f", codes "off") ∷ (codes "no", codes "off") ∷ (codes "n", codes "off") ∷ (codes "0", codes "off") ∷ []
values_of ExtraFloatDigits = (codes "3", codes "3") ∷ (codes "2", codes "2") ∷ (codes "1", codes "1") ∷ (codes "0", codes "0") ∷ (codes "-1", codes "-1") ∷ (codes "-2", codes "-2") ∷ (codes "-3", codes "-3") ∷ (codes "-4", codes "-4") ∷ (codes "-5", codes "-5") ∷ (codes "-6", codes "-6") ∷ (codes "-7", codes "-7") ∷ (codes "-8", codes "-8") ∷ (codes "-9", codes "-9") ∷ (codes "-10", codes "-10") ∷ (codes "-11", codes "-11") ∷ (codes "-12", codes "-12") ∷ (codes "-13", codes "-13") ∷ (codes "-14", codes "-14") ∷ (codes "-15", codes "-15") ∷ (codes "- 1", codes "-1") ∷ (codes "- 2", codes "-2") ∷ (codes "- 3", codes "-3") ∷ (codes "- 4", codes "-4") ∷ (codes "- 5", codes "-5") ∷ (codes "- 6", codes "-6") ∷ (codes "- 7", codes "-7") ∷ (codes "- 8", codes "-8") ∷ (codes "- 9", codes "-9") ∷ (codes "- 10", codes "-10") ∷ (codes "- 11", codes "-11") ∷ (codes "- 12", codes "-12") ∷ (codes "- 13", codes "-13") ∷ (codes "- 14", codes "-14") ∷ (codes "- 15", codes "-15") ∷ []
values_of LockTimeout = (codes "0", codes "0") ∷ []
values_of SearchPath = (codes "public", codes "public") ∷ (codes "\"$user\", public", codes "\"$user\", public") ∷ (codes "\"$user\",public", codes "\"$user\", public") ∷ (codes "\"$user\" , public", codes "\"$user\", public") ∷ []
values_of StandardConformingStrings = (codes "on", codes "on") ∷ (codes "true", codes "on") ∷ (codes "tru", codes "on") ∷ (codes "tr", codes "on") ∷ (codes "t", codes "on") ∷ (codes "yes", codes "on") ∷ (codes "ye", codes "on") ∷ (codes "y", codes "on") ∷ (codes "1", codes "on") ∷ []
values_of StatementTimeout = (codes "0", codes "0") ∷ []
values_of TransactionIsolation = (codes "read committed", codes "read committed") ∷ (codes "read uncommitted", codes "read uncommitted") ∷ []
values_of _ = []

-- the value that a text spells, in any case
abbrev pub spelled_in : List (List ℕ × List ℕ) → List ℕ → Option (List ℕ)
spelled_in [] text = None
spelled_in (v ∷ vs) text = if str_eq_ignore_ascii_case v.0 text then Some v.1 else spelled_in vs text

-- the isolation levels that are not given
abbrev pub levels_above : List (List ℕ)
levels_above = codes "repeatable read" ∷ codes "serializable" ∷ []

abbrev pub is_level : SessionSetting → Bool
is_level DefaultTransactionIsolation = true
is_level TransactionIsolation = true
is_level _ = false

-- why a text that spells no value is refused
abbrev pub refused : SessionSetting → List ℕ → TheValue
refused s text = if is_level s then (if is_one_of levels_above text then unsupported else invalid) else invalid

abbrev pub kept_or_refused : Option (List ℕ) → TheValue → TheValue
kept_or_refused (Some value) why = kept value
kept_or_refused None why = why

-- what a setting is when it is set to a text
abbrev pub value_of : SessionSetting → List ℕ → TheValue
value_of s text = if is_free s then (if nat_le (length text) 256 then kept text else invalid) else kept_or_refused (spelled_in (values_of s) text) (refused s text)
