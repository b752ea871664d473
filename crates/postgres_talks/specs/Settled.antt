-- Texts beside the language that are answered without the machine.
use Rattle.std.specs.Prelude.{ℕ, List, [], ◌∷◌, codes, if◌then◌else◌, Option, Some, None}
use Rattle.std.specs.Str.{str_eq_ignore_ascii_case}
use Rattle.postgres_texts.specs.declared.settings.SessionSetting.TheVariants as setting
use Rattle.postgres_texts.specs.Settings.{name_of, initial_value}
use Rattle.postgres_talks.specs.declared.settled.Settled.{Settled}
use Rattle.postgres_talks.specs.declared.settled.Substitute.{Substitute}
use Rattle.postgres_talks.specs.declared.settled.Substitute.TheVariants as substitute
use Rattle.postgres_talks.specs.Labels.{called, next_label}
use Rattle.postgres_talks.specs.declared.settled.Settled.TheVariants.{Set, Reset, CloseAll, DeallocateAll, UnlistenAll, AdvisoryUnlockAll, CurrentSchema, Version, Show}

-- lines, and what each is
abbrev pub lines : List (List ℕ × Settled)
lines =
    (codes "set client_encoding = 'utf8'", Set)
    ∷ (codes "set client_encoding to 'utf8'", Set)
    ∷ (codes "set names 'utf8'", Set)
    ∷ (codes "set standard_conforming_strings = on", Set)
    ∷ (codes "set standard_conforming_strings to on", Set)
    ∷ (codes "set extra_float_digits = 3", Set)
    ∷ (codes "set extra_float_digits to 3", Set)
    ∷ (codes "set application_name = 'postgresql jdbc driver'", Set)
    ∷ (codes "set datestyle = iso", Set)
    ∷ (codes "set datestyle to 'iso'", Set)
    ∷ (codes "set timezone = 'utc'", Set)
    ∷ (codes "set time zone 'utc'", Set)
    ∷ (codes "set session characteristics as transaction isolation level read committed", Set)
    ∷ (codes "reset all", Reset)
    ∷ (codes "close all", CloseAll)
    ∷ (codes "deallocate all", DeallocateAll)
    ∷ (codes "unlisten *", UnlistenAll)
    ∷ (codes "select pg_advisory_unlock_all ( )", AdvisoryUnlockAll)
    ∷ (codes "select current_schema ( )", CurrentSchema)
    ∷ (codes "select version ( )", Version)
    ∷ (codes "select pg_catalog . version ( )", Version)
    ∷ (codes "show transaction isolation level", Show setting.TransactionIsolation)
    ∷ (codes "show transaction_isolation", Show setting.TransactionIsolation)
    ∷ (codes "show standard_conforming_strings", Show setting.StandardConformingStrings)
    ∷ (codes "show client_encoding", Show setting.ClientEncoding)
    ∷ (codes "show datestyle", Show setting.DateStyle)
    ∷ (codes "show search_path", Show setting.SearchPath)
    ∷ (codes "show server_version", Show setting.ServerVersion)
    ∷ (codes "show timezone", Show setting.TimeZone)
    ∷ []

-- what a line is among these, in any case
abbrev pub settled_in : List (List ℕ × Settled) → List ℕ → Option Settled
settled_in [] line = None
settled_in (l ∷ ls) line = if str_eq_ignore_ascii_case l.0 line then Some l.1 else settled_in ls line

-- lines, and what each stands for
abbrev pub substitutes : List (List ℕ × Substitute)
substitutes =
    (codes "end", substitute.Commit)
    ∷ (codes "end transaction", substitute.Commit)
    ∷ (codes "abort", substitute.Rollback)
    ∷ (codes "abort transaction", substitute.Rollback)
    ∷ (codes "begin isolation level read committed", substitute.Begin)
    ∷ (codes "begin transaction isolation level read committed", substitute.Begin)
    ∷ (codes "begin read write", substitute.Begin)
    ∷ (codes "begin read only", substitute.BeginReadOnly)
    ∷ (codes "begin transaction read only", substitute.BeginReadOnly)
    ∷ (codes "start transaction read only", substitute.BeginReadOnly)
    ∷ (codes "begin isolation level read committed read only", substitute.BeginReadOnly)
    ∷ (codes "begin transaction isolation level read committed , read only", substitute.BeginReadOnly)
    ∷ (codes "start transaction isolation level read committed , read only", substitute.BeginReadOnly)
    ∷ (codes "discard all", substitute.DiscardAll)
    ∷ []

abbrev pub substitute_in : List (List ℕ × Substitute) → List ℕ → Option Substitute
substitute_in [] line = None
substitute_in (l ∷ ls) line = if str_eq_ignore_ascii_case l.0 line then Some l.1 else substitute_in ls line

-- the tag with which it is answered
abbrev pub settled_tag : Settled → List ℕ
settled_tag Set = codes "SET"
settled_tag Reset = codes "RESET"
settled_tag CloseAll = codes "CLOSE CURSOR ALL"
settled_tag DeallocateAll = codes "DEALLOCATE ALL"
settled_tag UnlistenAll = codes "UNLISTEN"
settled_tag (Show s) = codes "SHOW"
settled_tag s = codes "SELECT 1"

-- the name and the value of the one column of its one row, if it has one
abbrev pub settled_row : Settled → Option (List ℕ × List ℕ)
settled_row Version = Some (codes "version", codes "PostgreSQL 15.0 (Guarddb)")
settled_row CurrentSchema = Some (codes "current_schema", codes "public")
settled_row AdvisoryUnlockAll = Some (codes "pg_advisory_unlock_all", codes "")
settled_row (Show s) = Some (name_of s, initial_value s)
settled_row s = None

-- and where that column has this label
abbrev pub labelled_row : Option (List ℕ) → Option (List ℕ × List ℕ) → Option (List ℕ × List ℕ)
labelled_row label None = None
labelled_row label (Some r) = Some (called label r.0, r.1)

-- as its client is told it, where the columns of the text have these labels
abbrev pub told_row : List (Option (List ℕ)) → Settled → Option (List ℕ × List ℕ)
told_row ls s = labelled_row (next_label ls) (settled_row s)
