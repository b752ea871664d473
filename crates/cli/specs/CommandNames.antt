-- The commands by their names, and how each is called.
use Rattle.std.specs.Prelude.{ℕ, List, codes, Option, Some, None}
use Rattle.cli.specs.declared.command_name.CommandName.{CommandName}
use Rattle.cli.specs.declared.command_name.CommandName.TheVariants.{Format, Copy, Dump, Restore, Journal, Password, Run, Serve, Check, Describe, Explain}
use Rattle.cli.specs.declared.texts.TheConstants.{CHECK_USAGE, COPY_USAGE, DESCRIBE_USAGE, DUMP_USAGE, EXPLAIN_USAGE, FORMAT_USAGE, JOURNAL_USAGE, PASSWORD_USAGE, RESTORE_USAGE, RUN_USAGE, SERVE_USAGE, USAGE}

-- its name, as a word of a command line
abbrev pub command_word : CommandName → List ℕ
command_word Format = codes "format"
command_word Copy = codes "copy"
command_word Dump = codes "dump"
command_word Restore = codes "restore"
command_word Journal = codes "journal"
command_word Password = codes "password"
command_word Run = codes "run"
command_word Serve = codes "serve"
command_word Check = codes "check"
command_word Describe = codes "describe"
command_word Explain = codes "explain"

-- how it is called; without a command, how the program is
abbrev pub usage_for : Option CommandName → List ℕ
usage_for (Some Format) = FORMAT_USAGE.now
usage_for (Some Copy) = COPY_USAGE.now
usage_for (Some Dump) = DUMP_USAGE.now
usage_for (Some Restore) = RESTORE_USAGE.now
usage_for (Some Journal) = JOURNAL_USAGE.now
usage_for (Some Password) = PASSWORD_USAGE.now
usage_for (Some Run) = RUN_USAGE.now
usage_for (Some Serve) = SERVE_USAGE.now
usage_for (Some Check) = CHECK_USAGE.now
usage_for (Some Describe) = DESCRIBE_USAGE.now
usage_for (Some Explain) = EXPLAIN_USAGE.now
usage_for None = USAGE.now
