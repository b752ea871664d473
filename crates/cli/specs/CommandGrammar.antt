-- The grammar of the command line, as `clap` knows it.
use Rattle.std.specs.Prelude.{◌≡◌, ℕ, Bool, true, false, List, codes, Some, Result, Ok}
use Rattle.clap.specs.Words.{AddsSubcommand, App, Rule, app_of, new_app, new_rule, rule_of, with_rule, with_subcommand}
use Rattle.clap.specs.declared.builder.ArgAction.TheVariants.{Append, Set, SetTrue}
use Rattle.clap.specs.declared.builder.arg.Arg.{Arg}
use Rattle.clap.specs.declared.builder.command.Command.{Command}
use Rattle.clap.specs.declared.builder.command.Command.TheViews.{out-Command}

-- a word that belongs to no option
abbrev pub word_rule : List ℕ → Bool → Rule
word_rule id required = record (new_rule id) { value_names = 1; action = Some Set; required = required }

-- the option `--ID`, which takes one word
abbrev pub option_rule : List ℕ → Bool → Rule
option_rule id required = record (word_rule id required) { long = Some id }

-- the option `--ID`, which may be given more than once, each time with one word
abbrev pub repeated_rule : List ℕ → Rule
repeated_rule id = record (new_rule id) { value_names = 1; action = Some Append; long = Some id }

-- the flag `--ID`, which takes none
abbrev pub flag_rule : List ℕ → Rule
flag_rule id = record (new_rule id) { long = Some id; action = Some SetTrue }

-- `format FILE --pages N --admin NAME`, with `--journal` or without
abbrev pub format_app : App
format_app = with_rule (with_rule (with_rule (with_rule (new_app (codes "format")) (word_rule (codes "file") true)) (option_rule (codes "pages") true)) (option_rule (codes "admin") true)) (flag_rule (codes "journal"))

-- `run`, with `--memory NAME` or without, and up to two words, with `--stop` or without, and with `--explain` or without
abbrev pub run_app : App
run_app = with_rule (with_rule (with_rule (with_rule (with_rule (new_app (codes "run")) (option_rule (codes "memory") false)) (word_rule (codes "first") false)) (word_rule (codes "second") false)) (flag_rule (codes "stop"))) (flag_rule (codes "explain"))

-- `serve`, with a word or without, and with each of `--port P`, `--socket PATH`, `--connections K`, `--idle SECONDS`, `--clients N`,
-- `--wait SECONDS`, `--block SECONDS` and `--at PLACE` or without; the last one more than once, too
abbrev pub serve_app : App
serve_app = with_rule (with_rule (with_rule (with_rule (with_rule (with_rule (with_rule (with_rule (with_rule (new_app (codes "serve")) (word_rule (codes "file") false)) (option_rule (codes "port") false)) (option_rule (codes "socket") false)) (option_rule (codes "connections") false)) (option_rule (codes "idle") false)) (option_rule (codes "clients") false)) (option_rule (codes "wait") false)) (option_rule (codes "block") false)) (repeated_rule (codes "at"))

-- `check FILE`
abbrev pub check_app : App
check_app = with_rule (new_app (codes "check")) (word_rule (codes "file") true)

-- `describe FILE`, with a role or without, and with each of `--table T`, `--since OLD`, `--powers` and `--json` or without
abbrev pub describe_app : App
describe_app = with_rule (with_rule (with_rule (with_rule (with_rule (with_rule (new_app (codes "describe")) (word_rule (codes "file") true)) (word_rule (codes "role") false)) (option_rule (codes "table") false)) (option_rule (codes "since") false)) (flag_rule (codes "powers"))) (flag_rule (codes "json"))

-- `copy FILE NEW --pages N`, with `--journal` or without
abbrev pub copy_app : App
copy_app = with_rule (with_rule (with_rule (with_rule (new_app (codes "copy")) (word_rule (codes "file") true)) (word_rule (codes "new") true)) (option_rule (codes "pages") true)) (flag_rule (codes "journal"))

-- `dump FILE OUT`
abbrev pub dump_app : App
dump_app = with_rule (with_rule (new_app (codes "dump")) (word_rule (codes "file") true)) (word_rule (codes "out") true)

-- `restore DUMP NEW --pages N`, with `--journal` or without
abbrev pub restore_app : App
restore_app = with_rule (with_rule (with_rule (with_rule (new_app (codes "restore")) (word_rule (codes "dump") true)) (word_rule (codes "new") true)) (option_rule (codes "pages") true)) (flag_rule (codes "journal"))

-- `journal`, with two words
abbrev pub journal_app : App
journal_app = with_rule (with_rule (new_app (codes "journal")) (word_rule (codes "file") true)) (word_rule (codes "state") true)

-- `password`, with `--new` or without, and with `--mock` or without
abbrev pub password_app : App
password_app = with_rule (with_rule (new_app (codes "password")) (flag_rule (codes "new"))) (flag_rule (codes "mock"))

-- `explain`, with three words, with `--session LOGIN` or without, and with `--json` or without
abbrev pub explain_app : App
explain_app = with_rule (with_rule (with_rule (with_rule (with_rule (new_app (codes "explain")) (word_rule (codes "file") true)) (word_rule (codes "role") true)) (word_rule (codes "statement") true)) (option_rule (codes "session") false)) (flag_rule (codes "json"))

-- the flags for help and the version, and the need for a command
abbrev pub bare_app : App
bare_app =
    let plain = new_app (codes "guarddb") in
    record plain {
      top = record plain.top {
        no_binary_name = true;
        disable_help_subcommand = true;
        subcommand_required = true;
        has_version = true;
      };
    }

abbrev pub program_app : App
program_app = with_subcommand (with_subcommand (with_subcommand (with_subcommand (with_subcommand (with_subcommand (with_subcommand (with_subcommand (with_subcommand (with_subcommand (with_subcommand bare_app format_app.top) run_app.top) serve_app.top) check_app.top) describe_app.top) copy_app.top) journal_app.top) dump_app.top) restore_app.top) password_app.top) explain_app.top

-- ---- a value of `clap` is such a part of it

-- an argument of one command alone
pub record IsArg (expected : Rule) (arg : Arg) : Type 0 where
  pub rule : rule_of arg ≡ expected
  pub local : arg.global ≡ false

-- a command with no argument that others share
pub record IsCommand (expected : App) (command : Command) : Type 0 where
  pub app : app_of command ≡ expected
  pub local : (out-Command command).has_globals ≡ false

-- a command with this one below it, which was made
pub record HasBelow {E : Type 0} (old : Command) (made : Result Command E) (new : Command) : Type 0 where
  pub below : Command
  pub is_made : made ≡ Ok below
  pub added : AddsSubcommand old below new
