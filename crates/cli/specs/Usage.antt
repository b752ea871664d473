-- Why words are refused, as it is told.
use Rattle.std.specs.Prelude.{◌++◌, ℕ, List, codes, Option, Some, None}
use Rattle.cli.specs.declared.command.UsageFault.{UsageFault}
use Rattle.cli.specs.declared.command.UsageFault.TheVariants as usage
use Rattle.cli.specs.declared.command_name.CommandName.{CommandName}
use Rattle.cli.specs.declared.command_name.CommandName.TheVariants.{Password}
use Rattle.clap.specs.declared.error.Error.{Error}
use Rattle.cli.specs.declared.number.NumberOption.{NumberOption}
use Rattle.cli.specs.Numbers.{number_rule}

-- why a name is refused
abbrev pub name_reason : List ℕ → List ℕ
name_reason name = codes "'" ++ (name ++ codes "' is no name: NAME has 1 to 63 bytes and no zero byte")

-- why a path is refused
abbrev pub path_reason : List ℕ → List ℕ
path_reason path = codes "'" ++ (path ++ codes "' cannot name a socket: PATH has 1 to 107 bytes")

-- why a folder is refused
abbrev pub folder_reason : List ℕ → List ℕ
folder_reason folder = codes "'" ++ (folder ++ codes "' cannot have the file of a socket: FOLDER has 1 to 93 bytes")

-- why the words behind the comma of a place are refused
abbrev pub options_reason : List ℕ → List ℕ
options_reason words = codes "behind a comma PLACE takes role=NAME, or passwords=TABLE with mock=ROLE, and of a socket mode=600 or mode=660, each once, not '" ++ (words ++ codes "'")

-- why a word for one of several places is refused
abbrev pub place_reason : List ℕ → List ℕ
place_reason word = codes "'" ++ (word ++ codes "' is none of several places: PLACE is port:P, with P from 1 to 65535, socket:PATH, pgport:P or pgsocket:FOLDER, and behind a comma it takes role=NAME, or passwords=TABLE with mock=ROLE, and of a socket mode=600 or mode=660, each once, and last no-superuser")

-- why a word for a number is refused
abbrev pub number_reason : NumberOption → List ℕ → List ℕ
number_reason option word = number_rule option ++ (codes ", not '" ++ (word ++ codes "'"))

-- why a word for on or off is refused
abbrev pub switch_reason : List ℕ → List ℕ
switch_reason word = codes "journal takes FILE on, or FILE off, not '" ++ (word ++ codes "'")

-- why words are refused; where `clap` found a mistake the text is its own
abbrev pub usage_reason : UsageFault → Option (List ℕ)
usage_reason (usage.Grammar e) = None
usage_reason usage.Form = Some (codes "run takes FILE SCRIPT, or --memory NAME SCRIPT")
usage_reason usage.Serving = Some (codes "serve takes FILE, either --port P or --socket PATH, and --connections K")
usage_reason usage.ServingClients = Some (codes "serve --clients N takes FILE, and either --port P or --socket PATH")
usage_reason usage.ServingAt = Some (codes "serve --at PLACE takes FILE and --clients N, and no port or socket; PLACE is port:P, socket:PATH, pgport:P or pgsocket:FOLDER")
usage_reason (usage.Number option word) = Some (number_reason option word.now)
usage_reason (usage.Path path) = Some (path_reason path.now)
usage_reason (usage.Folder folder) = Some (folder_reason folder.now)
usage_reason (usage.Options words) = Some (options_reason words.now)
usage_reason (usage.Place word) = Some (place_reason word.now)
usage_reason usage.Places = Some (codes "serve takes up to eight places")
usage_reason (usage.Name name) = Some (name_reason name.now)
usage_reason (usage.Switch word) = Some (switch_reason word.now)
usage_reason usage.Making = Some (codes "password takes --new, or --mock, or neither; a password stands on standard input alone")
usage_reason usage.Describing = Some (codes "describe takes FILE, and at most one of ROLE, --table T, --powers and --since OLD")
usage_reason usage.Encoding = Some (codes "a word is not UTF-8")
usage_reason usage.Memory = Some (codes "memory was refused")

-- the fault that is told: of the words after `password`, which may have a password among them, none is
abbrev pub mistake_told : Option CommandName → Error → UsageFault
mistake_told (Some Password) e = usage.Making
mistake_told command e = usage.Grammar e

abbrev pub fault_told : Option CommandName → UsageFault → UsageFault
fault_told command (usage.Grammar e) = mistake_told command e
fault_told command u = u
