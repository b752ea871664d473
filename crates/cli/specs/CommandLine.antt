-- What the words of a command line ask for, as `clap` reads them.
use Rattle.std.specs.Prelude.{◌≡◌, ◌≢◌, ◌≤◌, ◌++◌, ◌⊎◌, ℕ, Bool, true, false, List, [], ◌∷◌, length, map, codes, Option, Some, None, Result, Ok, Err}
use Rattle.std.specs.Option.{option_map}
use Rattle.std.specs.Borrow.{Bor}
use Rattle.clap.specs.Words.{IsAmong, Row, all_of, first_of, fault_of, kind_of, one_of, subcommand_of}
use Rattle.clap.specs.declared.error.Error.{Error}
use Rattle.clap.specs.declared.error.kind.ErrorKind.{ErrorKind}
use Rattle.clap.specs.declared.error.kind.ErrorKind.TheVariants as kind
use Rattle.sql_types.specs.Name.{IsName}
use Rattle.cli.specs.declared.command.Invocation.{Invocation}
use Rattle.cli.specs.declared.command.Invocation.TheVariants as order
use Rattle.cli.specs.declared.command.UsageFault.{UsageFault}
use Rattle.cli.specs.declared.command.UsageFault.TheVariants as usage
use Rattle.cli.specs.declared.number.NumberOption.{NumberOption}
use Rattle.cli.specs.declared.number.NumberOption.TheVariants.{Pages, Port, Connections, Idle, Clients, Wait, Block}
use Rattle.cli.specs.CommandGrammar.{program_app}
use Rattle.cli.specs.Numbers.{IsNumberFor, NoNumberFor}
use Rattle.cli.specs.declared.describe_words.DescribeAsked.{DescribeAsked}
use Rattle.cli.specs.declared.describe_words.DescribeAsked.TheVariants as asked
use Rattle.cli.specs.declared.refusals.OnRefusal.{OnRefusal}
use Rattle.cli.specs.declared.place_words.PlaceKind.{PlaceKind}
use Rattle.cli.specs.declared.place_words.PlaceKind.TheVariants as kinds
use Rattle.cli.specs.declared.serve_clients.ManyClients.{ManyClients}
use Rattle.cli.specs.declared.serve_words.CountWords.{CountWords}
use Rattle.cli.specs.declared.served_place.Protocol.TheVariants.{Frames, Postgres}
use Rattle.cli.specs.declared.served_place.ServedPlace.{ServedPlace}
use Rattle.cli.specs.declared.served_place.NamedPlace.{NamedPlace}
use Rattle.systems.specs.declared.place.ListenPlace.{ListenPlace}
use Rattle.systems.specs.declared.place.ListenPlace.TheVariants as listen
use Rattle.cli.specs.PlaceWords.{HasNoComma, IsFolderServed, SaysGuard, IsPortServed, IsSocketFolder, IsSocketPath, IsSocketServed, NoOptions, place_word, with_options}
use Rattle.cli.specs.PasswordCommand.{verifier_asked}
use Rattle.cli.specs.Refusals.{at_refusal}

abbrev pub TheWord : Type 0
TheWord = List ℕ

abbrev pub TheWords : Type 0
TheWords = List TheWord

-- borrowed words, as lists of bytes
abbrev pub lent_words : List (Bor TheWord) → TheWords
lent_words words = map (λ word. word.now) words

-- a borrowed word, where there is one
abbrev pub lent_word : Option (Bor TheWord) → Option TheWord
lent_word word = option_map (λ w. w.now) word

-- ---- what the words say

-- the word for a place: of `--port`, of `--socket`, or what stands behind the colon in that of `--at`, and behind its first comma
pub data GivenPlace : Type 0 where
  AtPort : TheWord → GivenPlace
  AtSocket : TheWord → GivenPlace
  At : PlaceKind → TheWord → Option TheWord → GivenPlace
  -- those of `--at`, where it is given more than once or says that no superuser is admitted
  AtEach : (first : TheWord) (others : List TheWord) → GivenPlace

-- the words for the numbers of a server of many clients
pub record GivenCounts : Type 0 where
  pub clients : TheWord
  pub connections : Option TheWord
  pub wait : Option TheWord
  pub idle : Option TheWord
  pub block : Option TheWord

abbrev pub given_counts : CountWords → GivenCounts
given_counts words = record { clients = words.clients.now; connections = lent_word words.connections; wait = lent_word words.wait; idle = lent_word words.idle; block = lent_word words.block }

-- the words that a command is given
pub data Given : Type 0 where
  Format : (file pages admin : TheWord) (journal : Bool) → Given
  Copy : (file new pages : TheWord) (journal : Bool) → Given
  Dump : (file out : TheWord) → Given
  Restore : (dump new pages : TheWord) (journal : Bool) → Given
  Journal : (file state : TheWord) → Given
  Password : (new mock : Bool) → Given
  Run : (file script : TheWord) (stop explain : Bool) → Given
  RunMemory : (admin script : TheWord) (stop explain : Bool) → Given
  Serve : (file port connections : TheWord) (idle : Option TheWord) → Given
  ServeSocket : (file socket connections : TheWord) (idle : Option TheWord) → Given
  ServeClients : (file : TheWord) (place : GivenPlace) (counts : GivenCounts) → Given
  Check : (file : TheWord) → Given
  Describe : (file : TheWord) (role table since : Option TheWord) (powers json : Bool) → Given
  Explain : (file role statement : TheWord) (session : Option TheWord) (json : Bool) → Given

abbrev pub command_of : Given → TheWord
command_of (Format file pages admin journal) = codes "format"
command_of (Copy file new pages journal) = codes "copy"
command_of (Dump file out) = codes "dump"
command_of (Restore dump new pages journal) = codes "restore"
command_of (Journal file state) = codes "journal"
command_of (Password new mock) = codes "password"
command_of (Run file script stop explain) = codes "run"
command_of (RunMemory admin script stop explain) = codes "run"
command_of (Serve file port connections idle) = codes "serve"
command_of (ServeSocket file socket connections idle) = codes "serve"
command_of (ServeClients file place counts) = codes "serve"
command_of (Check file) = codes "check"
command_of (Describe file role table since powers json) = codes "describe"
command_of (Explain file role statement session json) = codes "explain"

-- whether a flag is given: its value is `true` then, and else `false` or none
pub record IsFlag (value : Option TheWord) (given : Bool) : Type 0 where
  pub set : value ≡ Some (codes "true") → given ≡ true
  pub unset : value ≡ Some (codes "false") → given ≡ false
  pub absent : value ≡ None → given ≡ false

-- `run` with `--stop` or not, and with `--explain` or not
abbrev pub AreRunFlags : List Row → Bool → Bool → Type 0
AreRunFlags rows stop explain = IsFlag (one_of (codes "stop") rows) stop × IsFlag (one_of (codes "explain") rows) explain

-- `run` is to do this at a refusal
abbrev pub IsAtRefusal : List Row → OnRefusal → Type 0
IsAtRefusal rows on = (stop explain : Bool) × AreRunFlags rows stop explain × (on ≡ at_refusal stop explain)

-- `serve` has no word of a server of many clients
abbrev pub HasNoClients : List Row → Type 0
HasNoClients rows = (first_of (codes "clients") rows ≡ None) × (first_of (codes "wait") rows ≡ None) × (first_of (codes "block") rows ≡ None) × (first_of (codes "at") rows ≡ None)

-- the word of a place says at its end that no superuser is admitted there
abbrev pub BarsSuperusers : TheWord → Type 0
BarsSuperusers word = (rest : TheWord) × (word ≡ rest ++ codes ",no-superuser")

-- two words of `--at` or more, or one that says so
abbrev pub IsSeveral : List TheWord → Type 0
IsSeveral words = (2 ≤ length words) ⊎ ((word : TheWord) × (words ≡ word ∷ []) × BarsSuperusers word)

-- it has a port, a socket, or a place of `--at`
abbrev pub HasPlaceWord : List Row → GivenPlace → Type 0
HasPlaceWord rows (AtPort port) = (first_of (codes "port") rows ≡ Some port) × (first_of (codes "socket") rows ≡ None) × (first_of (codes "at") rows ≡ None)
HasPlaceWord rows (AtSocket socket) = (first_of (codes "port") rows ≡ None) × (first_of (codes "socket") rows ≡ Some socket) × (first_of (codes "at") rows ≡ None)
HasPlaceWord rows (At kind rest options) =
    let word = with_options (place_word kind rest) options in
    (first_of (codes "port") rows ≡ None) × (first_of (codes "socket") rows ≡ None) × (first_of (codes "at") rows ≡ Some word) × HasNoComma (place_word kind rest)
    × (all_of (codes "at") rows ≡ Some (word ∷ [])) × (BarsSuperusers word → ⊥)
HasPlaceWord rows (AtEach first others) = (first_of (codes "port") rows ≡ None) × (first_of (codes "socket") rows ≡ None) × (first_of (codes "at") rows ≡ Some first)
    × (all_of (codes "at") rows ≡ Some (first ∷ others)) × IsSeveral (first ∷ others) × (length (first ∷ others) ≤ 8)

-- it has the numbers of a server of many clients
pub record HasCounts (rows : List Row) (counts : GivenCounts) : Type 0 where
  pub clients : first_of (codes "clients") rows ≡ Some counts.clients
  pub connections : first_of (codes "connections") rows ≡ counts.connections
  pub wait : first_of (codes "wait") rows ≡ counts.wait
  pub idle : first_of (codes "idle") rows ≡ counts.idle
  pub block : first_of (codes "block") rows ≡ counts.block

-- more than one of a role, a table, an old file and `--powers` is given
abbrev pub are_mixed : Option TheWord → Option TheWord → Option TheWord → Bool → Bool
are_mixed None None None powers = false
are_mixed (Some role) None None powers = powers
are_mixed None (Some table) None powers = powers
are_mixed None None (Some old) powers = powers
are_mixed _ _ _ powers = true

abbrev pub IsMixed : Given → Type 0
IsMixed (Describe file role table since powers json) = are_mixed role table since powers ≡ true
IsMixed _ = ⊥

-- the words stand where the command takes them: `format`, `copy` and `restore` have `--journal` or not; `run` has two words without `--memory`, and one with it;
-- `serve` has a port or a socket, and `--idle` or not; `describe` has a role or none, and `--table`, `--since`, `--powers` and `--json` or not;
-- `explain` has `--session` or not, and `--json` or not; `password` has `--new` or not, and `--mock` or not
abbrev pub HasWords : List Row → Given → Type 0
HasWords rows (Format file pages admin journal) = (first_of (codes "file") rows ≡ Some file) × (first_of (codes "pages") rows ≡ Some pages) × (first_of (codes "admin") rows ≡ Some admin) × IsFlag (one_of (codes "journal") rows) journal
HasWords rows (Copy file new pages journal) = (first_of (codes "file") rows ≡ Some file) × (first_of (codes "new") rows ≡ Some new) × (first_of (codes "pages") rows ≡ Some pages) × IsFlag (one_of (codes "journal") rows) journal
HasWords rows (Dump file out) = (first_of (codes "file") rows ≡ Some file) × (first_of (codes "out") rows ≡ Some out)
HasWords rows (Restore dump new pages journal) = (first_of (codes "dump") rows ≡ Some dump) × (first_of (codes "new") rows ≡ Some new) × (first_of (codes "pages") rows ≡ Some pages) × IsFlag (one_of (codes "journal") rows) journal
HasWords rows (Journal file state) = (first_of (codes "file") rows ≡ Some file) × (first_of (codes "state") rows ≡ Some state)
HasWords rows (Password new mock) = IsFlag (one_of (codes "new") rows) new × IsFlag (one_of (codes "mock") rows) mock
HasWords rows (Run file script stop explain) = (first_of (codes "memory") rows ≡ None) × (first_of (codes "first") rows ≡ Some file) × (first_of (codes "second") rows ≡ Some script) × AreRunFlags rows stop explain
HasWords rows (RunMemory admin script stop explain) = (first_of (codes "memory") rows ≡ Some admin) × (first_of (codes "first") rows ≡ Some script) × (first_of (codes "second") rows ≡ None) × AreRunFlags rows stop explain
HasWords rows (Serve file port connections idle) = (first_of (codes "file") rows ≡ Some file) × (first_of (codes "port") rows ≡ Some port) × (first_of (codes "socket") rows ≡ None) × (first_of (codes "connections") rows ≡ Some connections) × (first_of (codes "idle") rows ≡ idle) × HasNoClients rows
HasWords rows (ServeSocket file socket connections idle) = (first_of (codes "file") rows ≡ Some file) × (first_of (codes "port") rows ≡ None) × (first_of (codes "socket") rows ≡ Some socket) × (first_of (codes "connections") rows ≡ Some connections) × (first_of (codes "idle") rows ≡ idle) × HasNoClients rows
HasWords rows (ServeClients file place counts) = (first_of (codes "file") rows ≡ Some file) × HasPlaceWord rows place × HasCounts rows counts
HasWords rows (Check file) = first_of (codes "file") rows ≡ Some file
HasWords rows (Describe file role table since powers json) = (first_of (codes "file") rows ≡ Some file) × (first_of (codes "role") rows ≡ role) × (first_of (codes "table") rows ≡ table) × (first_of (codes "since") rows ≡ since) × IsFlag (one_of (codes "powers") rows) powers × IsFlag (one_of (codes "json") rows) json
HasWords rows (Explain file role statement session json) = (first_of (codes "file") rows ≡ Some file) × (first_of (codes "role") rows ≡ Some role) × (first_of (codes "statement") rows ≡ Some statement) × (first_of (codes "session") rows ≡ session) × IsFlag (one_of (codes "json") rows) json

-- what follows the command of this name gives it these words
pub record GivesAs (name : TheWord) (rows : List Row) (given : Given) : Type 0 where
  pub named : name ≡ command_of given
  pub words : HasWords rows given

-- the words fit the grammar, and give a command these
pub record Gives (line : TheWords) (given : Given) : Type 0 where
  pub fits : fault_of program_app line ≡ []
  pub rows : List Row
  pub command : subcommand_of program_app line ≡ Some (command_of given, rows)
  pub words : HasWords rows given

-- reading the words ends at a word or a check with this kind of error
abbrev pub EndsReading : ErrorKind → TheWords → Type 0
EndsReading k words = IsAmong k (fault_of program_app words)

-- ---- orders

-- the word that switches a journal on or off
abbrev pub switch_word : Bool → TheWord
switch_word true = codes "on"
switch_word false = codes "off"

-- the number of an option, where one is given
abbrev pub IsSomeNumber : NumberOption → Option TheWord → Option ℕ → Type 0
IsSomeNumber option None None = Unit {0}
IsSomeNumber option (Some word) (Some number) = IsNumberFor option word number
IsSomeNumber option None (Some number) = ⊥
IsSomeNumber option (Some word) None = ⊥

abbrev pub IsIdleFor : Option TheWord → Option ℕ → Type 0
IsIdleFor = IsSomeNumber Idle

-- how long a statement may wait: not at all, where nothing is given
abbrev pub IsWaitFor : Option TheWord → ℕ → Type 0
IsWaitFor None seconds = seconds ≡ 0
IsWaitFor (Some word) seconds = IsNumberFor Wait word seconds

-- how long one may hold the writer lock that another wants: half a minute, where nothing is given
abbrev pub IsBlockFor : Option TheWord → ℕ → Type 0
IsBlockFor None seconds = seconds ≡ 30
IsBlockFor (Some word) seconds = IsNumberFor Block word seconds

-- the numbers of a server of many clients
pub record AreCountsGiven (counts : GivenCounts) (many : ManyClients) : Type 0 where
  pub at_once : IsNumberFor Clients counts.clients many.at_once
  pub connections : IsSomeNumber Connections counts.connections many.connections
  pub wait : IsWaitFor counts.wait many.wait
  pub idle : IsSomeNumber Idle counts.idle many.idle
  pub block : IsBlockFor counts.block many.block

-- the place where a server listens: a port of this number, a path that the system takes for a socket's, or a folder that has one; and the protocol
-- by which it speaks there
abbrev pub NamesPlace : PlaceKind → TheWord → ServedPlace → Type 0
NamesPlace kinds.Port word served = IsPortServed Frames word served
NamesPlace kinds.Socket word served = IsSocketServed word served
NamesPlace kinds.PostgresPort word served = IsPortServed Postgres word served
NamesPlace kinds.PostgresFolder word served = IsFolderServed word served

-- the place, and whom it lets in; `at` says whether it is one of `--at`, where it is told of a port that lets in anyone that no passwords are asked for
pub record IsPlaceBy (at : Bool) (kind : PlaceKind) (word : TheWord) (options : Option TheWord) (served : ServedPlace) : Type 0 where
  pub placed : NamesPlace kind word served
  pub guarded : SaysGuard kind options served.door served.access
  pub tells : served.tells_open ≡ at

abbrev pub IsPlaceAs : PlaceKind → TheWord → Option TheWord → ServedPlace → Type 0
IsPlaceAs kind word options served = IsPlaceBy true kind word options served

abbrev pub IsPlaceFor : GivenPlace → ServedPlace → Type 0
IsPlaceFor (AtPort word) served = IsPlaceBy false kinds.Port word None served
IsPlaceFor (AtSocket word) served = IsPlaceBy false kinds.Socket word None served
IsPlaceFor (At kind word options) served = IsPlaceAs kind word options served
IsPlaceFor (AtEach first others) served = ⊥

-- a port of several places is not one that the system chooses
abbrev pub HasFixedPort : ListenPlace → Type 0
HasFixedPort (listen.Port port) = port ≢ 0
HasFixedPort place = Unit {0}

-- a word names one of several places, and whom it lets in
pub record IsPlaceWord (word : TheWord) (served : ServedPlace) : Type 0 where
  pub kind : PlaceKind
  pub rest : TheWord
  pub options : Option TheWord
  pub cut : word ≡ with_options (place_word kind rest) options
  pub is_first : HasNoComma (place_word kind rest)
  pub named : IsPlaceAs kind rest options served
  pub fixed : HasFixedPort served.place

-- and whether it admits no superuser
abbrev pub IsPlaceNamed : TheWord → NamedPlace → Type 0
IsPlaceNamed word named = ((named.no_superuser ≡ true) × ((rest : TheWord) × (word ≡ rest ++ codes ",no-superuser") × IsPlaceWord rest named.served))
    ⊎ ((named.no_superuser ≡ false) × (BarsSuperusers word → ⊥) × IsPlaceWord word named.served)

abbrev pub NamesNoPlace : TheWord → Type 0
NamesNoPlace word = (named : NamedPlace) → IsPlaceNamed word named → ⊥

-- each word names its place, in their order
abbrev pub ArePlacesNamed : List TheWord → List NamedPlace → Type 0
ArePlacesNamed [] [] = Unit {0}
ArePlacesNamed (word ∷ words) (named ∷ places) = IsPlaceNamed word named × ArePlacesNamed words places
ArePlacesNamed _ _ = ⊥

-- a word that is one of these
abbrev pub IsAmongWords : TheWord → List TheWord → Type 0
IsAmongWords word words = (before after : List TheWord) × (words ≡ before ++ word ∷ after)

-- one of these words names no place
abbrev pub IsNoPlaceOf : List TheWord → UsageFault → Type 0
IsNoPlaceOf words (usage.Place word) = IsAmongWords word.now words × NamesNoPlace word.now
IsNoPlaceOf words usage.Memory = Unit {0}
IsNoPlaceOf words _ = ⊥

-- the role, where one is given: a name that a role can have
abbrev pub IsRoleName : Option TheWord → Type 0
IsRoleName None = Unit {0}
IsRoleName (Some name) = IsName name

-- what `describe` is asked for, as words
abbrev pub role_asked : DescribeAsked → Option TheWord
role_asked (asked.Role name) = Some name.now
role_asked _ = None

abbrev pub table_asked : DescribeAsked → Option TheWord
table_asked (asked.Table name) = Some name.now
table_asked _ = None

abbrev pub since_asked : DescribeAsked → Option TheWord
since_asked (asked.Since old) = Some old.now
since_asked _ = None

abbrev pub are_powers_asked : DescribeAsked → Bool
are_powers_asked asked.Powers = true
are_powers_asked _ = false

-- of what is given the order says the words as they stand, but the numbers as such; names are those that a role can have, and paths of sockets
-- those that the system takes
abbrev pub IsOrdered : (Given → Type 0) → Invocation → Type 0
IsOrdered G (order.Format file pages admin journal) = (number : TheWord) × G (Format file.now number admin.now journal) × IsNumberFor Pages number pages × IsName admin.now
IsOrdered G (order.Copy file new pages journal) = (number : TheWord) × G (Copy file.now new.now number journal) × IsNumberFor Pages number pages
IsOrdered G (order.Dump file out) = G (Dump file.now out.now)
IsOrdered G (order.Restore dump new pages journal) = (number : TheWord) × G (Restore dump.now new.now number journal) × IsNumberFor Pages number pages
IsOrdered G (order.Journal file on) = G (Journal file.now (switch_word on))
IsOrdered G (order.Password whose) = (new mock : Bool) × G (Password new mock) × (verifier_asked new mock ≡ Some whose)
IsOrdered G (order.Run file script on) = (stop explain : Bool) × G (Run file.now script.now stop explain) × (on ≡ at_refusal stop explain)
IsOrdered G (order.RunMemory admin script on) = (stop explain : Bool) × G (RunMemory admin.now script.now stop explain) × (on ≡ at_refusal stop explain) × IsName admin.now
IsOrdered G (order.Serve file port connections idle) = (number count : TheWord) × (limit : Option TheWord) × G (Serve file.now number count limit) × IsNumberFor Port number port × IsNumberFor Connections count connections × IsIdleFor limit idle
IsOrdered G (order.ServeSocket file socket connections idle) = (count : TheWord) × (limit : Option TheWord) × G (ServeSocket file.now socket.now count limit) × IsSocketPath socket.now × IsNumberFor Connections count connections × IsIdleFor limit idle
IsOrdered G (order.ServeClients file place many) = (at : GivenPlace) × (counts : GivenCounts) × G (ServeClients file.now at counts) × IsPlaceFor at place × AreCountsGiven counts many
IsOrdered G (order.ServePlaces file places many) = (first : TheWord) × (others : List TheWord) × (counts : GivenCounts) × G (ServeClients file.now (AtEach first others) counts) × ArePlacesNamed (first ∷ others) places.items × AreCountsGiven counts many
IsOrdered G (order.Check file) = G (Check file.now)
IsOrdered G (order.Describe file asked json) = G (Describe file.now (role_asked asked) (table_asked asked) (since_asked asked) (are_powers_asked asked) json) × IsRoleName (role_asked asked)
IsOrdered G (order.Explain file asked) = G (Explain file.now asked.role.now asked.statement.now (lent_word asked.session) asked.json)
IsOrdered G order.Help = ⊥
IsOrdered G order.Version = ⊥

-- the words give this order, or reading them ends at a flag for help or the version
abbrev pub Asks : TheWords → Invocation → Type 0
Asks words order.Help = EndsReading kind.DisplayHelp words
Asks words order.Version = EndsReading kind.DisplayVersion words
Asks words o = IsOrdered (Gives words) o

-- ---- refusals

-- the word for the name of a role, for the path of a socket, for on or off, and for a number
abbrev pub name_in : Given → Option TheWord
name_in (Format file pages admin journal) = Some admin
name_in (RunMemory admin script stop explain) = Some admin
name_in (Describe file role table since powers json) = role
name_in _ = None

abbrev pub path_in : Given → Option TheWord
path_in (ServeSocket file socket connections idle) = Some socket
path_in (ServeClients file (AtSocket socket) counts) = Some socket
path_in (ServeClients file (At kinds.Socket socket options) counts) = Some socket
path_in _ = None

-- and for the folder of one
abbrev pub folder_in : Given → Option TheWord
folder_in (ServeClients file (At kinds.PostgresFolder folder options) counts) = Some folder
folder_in _ = None

-- the words behind the comma of a place, with its kind
abbrev pub options_in : Given → Option (PlaceKind × TheWord)
options_in (ServeClients file (At kind word (Some options)) counts) = Some (kind, options)
options_in _ = None

-- the words of several places
abbrev pub places_in : Given → List TheWord
places_in (ServeClients file (AtEach first others) counts) = first ∷ others
places_in _ = []

abbrev pub switch_in : Given → Option TheWord
switch_in (Journal file state) = Some state
switch_in _ = None

abbrev pub count_in : NumberOption → GivenCounts → Option TheWord
count_in Clients counts = Some counts.clients
count_in Connections counts = counts.connections
count_in Wait counts = counts.wait
count_in Idle counts = counts.idle
count_in Block counts = counts.block
count_in _ counts = None

abbrev pub number_in : NumberOption → Given → Option TheWord
number_in Pages (Format file pages admin journal) = Some pages
number_in Pages (Copy file new pages journal) = Some pages
number_in Pages (Restore dump new pages journal) = Some pages
number_in Port (Serve file port connections idle) = Some port
number_in Connections (Serve file port connections idle) = Some connections
number_in Connections (ServeSocket file socket connections idle) = Some connections
number_in Idle (Serve file port connections idle) = idle
number_in Idle (ServeSocket file socket connections idle) = idle
number_in Port (ServeClients file (AtPort port) counts) = Some port
number_in Port (ServeClients file (At kinds.Port port options) counts) = Some port
number_in Port (ServeClients file (At kinds.PostgresPort port options) counts) = Some port
number_in option (ServeClients file place counts) = count_in option counts
number_in _ _ = None

-- a word that switches nothing on or off
pub record IsNoSwitch (word : TheWord) : Type 0 where
  pub not_on : word ≢ codes "on"
  pub not_off : word ≢ codes "off"

-- nothing is given that a command takes, or its name, its path, what it says of whom a place lets in, its word for on or off or one of its numbers is
-- none; or `password` has both of its flags
abbrev pub IsUnfit : (Given → Type 0) → UsageFault → Type 0
IsUnfit G usage.Form = (given : Given) → G given → ⊥
IsUnfit G usage.Serving = (given : Given) → G given → ⊥
IsUnfit G usage.ServingClients = (given : Given) → G given → ⊥
IsUnfit G usage.ServingAt = (given : Given) → G given → ⊥
IsUnfit G (usage.Number option word) = (given : Given) × G given × (number_in option given ≡ Some word.now) × NoNumberFor option word.now
IsUnfit G (usage.Path path) = (given : Given) × G given × (path_in given ≡ Some path.now) × (IsSocketPath path.now → ⊥)
IsUnfit G (usage.Folder folder) = (given : Given) × G given × (folder_in given ≡ Some folder.now) × (IsSocketFolder folder.now → ⊥)
IsUnfit G (usage.Options words) = (given : Given) × (kind : PlaceKind) × G given × (options_in given ≡ Some (kind, words.now)) × NoOptions kind words.now
IsUnfit G (usage.Place word) = (given : Given) × G given × IsAmongWords word.now (places_in given) × NamesNoPlace word.now
IsUnfit G usage.Places = (given : Given) → G given → ⊥
IsUnfit G usage.Memory = Unit {0}
IsUnfit G (usage.Name name) = (given : Given) × G given × (name_in given ≡ Some name.now) × (IsName name.now → ⊥)
IsUnfit G (usage.Switch word) = (given : Given) × G given × (switch_in given ≡ Some word.now) × IsNoSwitch word.now
IsUnfit G usage.Making = G (Password true true)
IsUnfit G usage.Describing = (given : Given) × G given × IsMixed given
IsUnfit G _ = ⊥

-- a word was given to an option, and gives it no number
abbrev pub IsNoNumber : NumberOption → Option TheWord → UsageFault → Type 0
IsNoNumber asked given (usage.Number option word) = (option ≡ asked) × (given ≡ Some word.now) × NoNumberFor asked word.now
IsNoNumber asked given _ = ⊥

-- a word that is no path of a socket
abbrev pub IsNoPath : TheWord → UsageFault → Type 0
IsNoPath word (usage.Path path) = (word ≡ path.now) × (IsSocketPath path.now → ⊥)
IsNoPath word _ = ⊥

-- and one that is no folder of one
abbrev pub IsNoFolder : TheWord → UsageFault → Type 0
IsNoFolder word (usage.Folder folder) = (word ≡ folder.now) × (IsSocketFolder folder.now → ⊥)
IsNoFolder word _ = ⊥

-- what stands behind the colon in a word of `--at` names no place of that kind
abbrev pub IsNoPlace : PlaceKind → TheWord → UsageFault → Type 0
IsNoPlace kinds.Port word fault = IsNoNumber Port (Some word) fault
IsNoPlace kinds.Socket word fault = IsNoPath word fault
IsNoPlace kinds.PostgresPort word fault = IsNoNumber Port (Some word) fault
IsNoPlace kinds.PostgresFolder word fault = IsNoFolder word fault

-- what stands behind the comma of a place says nothing of whom it lets in
abbrev pub IsNoOptions : PlaceKind → Option TheWord → UsageFault → Type 0
IsNoOptions kind options (usage.Options words) = (options ≡ Some words.now) × NoOptions kind words.now
IsNoOptions kind options _ = ⊥

-- a word of `--at` names no place of that kind, or does not say whom it lets in
abbrev pub IsNoPlaceAs : PlaceKind → TheWord → Option TheWord → UsageFault → Type 0
IsNoPlaceAs kind word options fault = IsNoPlace kind word fault ⊎ IsNoOptions kind options fault

-- one of the words for numbers gives none
abbrev pub IsNoCount : GivenCounts → UsageFault → Type 0
IsNoCount counts (usage.Number option word) = (count_in option counts ≡ Some word.now) × NoNumberFor option word.now
IsNoCount counts _ = ⊥

-- the error is neither refused memory nor a request for help or the version
pub record IsMistake (e : Error) : Type 0 where
  pub not_memory : kind_of e ≢ kind.OutOfMemory
  pub not_help : kind_of e ≢ kind.DisplayHelp
  pub not_version : kind_of e ≢ kind.DisplayVersion

-- the words fit the grammar, and yet give no command what it takes
abbrev pub HasWrongForm : TheWords → Type 0
HasWrongForm words = (fault_of program_app words ≡ []) × IsUnfit (Gives words) usage.Form

-- reading the words ends with a mistake, or what they give fits no command
abbrev pub Refuses : TheWords → UsageFault → Type 0
Refuses words (usage.Grammar e) = IsMistake e × EndsReading (kind_of e) words
Refuses words usage.Form = HasWrongForm words
Refuses words usage.Serving = HasWrongForm words
Refuses words usage.ServingClients = HasWrongForm words
Refuses words usage.ServingAt = HasWrongForm words
Refuses words usage.Places = HasWrongForm words
Refuses words usage.Memory = Unit {0}
Refuses words u = IsUnfit (Gives words) u

-- ---- an error of `clap`

-- an error is an order where it is a request for help or the version, and else a fault
abbrev pub IsReadFrom : Error → Result Invocation UsageFault → Type 0
IsReadFrom e (Ok order.Help) = kind_of e ≡ kind.DisplayHelp
IsReadFrom e (Ok order.Version) = kind_of e ≡ kind.DisplayVersion
IsReadFrom e (Err (usage.Grammar mistake)) = (mistake ≡ e) × IsMistake e
IsReadFrom e (Err usage.Memory) = kind_of e ≡ kind.OutOfMemory
IsReadFrom e _ = ⊥
