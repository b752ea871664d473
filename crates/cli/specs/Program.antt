-- What the program does for a command: its output, its messages and its exit status.
use Rattle.std.specs.Prelude.{◌≡◌, ◌⊎◌, ◌++◌, ℕ, Bool, true, false, List, [], map, slice_get, codes, Option, Some, Result, Ok, Err, IsUtf8}
use Rattle.std.specs.Borrow.{Bor}
use Rattle.std.specs.Option.{option_map}
use Rattle.sql_types.specs.Name.{IsName}
use Rattle.abstract_database.specs.Lists.{TheName}
use Rattle.abstract_database.specs.Runs.{ReadingRelation}
use Rattle.wire.specs.declared.sink.Sink.{Ghosts as SinkGhosts}
use Rattle.wire.specs.ScriptRun.{Known}
use Rattle.sector_device.specs.declared.device.Device.{Ghosts}
use Rattle.wire.specs.declared.script_run.ScriptEnd.{ScriptEnd}
use Rattle.wire.specs.declared.listener.Served.{Served}
use Rattle.wire.specs.declared.listener.Served.TheVariants as served
use Rattle.wire.specs.Listening.{Listening}
use Rattle.cli.specs.declared.command.Invocation.{Invocation}
use Rattle.cli.specs.declared.command.Invocation.TheVariants as order
use Rattle.cli.specs.declared.command.UsageFault.{UsageFault}
use Rattle.cli.specs.declared.command.UsageFault.TheVariants as usage
use Rattle.cli.specs.declared.texts.TheConstants.{HELP, VERSION}
use Rattle.cli.specs.declared.command_name.CommandName.{CommandName}
use Rattle.cli.specs.declared.command_name.CommandName.TheVariants as command_name
use Rattle.cli.specs.CommandNames.{usage_for}
use Rattle.cli.specs.Usage.{fault_told, name_reason, usage_reason}
use Rattle.cli.specs.declared.fault.CommandFault.{CommandFault}
use Rattle.cli.specs.declared.opened.CommandEnd.{CommandEnd}
use Rattle.cli.specs.Commands.{ChecksFile, RunsFile}
use Rattle.cli.specs.Formatting.{FormatsFile}
use Rattle.cli.specs.Serving.{ServesFile}
use Rattle.systems.specs.declared.place.ListenPlace.{ListenPlace}
use Rattle.systems.specs.declared.place.ListenPlace.TheVariants.{Port, Socket, PostgresFolder, Each}
use Rattle.systems.specs.declared.place.OnePlace.{OnePlace}
use Rattle.systems.specs.Places.{alone}
use Rattle.systems.specs.Systems.{IsSame, SystemState}
use Rattle.cli.specs.declared.fault.CommandFault.TheVariants as fault
use Rattle.cli.specs.declared.ending.Ending.{Ending}
use Rattle.cli.specs.declared.ending.Ending.TheVariants as ending
use Rattle.cli.specs.declared.ending.Exit.{Exit}
use Rattle.cli.specs.declared.ending.Subject.{Subject}
use Rattle.cli.specs.declared.ending.Subject.TheVariants as subject
use Rattle.cli.specs.Ending.{caller_status, ending_of, ending_of_serving, name_message, fault_status, Exits, ExitsAfter, HasTold}
use Rattle.cli.specs.CopyCommand.{Copies}
use Rattle.cli.specs.Restoring.{ChecksOrDump}
use Rattle.cli.specs.DumpCommands.{Dumps, Restores}
use Rattle.cli.specs.Describing.{DescribesAsked}
use Rattle.cli.specs.ExplainCommand.{ExplainsStatement}
use Rattle.cli.specs.Printing.{EndsBy, IsPrinted, Prints}
use Rattle.cli.specs.Running.{RunsOverNew}
use Rattle.cli.specs.ScriptNotes.{HasToldNotes}
use Rattle.channels.specs.declared.attend.Attend.{Ghosts as AttendGhosts}
use Rattle.doors.specs.declared.door_talk.DoorTalk.{DoorTalk}
use Rattle.doors.specs.declared.entry_talk.EntryTalk.{EntryTalk}
use Rattle.placed_talks.specs.declared.placed_talk.PlacedTalk.{PlacedTalk}
use Rattle.systems.specs.declared.place.OnePlace.TheVariants as one
use Rattle.systems.specs.declared.place.SocketAccess.{SocketAccess}
use Rattle.cli.specs.declared.served_place.NamedPlace.{NamedPlace}
use Rattle.cli.specs.SeveralTalks.{StandsAtOne}
use Rattle.cli.specs.OpenPlaces.{by_itself, open_lines}
use Rattle.password_talks.specs.declared.login.PasswordPlace.{PasswordPlace}
use Rattle.password_talks.specs.declared.password_talk.PasswordTalk.{PasswordTalk}
use Rattle.postgres_logins.specs.declared.postgres_login_talk.PostgresLoginTalk.{PostgresLoginTalk}
use Rattle.talks.specs.declared.talk.Talk.{Ghosts as TalkGhosts}
use Rattle.talks.specs.declared.clients.ServedClients.{Ghosts as ClientsGhosts}
use Rattle.talks.specs.declared.clients.Finish.TheVariants as finish
use Rattle.talks.specs.declared.serving.ServeEnd.{ServeEnd}
use Rattle.talks.specs.declared.serving.ServeEnd.TheVariants as clients
use Rattle.cli.specs.declared.serve_clients.ManyClients.{ManyClients}
use Rattle.cli.specs.declared.served_place.PlaceDoor.{PlaceDoor}
use Rattle.cli.specs.declared.served_place.PlaceDoor.TheVariants.{Anyone, Only, Passwords}
use Rattle.cli.specs.declared.served_place.Protocol.TheVariants.{Frames, Postgres}
use Rattle.cli.specs.declared.served_place.ServedPlace.{ServedPlace}
use Rattle.cli.specs.ServingClients.{IsDoorFor, ServesClientsFile, password_place}
use Rattle.cli.specs.Script.{IsReadAt, Source, ill_encoded}
use Rattle.cli.specs.JournalCommand.{Switches}
use Rattle.cli.specs.PasswordCommand.{MakesVerifier}

-- ---- faults of usage

-- the reason, how the program or its command is called, and where its help is
abbrev pub usage_message : List ℕ → List ℕ → List ℕ
usage_message usage reason = codes "error: " ++ (reason ++ (codes "\n\nUsage: " ++ (usage ++ codes "\n\nFor more information, try '--help'.\n")))

-- what standard error is told of a fault of usage of a command; refused memory is told as elsewhere
abbrev pub usage_text : Option CommandName → UsageFault → Option (List ℕ)
usage_text command usage.Memory = Some (name_message fault.Memory)
usage_text command u = option_map (usage_message (usage_for command)) (usage_reason (fault_told command u))

abbrev pub usage_status : UsageFault → ℕ
usage_status usage.Memory = fault_status
usage_status _ = caller_status

-- ---- the run of a script

-- this fault was told, and nothing was printed
abbrev pub IsUntouched : {K : Type 0} → Subject → CommandFault → Exit → K → K → Known → Known → Type 0
IsUntouched about f exit out_before out_after err_before err_after = Exits about (ending.Fault f) exit err_before err_after × (out_after ≡ out_before)

-- a script was run over a new database of this administrator, how that ended was told, and then the notes of the script
pub record RunsText (about : Subject) (X : Type 0) {K : Type 0} (Reads : ReadingRelation) (k : SinkGhosts K) (admin : TheName) (script : List ℕ) (exit : Exit) (out_before out_after : K) (err_before err_after : Known) : Type 0 where
  pub ending : Ending
  pub first : Exit
  pub heard : Known
  pub runs : RunsOverNew X Reads k admin script out_before ending out_after
  pub ends : Exits about ending first err_before heard
  pub noted : HasToldNotes first about script ending exit heard err_after

-- a script of UTF-8 was run so; another was not, for the first byte that is none
pub record RunsBytes (about : Subject) (X : Type 0) {K : Type 0} (Reads : ReadingRelation) (k : SinkGhosts K) (admin : TheName) (script : List ℕ) (exit : Exit) (out_before out_after : K) (err_before err_after : Known) : Type 0 where
  pub encoded : IsUtf8 script → RunsText about X Reads k admin script exit out_before out_after err_before err_after
  pub other : (IsUtf8 script → ⊥) → IsUntouched about (ill_encoded script) exit out_before out_after err_before err_after

-- the script was run over a new database of this administrator, unless it could not be read or memory was refused before
abbrev pub RunsSource : Subject → Type 0 → {K : Type 0} → ReadingRelation → SinkGhosts K → TheName → Source → Exit → K → K → Known → Known → Type 0
RunsSource about X Reads k admin (Ok script) exit out_before out_after err_before err_after = RunsBytes about X Reads k admin script.items exit out_before out_after err_before err_after
RunsSource about X Reads k admin (Err f) exit out_before out_after err_before err_after = IsUntouched about f exit out_before out_after err_before err_after

-- the work of a command was done for a name that a role can have; any other is the caller's fault, and nothing was printed
pub record DoneFor {K : Type 0} (command : CommandName) (admin : List ℕ) (Done : Type 0) (exit : Exit) (out_before out_after : K) (err_before err_after : Known) : Type 0 where
  pub named : IsName admin → Done
  pub unnamed : (IsName admin → ⊥) → (exit.status ≡ caller_status) × HasTold exit (usage_message (usage_for (Some command)) (name_reason admin)) err_before err_after × (out_after ≡ out_before)

-- the script was run over a new database in memory whose one role has this name
abbrev pub RunsFor : Subject → Type 0 → {K : Type 0} → ReadingRelation → SinkGhosts K → List ℕ → Source → Exit → K → K → Known → Known → Type 0
RunsFor about X Reads k admin script exit out_before out_after err_before err_after =
    DoneFor command_name.Run admin (IsUntouched about fault.Memory exit out_before out_after err_before err_after ⊎ RunsSource about X Reads k admin script exit out_before out_after err_before err_after)
    exit out_before out_after err_before err_after

-- ---- a command over a file

-- where the command was carried out the text was printed; else its fault is the end, and nothing was
abbrev pub IsAnswered : Result (Unit {0}) CommandFault → List ℕ → Known → Ending → Known → Type 0
IsAnswered (Ok x) text before e after = IsPrinted text before e after
IsAnswered (Err f) text before e after = (e ≡ ending.Fault f) × (after ≡ before)

-- ---- over a system

-- nothing of the system has changed, if it is faithful
abbrev pub StaysSame : {D L : Type 0} → SystemState D L → SystemState D L → Type 0
StaysSame old new = old.faithful → IsSame old new

-- a database was made in a new file, with a journal or without, or it was not
pub record Formats {D L : Type 0} (g : Ghosts D) (old : SystemState D L) (path : List ℕ) (pages : ℕ) (admin : TheName) (journal : Bool) (before : Known) (e : Ending) (new : SystemState D L) (after : Known) : Type 0 where
  pub outcome : Result (Unit {0}) CommandFault
  pub formats : FormatsFile g old path pages admin journal outcome new
  pub answered : IsAnswered outcome (codes "ok FORMAT\n") before e after

-- memory was refused before anything was done
pub record IsNotFormatted {D L : Type 0} (old : SystemState D L) (before : Known) (e : Ending) (new : SystemState D L) (after : Known) : Type 0 where
  pub ends : e ≡ ending.Fault fault.Memory
  pub same : IsSame old new
  pub silent : after ≡ before

-- so it was for a name that a role can have; for any other, or where memory was refused before, nothing was done
pub record DoesFormat {D L K : Type 0} (g : Ghosts D) (k : SinkGhosts K) (old : SystemState D L) (file : Subject) (path : List ℕ) (pages : ℕ) (admin : List ℕ) (journal : Bool) (exit : Exit) (new : SystemState D L) (out_before out_after : K) (err_before err_after : Known) : Type 0 where
  pub does : DoneFor command_name.Format admin (EndsBy file (λ e. IsNotFormatted old (k.held out_before) e new (k.held out_after) ⊎ Formats g old path pages admin journal (k.held out_before) e new (k.held out_after)) exit err_before err_after) exit out_before out_after err_before err_after
  pub unnamed : (IsName admin → ⊥) → IsSame old new

-- a database was opened over the file, or none was; that the file was migrated was told, where it was. Where no database is there, it
-- was read as a dump
pub record Checks (X : Type 0) {D L S : Type 0} (g : Ghosts D) (state : S → SystemState D L) (old : SystemState D L) (file : Subject) (path : List ℕ) (exit : Exit) (new : SystemState D L) (out_before out_after err_before err_after : Known) : Type 0 where
  pub end : CommandEnd (Unit {0})
  pub heard : Known
  pub mid : S
  pub checks : ChecksFile X g old path err_before end (state mid) heard
  pub outcome : Result (Unit {0}) CommandFault
  pub reads : ChecksOrDump g (state mid) path end.outcome outcome new
  pub ending : Ending
  pub answered : IsAnswered outcome (codes "ok CHECK\n") out_before ending out_after
  pub ends : ExitsAfter end.told file ending exit heard err_after

-- how the run of a script over a file ended
abbrev pub ending_of_run : Result ScriptEnd CommandFault → Ending
ending_of_run (Ok end) = ending_of end
ending_of_run (Err f) = ending.Fault f

-- `file` is what messages call the file, and `path` its path
module _ (X : Type 0) {D L K : Type 0} (g : Ghosts D) (k : SinkGhosts K) (Reads : ReadingRelation) (old : SystemState D L) (file : Subject) (path : List ℕ) where
  -- the script was run over the database in the file, or that was not opened; that it was migrated was told, where it was, then how it ended,
  -- and then the notes of the script
  pub record RunsOverFile (script : Subject) (text : List ℕ) (exit : Exit) (new : SystemState D L) (out_before out_after : K) (err_before err_after : Known) : Type 0 where
    pub end : CommandEnd ScriptEnd
    pub first : Exit
    pub heard : Known
    pub told : Known
    pub runs : RunsFile X g k Reads old path text out_before err_before end new out_after heard
    pub ends : ExitsAfter end.told file (ending_of_run end.outcome) first heard told
    pub noted : HasToldNotes first script text (ending_of_run end.outcome) exit told err_after

  -- the fault of a script was told, and nothing else was done
  pub record IsNoneRun (script : Subject) (f : CommandFault) (exit : Exit) (new : SystemState D L) (out_before out_after : K) (err_before err_after : Known) : Type 0 where
    pub ends : Exits script (ending.Fault f) exit err_before err_after
    pub silent : out_after ≡ out_before
    pub same : StaysSame old new

  -- a script of UTF-8 was run over the database in the file; of another the first byte that is none was told
  pub record RunsBytesOver (script : Subject) (read : List ℕ) (exit : Exit) (new : SystemState D L) (out_before out_after : K) (err_before err_after : Known) : Type 0 where
    pub encoded : IsUtf8 read → RunsOverFile script read exit new out_before out_after err_before err_after
    pub other : (IsUtf8 read → ⊥) → IsNoneRun script (ill_encoded read) exit new out_before out_after err_before err_after

  -- so it was with what was read of the script; or why it could not be read was told
  abbrev pub RunsRead : Subject → Source → Exit → SystemState D L → K → K → Known → Known → Type 0
  RunsRead script (Ok read) exit new out_before out_after err_before err_after = RunsBytesOver script read.items exit new out_before out_after err_before err_after
  RunsRead script (Err f) exit new out_before out_after err_before err_after = IsNoneRun script f exit new out_before out_after err_before err_after

  -- the text that the script's path names was run, or why it could not be read was told
  pub record RunsOver (script : Subject) (script_path : List ℕ) (exit : Exit) (new : SystemState D L) (out_before out_after : K) (err_before err_after : Known) : Type 0 where
    pub source : Source
    pub read : IsReadAt old script_path source new
    pub runs : RunsRead script source exit new out_before out_after err_before err_after

-- the text that the script's path names was run over a new database in memory, and nothing else was done
pub record RunsInMemory (X : Type 0) {D L K : Type 0} (k : SinkGhosts K) (Reads : ReadingRelation) (old : SystemState D L) (script : Subject) (admin script_path : List ℕ) (exit : Exit) (new : SystemState D L) (out_before out_after : K) (err_before err_after : Known) : Type 0 where
  pub source : Source
  pub read : IsReadAt old script_path source new
  pub same : StaysSame old new
  pub runs : RunsFor script X Reads k admin source exit out_before out_after err_before err_after

-- how a server ended
abbrev pub ending_of_server : Result Served CommandFault → Ending
ending_of_server (Ok served) = ending_of_serving served
ending_of_server (Err f) = ending.Fault f

-- the place where a server listens, as messages name it
abbrev pub place_subject : ListenPlace → Subject
place_subject (Port port) = subject.Port port
place_subject (Socket path) = subject.Named path
place_subject (PostgresFolder folder) = subject.PostgresFolder folder
place_subject (Each places) = subject.Port 0

-- the place that a message is about: of several one of them
abbrev pub IsAboutPlace : ListenPlace → ListenPlace → Type 0
IsAboutPlace (Each places) about = ((places.now ≡ []) × (about ≡ Each places)) ⊎ ((n : ℕ) × (p : OnePlace) × (slice_get places.now n ≡ Some p) × (about ≡ alone p))
IsAboutPlace place about = about ≡ place

-- what a fault of a server is about: the place, once the database is open, where it is not bound
abbrev pub fault_subject : Subject → ListenPlace → CommandFault → Subject
fault_subject file place (fault.Net cause) = place_subject place
fault_subject file place f = file

-- what the end of a server is about
abbrev pub server_subject : Subject → ListenPlace → Result Served CommandFault → Subject
server_subject file place (Ok served) = place_subject place
server_subject file place (Err f) = fault_subject file place f

-- so many connections at most were served at a place over the database in a file, or why they were not was told; that the file
-- was migrated was told, where it was
pub record Serves (X : Type 0) {D L C : Type 0} (g : Ghosts D) (c : SinkGhosts C) (Reads : ReadingRelation) (listening : L → Option Listening) (old : SystemState D L) (file : Subject) (path : List ℕ) (place : ListenPlace) (connections : ℕ) (exit : Exit) (new : SystemState D L) (err_before err_after : Known) : Type 0 where
  pub end : CommandEnd Served
  pub heard : Known
  pub serves : ServesFile X g c Reads listening old path place connections err_before end new heard
  pub ends : ExitsAfter end.told (server_subject file place end.outcome) (ending_of_server end.outcome) exit heard err_after

-- how a server of many clients ended: where as many turns were taken, or looks, as there are numbers, as one that has served all
abbrev pub served_by : ServeEnd → Served
served_by (clients.Ended finish.Done) = served.Done
served_by (clients.Ended finish.Stopped) = served.Stopped
served_by (clients.Ended finish.Net) = served.Net
served_by (clients.Ended finish.LookLimit) = served.Done
served_by clients.TurnLimit = served.Done

abbrev pub outcome_of_clients : Result ServeEnd CommandFault → Result Served CommandFault
outcome_of_clients (Ok end) = Ok (served_by end)
outcome_of_clients (Err f) = Err f

-- many clients at once were served at a place over the database in a file, or why they were not was told; that the file was migrated was told, where it
-- was. `open_told` is what is told of open places, and `Made` is said of the conversations that are made there
pub record ServesMany (X : Type 0) {D L C T P : Type 0} (g : Ghosts D) (a : AttendGhosts L C) (t : TalkGhosts T) (p : ClientsGhosts P T) (Reads : ReadingRelation) (old : SystemState D L) (file : Subject) (path : List ℕ) (place : ListenPlace) (open_told : List ℕ) (Made : T → Type 0) (many : ManyClients) (exit : Exit) (new : SystemState D L) (err_before err_after : Known) : Type 0 where
  pub end : CommandEnd ServeEnd
  pub heard : Known
  pub serves : ServesClientsFile X g a t p Reads old path place open_told Made many err_before end new heard
  pub about : ListenPlace
  pub part : IsAboutPlace place about
  pub ends : ExitsAfter end.told (server_subject file about (outcome_of_clients end.outcome)) (ending_of_server (outcome_of_clients end.outcome)) exit heard err_after

-- a place asks for passwords
abbrev pub asks_for_passwords : PlaceDoor → Bool
asks_for_passwords Anyone = false
asks_for_passwords (Only role) = false
asks_for_passwords (Passwords table mock) = true

-- the same by one protocol, by whom the place lets in: each conversation stands at its door, or each asks for a password whose verifier is in the table
-- that is named, by an exchange that begins with bytes that may be drawn. `t` and `p` are said of the first, `v` and `w` of the others, `place_of` is the
-- place at which one of those asks, `drawn_of` what was drawn for it, and `MayDraw` says what may be
pub record ServesManyBy (X : Type 0) {D L C T P V W I : Type 0} (g : Ghosts D) (a : AttendGhosts L C) (t : TalkGhosts (DoorTalk T)) (p : ClientsGhosts P (DoorTalk T)) (v : TalkGhosts V) (w : ClientsGhosts W V) (place_of : V → PasswordPlace) (drawn_of : V → List ℕ) (MayDraw : I → List ℕ → Type 0) (Reads : ReadingRelation) (old : SystemState D L) (file : Subject) (path : List ℕ) (place : ServedPlace) (many : ManyClients) (exit : Exit) (new : SystemState D L) (err_before err_after : Known) : Type 0 where
  pub at_door : asks_for_passwords place.door ≡ false → ServesMany X g a t p Reads old file path place.place (open_lines (by_itself place)) (λ talk. IsDoorFor place.door talk.door) many exit new err_before err_after
  pub with_passwords : (table mock : Bor (List ℕ)) → place.door ≡ Passwords table mock → (draw : I) × ServesMany X g a v w Reads old file path place.place (open_lines (by_itself place))
      (λ talk. (place_of talk ≡ password_place table.now mock.now) × MayDraw draw (drawn_of talk)) many exit new err_before err_after

-- the same by the protocol of the place: `t` is what is said of conversations in frames, `p` of the clients that have them, and `v` and `w` the same of
-- those that ask for passwords; `u`, `q`, `m` and `n` are the same of PostgreSQL's protocol
pub record ServesManyAt (X : Type 0) {D L C T P U Q V W M N I : Type 0} (g : Ghosts D) (a : AttendGhosts L C) (t : TalkGhosts (DoorTalk T)) (p : ClientsGhosts P (DoorTalk T)) (u : TalkGhosts (DoorTalk U)) (q : ClientsGhosts Q (DoorTalk U)) (v : TalkGhosts (PasswordTalk V)) (w : ClientsGhosts W (PasswordTalk V)) (m : TalkGhosts (PostgresLoginTalk M)) (n : ClientsGhosts N (PostgresLoginTalk M)) (MayDraw : I → List ℕ → Type 0) (Reads : ReadingRelation) (old : SystemState D L) (file : Subject) (path : List ℕ) (place : ServedPlace) (many : ManyClients) (exit : Exit) (new : SystemState D L) (err_before err_after : Known) : Type 0 where
  pub in_frames : place.protocol ≡ Frames → ServesManyBy X g a t p v w (λ talk. talk.login.place) (λ talk. talk.login.drawn) MayDraw Reads old file path place many exit new err_before err_after
  pub by_postgres : place.protocol ≡ Postgres → ServesManyBy X g a u q m n (λ talk. talk.login.place) (λ talk. talk.login.drawn) MayDraw Reads old file path place many exit new err_before err_after

-- one of several places, as it is to be bound; several are not one of them
abbrev pub bound_at : SocketAccess → ListenPlace → OnePlace
bound_at access (Port port) = one.Port port
bound_at access (Socket path) = one.Socket path access
bound_at access (PostgresFolder folder) = one.PostgresFolder folder access
bound_at access (Each places) = one.Port 0

abbrev pub bound_place : ServedPlace → OnePlace
bound_place served = bound_at served.access served.place

-- these places are to be bound
abbrev pub bound_places : List NamedPlace → List OnePlace
bound_places places = map (λ named. bound_place named.served) places

-- Many clients at once were served at all of these places over the database in a file, or why they were not was told. The conversation of each client is
-- one at one of the places, by the words of that place; where it asks for a password it begins with bytes that may be drawn. `t` and `p` are what is said of conversations there and of the clients that have them
pub record ServesAllPlaces (X : Type 0) {D L C F P V W Q I : Type 0} (g : Ghosts D) (a : AttendGhosts L C) {s : TalkGhosts (PlacedTalk (DoorTalk F) (DoorTalk P) (PasswordTalk V) (PostgresLoginTalk W))}
    (t : TalkGhosts (EntryTalk (PlacedTalk (DoorTalk F) (DoorTalk P) (PasswordTalk V) (PostgresLoginTalk W)) s)) (p : ClientsGhosts Q (EntryTalk (PlacedTalk (DoorTalk F) (DoorTalk P) (PasswordTalk V) (PostgresLoginTalk W)) s))
    (MayDraw : I → List ℕ → Type 0) (Reads : ReadingRelation) (old : SystemState D L) (file : Subject) (path : List ℕ) (places : List NamedPlace) (many : ManyClients) (exit : Exit) (new : SystemState D L) (err_before err_after : Known) : Type 0 where
  pub bound : Bor (List OnePlace)
  pub are_bound : bound.now ≡ bound_places places
  pub draw : I
  pub serves : ServesMany X g a t p Reads old file path (Each bound) (open_lines places) (StandsAtOne (MayDraw draw) places) many exit new err_before err_after

-- memory was refused before anything was done
pub record ServesNoPlace {D L : Type 0} (old : SystemState D L) (file : Subject) (exit : Exit) (new : SystemState D L) (err_before err_after : Known) : Type 0 where
  pub ends : Exits file (ending.Fault fault.Memory) exit err_before err_after
  pub same : StaysSame old new

abbrev pub ServesPlaces : (X : Type 0) {D L C F P V W Q I : Type 0} (g : Ghosts D) (a : AttendGhosts L C) {s : TalkGhosts (PlacedTalk (DoorTalk F) (DoorTalk P) (PasswordTalk V) (PostgresLoginTalk W))}
    (t : TalkGhosts (EntryTalk (PlacedTalk (DoorTalk F) (DoorTalk P) (PasswordTalk V) (PostgresLoginTalk W)) s)) (p : ClientsGhosts Q (EntryTalk (PlacedTalk (DoorTalk F) (DoorTalk P) (PasswordTalk V) (PostgresLoginTalk W)) s))
    → (I → List ℕ → Type 0) → ReadingRelation → SystemState D L → Subject → List ℕ → List NamedPlace → ManyClients → Exit → SystemState D L → Known → Known → Type 0
ServesPlaces X g a t p MayDraw Reads old file path places many exit new err_before err_after =
    ServesNoPlace old file exit new err_before err_after ⊎ ServesAllPlaces X g a t p MayDraw Reads old file path places many exit new err_before err_after

-- ---- what a command does

-- `X` decides events, `g` is what is said of the devices of files, `k` of the sink that takes answers, `c` of the sinks of connections,
-- `listening` of listeners, `a` of those that are polled, `t` of conversations in frames, `p` of clients that come to such a listener and have them, `u` and `q` the same of
-- PostgreSQL's protocol, `v` and `w` of frames that ask for passwords, `m` and `n` of PostgreSQL's protocol that does, `o` and `r` of conversations at several places, `MayDraw` of what the system draws, and `state` of systems. The script that was named was run over the database that was named, or why not was told; a
-- database in a file was made, copied, checked, described or served, a statement over it was explained, or its journal was turned on or off; a verifier was made; or a text was printed
module _ (X : Type 0) {D L K C S H T P U Q V W M N R I : Type 0} (g : Ghosts D) (k : SinkGhosts K) (c : SinkGhosts C) (a : AttendGhosts L H) (t : TalkGhosts (DoorTalk T)) (p : ClientsGhosts P (DoorTalk T)) (u : TalkGhosts (DoorTalk U)) (q : ClientsGhosts Q (DoorTalk U)) (v : TalkGhosts (PasswordTalk V)) (w : ClientsGhosts W (PasswordTalk V)) (m : TalkGhosts (PostgresLoginTalk M)) (n : ClientsGhosts N (PostgresLoginTalk M)) {s : TalkGhosts (PlacedTalk (DoorTalk T) (DoorTalk U) (PasswordTalk V) (PostgresLoginTalk M))}
    (o : TalkGhosts (EntryTalk (PlacedTalk (DoorTalk T) (DoorTalk U) (PasswordTalk V) (PostgresLoginTalk M)) s)) (r : ClientsGhosts R (EntryTalk (PlacedTalk (DoorTalk T) (DoorTalk U) (PasswordTalk V) (PostgresLoginTalk M)) s))
    (MayDraw : I → List ℕ → Type 0) (Reads : ReadingRelation) (listening : L → Option Listening) (state : S → SystemState D L) (old : SystemState D L) where
  abbrev pub IsPerformed : Invocation → Exit → SystemState D L → K → K → Known → Known → Type 0
  IsPerformed (order.Format file pages admin journal) exit new out_before out_after err_before err_after =
      DoesFormat g k old (subject.Named file) file.now pages admin.now journal exit new out_before out_after err_before err_after
  IsPerformed (order.Copy file target pages journal) exit new out_before out_after err_before err_after =
      Copies g state old file target pages journal exit new (k.held out_before) (k.held out_after) err_before err_after
  IsPerformed (order.Dump file target) exit new out_before out_after err_before err_after =
      Dumps g state old file target exit new (k.held out_before) (k.held out_after) err_before err_after
  IsPerformed (order.Restore dump target pages journal) exit new out_before out_after err_before err_after =
      Restores g state old dump target pages journal exit new (k.held out_before) (k.held out_after) err_before err_after
  IsPerformed (order.Journal file on) exit new out_before out_after err_before err_after =
      Switches g old file on exit new (k.held out_before) (k.held out_after) err_before err_after
  IsPerformed (order.Password whose) exit new out_before out_after err_before err_after =
      MakesVerifier old whose exit new (k.held out_before) (k.held out_after) err_before err_after
  IsPerformed (order.Run file script on) exit new out_before out_after err_before err_after =
      RunsOver X g k Reads old (subject.Named file) file.now (subject.Named script) script.now exit new out_before out_after err_before err_after
  IsPerformed (order.RunMemory admin script on) exit new out_before out_after err_before err_after =
      RunsInMemory X k Reads old (subject.Named script) admin.now script.now exit new out_before out_after err_before err_after
  IsPerformed (order.Serve file port connections idle) exit new out_before out_after err_before err_after =
      Serves X g c Reads listening old (subject.Named file) file.now (Port port) connections exit new err_before err_after × (out_after ≡ out_before)
  IsPerformed (order.ServeSocket file socket connections idle) exit new out_before out_after err_before err_after =
      Serves X g c Reads listening old (subject.Named file) file.now (Socket socket) connections exit new err_before err_after × (out_after ≡ out_before)
  IsPerformed (order.ServeClients file place many) exit new out_before out_after err_before err_after =
      ServesManyAt X g a t p u q v w m n MayDraw Reads old (subject.Named file) file.now place many exit new err_before err_after × (out_after ≡ out_before)
  IsPerformed (order.ServePlaces file places many) exit new out_before out_after err_before err_after =
      ServesPlaces X g a o r MayDraw Reads old (subject.Named file) file.now places.items many exit new err_before err_after × (out_after ≡ out_before)
  IsPerformed (order.Check file) exit new out_before out_after err_before err_after =
      Checks X g state old (subject.Named file) file.now exit new (k.held out_before) (k.held out_after) err_before err_after
  IsPerformed (order.Describe file asked json) exit new out_before out_after err_before err_after =
      DescribesAsked g state old file asked json exit new (k.held out_before) (k.held out_after) err_before err_after
  IsPerformed (order.Explain file asked) exit new out_before out_after err_before err_after =
      ExplainsStatement g old file asked exit new (k.held out_before) (k.held out_after) err_before err_after
  IsPerformed order.Help exit new out_before out_after err_before err_after =
      Prints HELP.now exit (k.held out_before) (k.held out_after) err_before err_after × IsSame old new
  IsPerformed order.Version exit new out_before out_after err_before err_after =
      Prints VERSION.now exit (k.held out_before) (k.held out_after) err_before err_after × IsSame old new
