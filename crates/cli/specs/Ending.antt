-- How the program's work ends: its exit status, and the lines that it writes to standard error.
use Rattle.std.specs.Prelude.{◌≡◌, ◌++◌, ℕ, Bool, true, List, [], codes, decimal}
use Rattle.std.specs.Io.KnownBytes.{Appends}
use Rattle.sector_device.specs.declared.system_cause.SystemCause.TheVariants.{Other}
use Rattle.sector_device.specs.SystemCause.{cause_text}
use Rattle.sql_types.specs.State.{state_code}
use Rattle.wire.specs.AnswerText.{newline}
use Rattle.wire.specs.declared.script_run.ScriptEnd.{ScriptEnd}
use Rattle.wire.specs.declared.script_run.ScriptEnd.TheVariants as end
use Rattle.wire.specs.ScriptRun.{Known}
use Rattle.wire.specs.declared.listener.Served.{Served}
use Rattle.wire.specs.declared.listener.Served.TheVariants as served
use Rattle.systems.specs.Places.{postgres_socket}
use Rattle.diagnostics.specs.Meanings.{refusal_meaning}
use Rattle.cli.specs.declared.fault.CommandFault.{CommandFault}
use Rattle.cli.specs.declared.fault.CommandFault.TheVariants as fault
use Rattle.cli.specs.declared.ending.Subject.{Subject}
use Rattle.cli.specs.declared.ending.Subject.TheVariants as subject
use Rattle.cli.specs.declared.ending.Ending.{Ending}
use Rattle.cli.specs.declared.ending.Ending.TheVariants as ending
use Rattle.cli.specs.declared.ending.Exit.{Exit}

-- ---- how it ends

-- the end of a server
abbrev pub ending_of_serving : Served → Ending
ending_of_serving served.Done = ending.Served
ending_of_serving served.Stopped = ending.ServerStopped
ending_of_serving served.Net = ending.Fault (fault.Net Other)

-- the end of a script: where the writer failed, standard output did
abbrev pub ending_of : ScriptEnd → Ending
ending_of end.Done = ending.Done
ending_of (end.BadLine number) = ending.BadLine number
ending_of end.Stopped = ending.Stopped
ending_of end.Writer = ending.Fault fault.Output
ending_of end.Memory = ending.Fault fault.Memory

-- ---- messages

abbrev pub fault_name : CommandFault → List ℕ
fault_name fault.Memory = codes "Memory"
fault_name (fault.Device cause) = codes "Device"
fault_name fault.Damaged = codes "Damaged"
fault_name fault.Full = codes "Full"
fault_name fault.Number = codes "Number"
fault_name fault.WrongSize = codes "WrongSize"
fault_name fault.NotADatabase = codes "NotADatabase"
fault_name (fault.NewerFormat format) = codes "Format"
fault_name fault.Exists = codes "Exists"
fault_name fault.Partial = codes "Exists"
fault_name (fault.NoRoom pages least) = codes "Full"
fault_name fault.NotADump = codes "NotADump"
fault_name (fault.OtherDump version) = codes "Format"
fault_name fault.DamagedDump = codes "Damaged"
fault_name (fault.NoDumpRoom pages) = codes "Full"
fault_name fault.InUse = codes "InUse"
fault_name (fault.Net cause) = codes "Net"
fault_name (fault.ScriptUnread cause) = codes "Script"
fault_name (fault.ScriptNotUtf8 line byte) = codes "Script"
fault_name fault.NoPassword = codes "Password"
fault_name fault.ManyLines = codes "Password"
fault_name fault.NoRole = codes "NoRole"
fault_name (fault.StatementRefused code) = codes "Statement"
fault_name fault.NotOverRows = codes "Statement"
fault_name fault.FirstFormat = codes "Format"
fault_name fault.NoSwitchRoom = codes "Full"
fault_name fault.NoSwitchNumber = codes "Number"
fault_name fault.PrintedTo = codes "Output"
fault_name fault.Output = codes "Output"

-- what a fault means for what it is about, and what to do
abbrev pub reason_text : CommandFault → List ℕ
reason_text fault.Memory = codes "no memory is left"
reason_text (fault.Device cause) = cause_text cause
reason_text fault.Damaged = codes "the database is damaged; restore it from a copy"
reason_text fault.Full = codes "of format 1, with no room for its records in format 2; make some with an older guarddb"
reason_text fault.Number = codes "of format 1, with no commit number left to bring it to format 2"
reason_text fault.WrongSize = codes "not 64 to 65536 pages of 4096 bytes, or not as many as it was made with"
reason_text fault.NotADatabase = codes "not a database; 'guarddb format' makes one in a new file"
reason_text (fault.NewerFormat format) = codes "of format " ++ (decimal format ++ codes ", and this guarddb knows 1 to 3; open it with the guarddb that made it, or restore a copy")
reason_text fault.Exists = codes "the name is taken; this command makes a new file"
reason_text fault.Partial = codes "a copy is made there, or was stopped; once none is made it can be removed"
reason_text (fault.NoRoom pages least) = codes "the database does not fit in " ++ (decimal pages ++ (codes " pages; it wants at least " ++ decimal least))
reason_text fault.NotADump = codes "no dump, or one that is cut off; 'guarddb dump' makes one of a database"
reason_text (fault.OtherDump version) = codes "a dump of version " ++ (decimal version ++ codes ", and this guarddb knows 1; restore it with the guarddb that made it")
reason_text fault.DamagedDump = codes "the dump is cut off or damaged, or is of no database; restore another"
reason_text (fault.NoDumpRoom pages) = codes "the database does not fit in " ++ (decimal pages ++ codes " pages; ask for more")
reason_text fault.InUse = codes "another process has it open"
reason_text (fault.Net cause) = cause_text cause
reason_text (fault.ScriptUnread cause) = cause_text cause
reason_text (fault.ScriptNotUtf8 line byte) = codes "line " ++ (decimal line ++ (codes ", byte " ++ (decimal byte ++ codes ": not UTF-8")))
reason_text fault.NoPassword = codes "a password has 1 to 1,024 characters of ASCII, from the space to the tilde"
reason_text fault.ManyLines = codes "it has more than the line of a password"
reason_text fault.NoRole = codes "no role of the database has this name"
reason_text (fault.StatementRefused code) = codes "refused with " ++ (state_code code ++ (codes ", " ++ refusal_meaning code))
reason_text fault.NotOverRows = codes "no SELECT, INSERT, UPDATE or DELETE"
reason_text fault.FirstFormat = codes "of format 1; 'guarddb check' brings it to format 2, which can have a journal"
reason_text fault.NoSwitchRoom = codes "no room is left for this; copy it to a larger file"
reason_text fault.NoSwitchNumber = codes "no commit number is left for this"
reason_text fault.PrintedTo = codes "standard output or standard error goes to it; send that elsewhere"
reason_text fault.Output = codes "closed, or it takes no more"

-- the file, the place or the statement
abbrev pub subject_text : Subject → List ℕ
subject_text (subject.Named name) = name.now
subject_text (subject.Partial name) = name.now ++ codes ".partial"
subject_text (subject.Port port) = codes "127.0.0.1:" ++ decimal port
subject_text subject.Statement = codes "the statement"
subject_text (subject.PostgresFolder folder) = postgres_socket folder.now

-- the program's name, a text, and a newline
abbrev pub message : List ℕ → List ℕ
message text = codes "guarddb: " ++ (text ++ newline)

-- the line of a fault's name
abbrev pub name_message : CommandFault → List ℕ
name_message f = message (fault_name f)

-- and a second one: what it is about, and why it came
abbrev pub fault_message : Subject → CommandFault → List ℕ
fault_message about fault.Memory = name_message fault.Memory
fault_message about fault.Output = name_message fault.Output ++ message (codes "standard output: " ++ reason_text fault.Output)
fault_message about f = name_message f ++ message (subject_text about ++ (codes ": " ++ reason_text f))

abbrev pub bad_line_message : ℕ → List ℕ
bad_line_message number = message (codes "line " ++ decimal number)

abbrev pub done_message : List ℕ
done_message = message (codes "done")

abbrev pub stopped_message : List ℕ
stopped_message = message (codes "stopped")

-- what standard error is owed: of a server that has stopped its last answer has told, and of a reader who has left nothing
abbrev pub ending_message : Subject → Ending → List ℕ
ending_message about ending.Done = []
ending_message about (ending.BadLine number) = bad_line_message number
ending_message about ending.Stopped = []
ending_message about ending.Served = done_message
ending_message about ending.ServerStopped = stopped_message
ending_message about ending.ReaderLeft = []
ending_message about ending.Refused = []
ending_message about ending.Differs = []
ending_message about (ending.Fault f) = fault_message about f

-- an end of which standard error is told nothing
abbrev pub OwesNothing : Ending → Type 0
OwesNothing ending.Done = Unit {0}
OwesNothing (ending.BadLine number) = ⊥
OwesNothing ending.Stopped = Unit {0}
OwesNothing ending.Served = ⊥
OwesNothing ending.ServerStopped = ⊥
OwesNothing ending.ReaderLeft = Unit {0}
OwesNothing ending.Refused = Unit {0}
OwesNothing ending.Differs = Unit {0}
OwesNothing (ending.Fault f) = ⊥

-- the writer was given this text, unless it failed
abbrev pub HasTold : Exit → List ℕ → Known → Known → Type 0
HasTold exit text before after = exit.told ≡ true → Appends before after text

-- ---- the exit status

-- a fault of the program's work
abbrev pub fault_status : ℕ
fault_status = 1

-- a fault of the one who called it, by a command line or a script
abbrev pub caller_status : ℕ
caller_status = 2

-- a script that was to end at the first refusal, and did
abbrev pub refused_status : ℕ
refused_status = 3

-- two databases that were compared, and differ
abbrev pub differs_status : ℕ
differs_status = 3

abbrev pub exit_status : Ending → ℕ
exit_status ending.Done = 0
exit_status (ending.BadLine number) = caller_status
exit_status ending.Stopped = fault_status
exit_status ending.Served = 0
exit_status ending.ServerStopped = fault_status
exit_status ending.ReaderLeft = fault_status
exit_status ending.Refused = refused_status
exit_status ending.Differs = differs_status
exit_status (ending.Fault f) = fault_status

-- the program ended so: this is its status, and standard error was told what it is owed, and else nothing
pub record Exits (about : Subject) (e : Ending) (exit : Exit) (before after : Known) : Type 0 where
  pub status : exit.status ≡ exit_status e
  pub told : HasTold exit (ending_message about e) before after
  pub silent : OwesNothing e → (exit.told ≡ true) × (after ≡ before)

-- it ended so after lines of which standard error took all or not, and the exit says whether it took all of both
pub record ExitsAfter (told_before : Bool) (about : Subject) (e : Ending) (exit : Exit) (before after : Known) : Type 0 where
  pub status : exit.status ≡ exit_status e
  pub told_first : exit.told ≡ true → told_before ≡ true
  pub told : HasTold exit (ending_message about e) before after
  pub silent : OwesNothing e → (exit.told ≡ told_before) × (after ≡ before)
