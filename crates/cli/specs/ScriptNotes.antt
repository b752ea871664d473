-- What a script may mean otherwise than it was read, as it is told after its run.
use Rattle.std.specs.Prelude.{◌≡◌, ◌+◌, ◌-◌, ◌++◌, ℕ, true, List, [], ◌∷◌, codes, decimal, nat_eq, if◌then◌else◌, Option, Some, None}
use Rattle.std.specs.List.{starts_with, ends_with, slice_get}
use Rattle.std.specs.Io.KnownBytes.{Appends}
use Rattle.wire.specs.ScriptRun.{Known, lines_of}
use Rattle.cli.specs.declared.ending.Ending.{Ending}
use Rattle.cli.specs.declared.ending.Ending.TheVariants as ending
use Rattle.cli.specs.declared.ending.Exit.{Exit}
use Rattle.cli.specs.declared.ending.Subject.{Subject}
use Rattle.cli.specs.declared.script_note.LineFault.{LineFault}
use Rattle.cli.specs.declared.script_note.LineFault.TheVariants as line
use Rattle.cli.specs.declared.script_note.LineNote.{LineNote}
use Rattle.cli.specs.Ending.{subject_text}

-- ---- one line

-- the byte order mark of UTF-8
abbrev pub mark : List ℕ
mark = 239 ∷ 187 ∷ 191 ∷ []

-- why a line is invalid
abbrev pub line_fault : List ℕ → LineFault
line_fault text = (if starts_with nat_eq text mark then line.Mark else (if ends_with nat_eq text (codes "\r") then line.Return else line.Form))

-- what a line has at its end
abbrev pub end_fault : List ℕ → Option LineFault
end_fault text = (if ends_with nat_eq text (codes " ") then Some line.BlankInRole else (if ends_with nat_eq text (codes "\r") then Some line.ReturnInRole else None))

-- what a line that opens a session has there
abbrev pub login_fault : List ℕ → Option LineFault
login_fault text = (if starts_with nat_eq text (codes "open ") then end_fault text else None)

-- ---- the lines of a script

abbrev pub noted : ℕ → LineFault → LineNote
noted n fault = record { number = n; fault = fault }

-- of the line of this number, which is invalid
abbrev pub note_of : ℕ → Option (List ℕ) → Option LineNote
note_of n None = None
note_of n (Some text) = Some (noted n (line_fault text))

abbrev pub note_of_line : ℕ → List (List ℕ) → Option LineNote
note_of_line n lines = note_of n (slice_get lines (n - 1))

-- of the line at which the script ended
abbrev pub note_of_end : Ending → List (List ℕ) → Option LineNote
note_of_end (ending.BadLine n) lines = note_of_line n lines
note_of_end e lines = None

-- of the first line, counted from this number on, that opens a session for a role whose name ends so
abbrev pub first_of : ℕ → Option LineFault → Option LineNote → Option LineNote
first_of n (Some fault) later = Some (noted n fault)
first_of n None later = later

abbrev pub first_login : ℕ → List (List ℕ) → Option LineNote
first_login n [] = None
first_login n (text ∷ lines) = first_of n (login_fault text) (first_login (n + 1) lines)

-- after a fault it is not known whether the script was run
abbrev pub note_of_login : Ending → List (List ℕ) → Option LineNote
note_of_login (ending.Fault f) lines = None
note_of_login e lines = first_login 1 lines

-- ---- what is told

abbrev pub rule_text : LineFault → List ℕ
rule_text line.Mark = codes "begins with a byte order mark; save the script as UTF-8 without one"
rule_text line.Return = codes "ends in a carriage return; end the lines of a script with a newline alone"
rule_text line.Form = codes "not 'open SESSION ROLE', 'SESSION: STATEMENT' or 'close SESSION', with one blank after the colon; a statement is one line"
rule_text line.BlankInRole = codes "ends in a blank, which is read as part of ROLE"
rule_text line.ReturnInRole = codes "ends in a carriage return, which is read as part of ROLE; end the lines of a script with a newline alone"

abbrev pub line_note_text : Subject → LineNote → List ℕ
line_note_text about note = codes "guarddb: " ++ (subject_text about ++ (codes ": line " ++ (decimal note.number ++ (codes ": " ++ (rule_text note.fault ++ codes "\n")))))

abbrev pub note_text : Subject → Option LineNote → List ℕ
note_text about None = []
note_text about (Some note) = line_note_text about note

-- of a script that ended so
abbrev pub notes : Subject → List ℕ → Ending → List ℕ
notes about script e = note_text about (note_of_end e (lines_of script)) ++ note_text about (note_of_login e (lines_of script))

-- there is nothing to be told
abbrev pub HasNoNote : List ℕ → Ending → Type 0
HasNoNote script e = (note_of_end e (lines_of script) ≡ None) × (note_of_login e (lines_of script) ≡ None)

-- after this exit the notes of a script were told, and the new one says, too, whether they were taken
pub record HasToldNotes (first : Exit) (about : Subject) (script : List ℕ) (e : Ending) (exit : Exit) (before after : Known) : Type 0 where
  pub status : exit.status ≡ first.status
  pub told_first : exit.told ≡ true → first.told ≡ true
  pub told : exit.told ≡ true → Appends before after (notes about script e)
  pub silent : HasNoNote script e → after ≡ before
