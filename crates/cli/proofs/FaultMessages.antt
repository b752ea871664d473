-- What standard error is told of a fault.
use Rattle.std.proofs.Common.{◌≡◌, ◌≢◌, ◌∙◌, ◌++◌, List, ℕ, codes, refl, ap, append_assoc}
use Rattle.cli.specs.declared.fault.CommandFault.{CommandFault}
use Rattle.cli.specs.declared.fault.CommandFault.TheVariants as fault
use Rattle.cli.specs.declared.ending.Subject.{Subject}
use Rattle.cli.specs.Ending.{fault_message, fault_name, message, reason_text, subject_text}

-- two lines as one text
two_lines : (name about reason : List ℕ) → message name ++ message (about ++ (codes ": " ++ reason)) ≡ codes "guarddb: " ++ (name ++ (codes "\nguarddb: " ++ (about ++ (codes ": " ++ (reason ++ codes "\n")))))
two_lines name about reason =
    let rest = message (about ++ (codes ": " ++ reason)) in
    let last : (about ++ (codes ": " ++ reason)) ++ codes "\n" ≡ about ++ (codes ": " ++ (reason ++ codes "\n")) = append_assoc about (codes ": " ++ reason) (codes "\n") in
    ap (λ text. codes "guarddb: " ++ text) (append_assoc name (codes "\n") rest ∙ ap (λ text. name ++ (codes "\nguarddb: " ++ text)) last)

-- of a fault but these two: its name, what it is about, and why it came
pub told_with_reason : (about : Subject) (f : CommandFault) → f ≢ fault.Memory → f ≢ fault.Output
    → fault_message about f ≡ codes "guarddb: " ++ (fault_name f ++ (codes "\nguarddb: " ++ (subject_text about ++ (codes ": " ++ (reason_text f ++ codes "\n")))))
told_with_reason about fault.Memory a b = absurd (a refl)
told_with_reason about (fault.Device cause) a b = two_lines (fault_name (fault.Device cause)) (subject_text about) (reason_text (fault.Device cause))
told_with_reason about fault.Damaged a b = two_lines (fault_name fault.Damaged) (subject_text about) (reason_text fault.Damaged)
told_with_reason about fault.Full a b = two_lines (fault_name fault.Full) (subject_text about) (reason_text fault.Full)
told_with_reason about fault.Number a b = two_lines (fault_name fault.Number) (subject_text about) (reason_text fault.Number)
told_with_reason about fault.WrongSize a b = two_lines (fault_name fault.WrongSize) (subject_text about) (reason_text fault.WrongSize)
told_with_reason about fault.NotADatabase a b = two_lines (fault_name fault.NotADatabase) (subject_text about) (reason_text fault.NotADatabase)
told_with_reason about (fault.NewerFormat format) a b = two_lines (fault_name (fault.NewerFormat format)) (subject_text about) (reason_text (fault.NewerFormat format))
told_with_reason about fault.Exists a b = two_lines (fault_name fault.Exists) (subject_text about) (reason_text fault.Exists)
told_with_reason about fault.Partial a b = two_lines (fault_name fault.Partial) (subject_text about) (reason_text fault.Partial)
told_with_reason about (fault.NoRoom pages least) a b = two_lines (fault_name (fault.NoRoom pages least)) (subject_text about) (reason_text (fault.NoRoom pages least))
told_with_reason about fault.NotADump a b = two_lines (fault_name fault.NotADump) (subject_text about) (reason_text fault.NotADump)
told_with_reason about (fault.OtherDump version) a b = two_lines (fault_name (fault.OtherDump version)) (subject_text about) (reason_text (fault.OtherDump version))
told_with_reason about fault.DamagedDump a b = two_lines (fault_name fault.DamagedDump) (subject_text about) (reason_text fault.DamagedDump)
told_with_reason about (fault.NoDumpRoom pages) a b = two_lines (fault_name (fault.NoDumpRoom pages)) (subject_text about) (reason_text (fault.NoDumpRoom pages))
told_with_reason about fault.InUse a b = two_lines (fault_name fault.InUse) (subject_text about) (reason_text fault.InUse)
told_with_reason about (fault.Net cause) a b = two_lines (fault_name (fault.Net cause)) (subject_text about) (reason_text (fault.Net cause))
told_with_reason about (fault.ScriptUnread cause) a b = two_lines (fault_name (fault.ScriptUnread cause)) (subject_text about) (reason_text (fault.ScriptUnread cause))
told_with_reason about (fault.ScriptNotUtf8 line byte) a b = two_lines (fault_name (fault.ScriptNotUtf8 line byte)) (subject_text about) (reason_text (fault.ScriptNotUtf8 line byte))
told_with_reason about fault.NoPassword a b = two_lines (fault_name fault.NoPassword) (subject_text about) (reason_text fault.NoPassword)
told_with_reason about fault.ManyLines a b = two_lines (fault_name fault.ManyLines) (subject_text about) (reason_text fault.ManyLines)
told_with_reason about fault.NoRole a b = two_lines (fault_name fault.NoRole) (subject_text about) (reason_text fault.NoRole)
told_with_reason about (fault.StatementRefused code) a b = two_lines (fault_name (fault.StatementRefused code)) (subject_text about) (reason_text (fault.StatementRefused code))
told_with_reason about fault.NotOverRows a b = two_lines (fault_name fault.NotOverRows) (subject_text about) (reason_text fault.NotOverRows)
told_with_reason about fault.FirstFormat a b = two_lines (fault_name fault.FirstFormat) (subject_text about) (reason_text fault.FirstFormat)
told_with_reason about fault.NoSwitchRoom a b = two_lines (fault_name fault.NoSwitchRoom) (subject_text about) (reason_text fault.NoSwitchRoom)
told_with_reason about fault.NoSwitchNumber a b = two_lines (fault_name fault.NoSwitchNumber) (subject_text about) (reason_text fault.NoSwitchNumber)
told_with_reason about fault.PrintedTo a b = two_lines (fault_name fault.PrintedTo) (subject_text about) (reason_text fault.PrintedTo)
told_with_reason about fault.Output a b = absurd (b refl)
