-- What the program does for `explain`.
use Rattle.std.specs.Prelude.{◌≡◌, ℕ, List, Some, None, unwrap_or, Result, Ok, Err}
use Rattle.std.specs.Borrow.{Bor}
use Rattle.sector_device.specs.declared.device.Device.{Ghosts}
use Rattle.stored_database.specs.Definitions.{Definitions}
use Rattle.statement_explanations.specs.declared.explained.Acting.{Acting}
use Rattle.statement_explanations.specs.declared.explained.ExplainFault.{ExplainFault}
use Rattle.statement_explanations.specs.declared.explained.ExplainFault.TheVariants as explain_fault
use Rattle.statement_explanations.specs.Explained.{IsExplained, asked_session}
use Rattle.wire.specs.ScriptRun.{Known}
use Rattle.systems.specs.Systems.{SystemState}
use Rattle.cli.specs.declared.explain_command.AskedStatement.{AskedStatement}
use Rattle.cli.specs.declared.fault.CommandFault.{CommandFault}
use Rattle.cli.specs.declared.fault.CommandFault.TheVariants as fault
use Rattle.cli.specs.declared.ending.Ending.{Ending}
use Rattle.cli.specs.declared.ending.Ending.TheVariants as ending
use Rattle.cli.specs.declared.ending.Exit.{Exit}
use Rattle.cli.specs.declared.ending.Subject.{Subject}
use Rattle.cli.specs.declared.ending.Subject.TheVariants as subject
use Rattle.cli.specs.Ending.{Exits}
use Rattle.cli.specs.Printing.{IsTextShown}
use Rattle.cli.specs.Reading.{ReadsFile}

-- by whom the statement would be run
abbrev pub acting_of : AskedStatement → Acting
acting_of asked = record { role = asked.role; session = asked.session }

-- why it is not explained, as a fault of the command
abbrev pub fault_of_statement : ExplainFault → CommandFault
fault_of_statement explain_fault.NoRole = fault.NoRole
fault_of_statement explain_fault.NoSession = fault.NoRole
fault_of_statement explain_fault.NotOverRows = fault.NotOverRows
fault_of_statement (explain_fault.Refused code) = fault.StatementRefused code

-- what that is about: the role that is missing, or the statement
abbrev pub statement_subject : AskedStatement → ExplainFault → Subject
statement_subject asked explain_fault.NoRole = subject.Named asked.role
statement_subject asked explain_fault.NoSession = subject.Named (unwrap_or asked.session asked.role)
statement_subject asked explain_fault.NotOverRows = subject.Statement
statement_subject asked (explain_fault.Refused code) = subject.Statement

-- how it ended, and what that is about
abbrev pub Ended : Type 0
Ended = Ending × Subject

-- the explanation of the statement over these definitions was shown, or the writer failed; or it is not explained, or memory was
-- refused, and nothing was printed
pub data IsStatementExplained (definitions : Definitions) (file : Bor (List ℕ)) (asked : AskedStatement) (before : Known) (e : Ended) (after : Known) : Type 0 where
  printed : (text : List ℕ) → IsExplained definitions asked.role.now (asked_session (acting_of asked)) asked.statement.now None → IsTextShown text before e.0 after
      → e.1 ≡ subject.Named file → IsStatementExplained definitions file asked before e after
  unexplained : (why : ExplainFault) → IsExplained definitions asked.role.now (asked_session (acting_of asked)) asked.statement.now (Some why)
      → e ≡ (ending.Fault (fault_of_statement why), statement_subject asked why) → after ≡ before → IsStatementExplained definitions file asked before e after
  no_memory : e ≡ (ending.Fault fault.Memory, subject.Named file) → after ≡ before → IsStatementExplained definitions file asked before e after

-- so it was with the definitions that were read; or the fault of their reading is the end, and nothing was printed
abbrev pub IsStatementExplainedBy : Result Definitions CommandFault → Bor (List ℕ) → AskedStatement → Known → Ended → Known → Type 0
IsStatementExplainedBy (Ok definitions) file asked before e after = IsStatementExplained definitions file asked before e after
IsStatementExplainedBy (Err f) file asked before e after = (e ≡ (ending.Fault f, subject.Named file)) × (after ≡ before)

-- the definitions of the database in the file were read, and the statement was explained; the file is there as it was, and not one sector was written
pub record ExplainsStatement {D L : Type 0} (g : Ghosts D) (old : SystemState D L) (file : Bor (List ℕ)) (asked : AskedStatement) (exit : Exit) (new : SystemState D L) (out_before out_after err_before err_after : Known) : Type 0 where
  pub read : Result Definitions CommandFault
  pub reads : ReadsFile g old file.now read new
  pub ended : Ended
  pub explained : IsStatementExplainedBy read file asked out_before ended out_after
  pub ends : Exits ended.1 ended.0 exit err_before err_after
