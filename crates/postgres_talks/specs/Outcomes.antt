-- What an answer to a step comes to.
use Rattle.std.specs.Prelude.{Bool, true, if◌then◌else◌, List, length, Option, Some, None}
use Rattle.sql_ast.specs.declared.description.ResultColumn.{ResultColumn}
use Rattle.sql_ast.specs.declared.description.StatementDescription.{StatementDescription}
use Rattle.sql_ast.specs.declared.description.StatementDescription.TheVariants as description
use Rattle.sql_types.specs.declared.value.Value.{Value}
use Rattle.sql_types.specs.declared.answer.Answer.{Answer}
use Rattle.sql_types.specs.declared.answer.Answer.TheVariants as answer
use Rattle.sql_types.specs.declared.state.SqlState.{SqlState}
use Rattle.sql_types.specs.declared.state.SqlState.TheVariants.{IoError}
use Rattle.sql_types.specs.declared.tag.Tag.{Tag}
use Rattle.sql_types.specs.declared.tag.Tag.TheVariants as tag
use Rattle.sql_types.specs.declared.warning.Warning.{Warning}
use Rattle.sql_types.specs.declared.warning.Warning.TheVariants.{NoActiveTransaction}
use Rattle.postgres_talks.specs.declared.fault.TalkFault.TheVariants as fault
use Rattle.postgres_talks.specs.declared.moment.Mode.{Mode}
use Rattle.postgres_talks.specs.declared.moment.Mode.TheVariants as mode
use Rattle.postgres_talks.specs.declared.moment.TalkBlock.{TalkBlock}
use Rattle.postgres_talks.specs.declared.moment.TalkBlock.TheVariants as block
use Rattle.postgres_talks.specs.declared.outcome.Outcome.{Outcome}
use Rattle.postgres_talks.specs.declared.outcome.Outcome.TheVariants as outcome
use Rattle.postgres_messages.specs.declared.backend.ValueFormat.{ValueFormat}
use Rattle.postgres_talks.specs.Formats.{are_formats_for}
use Rattle.postgres_talks.specs.Rows.{are_rows_of, are_same_columns}

abbrev pub refusal : SqlState → Outcome
refusal IoError = outcome.Breaks (fault.Refused IoError)
refusal s = outcome.Refused (fault.Refused s)

-- a block in which an error was said is never committed
abbrev pub outcome_of : TalkBlock → Answer → Outcome
outcome_of b (answer.Refused s) = refusal s
outcome_of b (answer.Rows rows) = outcome.Done
outcome_of block.Failed (answer.Done tag.Commit count w) = outcome.Breaks fault.Internal
outcome_of b (answer.Done t count w) = outcome.Done

-- rows are told where they are those of the columns that their client knows; in a batch it may know none
abbrev pub table_outcome : Mode → Option (List ResultColumn) → List (List Value) → Outcome
table_outcome t (Some columns) rows = if are_rows_of columns rows then outcome.Done else outcome.Refused fault.OtherColumns
table_outcome mode.Query None rows = outcome.Refused fault.OtherColumns
table_outcome t None rows = outcome.Done

-- what a description comes to, where its client was told these columns, if any: its statement is run if it has them still and there are formats for them, or refused as it would be
abbrev pub are_known : Option (List ResultColumn) → List ResultColumn → Bool
are_known None columns = true
are_known (Some known) columns = are_same_columns known columns

abbrev pub description_outcome : Option (List ResultColumn) → List ValueFormat → StatementDescription → Outcome
description_outcome known fs (description.Refused s) = refusal s
description_outcome known fs (description.Rows columns) =
    if are_known known columns then (if are_formats_for fs (length columns) then outcome.Done else outcome.Refused fault.OtherFormats) else outcome.Refused fault.OtherColumns
description_outcome None fs description.NoRows = outcome.Done
description_outcome (Some known) fs description.NoRows = outcome.Refused fault.OtherColumns

-- what the answer to the COMMIT of a block of the connection's own comes to: its statements were told as done, so nothing else ends it
abbrev pub commit_outcome : Answer → Outcome
commit_outcome (answer.Refused s) = refusal s
commit_outcome (answer.Done tag.Commit count w) = outcome.Done
commit_outcome a = outcome.Breaks fault.Internal

-- and what that to the RESET ROLE of DISCARD ALL does
abbrev pub discard_outcome : Answer → Outcome
discard_outcome (answer.Refused s) = refusal s
discard_outcome (answer.Done tag.Reset count w) = outcome.Done
discard_outcome a = outcome.Breaks fault.Internal

-- what a client is warned of: it has not begun the block that stands around its statements, so that BEGIN makes it the client's, and at its end none
-- of the client's is there
abbrev pub warning_of : TalkBlock → Tag → Option Warning → Option Warning
warning_of block.Implicit tag.Begin w = None
warning_of block.Implicit tag.Commit w = Some NoActiveTransaction
warning_of block.Implicit tag.Rollback w = Some NoActiveTransaction
warning_of b t w = w
