-- What a text is read as.
use Rattle.std.specs.Prelude.{◌≢◌, Ok, Err}
use Rattle.sql_types.specs.declared.state.SqlState.TheVariants.{OutOfMemory}
use Rattle.sql_ast.specs.Statements.{IsRead}
use Rattle.abstract_database.specs.Runs.{ReadingRelation}
use Rattle.expr_parser.specs.Stages.{refusal, Parses}
use Rattle.sql_parser.specs.Forms.{Means, IsStatementWithinDepth}
use Rattle.sql_parser.specs.Policies.{HasConditionsAsWritten}

-- the statement that the text is parsed as, its names, values and form as a statement's and each condition of a policy as
-- written; or the code with which it is refused, which is no want of memory
abbrev pub ReadsText : ReadingRelation
ReadsText text (Ok s) = Parses (Means text) IsStatementWithinDepth text (Ok s) × IsRead s × HasConditionsAsWritten s
ReadsText text (Err code) = (code ≢ OutOfMemory) × Parses (Means text) IsStatementWithinDepth text (Err (refusal code))
