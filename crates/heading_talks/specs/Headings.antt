-- What a client that asks what a statement would answer is told: an answer of the session, whose rows are the columns.
use Rattle.std.specs.Prelude.{ℕ, List, [], ◌∷◌, map, codes}
use Rattle.sql_types.specs.declared.answer.Answer.{Answer}
use Rattle.sql_types.specs.declared.answer.Answer.TheVariants as answer
use Rattle.sql_types.specs.declared.value.Value.{Value}
use Rattle.sql_types.specs.declared.value.Value.TheVariants as value
use Rattle.sql_ast.specs.declared.columns.ColumnType.{ColumnType}
use Rattle.sql_ast.specs.declared.columns.ColumnType.TheVariants as column_type
use Rattle.sql_ast.specs.declared.description.ResultColumn.{ResultColumn}
use Rattle.sql_ast.specs.declared.description.StatementDescription.{StatementDescription}
use Rattle.sql_ast.specs.declared.description.StatementDescription.TheVariants as describes
use Rattle.talks.specs.declared.want.Reply.{Reply}
use Rattle.talks.specs.declared.want.Reply.TheVariants as reply
use Rattle.wire.specs.AnswerFrames.{answer_frames}
use Rattle.wire.specs.AnswerText.{answer_text}

-- the name of a type, as PostgreSQL has it
abbrev pub type_name : ColumnType → List ℕ
type_name column_type.BigInt = codes "int8"
type_name column_type.Text = codes "text"
type_name column_type.Boolean = codes "bool"

-- the row of a column: its name and the name of its type
abbrev pub heading_row : ResultColumn → List Value
heading_row c = value.Text c.name ∷ value.Text (type_name c.column_type) ∷ []

-- a row for each column; none where the statement answers no rows; and the refusal where it would be refused
abbrev pub heading_answer : StatementDescription → Answer
heading_answer (describes.Rows columns) = answer.Rows (map heading_row columns)
heading_answer describes.NoRows = answer.Rows []
heading_answer (describes.Refused state) = answer.Refused state

-- what is said of a reply: the frames of that answer
abbrev pub heading_said : ℕ → Reply → List ℕ
heading_said session (reply.Description d) = answer_frames session (answer_text (heading_answer d))
heading_said session (reply.Answer a) = []
heading_said session (reply.Standing b) = []
heading_said session (reply.Verifier v) = []
