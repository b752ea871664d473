-- What the explanation of a text comes to.
use Rattle.std.specs.Prelude.{◌≡◌, ◌≢◌, ℕ, List, find, Option, Some, None, Result, Ok, Err}
use Rattle.std.specs.Option.{option_map}
use Rattle.sql_types.specs.declared.state.SqlState.{SqlState}
use Rattle.sql_types.specs.declared.state.SqlState.TheVariants.{OutOfMemory}
use Rattle.sql_ast.specs.declared.statement.Statement.{Statement}
use Rattle.sql_ast.specs.declared.statement.Statement.TheVariants.{OnDatabase, OfSession}
use Rattle.sql_ast.specs.declared.statement.DatabaseStatement.TheVariants.{OverRows, Defining}
use Rattle.sql_ast.specs.declared.statement.RowStatement.{RowStatement}
use Rattle.expr_parser.specs.Stages.{refusal, Parses}
use Rattle.sql_parser.specs.Forms.{Means, IsStatementWithinDepth}
use Rattle.abstract_database.specs.Lists.{TheName}
use Rattle.abstract_database.specs.Database.{is_role_named}
use Rattle.stored_database.specs.Definitions.{Definitions}
use Rattle.planner.specs.declared.plans.Plan.{Plan}
use Rattle.planner.specs.Plans.{IsPlanOf, IsRefusalOf}
use Rattle.statement_explanations.specs.declared.explained.Acting.{Acting}
use Rattle.statement_explanations.specs.declared.explained.ExplainFault.{ExplainFault}
use Rattle.statement_explanations.specs.declared.explained.ExplainFault.TheVariants.{NoRole, NoSession, NotOverRows, Refused}

-- why there is no explanation, if there is none
abbrev pub fault_in : {A : Type 0} → Result A ExplainFault → Option ExplainFault
fault_in (Ok text) = None
fault_in (Err fault) = Some fault

-- the name of the login role, where one is given
abbrev pub asked_session : Acting → Option TheName
asked_session a = option_map (λ name. name.now) a.session

-- the statement over rows has a plan for the role, or is refused by its checks
abbrev pub IsRowsExplained : Definitions → TheName → RowStatement → Option ExplainFault → Type 0
IsRowsExplained d role s None = (p : Plan) × IsPlanOf d role s p
IsRowsExplained d role s (Some (Refused code)) = (code ≢ OutOfMemory) × IsRefusalOf d role s (refusal code)
IsRowsExplained d role s (Some _) = ⊥

-- so it is of a statement over rows, and any other is told as such
abbrev pub IsReadingExplained : Definitions → TheName → Statement → Option ExplainFault → Type 0
IsReadingExplained d role (OnDatabase (OverRows s)) fault = IsRowsExplained d role s fault
IsReadingExplained d role (OnDatabase (Defining s)) fault = fault ≡ Some NotOverRows
IsReadingExplained d role (OfSession s) fault = fault ≡ Some NotOverRows

-- the text is read as a statement, or refused with this code
pub data IsTextExplained (d : Definitions) (role : TheName) (text : List ℕ) (fault : Option ExplainFault) : Type 0 where
  read : (s : Statement) → Parses (Means text) IsStatementWithinDepth text (Ok s) → IsReadingExplained d role s fault → IsTextExplained d role text fault
  refused : (code : SqlState) → code ≢ OutOfMemory → Parses (Means text) IsStatementWithinDepth text (Err (refusal code)) → fault ≡ Some (Refused code) → IsTextExplained d role text fault

abbrev pub IsRole : Definitions → TheName → Type 0
IsRole d name = find (is_role_named name) d.roles ≢ None

abbrev pub IsNoRole : Definitions → TheName → Type 0
IsNoRole d name = find (is_role_named name) d.roles ≡ None

-- the login role is there, where one is given
abbrev pub HasLoginRole : Definitions → Option TheName → Type 0
HasLoginRole d None = Unit {0}
HasLoginRole d (Some name) = IsRole d name

-- the login role that is given is not there
abbrev pub LacksLoginRole : Definitions → Option TheName → Type 0
LacksLoginRole d None = ⊥
LacksLoginRole d (Some name) = IsNoRole d name

-- a role is missing, or both are there, and the text is explained
pub data IsExplained (d : Definitions) (role : TheName) (session : Option TheName) (text : List ℕ) (fault : Option ExplainFault) : Type 0 where
  no_role : IsNoRole d role → fault ≡ Some NoRole → IsExplained d role session text fault
  no_session : IsRole d role → LacksLoginRole d session → fault ≡ Some NoSession → IsExplained d role session text fault
  explained : IsRole d role → HasLoginRole d session → IsTextExplained d role text fault → IsExplained d role session text fault
