-- What a statement over rows does in a database, and what of this is left to do with its plan.
use Rattle.std.specs.Prelude.{List, [], Some, None, Result, Ok, Err}
use Rattle.sql_types.specs.Row.{Row}
use Rattle.sql_types.specs.declared.answer.Answer.TheVariants as answer
use Rattle.sql_types.specs.declared.tag.Tag.{Tag}
use Rattle.sql_ast.specs.declared.statement.RowStatement.{RowStatement}
use Rattle.sql_ast.specs.declared.statement.RowStatement.TheVariants as over_rows
use Rattle.sql_ast.specs.OverRows.{IsReadOverRows}
use Rattle.expressions.specs.Meaning.{UserNames}
use Rattle.store.specs.Records.{Records}
use Rattle.store.specs.declared.stop.StatementError.{StatementError}
use Rattle.abstract_database.specs.Database.{Database}
use Rattle.abstract_database.specs.Statements.{performed}
use Rattle.abstract_database.specs.Whole.{AreRolesOf}
use Rattle.stored_database.specs.Definitions.{Definitions}
use Rattle.stored_database.specs.Records.{Shows}
use Rattle.catalogue.specs.declared.effect.Effect.{Effect}
use Rattle.catalogue.specs.Executed.{Executes}
use Rattle.planner.specs.declared.plans.Plan.{Plan}
use Rattle.planner.specs.declared.plans.Plan.TheVariants as plan
use Rattle.planner.specs.Plans.{IsPlanOf, checked_of}
use Rattle.table_rows.specs.declared.change.RowChanges.{RowChanges}

-- ---- statements

-- an INSERT or an UPDATE
abbrev pub WritesValues : RowStatement → Type 0
WritesValues (over_rows.Insert s) = Unit {0}
WritesValues (over_rows.Update s) = Unit {0}
WritesValues (over_rows.Delete s) = ⊥
WritesValues (over_rows.Select s) = ⊥

-- a statement that writes values is as the parser reads it, by roles that there are
abbrev pub WritesAsRead : Database → UserNames → RowStatement → Type 0
WritesAsRead db users s = WritesValues s → AreRolesOf db users × IsReadOverRows s

-- a SELECT
abbrev pub OnlyReads : RowStatement → Type 0
OnlyReads (over_rows.Select s) = Unit {0}
OnlyReads s = ⊥

-- ---- plans

-- the plan of a SELECT
abbrev pub PlansReads : Plan → Type 0
PlansReads (plan.Select p) = Unit {0}
PlansReads p = ⊥

-- over records that show a database, it comes to what the statement does there after its checks
abbrev pub Performs : Records → UserNames → Plan → Result Effect StatementError → Type 0
Performs records users p result = (d : Definitions) (db : Database) (s : RowStatement) → Shows records d db → IsPlanOf d users.current s p → WritesAsRead db users s
    → Executes records d result (performed db users (checked_of p))

-- ---- effects

-- what a call makes has this effect, or the call stops
abbrev pub effect_by : {A : Type 0} → (A → Effect) → Result A StatementError → Result Effect StatementError
effect_by of (Ok made) = Ok (of made)
effect_by of (Err stop) = Err stop

-- changes of rows are answered by how many rows there are, and the definitions stay
abbrev pub counted : Tag → RowChanges → Effect
counted t made = record { answer = answer.Done t (Some made.count) None; changes = made.changes; schema = None }

-- rows are the answer, and nothing changes
abbrev pub answered : List Row → Effect
answered rows = record { answer = answer.Rows rows; changes = []; schema = None }
