-- What a SELECT has read where it was answered: of each record that it found it knows the row, and what it did not read does not change the answer.
use Rattle.std.specs.Prelude.{◌≡◌, ℕ, List, map}
use Rattle.sql_types.specs.Row.{Row}
use Rattle.sql_types.specs.declared.answer.Answer.{Answer}
use Rattle.sql_types.specs.declared.answer.Answer.TheVariants.{Rows}
use Rattle.sql_ast.specs.declared.statement.RowStatement.{RowStatement}
use Rattle.expressions.specs.Meaning.{UserNames}
use Rattle.store.specs.Records.{Records}
use Rattle.stored_database.specs.Definitions.{Definitions}
use Rattle.key_ranges.specs.Boxes.{AreRolesFor}
use Rattle.planner.specs.declared.select.SelectPlan.{SelectPlan}
use Rattle.planner.specs.declared.plans.Plan.{Plan}
use Rattle.planner.specs.declared.plans.Plan.TheVariants as plan
use Rattle.planner.specs.Plans.{IsPlanOf}
use Rattle.table_rows.specs.declared.target.Target.{Target}
use Rattle.executor.specs.Selected.{AnswersRead}
use Rattle.row_statements.specs.declared.ranges.RangedSource.{RangedSource}
use Rattle.row_statements.specs.Ranges.{ranges_among}
use Rattle.row_statements.specs.Targeted.{AreTargetsOf}

-- the targets are the tables of a plan, each with the range in which its rows are looked for by a role that is in these
pub record AreTargetsOfPlan (users : UserNames) (p : SelectPlan) (targets : List Target) : Type 0 where
  pub roles : List (List ℕ)
  pub are_roles : AreRolesFor users roles
  pub ranged : List RangedSource
  pub sources : map (λ r. r.source.now) ranged ≡ p.sources
  pub ranges : map (λ r. r.range) ranged ≡ ranges_among users roles p.query.conditions 0 p.sources
  pub targets_of : AreTargetsOf users ranged targets

-- the answer is that of the query of a plan over what was read of its tables
pub record AnswersPlanned (records : Records) (users : UserNames) (p : SelectPlan) (answer : Answer) : Type 0 where
  pub rows : List Row
  pub answered : answer ≡ Rows rows
  pub targets : List Target
  pub of_plan : AreTargetsOfPlan users p targets
  pub read : AnswersRead records targets users p.query rows

-- a plan of a SELECT is answered so
abbrev pub AnswersBy : Records → UserNames → Plan → Answer → Type 0
AnswersBy records users (plan.Select p) answer = AnswersPlanned records users p answer
AnswersBy records users p answer = Unit {0}

-- the answer is that of a plan of the statement
abbrev pub ReadsFor : Records → Definitions → UserNames → RowStatement → Answer → Type 0
ReadsFor records d users s answer = (p : Plan) × IsPlanOf d users.current s p × AnswersBy records users p answer
