-- What a statement over one table costs at most, by the calls that it makes on its map: the records among the keys where it looks for rows decide it, and no others.
use Rattle.std.specs.Prelude.{◌⊎◌, ◌+◌, ℕ, List, [], ◌∷◌, if◌then◌else◌, length, Option, Some, None}
use Rattle.sql_ast.specs.declared.statement.RowStatement.{RowStatement}
use Rattle.expressions.specs.Meaning.{UserNames}
use Rattle.expressions.specs.Types.{TypedTerm}
use Rattle.store.specs.Records.{Records}
use Rattle.stored_database.specs.Definitions.{Definitions}
use Rattle.key_ranges.specs.declared.range.KeyRange.{KeyRange}
use Rattle.key_ranges.specs.Boxes.{AreRolesFor}
use Rattle.planner.specs.declared.sources.Source.{Source}
use Rattle.planner.specs.declared.row_changes.ChangePlan.{ChangePlan}
use Rattle.planner.specs.declared.plans.Plan.{Plan}
use Rattle.planner.specs.declared.plans.Plan.TheVariants as plan
use Rattle.planner.specs.Plans.{IsPlanOf}
use Rattle.table_rows.specs.Costs.{walk_cost, range_cost}
use Rattle.table_rows.specs.Setting.{sets_key}
use Rattle.row_statements.specs.Damage.{records_among}
use Rattle.row_statements.specs.Ranges.{range_among, range_where}

-- ---- plans

-- these are the records of a table, or of a range of its keys
abbrev pub cost_among : Option KeyRange → Records → ℕ
cost_among None found = walk_cost 1 found
cost_among (Some range) found = range_cost range found

-- all records of a table, or of a range of its keys
abbrev pub source_cost : Records → Source → Option KeyRange → ℕ
source_cost records s range = cost_among range (records_among s.table.now.id range records)

-- of a SELECT of no table or of several nothing is said
abbrev pub cost_of_select : Records → UserNames → List (List ℕ) → List TypedTerm → List Source → Option ℕ
cost_of_select records users roles conditions [] = None
cost_of_select records users roles conditions (s ∷ []) = Some (source_cost records s (range_among users roles conditions 0 s))
cost_of_select records users roles conditions (s ∷ t ∷ more) = None

abbrev pub cost_of_delete : Records → UserNames → List (List ℕ) → ChangePlan → ℕ
cost_of_delete records users roles p = source_cost records p.target (range_where users roles p.target p.condition)

-- an UPDATE that sets a column of the key looks up one key more for each record that it finds
abbrev pub cost_of_update : Records → UserNames → List (List ℕ) → ChangePlan → ℕ
cost_of_update records users roles p =
    if sets_key p.target.table.now.definition.layout.key p.columns
    then cost_of_delete records users roles p + length (records_among p.target.table.now.id (range_where users roles p.target p.condition) records)
    else cost_of_delete records users roles p

-- by a current role that is in these roles. An INSERT looks up one key for each of its rows
abbrev pub cost_of_plan : Records → UserNames → List (List ℕ) → Plan → Option ℕ
cost_of_plan records users roles (plan.Select p) = cost_of_select records users roles p.query.conditions p.sources
cost_of_plan records users roles (plan.Insert p) = Some (length p.rows)
cost_of_plan records users roles (plan.Update p) = Some (cost_of_update records users roles p)
cost_of_plan records users roles (plan.Delete p) = Some (cost_of_delete records users roles p)

-- ---- statements

-- the cost is no greater, where there is such a bound
abbrev pub IsAtMost : (ℕ → Type 0) → Option ℕ → Type 0
IsAtMost costs None = Unit {0}
IsAtMost costs (Some most) = costs most

-- by the roles of these users
pub record CostsPlanned (costs : ℕ → Type 0) (records : Records) (users : UserNames) (p : Plan) : Type 0 where
  pub roles : List (List ℕ)
  pub are_roles : AreRolesFor users roles
  pub at_most : IsAtMost costs (cost_of_plan records users roles p)

-- a statement costs no more than a plan of it, or it is refused before there is one and costs nothing
abbrev pub CostsAtMost : (ℕ → Type 0) → Records → Definitions → UserNames → RowStatement → Type 0
CostsAtMost costs records d users s = costs 0 ⊎ ((p : Plan) × IsPlanOf d users.current s p × CostsPlanned costs records users p)
