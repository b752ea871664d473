-- What a plan asks of the rows of its tables.
use Rattle.std.specs.Prelude.{ℕ, Bool, true, false, List, [], ◌∷◌, option_to_list, Option, None}
use Rattle.sql_ast.specs.declared.privilege.Action.{Action}
use Rattle.sql_ast.specs.declared.privilege.Action.TheVariants as action
use Rattle.expressions.specs.Meaning.{UserNames}
use Rattle.expressions.specs.Types.{TypedTerm}
use Rattle.key_ranges.specs.declared.range.KeyRange.{KeyRange}
use Rattle.planner.specs.declared.sources.Source.{Source}
use Rattle.planner.specs.declared.plans.Plan.{Plan}
use Rattle.planner.specs.declared.plans.Plan.TheVariants as plan
use Rattle.row_statements.specs.Ranges.{range_where, ranges_among}

-- the action for which a statement is asked policies first
abbrev pub action_of : Plan → Action
action_of (plan.Select p) = action.Select
action_of (plan.Insert p) = action.Insert
action_of (plan.Update p) = action.Update
action_of (plan.Delete p) = action.Delete

-- whether it is asked the policies of SELECT behind these
abbrev pub reads_too : Plan → Bool
reads_too (plan.Select p) = false
reads_too (plan.Insert p) = false
reads_too (plan.Update p) = p.reads
reads_too (plan.Delete p) = p.reads

-- whether it adds rows
abbrev pub inserts : Plan → Bool
inserts (plan.Select p) = false
inserts (plan.Insert p) = true
inserts (plan.Update p) = false
inserts (plan.Delete p) = false

-- its conditions: those after ON, and the one after WHERE
abbrev pub conditions_of : Plan → List TypedTerm
conditions_of (plan.Select p) = p.query.conditions
conditions_of (plan.Insert p) = []
conditions_of (plan.Update p) = option_to_list p.condition
conditions_of (plan.Delete p) = option_to_list p.condition

-- its tables, each with its guard, in the order of FROM
abbrev pub sources_of : Plan → List Source
sources_of (plan.Select p) = p.sources
sources_of (plan.Insert p) = p.target ∷ []
sources_of (plan.Update p) = p.target ∷ []
sources_of (plan.Delete p) = p.target ∷ []

-- the ranges in which it looks for their rows, for a current role that is in these roles: those by which it is carried out
abbrev pub ranges_of : UserNames → List (List ℕ) → Plan → List (Option KeyRange)
ranges_of users roles (plan.Select p) = ranges_among users roles p.query.conditions 0 p.sources
ranges_of users roles (plan.Insert p) = None ∷ []
ranges_of users roles (plan.Update p) = range_where users roles p.target p.condition ∷ []
ranges_of users roles (plan.Delete p) = range_where users roles p.target p.condition ∷ []
