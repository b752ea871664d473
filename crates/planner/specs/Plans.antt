-- Plans of all statements over rows: what holds of each, and what the definitions of a database say in their place.
use Rattle.std.specs.Prelude.{Bool, true, false, List}
use Rattle.std.specs.List.{All}
use Rattle.sql_types.specs.declared.state.Refusal.{Refusal}
use Rattle.sql_ast.specs.declared.privilege.Action.{Action}
use Rattle.sql_ast.specs.declared.privilege.Action.TheVariants as action
use Rattle.sql_ast.specs.declared.statement.Select.{Select}
use Rattle.sql_ast.specs.declared.statement.Insert.{Insert}
use Rattle.sql_ast.specs.declared.statement.Update.{Update}
use Rattle.sql_ast.specs.declared.statement.Delete.{Delete}
use Rattle.sql_ast.specs.declared.statement.RowStatement.{RowStatement}
use Rattle.sql_ast.specs.declared.statement.RowStatement.TheVariants as over_rows
use Rattle.sql_ast.specs.Read.{HaveOneLength}
use Rattle.abstract_database.specs.Lists.{TheName}
use Rattle.abstract_database.specs.Queries.{tables_in}
use Rattle.abstract_database.specs.Statements.{Checked, selects, inserts, updates, deletes, checked_over_rows}
use Rattle.stored_database.specs.Definitions.{Definitions}
use Rattle.planner.specs.declared.select.SelectPlan.{SelectPlan}
use Rattle.planner.specs.declared.sources.Source.{Source}
use Rattle.planner.specs.declared.insert.InsertPlan.{InsertPlan}
use Rattle.planner.specs.declared.row_changes.ChangePlan.{ChangePlan}
use Rattle.planner.specs.declared.plans.Plan.{Plan}
use Rattle.planner.specs.declared.plans.Plan.TheVariants as plan
use Rattle.planner.specs.Answers.{IsGivenBy, IsRefusedBy}
use Rattle.planner.specs.Bound.{HasWidths, HasTypes}
use Rattle.planner.specs.Rights.{AreItsRoles}
use Rattle.planner.specs.Sources.{IsGuardedFrom}
use Rattle.planner.specs.Tables.{IsTableNamed, AreTablesOf}
use Rattle.planner.specs.Selected.{tables_of_plan, scope_of_plan, IsSelectPlan, checked_of as checked_select_of}
use Rattle.planner.specs.Inserted.{checked_of as checked_insert_of}
use Rattle.planner.specs.RowChanges.{changes_of, without_values}

-- ---- for each database that has these definitions, where the rows of an INSERT have one length, as those of a text have

abbrev pub HasRowsOfOneLength : RowStatement → Type 0
HasRowsOfOneLength (over_rows.Insert s) = HaveOneLength s.rows
HasRowsOfOneLength (over_rows.Update s) = Unit {0}
HasRowsOfOneLength (over_rows.Delete s) = Unit {0}
HasRowsOfOneLength (over_rows.Select s) = Unit {0}

-- what the definition of the checks gives in place of the plan
abbrev pub checked_of : Plan → Checked
checked_of (plan.Select p) = selects (checked_select_of p)
checked_of (plan.Insert p) = inserts (checked_insert_of p)
checked_of (plan.Update p) = updates (changes_of p)
checked_of (plan.Delete p) = deletes (without_values (changes_of p))

-- the checks of the statement give the plan
abbrev pub Means : Definitions → TheName → RowStatement → Plan → Type 0
Means d current s p = HasRowsOfOneLength s → IsGivenBy checked_over_rows d current s (checked_of p)

-- memory was refused, or its checks refuse the statement in this way
abbrev pub IsRefusalOf : Definitions → TheName → RowStatement → Refusal → Type 0
IsRefusalOf d current s refusal = HasRowsOfOneLength s → IsRefusedBy checked_over_rows d current s refusal

-- ---- what holds of a plan

-- it is what the checks give, over the tables of FROM, with the types of its query; each table has its guard, and the roles are
-- those that the current role is in
pub record IsCheckedSelect (d : Definitions) (current : TheName) (s : Select) (p : SelectPlan) : Type 0 where
  pub plan : IsSelectPlan d current s p
  pub tables : AreTablesOf d (tables_in s.source) (tables_of_plan p)
  pub widths : HasWidths (scope_of_plan s p) p.query.list
  pub types : HasTypes (scope_of_plan s p) p.query
  pub guards : All (IsGuardedFrom d current action.Select true) p.sources
  pub roles : AreItsRoles d current p.roles

-- one over one table is given so; its table is the one of this name, with its guard from the action, and the roles are those
-- that the current role is in
pub record IsChecked (given : Type 0) (d : Definitions) (current name : TheName) (a : Action) (reads : Bool) (target : Source) (names : List TheName) : Type 0 where
  pub plan : given
  pub table : IsTableNamed d name target.table.now
  pub guard : IsGuardedFrom d current a reads target
  pub roles : AreItsRoles d current names

abbrev pub IsCheckedInsert : Definitions → TheName → Insert → InsertPlan → Type 0
IsCheckedInsert d current s p = IsChecked (Means d current (over_rows.Insert s) (plan.Insert p)) d current s.table action.Insert false p.target p.roles

abbrev pub IsCheckedUpdate : Definitions → TheName → Update → ChangePlan → Type 0
IsCheckedUpdate d current s p = IsChecked (Means d current (over_rows.Update s) (plan.Update p)) d current s.table action.Update p.reads p.target p.roles

abbrev pub IsCheckedDelete : Definitions → TheName → Delete → ChangePlan → Type 0
IsCheckedDelete d current s p = IsChecked (Means d current (over_rows.Delete s) (plan.Delete p)) d current s.table action.Delete p.reads p.target p.roles

abbrev pub IsCheckedChange : Definitions → TheName → RowStatement → ChangePlan → Type 0
IsCheckedChange d current (over_rows.Update s) p = IsCheckedUpdate d current s p
IsCheckedChange d current (over_rows.Delete s) p = IsCheckedDelete d current s p
IsCheckedChange d current s p = ⊥

-- the plan is one of this statement
abbrev pub IsPlanOf : Definitions → TheName → RowStatement → Plan → Type 0
IsPlanOf d current (over_rows.Select s) (plan.Select p) = IsCheckedSelect d current s p
IsPlanOf d current (over_rows.Insert s) (plan.Insert p) = IsCheckedInsert d current s p
IsPlanOf d current (over_rows.Update s) (plan.Update p) = IsCheckedUpdate d current s p
IsPlanOf d current (over_rows.Delete s) (plan.Delete p) = IsCheckedDelete d current s p
IsPlanOf d current s p = ⊥
