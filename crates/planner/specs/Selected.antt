-- What SELECT is checked for, in the definitions of a database.
use Rattle.std.specs.Prelude.{ℕ, ◌+◌, ◌&&◌, Bool, true, nat_le, not, List, [], ◌∷◌, map, length, Result, Ok}
use Rattle.std.specs.List.{list_all}
use Rattle.sql_types.specs.declared.state.Refusal.{Refusal}
use Rattle.sql_types.specs.declared.state.SqlState.{SqlState}
use Rattle.sql_types.specs.declared.state.SqlState.TheVariants.{DuplicateAlias, InsufficientPrivilege, ProgramLimitExceeded}
use Rattle.sql_ast.specs.declared.privilege.Action.TheVariants as action
use Rattle.sql_ast.specs.declared.statement.Select.{Select}
use Rattle.sql_ast.specs.Scope.{Table as ScopeTable}
use Rattle.expressions.specs.Stages.{◌>>=◌, require}
use Rattle.abstract_database.specs.Lists.{TheName, has_double}
use Rattle.abstract_database.specs.Needs.{on_columns_or_one, columns_of_query}
use Rattle.abstract_database.specs.Queries.{tables_in, name_in_scope, scope_of, bound_query, BoundQuery, CheckedSelect}
use Rattle.abstract_database.specs.Checks.{checked_select}
use Rattle.stored_database.specs.Definitions.{TableDefinition, Definitions}
use Rattle.gathering.specs.declared.query.Query.{Query}
use Rattle.gathering.specs.Queries.{bound_of}
use Rattle.planner.specs.declared.rights.Rights.{Rights}
use Rattle.planner.specs.declared.select.CheckedQuery.{CheckedQuery}
use Rattle.planner.specs.declared.select.SelectPlan.{SelectPlan}
use Rattle.planner.specs.Answers.{IsGivenBy, IsRefusedBy}
use Rattle.planner.specs.Rights.{meets}
use Rattle.planner.specs.Tables.{tables_for, definitions_in}

-- the tables and the query of a plan
abbrev pub tables_of_plan : SelectPlan → List TableDefinition
tables_of_plan p = map (λ s. s.table.now) p.sources

-- its tables under their names in the statement
abbrev pub scope_of_plan : Select → SelectPlan → List ScopeTable
scope_of_plan s p = scope_of (tables_in s.source) (definitions_in (tables_of_plan p))

-- what the definition of the checks gives in place of the plan
abbrev pub checked_of : SelectPlan → CheckedSelect
checked_of p = record { tables = definitions_in (tables_of_plan p); query = bound_of p.query }

-- these tables with the query over them
abbrev pub checked_over : List TableDefinition → Query → CheckedSelect
checked_over tables q = record { tables = definitions_in tables; query = bound_of q }

-- the same of the tables and the query before their guards are known
abbrev pub checked_with : CheckedQuery → CheckedSelect
checked_with c = record { tables = definitions_in (map (λ t. t.now) c.tables); query = bound_of c.query }

-- ---- stage by stage

-- whether one with these rights may read what a query reads of the table of this number
abbrev pub may_read : Rights → BoundQuery → ℕ → TableDefinition → Bool
may_read r q number t = list_all (meets r t) (on_columns_or_one t.definition.name action.Select (columns_of_query q number t.definition.layout))

-- and of each table, the first of which has this number
abbrev pub may_read_each : Rights → BoundQuery → ℕ → List TableDefinition → Bool
may_read_each r q number [] = true
may_read_each r q number (t ∷ ts) = may_read r q number t && may_read_each r q (number + 1) ts

-- the privileges, and how many tables there may be
abbrev pub allowed_query : Rights → List TableDefinition → BoundQuery → Result CheckedSelect SqlState
allowed_query r tables query = do
  allowed ← require (may_read_each r query 0 tables) InsufficientPrivilege
  few ← require (nat_le (length tables) 4) ProgramLimitExceeded
  Ok (record { tables = definitions_in tables; query = query })

-- the names of the tables in the statement, the query, and the privileges
abbrev pub query_over : Rights → Select → List TableDefinition → Result CheckedSelect SqlState
query_over r s tables = do
  called_once ← require (not (has_double (map name_in_scope (tables_in s.source)))) DuplicateAlias
  query ← bound_query (scope_of (tables_in s.source) (definitions_in tables)) s.list s.source
  allowed_query r tables query

abbrev pub planned_select : Definitions → Rights → Select → Result CheckedSelect SqlState
planned_select d r s = do
  tables ← tables_for d (tables_in s.source)
  query_over r s tables

-- ---- for each database that has these definitions

abbrev pub IsSelectPlan : Definitions → TheName → Select → SelectPlan → Type 0
IsSelectPlan d current s p = IsGivenBy checked_select d current s (checked_of p)

abbrev pub IsSelectRefusal : Definitions → TheName → Select → Refusal → Type 0
IsSelectRefusal d current s refusal = IsRefusedBy checked_select d current s refusal
