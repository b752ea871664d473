-- What the binder of SELECT answers.
use Rattle.std.specs.Prelude.{◌≡◌, ◌⊎◌, List, ◌++◌, length, map, Result, Ok, Err}
use Rattle.std.specs.List.{AllByRecursion}
use Rattle.sql_types.specs.declared.state.Refusal.{Refusal}
use Rattle.sql_types.specs.declared.state.SqlState.{SqlState}
use Rattle.sql_types.specs.declared.state.SqlState.TheVariants.{OutOfMemory}
use Rattle.sql_ast.specs.Scope.{Table as ScopeTable, type_at}
use Rattle.expressions.specs.Types.{TypedTerm, KeepsType, type_of}
use Rattle.abstract_database.specs.Queries.{BoundQuery}
use Rattle.gathering.specs.declared.query.OutputList.{OutputList}
use Rattle.gathering.specs.declared.query.OutputList.TheVariants.{Rows, Count}
use Rattle.gathering.specs.declared.query.RowList.TheVariants.{Columns, Values}
use Rattle.gathering.specs.declared.query.TypedSortKey.{TypedSortKey}
use Rattle.gathering.specs.declared.query.Query.{Query}
use Rattle.gathering.specs.Queries.{bound_of}

-- for all columns the list has the width of each table
abbrev pub HasWidths : List ScopeTable → OutputList → Type 0
HasWidths scope (Rows (Columns widths)) = widths ≡ map (λ t. length t.columns) scope
HasWidths scope (Rows (Values terms)) = Unit {0}
HasWidths scope Count = Unit {0}

-- on all rows that fit the columns of these tables an expression has values of the type that stands beside it
abbrev pub IsTyped : List ScopeTable → TypedTerm → Type 0
IsTyped scope t = KeepsType (type_at scope) t.term t.value_type

-- the type that stands beside an expression is its own
abbrev pub HasOwnType : List ScopeTable → TypedTerm → Type 0
HasOwnType scope t = type_of (type_at scope) t.term ≡ Ok t.value_type

-- so it is with each value of the list
abbrev pub HasListTypes : List ScopeTable → OutputList → Type 0
HasListTypes scope (Rows (Columns widths)) = Unit {0}
HasListTypes scope (Rows (Values list)) = AllByRecursion (HasOwnType scope) list
HasListTypes scope Count = Unit {0}

-- the values of the list and the sort keys have their types
pub record HasTypes (scope : List ScopeTable) (q : Query) : Type 0 where
  pub list : HasListTypes scope q.list
  pub keys : AllByRecursion (λ (key : TypedSortKey). IsTyped scope key.value) q.keys

-- these are the values of the list, where it has some
abbrev pub IsListOf : OutputList → List TypedTerm → Type 0
IsListOf (Rows (Columns widths)) values = Unit {0}
IsListOf (Rows (Values list)) values = list ≡ values
IsListOf Count values = Unit {0}

-- the values of sort keys, with their types
abbrev pub key_values : List TypedSortKey → List TypedTerm
key_values keys = map (λ (key : TypedSortKey). key.value) keys

-- the one list stands at the front of the other
abbrev pub Begins : {X : Type 0} → List X → List X → Type 0
Begins {X} front whole = (rest : List X) × (whole ≡ front ++ rest)

-- a call answers with this query, or that memory was refused, or with the refusal
abbrev pub AnswersQuery : List ScopeTable → Result Query Refusal → Result BoundQuery SqlState → Type 0
AnswersQuery scope (Ok q) meant = (meant ≡ Ok (bound_of q)) × HasWidths scope q.list × HasTypes scope q
AnswersQuery scope (Err refusal) meant = (refusal.0 ≡ OutOfMemory) ⊎ (meant ≡ Err refusal.0)
