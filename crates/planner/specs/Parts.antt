-- The parts of a SELECT that are bound, and the query that they make.
use Rattle.std.specs.Prelude.{ℕ, List, [], ◌∷◌, take, drop, length, Option, None, Some}
use Rattle.sql_ast.specs.declared.columns.ColumnType.TheVariants as type
use Rattle.sql_ast.specs.declared.expression.ColumnName.{ColumnName}
use Rattle.sql_ast.specs.declared.scope.ColumnIndex.{ColumnIndex}
use Rattle.sql_ast.specs.declared.statement.SelectList.{SelectList}
use Rattle.sql_ast.specs.declared.statement.SelectList.TheVariants as list
use Rattle.sql_ast.specs.declared.statement.SortKey.{SortKey}
use Rattle.sql_ast.specs.declared.statement.TableExpression.{TableExpression}
use Rattle.sql_ast.specs.Scope.{Table as ScopeTable}
use Rattle.sql_ast.specs.Term.{Term}
use Rattle.expressions.specs.Parts.{Part}
use Rattle.abstract_database.specs.Queries.{Condition, expressions_of, conditions_of, keys_of, limit_of, is_descending, BoundList, each_column, each_value, their_count, BoundKey, BoundQuery}

-- ---- parts

-- an expression of which no type is expected
abbrev pub value_part : List ScopeTable → Term ColumnName → Part
value_part scope term = record { scope = scope; term = term; expected = None }

-- a condition over the tables that it may name
abbrev pub condition_part : List ScopeTable → Condition → Part
condition_part scope c = record { scope = take c.tables scope; term = c.term; expected = Some type.Boolean }

abbrev pub key_part : List ScopeTable → SortKey → Part
key_part scope key = value_part scope key.value

-- ---- the query of the parts' terms

-- how many expressions are in the list, and how many conditions there are
abbrev pub list_length : SelectList → ℕ
list_length select_list = length (expressions_of select_list)

abbrev pub conditions_length : Option TableExpression → ℕ
conditions_length source = length (conditions_of source)

abbrev pub list_with : SelectList → List (Term ColumnIndex) → BoundList
list_with list.Asterisk terms = each_column
list_with (list.Expressions expressions) terms = each_value terms
list_with list.Count terms = their_count

abbrev pub key_with : SortKey → Term ColumnIndex → BoundKey
key_with key term = record { term = term; descending = is_descending key.direction }

abbrev pub keys_with : List SortKey → List (Term ColumnIndex) → List BoundKey
keys_with (key ∷ keys) (term ∷ terms) = key_with key term ∷ keys_with keys terms
keys_with _ _ = []

-- the terms of the list come first, then those of the conditions, then those of the keys
abbrev pub query_with : SelectList → Option TableExpression → List (Term ColumnIndex) → BoundQuery
query_with select_list source terms = record {
  list = list_with select_list (take (list_length select_list) terms);
  conditions = take (conditions_length source) (drop (list_length select_list) terms);
  keys = keys_with (keys_of source) (drop (conditions_length source) (drop (list_length select_list) terms));
  limit = limit_of source;
}
