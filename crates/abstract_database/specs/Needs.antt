-- The privileges that a statement over rows needs, found when its names are: each table by its name, each column by its index.
use Rattle.std.specs.Prelude.{ℕ, ◌+◌, nat_eq, Bool, true, false, List, [], ◌∷◌, ◌++◌, map, filter, flat_map, length, Option, option_to_list}
use Rattle.std.specs.List.{range_with_len}
use Rattle.sql_ast.specs.declared.privilege.Action.{Action}
use Rattle.sql_ast.specs.declared.privilege.Action.TheVariants as action
use Rattle.sql_ast.specs.declared.privilege.Privilege.{Privilege}
use Rattle.sql_ast.specs.declared.scope.ColumnIndex.{ColumnIndex}
use Rattle.sql_ast.specs.Layout.{Layout}
use Rattle.sql_ast.specs.Term.{Term}
use Rattle.abstract_database.specs.Lists.{TheName}
use Rattle.abstract_database.specs.Database.{TableOf}
use Rattle.abstract_database.specs.Expressions.{columns_in}
use Rattle.abstract_database.specs.Privileges.{on_table, on_column}
use Rattle.abstract_database.specs.Queries.{BoundList, each_column, each_value, their_count, BoundQuery}

-- a privilege on a table, or an action on one of its columns at least
pub data Need : Type 0 where
  privilege : TheName → Privilege → Need
  some_column : TheName → Action → Need

-- an action on each of these columns
abbrev pub on_columns : TheName → Action → List ℕ → List Need
on_columns table a columns = map (λ column. privilege table (on_column a column)) columns

-- the same, and where there are none, the action on one column at least
abbrev pub on_columns_or_one : TheName → Action → List ℕ → List Need
on_columns_or_one table a [] = some_column table a ∷ []
on_columns_or_one table a (c ∷ cs) = on_columns table a (c ∷ cs)

-- ---- the columns that are read

-- the columns that expressions name of the table of this number
abbrev pub columns_read : ℕ → List (Term ColumnIndex) → List ℕ
columns_read number terms = map (λ c. c.column) (filter (λ c. nat_eq c.table number) (flat_map columns_in terms))

abbrev pub has_any : {X : Type 0} → List X → Bool
has_any [] = false
has_any (x ∷ xs) = true

abbrev pub terms_of_list : BoundList → List (Term ColumnIndex)
terms_of_list each_column = []
terms_of_list (each_value terms) = terms
terms_of_list their_count = []

-- the expressions of a query: the list, ON, WHERE, ORDER BY
abbrev pub terms_of_query : BoundQuery → List (Term ColumnIndex)
terms_of_query q = terms_of_list q.list ++ (q.conditions ++ map (λ key. key.term) q.keys)

-- the columns that a query reads of the table of this number: "*" reads each
abbrev pub columns_of_query : BoundQuery → ℕ → Layout → List ℕ
columns_of_query q number layout = those q.list where
  those : BoundList → List ℕ
  those each_column = range_with_len 0 (length layout.columns)
  those (each_value terms) = columns_read number (terms_of_query q)
  those their_count = columns_read number (terms_of_query q)

-- ---- what is needed

-- SELECT on the columns that are read of each table, the first of which has this number, or on one where none is
abbrev pub needs_of_tables : BoundQuery → ℕ → List TableOf → List Need
needs_of_tables q number [] = []
needs_of_tables q number (t ∷ ts) = on_columns_or_one t.name action.Select (columns_of_query q number t.layout) ++ needs_of_tables q (number + 1) ts

abbrev pub needs_of_query : List TableOf → BoundQuery → List Need
needs_of_query tables q = needs_of_tables q 0 tables

-- INSERT on the columns that values are given to
abbrev pub needs_of_insert : TableOf → List ℕ → List Need
needs_of_insert table columns = on_columns_or_one table.name action.Insert columns

-- UPDATE on the columns that are set, and SELECT on those that new values and WHERE read
abbrev pub needs_of_update : TableOf → List ℕ → List (Term ColumnIndex) → Option (Term ColumnIndex) → List Need
needs_of_update table columns values condition =
    on_columns_or_one table.name action.Update columns
    ++ on_columns table.name action.Select (columns_read 0 (values ++ option_to_list condition))

-- DELETE on the table, and SELECT on the columns that WHERE reads
abbrev pub needs_of_delete : TableOf → Option (Term ColumnIndex) → List Need
needs_of_delete table condition =
    privilege table.name (on_table action.Delete)
    ∷ on_columns table.name action.Select (columns_read 0 (option_to_list condition))
