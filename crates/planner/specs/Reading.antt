-- The columns that bound expressions read.
use Rattle.std.specs.Prelude.{ℕ, nat_eq, not, ◌&&◌, Bool, true, false}
use Rattle.sql_ast.specs.declared.scope.ColumnIndex.{ColumnIndex}
use Rattle.abstract_database.specs.Queries.{BoundList, each_column, each_value, their_count}
use Rattle.planner.specs.Rights.{covers}

-- a column of the table of this number that the bits do not cover
abbrev pub lacks : (ℕ → Bool) → ℕ → ColumnIndex → Bool
lacks bit number c = nat_eq c.table number && not (covers bit c.column)

-- "*" reads each column
abbrev pub is_each_column : BoundList → Bool
is_each_column each_column = true
is_each_column (each_value terms) = false
is_each_column their_count = false
