-- The statements over rows: which of them a text may be read as, their rules of form, and their expressions.
use Rattle.std.specs.Prelude.{List, All, IfSome}
use Rattle.sql_ast.specs.declared.expression.ColumnName.{ColumnName}
use Rattle.sql_ast.specs.declared.statement.RowStatement.{RowStatement}
use Rattle.sql_ast.specs.declared.statement.RowStatement.TheVariants as over_rows
use Rattle.sql_ast.specs.Term.{Term}
use Rattle.sql_ast.specs.Read.{IsReadInsert, IsReadUpdate, IsReadDelete, IsReadSelect, HaveOneLength, HasSource}
use Rattle.sql_ast.specs.Expressions.{HoldsInAssignment, HoldsInList, HoldsInSource}

-- a statement over rows that a text may be read as
abbrev pub IsReadOverRows : RowStatement → Type 0
IsReadOverRows (over_rows.Insert s) = IsReadInsert s
IsReadOverRows (over_rows.Update s) = IsReadUpdate s
IsReadOverRows (over_rows.Delete s) = IsReadDelete s
IsReadOverRows (over_rows.Select s) = IsReadSelect s

-- rows have one length, "*" and COUNT ( * ) have tables, and COUNT ( * ) has neither ORDER BY nor LIMIT
abbrev pub IsWellFormedOverRows : RowStatement → Type 0
IsWellFormedOverRows (over_rows.Insert s) = HaveOneLength s.rows
IsWellFormedOverRows (over_rows.Update s) = Unit {0}
IsWellFormedOverRows (over_rows.Delete s) = Unit {0}
IsWellFormedOverRows (over_rows.Select s) = HasSource s.list s.source

-- P holds of each expression of the statement
abbrev pub HoldsOverRows : (Term ColumnName → Type 0) → RowStatement → Type 0
HoldsOverRows P (over_rows.Insert s) = All (All P) s.rows
HoldsOverRows P (over_rows.Update s) = All (HoldsInAssignment P) s.assignments × IfSome s.condition P
HoldsOverRows P (over_rows.Delete s) = IfSome s.condition P
HoldsOverRows P (over_rows.Select s) = HoldsInList P s.list × IfSome s.source (HoldsInSource P)
