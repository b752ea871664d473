-- The expressions of a statement.
use Rattle.std.specs.Prelude.{List, All, Option, IfSome}
use Rattle.sql_ast.specs.declared.expression.ColumnName.{ColumnName}
use Rattle.sql_ast.specs.declared.policy.PolicyClause.{PolicyClause}
use Rattle.sql_ast.specs.declared.statement.Assignment.{Assignment}
use Rattle.sql_ast.specs.declared.statement.SelectList.{SelectList}
use Rattle.sql_ast.specs.declared.statement.SelectList.TheVariants as list
use Rattle.sql_ast.specs.declared.statement.TableExpression.{TableExpression}
use Rattle.sql_ast.specs.declared.statement.FromClause.{FromClause}
use Rattle.sql_ast.specs.declared.statement.FromClause.TheVariants as from
use Rattle.sql_ast.specs.declared.statement.Join.{Join}
use Rattle.sql_ast.specs.declared.statement.SortKey.{SortKey}
use Rattle.sql_ast.specs.Term.{Term}

-- P holds of the condition of a policy, of the value of an assignment, of the value of a sort key, of the condition of a join
abbrev pub HoldsInClause : (Term ColumnName → Type 0) → PolicyClause → Type 0
HoldsInClause P c = P c.expression

abbrev pub HoldsInAssignment : (Term ColumnName → Type 0) → Assignment → Type 0
HoldsInAssignment P a = P a.value

abbrev pub HoldsInKey : (Term ColumnName → Type 0) → SortKey → Type 0
HoldsInKey P k = P k.value

abbrev pub HoldsInJoin : (Term ColumnName → Type 0) → Join → Type 0
HoldsInJoin P j = IfSome j.condition P

-- P holds of each expression of what SELECT answers
abbrev pub HoldsInList : (Term ColumnName → Type 0) → SelectList → Type 0
HoldsInList P list.Asterisk = Unit {0}
HoldsInList P (list.Expressions terms) = All P terms
HoldsInList P list.Count = Unit {0}

-- P holds of each condition of the joins
abbrev pub HoldsInFrom : (Term ColumnName → Type 0) → FromClause → Type 0
HoldsInFrom P (from.List tables) = Unit {0}
HoldsInFrom P (from.Joined first joins) = All (HoldsInJoin P) joins

-- P holds of each expression after FROM
pub record HoldsInSource (P : Term ColumnName → Type 0) (e : TableExpression) : Type 0 where
  pub tables : HoldsInFrom P e.tables
  pub condition : IfSome e.condition P
  pub order : IfSome e.order (All (HoldsInKey P))
