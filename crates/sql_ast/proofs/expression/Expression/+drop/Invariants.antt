use Rattle.std.proofs.Common.{◌≤◌}
use Rattle.sql_ast.specs.declared.expression.Expression.{size-Expression}
use Rattle.sql_ast.proofs.expression.Expression.+drop.Given as goal

-- what is left to let go is no larger than the expression
abbrev pub invariant-loop-self : goal.invariant-loop-self
invariant-loop-self g l = size-Expression _ l.self ≤ size-Expression _ l.initial.self
