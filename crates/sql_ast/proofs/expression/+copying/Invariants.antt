use Rattle.std.proofs.Common.{◌+◌, ◌*◌, max}
use Rattle.sql_ast.specs.Term.{term_of}
use Rattle.sql_ast.specs.Depth.{depth}
use Rattle.sql_ast.proofs.expression.+copying.Given as goal

abbrev pub decreases-Expression::try_copy : goal.decreases-Expression::try_copy
decreases-Expression::try_copy g l = 3 * depth (term_of l.self.now)

abbrev pub decreases-copy_boxed : goal.decreases-copy_boxed
decreases-copy_boxed g l = 3 * depth (term_of l.operand.now) + 1

abbrev pub decreases-copy_both : goal.decreases-copy_both
decreases-copy_both g l = 3 * max (depth (term_of l.left.now)) (depth (term_of l.right.now)) + 2
