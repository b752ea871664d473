use Rattle.std.proofs.Common.{◌+◌, ◌*◌}
use Rattle.sql_ast.specs.Term.{term_of}
use Rattle.expressions.proofs.Sizes.{size}
use Rattle.expressions.proofs.names.+resolution.Given as goal

abbrev pub decreases-resolve_both : goal.decreases-resolve_both
decreases-resolve_both l = 3 * (size (term_of l.left.now) + size (term_of l.right.now)) + 2

abbrev pub decreases-resolve_operand : goal.decreases-resolve_operand
decreases-resolve_operand l = 3 * size (term_of l.operand.now) + 1

abbrev pub decreases-resolve_tree : goal.decreases-resolve_tree
decreases-resolve_tree l = 3 * size (term_of l.tree.now)
