use Rattle.std.proofs.Common.{◌+◌, ◌*◌}
use Rattle.sql_ast.specs.Term.{term_of}
use Rattle.expressions.proofs.Sizes.{size}
use Rattle.expressions.proofs.eval.+evaluation.Given as goal

abbrev pub decreases-evaluate : goal.decreases-evaluate
decreases-evaluate g l = 3 * size (term_of l.tree.now)

abbrev pub decreases-evaluate_and : goal.decreases-evaluate_and
decreases-evaluate_and g l = 3 * (size (term_of l.left.now) + size (term_of l.right.now)) + 2

abbrev pub decreases-evaluate_comparison : goal.decreases-evaluate_comparison
decreases-evaluate_comparison g l = 3 * (size (term_of l.left.now) + size (term_of l.right.now)) + 2

abbrev pub decreases-evaluate_is_not_null : goal.decreases-evaluate_is_not_null
decreases-evaluate_is_not_null g l = 3 * size (term_of l.operand.now) + 2

abbrev pub decreases-evaluate_is_null : goal.decreases-evaluate_is_null
decreases-evaluate_is_null g l = 3 * size (term_of l.operand.now) + 2

abbrev pub decreases-evaluate_member_of : goal.decreases-evaluate_member_of
decreases-evaluate_member_of g l = 3 * size (term_of l.operand.now) + 2

abbrev pub decreases-evaluate_minus : goal.decreases-evaluate_minus
decreases-evaluate_minus g l = 3 * size (term_of l.operand.now) + 2

abbrev pub decreases-evaluate_not : goal.decreases-evaluate_not
decreases-evaluate_not g l = 3 * size (term_of l.operand.now) + 2

abbrev pub decreases-evaluate_operand : goal.decreases-evaluate_operand
decreases-evaluate_operand g l = 3 * size (term_of l.tree.now) + 1

abbrev pub decreases-evaluate_operation : goal.decreases-evaluate_operation
decreases-evaluate_operation g l = 3 * (size (term_of l.left.now) + size (term_of l.right.now)) + 2

abbrev pub decreases-evaluate_or : goal.decreases-evaluate_or
decreases-evaluate_or g l = 3 * (size (term_of l.left.now) + size (term_of l.right.now)) + 2
