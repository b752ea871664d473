-- Depths are at least 1.
use Rattle.std.proofs.Common.{◌≤◌, arith}
use Rattle.sql_ast.specs.Term.{Term, comparison, operation, minus, conjunction, disjunction, negation, null_test, not_null_test, member_test}
use Rattle.sql_ast.specs.Depth.{depth}

pub one-le-depth : {C : Type 0} (t : Term C) → 1 ≤ depth t
one-le-depth (comparison op a b) = omega arith
one-le-depth (operation op a b) = omega arith
one-le-depth (minus a) = omega arith
one-le-depth (conjunction a b) = omega arith
one-le-depth (disjunction a b) = omega arith
one-le-depth (negation a) = omega arith
one-le-depth (null_test a) = omega arith
one-le-depth (not_null_test a) = omega arith
one-le-depth (member_test a) = omega arith
one-le-depth _ = omega arith
