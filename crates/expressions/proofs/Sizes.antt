-- How large a term is, which recursion on it makes less.
use Rattle.std.proofs.Common.{ℕ, ◌+◌, suc}
use Rattle.sql_ast.specs.Term.{Term, literal, column, current_user, session_user, comparison, operation, minus, conjunction, disjunction, negation, null_test, not_null_test, member_test}

-- how many operators a term has, and one for each leaf
abbrev pub size : {C : Type 0} → Term C → ℕ
size (literal v) = 1
size (column c) = 1
size current_user = 1
size session_user = 1
size (comparison op a b) = suc (size a + size b)
size (operation op a b) = suc (size a + size b)
size (minus a) = suc (size a)
size (conjunction a b) = suc (size a + size b)
size (disjunction a b) = suc (size a + size b)
size (negation a) = suc (size a)
size (null_test a) = suc (size a)
size (not_null_test a) = suc (size a)
size (member_test a) = suc (size a)
