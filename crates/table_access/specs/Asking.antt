-- Conditions whose value depends on who acts, whatever the row has.
use Rattle.std.specs.Prelude.{Bool, true, false, ◌||◌, List, Option, Some, None}
use Rattle.std.specs.List.{list_any}
use Rattle.sql_ast.specs.declared.policy.Policy.{Policy}
use Rattle.sql_ast.specs.declared.policy.PolicyClause.{PolicyClause}
use Rattle.sql_ast.specs.Term.{Term, literal, column, current_user, session_user, comparison, operation, minus, conjunction, disjunction, negation, null_test, not_null_test, member_test}

-- the expression has CURRENT_USER or MEMBER OF in it; SESSION_USER stays the same whatever role is set
abbrev pub names_user : {C : Type 0} → Term C → Bool
names_user (literal v) = false
names_user (column c) = false
names_user current_user = true
names_user session_user = false
names_user (comparison op a b) = names_user a || names_user b
names_user (operation op a b) = names_user a || names_user b
names_user (minus a) = names_user a
names_user (conjunction a b) = names_user a || names_user b
names_user (disjunction a b) = names_user a || names_user b
names_user (negation a) = names_user a
names_user (null_test a) = names_user a
names_user (not_null_test a) = names_user a
names_user (member_test a) = true

abbrev pub clause_names_user : Option PolicyClause → Bool
clause_names_user None = false
clause_names_user (Some c) = names_user c.expression

-- one of the policy's conditions does
abbrev pub policy_names_user : Policy → Bool
policy_names_user p = clause_names_user p.using || clause_names_user p.check
