use Rattle.std.proofs.Common.{arith, rules, ◌∙◌}
use Rattle.expr_parser.proofs.Readings.{spells_lt}
use Rattle.expr_parser.proofs.Descent.{within_tokens}
use Rattle.sql_grammar.proofs.Leaves.{clause_at, no_clause}
use Rattle.sql_commands.proofs.policies.clause.Goals as goal

pub overflow_sub-end : goal.overflow_sub-end
overflow_sub-end c = omega (arith, spells_lt c.in_ok-expression.ensures.spelled)

pub text_between-requires-clause-in_order : goal.text_between-requires-clause-in_order
text_between-requires-clause-in_order c = omega (arith, spells_lt c.in_ok-expression.ensures.spelled)

pub text_between-requires-clause-within : goal.text_between-requires-clause-within
text_between-requires-clause-within c = omega (arith, spells_lt c.in_ok-expression.ensures.spelled, within_tokens c.args.tokens.now c.in_ok-expression.ensures.spelled)

pub returns-in_err-expression : goal.returns-in_err-expression
returns-in_err-expression c = let m = no_clause {source = c.args.source.now} c.in_err-expression.ensures in search rules

pub returns : goal.returns
returns c = clause_at c.in_ok-expression.ensures (c.in_ok-text.ensures ∙ c.text_between.ensures)
