use Rattle.expr_parser.proofs.Wholes.{spelled_whole, not_whole, none_whole}
use Rattle.expr_parser.proofs.whole.ExpressionsGrammar.read.Goals as goal

pub returns-in_default : goal.returns-in_default
returns-in_default c = record { never = λ p. none_whole _ _ c.in_ok-expr.ensures c.in_default.is }

pub returns-then-end-tokens : goal.returns-then-end-tokens
returns-then-end-tokens c = spelled_whole _ _ _ _ c.in_ok-expr.ensures c.in-Some.is c.if-end-tokens.true

pub returns-else-end-tokens : goal.returns-else-end-tokens
returns-else-end-tokens c = record { never = λ p. not_whole _ _ _ _ c.in_ok-expr.ensures c.in-Some.is c.if-end-tokens.false }
