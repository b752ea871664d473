use Rattle.std.proofs.Common.{ap, sym, subst, rules}
use Rattle.sql_lexer.specs.Lexeme.{ArePlaced, lexemes}
use Rattle.expr_parser.specs.Stages.{Answers, too_long, by_tokens}
use Rattle.expr_parser.proofs.Wholes.{bad_tokens}
use Rattle.expr_parser.proofs.stages.parse_text.Goals as goal

pub returns-then-text-gt-MAX_STATEMENT_LENGTH : goal.returns-then-text-gt-MAX_STATEMENT_LENGTH
returns-then-text-gt-MAX_STATEMENT_LENGTH g c = too_long c.if-text-gt-MAX_STATEMENT_LENGTH.true

pub returns-in_err-tokens : goal.returns-in_err-tokens
returns-in_err-tokens g c = let m = bad_tokens {Means = g.G.Grammar.Means c.args.text.now} {IsWithinDepth = g.G.Grammar.IsWithinDepth} c.if-text-gt-MAX_STATEMENT_LENGTH.false c.in_err-tokens.ensures.fault in search rules

pub returns : goal.returns
returns g c = by_tokens c.if-text-gt-MAX_STATEMENT_LENGTH.false c.in_ok-tokens.ensures.tokens (subst (λ z. Answers (g.G.Grammar.Means c.args.text.now) g.G.Grammar.IsWithinDepth z c.parse_tokens.result) (ap lexemes c.deref.ensures.value) c.parse_tokens.ensures)

pub parse_tokens-requires : goal.parse_tokens-requires
parse_tokens-requires g c = subst (ArePlaced c.args.text.now) (sym (ap lexemes c.deref.ensures.value)) (record { each = c.in_ok-tokens.ensures.placed; in_order = c.in_ok-tokens.ensures.in_order })
