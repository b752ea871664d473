use Rattle.std.proofs.Common.{refl}
use Rattle.std.proofs.lemmas.Bool.{iff_false}
use Rattle.sql_lexer.specs.declared.token.TokenKind.TheVariants.{Reserved}
use Rattle.sql_lexer.specs.declared.token.Reserved.TheVariants as reserved
use Rattle.sql_grammar.specs.Phrases.{optional}
use Rattle.sql_commands.specs.Commands.{an_order}
use Rattle.sql_commands.proofs.Walks.{fails, read, start, both, no_second, left_by, no_left_by, right_by}
use Rattle.sql_commands.proofs.Stepwise.{begun, token, next}
use Rattle.sql_commands.proofs.queries.OrderByReadable.read.Goals as goal

pub returns-then-not-has : goal.returns-then-not-has
returns-then-not-has c = read refl (right_by (Reserved reserved.Order) refl refl refl (iff_false c.has.ensures.value c.if-not-has.true) start)

pub returns-in_err-keys : goal.returns-in_err-keys
returns-in_err-keys c = let h = c.has.ensures.value.0 c.if-not-has.false in fails (optional an_order) c.from_residual.result refl (no_left_by (Reserved reserved.Order) refl h (no_second start (next (token (begun h) c.token-read.ensures) c.in_err-keys.ensures).met)) c.from_residual.ensures.1

pub returns : goal.returns
returns c = let h = c.has.ensures.value.0 c.if-not-has.false in read refl (left_by (Reserved reserved.Order) refl h (both start (next (token (begun h) c.token-read.ensures) c.in_ok-keys.ensures).met))
