use Rattle.std.proofs.Common.{refl}
use Rattle.std.proofs.lemmas.Bool.{iff_false}
use Rattle.sql_lexer.specs.declared.token.TokenKind.TheVariants.{Reserved}
use Rattle.sql_lexer.specs.declared.token.Reserved.TheVariants as reserved
use Rattle.sql_commands.specs.Commands.{an_element}
use Rattle.sql_commands.proofs.Walks.{fails, read, left_by, no_left_by, right_by, no_right_by}
use Rattle.sql_commands.proofs.Stepwise.{begin, begun, token, next}
use Rattle.sql_commands.proofs.tables.TableElementReadable.read.Goals as goal

pub returns-in_err-columns : goal.returns-in_err-columns
returns-in_err-columns c = let h = c.has.ensures.value.0 c.if-has.true in fails an_element c.from_residual.result refl (no_left_by (Reserved reserved.Primary) refl h (next (token (begun h) c.token-read.ensures) c.in_err-columns.ensures).met) c.from_residual.ensures.1

pub returns-then-has : goal.returns-then-has
returns-then-has c = let h = c.has.ensures.value.0 c.if-has.true in read refl (left_by (Reserved reserved.Primary) refl h (next (token (begun h) c.token-read.ensures) c.in_ok-columns.ensures).met)

pub returns-in_err-column : goal.returns-in_err-column
returns-in_err-column c = fails an_element c.from_residual-in_err-column.result refl (no_right_by (Reserved reserved.Primary) refl refl refl (iff_false c.has.ensures.value c.if-has.false) (next (next (next begin c.then-read.ensures) c.then-read-2.ensures) c.in_err-column.ensures).met) c.from_residual-in_err-column.ensures.1

pub returns : goal.returns
returns c = read refl (right_by (Reserved reserved.Primary) refl refl refl (iff_false c.has.ensures.value c.if-has.false) (next (next (next begin c.then-read.ensures) c.then-read-2.ensures) c.in_ok-column.ensures).met)
