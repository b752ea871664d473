use Rattle.std.proofs.Common.{refl}
use Rattle.std.proofs.lemmas.Bool.{iff_false}
use Rattle.sql_lexer.specs.declared.token.TokenKind.TheVariants.{Reserved}
use Rattle.sql_lexer.specs.declared.token.Reserved.TheVariants as reserved
use Rattle.sql_grammar.proofs.Steps as steps
use Rattle.sql_commands.specs.Commands.{a_constraint}
use Rattle.sql_commands.proofs.Walks.{fails, read, start, no_token, left_by, no_left_by, right_by, no_right_by}
use Rattle.sql_commands.proofs.Walks as walks
use Rattle.sql_commands.proofs.Stepwise.{begin, token}
use Rattle.sql_commands.proofs.tables.ColumnConstraintReadable.read.Goals as goal

pub returns-in_err-end : goal.returns-in_err-end
returns-in_err-end c = let h = c.has.ensures.value.0 c.if-has.true in fails a_constraint c.from_residual.result refl (no_left_by (Reserved reserved.Not) refl h (no_token (walks.token start (steps.next _ _ _ h)) c.in_err-end.ensures)) c.from_residual.ensures.1

pub returns-then-has : goal.returns-then-has
returns-then-has c = let h = c.has.ensures.value.0 c.if-has.true in read refl (left_by (Reserved reserved.Not) refl h (walks.token (walks.token start (steps.next _ _ _ h)) c.in_ok-end.ensures))

pub returns-in_err-end-2 : goal.returns-in_err-end-2
returns-in_err-end-2 c = fails a_constraint c.from_residual-in_err-end-2.result refl (no_right_by (Reserved reserved.Not) refl refl refl (iff_false c.has.ensures.value c.if-has.false) (token (token begin c.token-read.ensures) c.in_err-end-2.ensures).met) c.from_residual-in_err-end-2.ensures.1

pub returns : goal.returns
returns c = read refl (right_by (Reserved reserved.Not) refl refl refl (iff_false c.has.ensures.value c.if-has.false) (token (token begin c.token-read.ensures) c.in_ok-end-2.ensures).met)
