use Rattle.std.proofs.Common.{refl}
use Rattle.std.proofs.lemmas.Bool.{iff_false}
use Rattle.sql_lexer.specs.declared.token.TokenKind.TheVariants.{Reserved}
use Rattle.sql_lexer.specs.declared.token.Reserved.TheVariants as reserved
use Rattle.sql_commands.specs.Commands.{some_privileges}
use Rattle.sql_commands.proofs.Walks.{fails, read, start, phrase, no_phrase, left_by, no_left_by, right_by, no_right_by}
use Rattle.sql_commands.proofs.Stepwise.{begun, next}
use Rattle.sql_commands.proofs.privileges.PrivilegesReadable.read.Goals as goal

pub returns-in_err-columns : goal.returns-in_err-columns
returns-in_err-columns c = let h = c.has.ensures.value.0 c.if-has.true in fails some_privileges c.from_residual.result refl (no_left_by (Reserved reserved.All) refl h (next (next (begun h) c.skip-read.ensures) c.in_err-columns.ensures).met) c.from_residual.ensures.1

pub returns-then-has : goal.returns-then-has
returns-then-has c = let h = c.has.ensures.value.0 c.if-has.true in read refl (left_by (Reserved reserved.All) refl h (next (next (begun h) c.skip-read.ensures) c.in_ok-columns.ensures).met)

pub returns-in_err-actions : goal.returns-in_err-actions
returns-in_err-actions c = fails some_privileges c.from_residual-in_err-actions.result refl (no_right_by (Reserved reserved.All) refl refl refl (iff_false c.has.ensures.value c.if-has.false) (no_phrase start c.in_err-actions.ensures)) c.from_residual-in_err-actions.ensures.1

pub returns : goal.returns
returns c = read refl (right_by (Reserved reserved.All) refl refl refl (iff_false c.has.ensures.value c.if-has.false) (phrase start c.in_ok-actions.ensures))
