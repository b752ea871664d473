use Rattle.std.proofs.Common.{refl}
use Rattle.std.proofs.lemmas.Bool.{iff_false}
use Rattle.sql_lexer.specs.declared.token.TokenKind.TheVariants.{Unreserved}
use Rattle.sql_lexer.specs.declared.token.Unreserved.TheVariants as unreserved
use Rattle.sql_grammar.proofs.Steps.{reads_right}
use Rattle.sql_commands.specs.Commands.{a_change}
use Rattle.sql_commands.proofs.Walks.{fails, read, left_by, no_left_by}
use Rattle.sql_commands.proofs.Stepwise.{begun, token}
use Rattle.sql_commands.proofs.tables.RowSecurityChangeReadable.read.Goals as goal

pub returns-in_err-end : goal.returns-in_err-end
returns-in_err-end c = let h = c.has.ensures.value.0 c.if-has.true in fails a_change c.from_residual.result refl (no_left_by (Unreserved unreserved.No) refl h (token (begun h) c.in_err-end.ensures).met) c.from_residual.ensures.1

pub returns-then-has : goal.returns-then-has
returns-then-has c = let h = c.has.ensures.value.0 c.if-has.true in read refl (left_by (Unreserved unreserved.No) refl h (token (begun h) c.in_ok-end.ensures).met)

pub returns : goal.returns
returns c = reads_right _ _ _ _ (Unreserved unreserved.No) refl refl refl refl (iff_false c.has.ensures.value c.if-has.false) _ c.word_of.ensures
