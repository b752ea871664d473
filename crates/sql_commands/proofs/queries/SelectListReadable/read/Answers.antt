use Rattle.std.proofs.Common.{refl}
use Rattle.std.proofs.lemmas.Bool.{iff_false}
use Rattle.sql_lexer.specs.declared.token.TokenKind.TheVariants.{Punctuation}
use Rattle.sql_lexer.specs.declared.token.Punctuation.TheVariants.{Star}
use Rattle.sql_grammar.proofs.Steps.{next}
use Rattle.sql_commands.specs.Commands.{a_select_list}
use Rattle.sql_commands.proofs.Walks.{fails, read, start, token, phrase, no_phrase, left_by, right_by, no_right_by}
use Rattle.sql_commands.proofs.queries.SelectListReadable.read.Goals as goal

pub returns-then-has : goal.returns-then-has
returns-then-has c = let h = c.has.ensures.value.0 c.if-has.true in read refl (left_by (Punctuation Star) refl h (token start (next _ _ _ h)))

pub returns-in_err-values : goal.returns-in_err-values
returns-in_err-values c = fails a_select_list c.from_residual.result refl (no_right_by (Punctuation Star) refl refl refl (iff_false c.has.ensures.value c.if-has.false) (no_phrase start c.in_err-values.ensures)) c.from_residual.ensures.1

pub returns : goal.returns
returns c = read refl (right_by (Punctuation Star) refl refl refl (iff_false c.has.ensures.value c.if-has.false) (phrase start c.in_ok-values.ensures))
