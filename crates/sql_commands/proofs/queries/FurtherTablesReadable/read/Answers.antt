use Rattle.std.proofs.Common.{refl}
use Rattle.std.proofs.lemmas.Bool.{iff_false}
use Rattle.sql_lexer.specs.declared.token.TokenKind.TheVariants.{Punctuation}
use Rattle.sql_lexer.specs.declared.token.Punctuation.TheVariants.{Comma}
use Rattle.sql_grammar.proofs.Steps.{next}
use Rattle.sql_commands.specs.Commands.{more_tables}
use Rattle.sql_commands.proofs.Walks.{fails, read, start, token, phrase, no_phrase, left_by, no_left_by, right_by, no_right_by}
use Rattle.sql_commands.proofs.queries.FurtherTablesReadable.read.Goals as goal

pub returns-in_err-tables : goal.returns-in_err-tables
returns-in_err-tables c = let h = c.has.ensures.value.0 c.if-has.true in fails more_tables c.from_residual.result refl (no_left_by (Punctuation Comma) refl h (no_phrase (token start (next _ _ _ h)) c.in_err-tables.ensures)) c.from_residual.ensures.1

pub returns-then-has : goal.returns-then-has
returns-then-has c = let h = c.has.ensures.value.0 c.if-has.true in read refl (left_by (Punctuation Comma) refl h (phrase (token start (next _ _ _ h)) c.in_ok-tables.ensures))

pub returns-in_err-joins : goal.returns-in_err-joins
returns-in_err-joins c = fails more_tables c.from_residual-in_err-joins.result refl (no_right_by (Punctuation Comma) refl refl refl (iff_false c.has.ensures.value c.if-has.false) (no_phrase start c.in_err-joins.ensures)) c.from_residual-in_err-joins.ensures.1

pub returns : goal.returns
returns c = read refl (right_by (Punctuation Comma) refl refl refl (iff_false c.has.ensures.value c.if-has.false) (phrase start c.in_ok-joins.ensures))
