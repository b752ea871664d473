use Rattle.std.proofs.Common.{refl}
use Rattle.std.proofs.lemmas.Bool.{iff_false}
use Rattle.sql_lexer.specs.declared.token.TokenKind.TheVariants.{Reserved}
use Rattle.sql_lexer.specs.declared.token.Reserved.TheVariants as reserved
use Rattle.sql_grammar.proofs.Steps.{next, reads_right}
use Rattle.sql_commands.specs.Commands.{an_alias}
use Rattle.sql_commands.proofs.Walks.{fails, read, start, token, phrase, no_phrase, left_by, no_left_by}
use Rattle.sql_commands.proofs.queries.AliasReadable.read.Goals as goal

pub returns-in_err-name : goal.returns-in_err-name
returns-in_err-name c = let h = c.has.ensures.value.0 c.if-has.true in fails an_alias c.from_residual.result refl (no_left_by (Reserved reserved.As) refl h (no_phrase (token start (next _ _ _ h)) c.in_err-name.ensures)) c.from_residual.ensures.1

pub returns-then-has : goal.returns-then-has
returns-then-has c = let h = c.has.ensures.value.0 c.if-has.true in read refl (left_by (Reserved reserved.As) refl h (phrase (token start (next _ _ _ h)) c.in_ok-name.ensures))

pub returns : goal.returns
returns c = reads_right _ _ _ _ (Reserved reserved.As) refl refl refl refl (iff_false c.has.ensures.value c.if-has.false) _ c.read-2.ensures
