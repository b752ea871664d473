use Rattle.std.proofs.Common.{refl}
use Rattle.std.proofs.lemmas.Bool.{iff_false}
use Rattle.sql_lexer.specs.declared.token.TokenKind.TheVariants.{Reserved}
use Rattle.sql_lexer.specs.declared.token.Reserved.TheVariants as reserved
use Rattle.sql_grammar.proofs.Steps.{next}
use Rattle.sql_commands.specs.Commands.{role_or_none}
use Rattle.sql_commands.proofs.Walks.{fails, read, start, token, phrase, no_phrase, left_by, right_by, no_right_by}
use Rattle.sql_commands.proofs.roles.RoleOrNoneReadable.read.Goals as goal

pub returns-then-has : goal.returns-then-has
returns-then-has c = let h = c.has.ensures.value.0 c.if-has.true in read refl (left_by (Reserved reserved.None) refl h (token start (next _ _ _ h)))

pub returns-in_err-role : goal.returns-in_err-role
returns-in_err-role c = fails role_or_none c.from_residual.result refl (no_right_by (Reserved reserved.None) refl refl refl (iff_false c.has.ensures.value c.if-has.false) (no_phrase start c.in_err-role.ensures)) c.from_residual.ensures.1

pub returns : goal.returns
returns c = read refl (right_by (Reserved reserved.None) refl refl refl (iff_false c.has.ensures.value c.if-has.false) (phrase start c.in_ok-role.ensures))
