use Rattle.std.proofs.Common.{refl}
use Rattle.std.proofs.lemmas.Bool.{iff_false}
use Rattle.sql_lexer.specs.declared.token.TokenKind.TheVariants.{Unreserved}
use Rattle.sql_lexer.specs.declared.token.Unreserved.TheVariants as unreserved
use Rattle.sql_grammar.proofs.Steps.{start, next, token, left_by, right_by}
use Rattle.sql_commands.proofs.transactions.skip_work.Goals as goal

pub returns-then-has : goal.returns-then-has
returns-then-has c = let h = c.has.ensures.value.0 c.if-has.true in left_by (Unreserved unreserved.Work) refl refl h (token refl start (next _ _ _ h))

pub returns : goal.returns
returns c = right_by (Unreserved unreserved.Work) refl refl refl refl (iff_false c.has.ensures.value c.if-has.false) c.skip.ensures
