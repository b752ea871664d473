use Rattle.std.proofs.Common.{refl}
use Rattle.std.proofs.lemmas.Bool.{iff_false}
use Rattle.sql_lexer.specs.declared.token.TokenKind.TheVariants.{Reserved}
use Rattle.sql_lexer.specs.declared.token.Reserved.TheVariants as reserved
use Rattle.sql_grammar.proofs.Steps.{reads_left, reads_right}
use Rattle.sql_commands.proofs.queries.JoinReadable.read.Goals as goal

pub returns-then-has : goal.returns-then-has
returns-then-has c = reads_left _ _ _ _ (Reserved reserved.Cross) refl refl (c.has.ensures.value.0 c.if-has.true) _ c.cross_join.ensures

pub returns-then-has-2 : goal.returns-then-has-2
returns-then-has-2 c = reads_right _ _ _ _ (Reserved reserved.Cross) refl refl refl refl (iff_false c.has.ensures.value c.if-has.false) _ (reads_left _ _ _ _ (Reserved reserved.Inner) refl refl (c.has-2.ensures.value.0 c.if-has-2.true) _ c.inner_join.ensures)

pub returns : goal.returns
returns c = reads_right _ _ _ _ (Reserved reserved.Cross) refl refl refl refl (iff_false c.has.ensures.value c.if-has.false) _ (reads_right _ _ _ _ (Reserved reserved.Inner) refl refl refl refl (iff_false c.has-2.ensures.value c.if-has-2.false) _ c.plain_join.ensures)
