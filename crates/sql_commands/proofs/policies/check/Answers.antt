use Rattle.std.proofs.Common.{refl}
use Rattle.std.proofs.lemmas.Bool.{iff_false}
use Rattle.sql_lexer.specs.declared.token.TokenKind.TheVariants.{Reserved}
use Rattle.sql_lexer.specs.declared.token.Reserved.TheVariants as reserved
use Rattle.sql_commands.proofs.Walks.{read, lost, start, token, phrase, no_token, no_phrase, lost_phrase, both, no_second, left_by, no_left_by, right_by}
use Rattle.sql_grammar.proofs.Steps.{next}
use Rattle.sql_commands.proofs.Stepwise.{found_here, lost_here}
use Rattle.sql_commands.proofs.policies.check.Goals as goal

pub returns-then-not-has : goal.returns-then-not-has
returns-then-not-has g c = found_here c.in_ok-values.was (read refl (right_by (Reserved reserved.With) refl refl refl (iff_false c.has.ensures.value c.if-not-has.true) start))

pub returns-in_err-at_clause : goal.returns-in_err-at_clause
returns-in_err-at_clause g c = let h = c.has.ensures.value.0 c.if-not-has.false in lost_here c.in_ok-values.was (lost refl (no_left_by (Reserved reserved.With) refl h (no_second start (lost_phrase (no_token (token start (next _ _ _ h)) c.in_err-at_clause.ensures))))) c.from_residual-in_err-at_clause.ensures.1

pub returns-in_err-clause : goal.returns-in_err-clause
returns-in_err-clause g c = let h = c.has.ensures.value.0 c.if-not-has.false in lost_here c.in_ok-values.was (lost refl (no_left_by (Reserved reserved.With) refl h (no_second start (no_phrase (token (token start (next _ _ _ h)) c.in_ok-at_clause.ensures) c.in_err-clause.ensures)))) c.from_residual-in_err-clause.ensures.1

pub returns : goal.returns
returns g c = let h = c.has.ensures.value.0 c.if-not-has.false in found_here c.in_ok-values.was (read refl (left_by (Reserved reserved.With) refl h (both start (phrase (token (token start (next _ _ _ h)) c.in_ok-at_clause.ensures) c.in_ok-clause.ensures))))
